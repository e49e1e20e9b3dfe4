use Rattle.std.proofs.Common.{◌≡◌, refl, sym, ◌∙◌}
use Rattle.edge_imap.proofs.CallLaws.{reads_call, why_passed, why_device, why_damaged}
use Rattle.edge_imap.proofs.node.check_word.Goals as goal

pub returns-in_err-word_holds-clause-reads : goal.returns-in_err-word_holds-clause-reads
returns-in_err-word_holds-clause-reads g c = reads_call g.D.Disk _ _ c.word_holds.ensures.origin c.word_holds.ensures.only c.word_holds.ensures.clean

pub returns-in_err-word_holds-clause-cause : goal.returns-in_err-word_holds-clause-cause
returns-in_err-word_holds-clause-cause g c =
    why_device g.D.Disk (λ k. k ≡ c.args.block) c.args.cache.now c.args.cache.now c.word_holds.new.self _ c.from_residual.ensures refl c.word_holds.ensures.cause.later c.in_err-word_holds.ensures.cause.failed

pub returns-then-branch-clause-reads : goal.returns-then-branch-clause-reads
returns-then-branch-clause-reads g c = reads_call g.D.Disk _ _ c.word_holds.ensures.origin c.word_holds.ensures.only c.word_holds.ensures.clean

pub returns-then-branch-clause-cause : goal.returns-then-branch-clause-cause
returns-then-branch-clause-cause g c = why_passed g.D.Disk (λ k. k ≡ c.args.block) _ _ _ c.in_ok-word_holds.ensures.cause.passed

pub returns-clause-reads : goal.returns-clause-reads
returns-clause-reads g c = reads_call g.D.Disk _ _ c.word_holds.ensures.origin c.word_holds.ensures.only c.word_holds.ensures.clean

pub returns-clause-cause : goal.returns-clause-cause
returns-clause-cause g c = why_damaged g.D.Disk (λ k. k ≡ c.args.block) c.args.cache.now c.word_holds.new.self _ (record {
  faults = c.in_ok-word_holds.ensures.cause.passed;
  block = refl;
  kind = refl;
  differs = λ tells. sym (c.in_ok-word_holds.ensures.word tells) ∙ c.if-branch.false;
})

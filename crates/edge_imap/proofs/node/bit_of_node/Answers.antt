use Rattle.std.proofs.Common.{◌≡◌, ℕ, List, refl, ap, ◌∙◌}
use Rattle.edge_base.specs.layout.Bytes.{bit_in}
use Rattle.edge_imap.proofs.CallLaws.{reads_call, reads_after, why_passed, why_device, why_after, reads_same, shows_on}
use Rattle.edge_imap.proofs.BitLaws.{bit_of_byte}
use Rattle.edge_imap.proofs.node.bit_of_node.Goals as goal

pub returns-in_err-check_word-clause-cause : goal.returns-in_err-check_word-clause-cause
returns-in_err-check_word-clause-cause g c =
    why_after g.D.Disk (λ k. k ≡ c.args.block) (λ k. k ≡ c.args.block) c.args.cache.now c.args.cache.now c.check_word.new.cache c.check_word.result _ c.in_err-check_word.field-0.0 (λ k h. h) (reads_same g.D.Disk c.args.cache.now) refl
    c.check_word.ensures.cause c.in_err-check_word.was c.from_residual.ensures

pub returns-in_err-read-clause-reads : goal.returns-in_err-read-clause-reads
returns-in_err-read-clause-reads g c = reads_after g.D.Disk _ _ _ c.check_word.ensures.reads (reads_call g.D.Disk _ _ c.read.ensures.origin c.read.ensures.only c.read.ensures.clean)

pub returns-in_err-read-clause-cause : goal.returns-in_err-read-clause-cause
returns-in_err-read-clause-cause g c =
    why_device g.D.Disk (λ k. k ≡ c.args.block) c.args.cache.now c.check_word.new.cache c.read.new.self _ c.from_residual-in_err-read.ensures c.in_ok-check_word.ensures.cause.passed c.read.ensures.cause.later c.in_err-read.ensures.cause.failed

pub returns-clause-bit : goal.returns-clause-bit
returns-clause-bit g c = λ tells.
    let same = c.check_word.ensures.reads.contents tells c.args.block in
    let out = c.in_ok-read.ensures.bytes (shows_on g.D.Disk c.args.cache.now c.check_word.new.cache c.check_word.ensures.reads.origin tells) in
    c.get.ensures ∙ bit_of_byte _ c.read.new.out c.args.at _ refl out ∙ ap (λ (b : List ℕ). bit_in 16 b c.args.at) same

pub returns-clause-reads : goal.returns-clause-reads
returns-clause-reads g c = reads_after g.D.Disk _ _ _ c.check_word.ensures.reads (reads_call g.D.Disk _ _ c.read.ensures.origin c.read.ensures.only c.read.ensures.clean)

pub returns-clause-cause : goal.returns-clause-cause
returns-clause-cause g c = why_passed g.D.Disk (λ k. k ≡ c.args.block) _ _ _ (c.in_ok-read.ensures.cause.passed ∙ c.in_ok-check_word.ensures.cause.passed)

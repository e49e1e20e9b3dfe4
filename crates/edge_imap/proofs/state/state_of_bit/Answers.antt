use Rattle.std.proofs.Common.{◌≡◌, ℕ, List, inl, inr, refl, sym, ap, subst, ◌∙◌}
use Rattle.edge_base.specs.layout.Bitmap.{bit_under}
use Rattle.edge_cache.specs.Calls.{content_in}
use Rattle.edge_disk.specs.Disk.{Origin}
use Rattle.edge_imap.specs.Bitmaps.{IsFit, HoldsBit, HoldsBitUnder, state_of}
use Rattle.edge_imap.proofs.CallLaws.{reads_same, reads_after, why_passed, why_after, shows_on}
use Rattle.edge_imap.proofs.state.state_of_bit.Goals as goal

pub returns-in_err-old-clause-cause : goal.returns-in_err-old-clause-cause
returns-in_err-old-clause-cause g c =
    why_after g.D.Disk (HoldsBit c.args.g.now c.args.committed.now c.args.bit) (HoldsBitUnder c.args.g.now c.args.committed.now c.args.working.now c.args.bit) c.args.cache.now c.args.cache.now c.bit_of.new.cache c.bit_of.result _ c.in_err-old.field-0.0
    (λ k h. inl h) (reads_same g.D.Disk c.args.cache.now) refl c.bit_of.ensures.cause c.in_err-old.was c.from_residual.ensures

pub bit_of-requires-2-clause-fits : goal.bit_of-requires-2-clause-fits
bit_of-requires-2-clause-fits g c = subst (λ (o : Origin). IsFit c.args.g.now o) (sym c.bit_of.ensures.reads.origin) c.requires.fits

pub returns-in_err-new-clause-reads : goal.returns-in_err-new-clause-reads
returns-in_err-new-clause-reads g c = reads_after g.D.Disk _ _ _ c.bit_of.ensures.reads c.bit_of-2.ensures.reads

pub returns-in_err-new-clause-cause : goal.returns-in_err-new-clause-cause
returns-in_err-new-clause-cause g c =
    why_after g.D.Disk (HoldsBit c.args.g.now c.args.working.now c.args.bit) (HoldsBitUnder c.args.g.now c.args.committed.now c.args.working.now c.args.bit) c.args.cache.now c.bit_of.new.cache c.bit_of-2.new.cache c.bit_of-2.result _ c.in_err-new.field-0.0
    (λ k h. inr h) c.bit_of.ensures.reads c.in_ok-old.ensures.cause.passed c.bit_of-2.ensures.cause c.in_err-new.was c.from_residual-in_err-new.ensures

pub returns-clause-state : goal.returns-clause-state
returns-clause-state g c = λ tells.
    let old = c.args.cache.now in
    let mid = c.bit_of.new.cache in
    let same : content_in g.D.Disk mid ≡ content_in g.D.Disk old = λ z k. c.bit_of.ensures.reads.contents tells k z in
    let first = c.in_ok-old.ensures.bit tells in
    let second = c.in_ok-new.ensures.bit (shows_on g.D.Disk old mid c.bit_of.ensures.reads.origin tells) ∙ ap (λ (f : ℕ → List ℕ). bit_under c.args.g.now c.args.working.now f c.args.bit) same in
    c.state_from.ensures ∙ (λ i. state_of (first i) (second i))

pub returns-clause-reads : goal.returns-clause-reads
returns-clause-reads g c = reads_after g.D.Disk _ _ _ c.bit_of.ensures.reads c.bit_of-2.ensures.reads

pub returns-clause-cause : goal.returns-clause-cause
returns-clause-cause g c = why_passed g.D.Disk (HoldsBitUnder c.args.g.now c.args.committed.now c.args.working.now c.args.bit) _ _ _ (c.in_ok-new.ensures.cause.passed ∙ c.in_ok-old.ensures.cause.passed)

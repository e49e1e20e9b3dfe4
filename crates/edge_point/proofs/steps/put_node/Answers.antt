use Rattle.std.proofs.Common.{◌∙◌, ℕ, length, refl, sym, ap, arith}
use Rattle.std.proofs.lemmas.Bool.{cases_eq}
use Rattle.edge_cache.specs.Blocks.{sealed}
use Rattle.edge_cache.specs.Calls.{content_in}
use Rattle.edge_cache.specs.Given.{or_shown}
use Rattle.edge_cache.proofs.SealLaws.{length-sealed}
use Rattle.edge_imap.proofs.BitLaws.{long_blocks}
use Rattle.edge_imap.proofs.CallLaws.{reads_fault}
use Rattle.edge_nodes.proofs.GeometryLaws.{limits}
use Rattle.edge_store.specs.declared.fault.StoreFault.TheVariants.{Device}
use Rattle.edge_anchor.proofs.PlaceLaws.{place_has_bit}
use Rattle.edge_point.specs.Changing.{IsBlock}
use Rattle.edge_point.proofs.ChangeLaws.{passes_point}
use Rattle.edge_phase.proofs.PhaseLaws.{whole_write}
use Rattle.edge_point.proofs.PlacedLaws.{is_sealed}
use Rattle.edge_point.proofs.StepLaws.{changes_none, changes_write, over, rest_over, step_failed, step_passed, wrote_used}
use Rattle.edge_point.proofs.WorkingLaws.{has_working_table}
use Rattle.edge_point.proofs.steps.put_node.Goals as goal

bytes_put : goal.returns-in-Ok-clause-bytes
bytes_put g c = λ shows.
    let p = c.args.p.now in
    let b = c.args.b in
    let len = c.write.ensures.whole shows b (omega (arith, c.requires.block.below, c.requires.stands.fits.blocks)) in
    ap (λ w. or_shown w (g.D.Disk.shown c.write.new.self.disk b)) (c.in-Ok.ensures.bytes shows)
    ∙ ap sealed (whole_write c.deref.result.now (content_in g.D.Disk p.cache b) (len ∙ c.requires.stands.fits.size ∙ sym c.requires.stands.block ∙ sym (ap length c.deref.ensures.value))
    ∙ c.deref.ensures.value)

pub returns-in-Ok-clause-step : goal.returns-in-Ok-clause-step
returns-in-Ok-clause-step g c =
    let d = g.D.Disk in
    let p = c.args.p.now in
    let q = over p p.imap c.write.new.self in
    step_passed d (IsBlock c.args.b) p q _ (changes_write d (IsBlock c.args.b) p q c.requires.stands c.requires.live (rest_over p p.imap c.write.new.self)
    c.args.b c.requires.block refl refl c.write.ensures.origin c.in-Ok.ensures.changes c.requires.unused) c.in-Ok.ensures.cause.passed

pub returns-in-Ok-clause-stands : goal.returns-in-Ok-clause-stands
returns-in-Ok-clause-stands g c =
    let d = g.D.Disk in
    let p = c.args.p.now in
    let q = over p p.imap c.write.new.self in
    let b = c.args.b in
    let is = c.requires.stands in
    let live = c.requires.live in
    let bounds = limits p.master.geometry is.geometry in
    let long = long_blocks p.master.geometry.block_size bounds.block_size in
    let changes = changes_write d (IsBlock b) p q is live (rest_over p p.imap c.write.new.self) b c.requires.block refl refl c.write.ensures.origin
    c.in-Ok.ensures.changes c.requires.unused in
    passes_point d (IsBlock b) p q is live changes (λ shows. has_working_table d (IsBlock b) p q is live changes shows refl
    (λ k second number. wrote_used d (IsBlock b) p q is live (rest_over p p.imap c.write.new.self) b c.requires.block refl refl c.write.ensures.origin
    c.in-Ok.ensures.changes c.requires.unused shows _ (place_has_bit p.master.geometry bounds k second number))
    (λ k. cases_eq k b) (λ k e. ap (λ (x : ℕ). length (content_in d c.write.new.self x)) e
    ∙ ap length (bytes_put g c shows) ∙ length-sealed p.block.items (omega (arith, long.least, is.block)) ∙ is.block))

pub returns-in-Ok-clause-used : goal.returns-in-Ok-clause-used
returns-in-Ok-clause-used g c = λ shows.
    let p = c.args.p.now in
    wrote_used g.D.Disk (IsBlock c.args.b) p (over p p.imap c.write.new.self) c.requires.stands c.requires.live (rest_over p p.imap c.write.new.self) c.args.b
    c.requires.block refl refl c.write.ensures.origin c.in-Ok.ensures.changes c.requires.unused shows c.args.b c.requires.block

pub returns-in-Ok-clause-bytes : goal.returns-in-Ok-clause-bytes
returns-in-Ok-clause-bytes g c = bytes_put g c

pub returns-in-Ok-clause-node : goal.returns-in-Ok-clause-node
returns-in-Ok-clause-node g c = λ shows.
    let p = c.args.p.now in
    let long = long_blocks p.master.geometry.block_size (limits p.master.geometry c.requires.stands.geometry).block_size in
    is_sealed p.block.items (content_in g.D.Disk c.write.new.self c.args.b) (omega (arith, long.least, c.requires.stands.block)) (bytes_put g c shows) (c.in-Ok.ensures.word refl)

pub returns-in-Err-clause-step : goal.returns-in-Err-clause-step
returns-in-Err-clause-step g c =
    let d = g.D.Disk in
    let p = c.args.p.now in
    let q = over p p.imap c.write.new.self in
    step_failed d (IsBlock c.args.b) p q Device (changes_none d (IsBlock c.args.b) p q (rest_over p p.imap c.write.new.self) refl
    (reads_fault d p.cache c.write.new.self c.write.ensures.origin c.in-Err.ensures.fault) (λ shows. (c.requires.stands.told c.requires.live shows).tied))
    c.write.ensures.cause.later (c.in-Err.ensures.cause.failed, refl)

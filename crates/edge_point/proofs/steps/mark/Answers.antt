use Rattle.std.proofs.Common.{◌≡◌, ◌∙◌, ◌+◌, ◌-◌, ◌<◌, ◌≤◌, ℕ, Err, sym, ap, subst, arith}
use Rattle.edge_base.specs.layout.Places.{table_start_of}
use Rattle.edge_imap.specs.Bitmaps.{IsNamedFor}
use Rattle.edge_store.specs.declared.fault.StoreFault.{StoreFault}
use Rattle.edge_point.specs.Changing.{IsBlock, TakesStep, working_of}
use Rattle.edge_point.proofs.EndedLaws.{imap_never}
use Rattle.edge_point.proofs.StepLaws.{changes_none, changes_set, over, rest_over, set_here, set_same, step_imap, step_passed}
use Rattle.edge_point.proofs.steps.mark.Goals as goal

-- the bit is that of the block
bit_of : (start first blocks b : ℕ) → first ≤ b → b < blocks → start ≡ first → (first + (b - start) ≡ b) × (b - start < blocks - first)
bit_of start first blocks b from below e = (omega arith, omega arith)

pub returns-in-Ok-clause-step : goal.returns-in-Ok-clause-step
returns-in-Ok-clause-step g c =
    let d = g.D.Disk in
    let p = c.args.p.now in
    let b = c.args.b in
    let q = over p c.set.new.self c.set.new.cache in
    let at = bit_of c.table_start.result (table_start_of p.master.geometry) p.master.geometry.blocks b c.requires.block.from c.requires.block.below c.table_start.ensures in
    step_passed d (IsBlock b) p q _
    (changes_set d (IsBlock b) p q c.requires.stands c.requires.live (rest_over p c.set.new.self c.set.new.cache) _ (b - c.table_start.result) c.args.used at.1 at.0
    c.set.ensures.geometry c.set.ensures.committed c.set.ensures.origin c.in-Ok.ensures.sets (λ e. (c.set.ensures.inline e).0)
    (λ shows. c.set.ensures.tied shows (c.requires.stands.told c.requires.live shows).tied)) c.in-Ok.ensures.cause.passed

pub returns-in-Ok-clause-used : goal.returns-in-Ok-clause-used
returns-in-Ok-clause-used g c = λ shows.
    let d = g.D.Disk in
    let p = c.args.p.now in
    let b = c.args.b in
    let q = over p c.set.new.self c.set.new.cache in
    let at = bit_of c.table_start.result (table_start_of p.master.geometry) p.master.geometry.blocks b c.requires.block.from c.requires.block.below c.table_start.ensures in
    ap (working_of d q) (sym at.0)
    ∙ set_here d (IsBlock b) p q c.requires.stands c.requires.live (rest_over p c.set.new.self c.set.new.cache) _ (b - c.table_start.result) c.args.used at.1 at.0
    c.set.ensures.geometry c.set.ensures.committed c.set.ensures.origin c.in-Ok.ensures.sets (λ e. (c.set.ensures.inline e).0)
    (λ shows. c.set.ensures.tied shows (c.requires.stands.told c.requires.live shows).tied) shows

pub returns-in-Ok-clause-bytes : goal.returns-in-Ok-clause-bytes
returns-in-Ok-clause-bytes g c = λ shows.
    let d = g.D.Disk in
    let p = c.args.p.now in
    let b = c.args.b in
    let q = over p c.set.new.self c.set.new.cache in
    let at = bit_of c.table_start.result (table_start_of p.master.geometry) p.master.geometry.blocks b c.requires.block.from c.requires.block.below c.table_start.ensures in
    set_same d (IsBlock b) p q c.requires.stands c.requires.live (rest_over p c.set.new.self c.set.new.cache) _ (b - c.table_start.result) c.args.used at.1 at.0
    c.set.ensures.geometry c.set.ensures.committed c.set.ensures.origin c.in-Ok.ensures.sets (λ e. (c.set.ensures.inline e).0)
    (λ shows. c.set.ensures.tied shows (c.requires.stands.told c.requires.live shows).tied) shows b c.requires.block

pub returns-in-Err-clause-step : goal.returns-in-Err-clause-step
returns-in-Err-clause-step g c =
    let d = g.D.Disk in
    let p = c.args.p.now in
    let b = c.args.b in
    let q = over p c.set.new.self c.set.new.cache in
    subst (λ (f : StoreFault). TakesStep d {T = Unit {0}} (IsBlock b) p q (Err f)) (sym c.fault_of.ensures)
    (step_imap d (IsBlock b) (IsNamedFor p.imap (b - c.table_start.result)) p q c.set.result c.in-Err.fault
    (changes_none d (IsBlock b) p q (rest_over p c.set.new.self c.set.new.cache) c.in-Err.ensures.unset c.in-Err.ensures.fault
    (λ shows. (c.requires.stands.told c.requires.live shows).tied)) c.set.ensures.cause c.in-Err.is)

pub returns-in-Err-clause-undamaged : goal.returns-in-Err-clause-undamaged
returns-in-Err-clause-undamaged g c = λ shows damage h.
    imap_never c.set.result c.in-Err.fault damage c.in-Err.is (c.set.ensures.sound shows (c.requires.stands.told c.requires.live shows).tied)
    (sym c.fault_of.ensures ∙ cc h)

pub returns-in-Err-clause-bytes : goal.returns-in-Err-clause-bytes
returns-in-Err-clause-bytes g c = λ shows. c.in-Err.ensures.fault.contents shows c.args.b

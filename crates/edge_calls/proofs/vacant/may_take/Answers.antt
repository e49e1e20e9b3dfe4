use Rattle.std.proofs.Common.{◌∙◌, sym, ap}
use Rattle.edge_base.specs.declared.geometry.Request.{Request}
use Rattle.edge_volume.proofs.LookLaws.{looks_none}
use Rattle.edge_calls.specs.Makes.{is_behind}
use Rattle.edge_calls.proofs.VacancyLaws.{told_none, told_some}
use Rattle.edge_calls.proofs.CreateLaws.{take_without_number, take_behind, take_is}
use Rattle.edge_calls.proofs.vacant.may_take.Goals as goal

pub returns-then-free_inodes-eq0-clause-may : goal.returns-then-free_inodes-eq0-clause-may
returns-then-free_inodes-eq0-clause-may g c z stands tree =
    let s = c.args.s.now in
    take_without_number (g.S.Store.state s).origin.request z.tree c.args.slot
    (told_none g.S.Store s s (looks_none g.S.Store s c.requires.live) c.free_inodes.result c.free_inodes.ensures z stands c.if-free_inodes-eq0.true)

pub returns-then-is_behind-clause-may : goal.returns-then-is_behind-clause-may
returns-then-is_behind-clause-may g c z stands tree =
    let s = c.args.s.now in
    let some = told_some g.S.Store s s (looks_none g.S.Store s c.requires.live) c.free_inodes.result c.free_inodes.ensures z stands c.if-free_inodes-eq0.false in
    take_behind (g.S.Store.state s).origin.request z.tree c.args.slot some.0 some.1
    (ap (λ (r : Request). is_behind r c.args.slot) (sym c.geometry.ensures) ∙ sym c.is_behind.ensures.behind ∙ c.if-is_behind.true)

pub returns-clause-may : goal.returns-clause-may
returns-clause-may g c z stands tree =
    let s = c.args.s.now in
    let some = told_some g.S.Store s s (looks_none g.S.Store s c.requires.live) c.free_inodes.result c.free_inodes.ensures z stands c.if-free_inodes-eq0.false in
    take_is (g.S.Store.state s).origin.request z.tree c.args.slot some.0 some.1
    (ap (λ (r : Request). is_behind r c.args.slot) (sym c.geometry.ensures) ∙ sym c.is_behind.ensures.behind ∙ c.if-is_behind.false)

use Rattle.std.proofs.Common.{◌≡◌, ◌∙◌, Some, None, sym, ap, subst}
use Rattle.std.specs.Prelude.{Ok, Err}
use Rattle.std.proofs.lemmas.Bool.{ne_eqb}
use Rattle.std.proofs.lemmas.Result.{err_from_is_err_and}
use Rattle.edge_base.specs.declared.geometry.Request.{Request}
use Rattle.edge_base.specs.outside.Below.{Origin}
use Rattle.edge_dir.specs.declared.look.Place.{Place}
use Rattle.edge_volume.specs.Nodes.{OnTree}
use Rattle.edge_volume.specs.Parts.{IsOfNoDamage}
use Rattle.edge_volume.specs.Stopped.{IfAnswered, fault_of}
use Rattle.edge_volume.proofs.LookLaws.{looks_on}
use Rattle.edge_walk.specs.Spots.{IsPlaceFor}
use Rattle.edge_walk.proofs.StillLaws.{on_tree_before}
use Rattle.edge_calls.specs.Renames.{Rename, held_in, name_in, rename_as, rename_in, rename_with, slot_for}
use Rattle.edge_calls.proofs.RenameAtLaws.{onto_moved, onto_none, onto_stopped}
use Rattle.edge_calls.proofs.rename.renaming_to.Goals as goal

pub returns-in_err-slot-clause-undamaged : goal.returns-in_err-slot-clause-undamaged
returns-in_err-slot-clause-undamaged g c z stands tree damage e =
    let p = err_from_is_err_and c.from_residual.result c.from_residual.ensures.1 in
    c.in_err-slot.ensures.undamaged z stands tree damage (sym (ap fault_of (p.1 ∙ ap Err p.2)) ∙ e)

pub returns-in_err-there-in-Taken-clause-undamaged : goal.returns-in_err-there-in-Taken-clause-undamaged
returns-in_err-there-in-Taken-clause-undamaged g c z stands tree damage e =
    let p = err_from_is_err_and c.from_residual-in_err-there-in-Taken.result c.from_residual-in_err-there-in-Taken.ensures.1 in
    on_tree_before g.S.Store c.args.s.now c.place_at.new.s c.in_ok-slot.ensures.looks (λ t. IsOfNoDamage (fault_of c.replaced_at.result))
    c.replaced_at.ensures.undamaged z stands tree damage (ap fault_of c.in_err-there-in-Taken.was ∙ sym (ap fault_of (p.1 ∙ ap Err p.2)) ∙ e)

pub returns-in_err-there-in-Taken-clause-renaming : goal.returns-in_err-there-in-Taken-clause-renaming
returns-in_err-there-in-Taken-clause-renaming g c =
    let st = g.S.Store.state c.args.s.now in
    let found = c.in-Taken.found in
    let p = err_from_is_err_and c.from_residual-in_err-there-in-Taken.result c.from_residual-in_err-there-in-Taken.ensures.1 in
    subst (λ x. IfAnswered x (λ y. OnTree st (λ t. rename_as y ≡ rename_in st.origin.request t c.args.handles.now (held_in c.args.named) (name_in c.args.wanted))))
    (sym (p.1 ∙ ap Err p.2))
    (onto_stopped g.S.Store c.args.s.now c.place_at.new.s c.in_ok-slot.ensures.looks c.args.handles.now (held_in c.args.named) (name_in c.args.wanted)
    (record { slot = found.slot; number = found.number })
    (subst (λ (place : Place). OnTree st (λ t. IsPlaceFor t c.args.wanted.dir c.args.wanted.name.now place)) c.in-Taken.is c.in_ok-slot.ensures.place)
    (ne_eqb c.in-Taken.found.number c.args.named.node.number c.if-found-named.false) c.in_err-there-in-Taken.field-0.0 c.in_err-there-in-Taken.ensures.replaced)

pub returns-in_ok-slot-in-Free-clause-renaming : goal.returns-in_ok-slot-in-Free-clause-renaming
returns-in_ok-slot-in-Free-clause-renaming g c z stands tree =
    let st = g.S.Store.state c.args.s.now in
    let moved = c.moved_into.ensures in
    let slot = c.in_ok-slot-in-Free.slot in
    ap (λ (m : Rename). Ok (Some m)) (λ i. rename_with (moved.change i) (moved.name i).now)
    ∙ onto_none st.origin.request z.tree c.args.handles.now (held_in c.args.named) (name_in c.args.wanted) c.in-Free.slot (Ok slot)
    (subst (λ (place : Place). OnTree st (λ t. IsPlaceFor t c.args.wanted.dir c.args.wanted.name.now place)) c.in-Free.is c.in_ok-slot.ensures.place z stands tree)
    (subst (λ (r : Request). Ok slot ≡ slot_for r c.in-Free.slot) (c.geometry.ensures ∙ ap (λ (o : Origin). o.request) c.in_ok-slot.ensures.looks.ends.origin)
    c.in_ok-slot-in-Free.ensures)

pub returns-in_ok-there-in-Taken-clause-looks : goal.returns-in_ok-there-in-Taken-clause-looks
returns-in_ok-there-in-Taken-clause-looks g c =
    looks_on g.S.Store None c.args.s.now c.place_at.new.s c.replaced_at.new.s c.in_ok-slot.ensures.looks c.in_ok-there-in-Taken.ensures.looks

pub returns-in_ok-there-in-Taken-clause-renaming : goal.returns-in_ok-there-in-Taken-clause-renaming
returns-in_ok-there-in-Taken-clause-renaming g c =
    let st = g.S.Store.state c.args.s.now in
    let found = c.in-Taken.found in
    let moved = c.moved_into-in-Taken.ensures in
    onto_moved g.S.Store c.args.s.now c.place_at.new.s c.in_ok-slot.ensures.looks c.args.handles.now (held_in c.args.named) (name_in c.args.wanted)
    (record { slot = found.slot; number = found.number })
    (subst (λ (place : Place). OnTree st (λ t. IsPlaceFor t c.args.wanted.dir c.args.wanted.name.now place)) c.in-Taken.is c.in_ok-slot.ensures.place)
    (ne_eqb c.in-Taken.found.number c.args.named.node.number c.if-found-named.false) c.in_ok-there-in-Taken.there.number (rename_with c.moved_into-in-Taken.result.change c.moved_into-in-Taken.result.name.now)
    (λ i. rename_with (moved.change i) (moved.name i).now) c.in_ok-there-in-Taken.ensures.replaced

use Rattle.std.proofs.Common.{◌≡◌, ◌∙◌, ℕ, ◌≤◌, List, length, Option, Some, None, sym, ap, subst, arith}
use Rattle.std.specs.Prelude.{Ok, Err}
use Rattle.std.proofs.lemmas.Result.{err_from_is_err_and}
use Rattle.edge_base.specs.declared.geometry.Request.{Request}
use Rattle.edge_base.specs.outside.Below.{Origin}
use Rattle.edge_dir.specs.Bounds.{IsSaidWithinAt}
use Rattle.edge_dir.specs.Directory.{IsEntryIn, OnSlots}
use Rattle.edge_store.specs.declared.store.Store.{Ghosts as StoreGhosts}
use Rattle.edge_model.specs.Tree.{slots_at}
use Rattle.edge_volume.specs.Nodes.{OnTree}
use Rattle.edge_volume.specs.Parts.{Looks, IsOfNoDamage}
use Rattle.edge_volume.specs.Stopped.{fault_in}
use Rattle.edge_volume.proofs.LookLaws.{looks_of_call, looks_on}
use Rattle.edge_walk.specs.Reached.{IsHolder}
use Rattle.edge_walk.proofs.StillLaws.{on_tree_before, holder_after}
use Rattle.edge_walk.proofs.TreeLaws.{on_slots, undamaged_in_tree}
use Rattle.edge_calls.proofs.SlotLaws.{filled_here, empty_here, none_behind}
use Rattle.edge_calls.proofs.directory.next_filled.Goals as goal

-- what a slot says, of the tree that the store stood for before
entry_before : {A : Type 0} (S : StoreGhosts A) (a b : A) (looks : Looks S None a b) (d : ℕ) → IsHolder (S.state a) d → (k : ℕ) (list : List ℕ) (entry : Option (ℕ × ℕ))
    → OnSlots (S.state b) d (λ slots. IsEntryIn slots k list entry) → OnTree (S.state a) (λ t. IsEntryIn (slots_at t d) k list entry)
entry_before S a b looks d holder k list entry on =
    on_tree_before S a b looks (λ t. IsEntryIn (slots_at t d) k list entry)
    (on_slots (S.state b) d (holder_after S a b looks d holder).directory (λ slots. IsEntryIn slots k list entry) on)

pub returns-in_err-count-clause-undamaged : goal.returns-in_err-count-clause-undamaged
returns-in_err-count-clause-undamaged g c z stands tree damage e =
    let p = err_from_is_err_and c.from_residual.result c.from_residual.ensures.1 in
    undamaged_in_tree (g.S.Store.state c.args.s.now) c.args.d c.requires.holder.directory (Err c.in_err-count.field-0.0) c.in_err-count.ensures.undamaged
    z stands tree damage (sym (ap fault_in (p.1 ∙ ap Err p.2)) ∙ e)

pub returns-in_err-number-clause-undamaged : goal.returns-in_err-number-clause-undamaged
returns-in_err-number-clause-undamaged g c z stands tree damage e =
    let looks = c.loop-slot.invariant.looks in
    let p = err_from_is_err_and c.from_residual-in_err-number.result c.from_residual-in_err-number.ensures.1 in
    let fault = c.in_err-number.field-0.0 in
    on_tree_before g.S.Store c.args.s.now c.loop-slot.s looks (λ t. IsOfNoDamage (Some fault))
    (undamaged_in_tree (g.S.Store.state c.loop-slot.s) c.args.d (holder_after g.S.Store c.args.s.now c.loop-slot.s looks c.args.d c.requires.holder).directory
    (Err fault) c.in_err-number.ensures.undamaged)
    z stands tree damage (sym (ap fault_in (p.1 ∙ ap Err p.2)) ∙ e)

pub returns-in-Some-clause-most : goal.returns-in-Some-clause-most
returns-in-Some-clause-most g c =
    let st = g.S.Store.state c.args.s.now in
    let now = g.S.Store.state c.loop-slot.s in
    let limit = subst (λ (r : Request). r.name_max ≤ 252) c.geometry.ensures c.request-within_limits.ensures.limits.name_max in
    let said = subst (IsSaidWithinAt now.origin.request c.loop-slot.slot c.entry_at.new.name) c.in-Some.is c.in_ok-number.ensures.within in
    let most = subst (λ (o : Origin). c.in-Some.len ≤ o.request.name_max) c.loop-slot.invariant.looks.ends.origin said.1.most in
    omega (arith, limit, most)

pub returns-in-Some-clause-next : goal.returns-in-Some-clause-next
returns-in-Some-clause-next g c z stands tree =
    let l = c.loop-slot.invariant in
    let on = subst (λ entry. OnSlots (g.S.Store.state c.loop-slot.s) c.args.d (λ slots. IsEntryIn slots c.loop-slot.slot c.entry_at.new.name entry)) c.in-Some.is
    c.in_ok-number.ensures.entry in
    let here = entry_before g.S.Store c.args.s.now c.loop-slot.s l.looks c.args.d c.requires.holder c.loop-slot.slot c.entry_at.new.name
    (Some (c.in-Some.number, c.in-Some.len)) on z stands tree in
    sym (filled_here (slots_at z.tree c.args.d) c.loop-slot.slot _ here.0) ∙ l.none z stands tree

pub loop-slot-preserved : goal.loop-slot-preserved
loop-slot-preserved g c =
    let l = c.loop-slot.invariant in
    let st = g.S.Store.state c.args.s.now in
    let call = c.in_ok-number.ensures in
    let on = subst (λ entry. OnSlots (g.S.Store.state c.loop-slot.s) c.args.d (λ slots. IsEntryIn slots c.loop-slot.slot c.entry_at.new.name entry)) c.in-None.is call.entry in
    record {
      looks = looks_on g.S.Store None c.args.s.now c.loop-slot.s c.entry_at.new.s l.looks
          (looks_of_call g.S.Store c.loop-slot.s c.entry_at.new.s (Ok c.in_ok-number.field-0) call.called call.point call.reads call.below call.clean call.damage);
      none = λ z stands tree.
          let here = entry_before g.S.Store c.args.s.now c.loop-slot.s l.looks c.args.d c.requires.holder c.loop-slot.slot c.entry_at.new.name None on z stands tree in
          let count = on_slots st c.args.d c.requires.holder.directory (λ slots. c.in_ok-count.count ≡ length slots) c.in_ok-count.ensures.count z stands tree in
          let low = c.loop-slot-test.true in
          sym (empty_here (slots_at z.tree c.args.d) c.loop-slot.slot (omega (arith, count, low)) here) ∙ l.none z stands tree;
    }

pub returns-clause-next : goal.returns-clause-next
returns-clause-next g c z stands tree =
    let st = g.S.Store.state c.args.s.now in
    let count = on_slots st c.args.d c.requires.holder.directory (λ slots. c.in_ok-count.count ≡ length slots) c.in_ok-count.ensures.count z stands tree in
    let past = c.loop-slot-test.false in
    sym (none_behind (slots_at z.tree c.args.d) c.loop-slot.slot (omega (arith, count, past))) ∙ c.loop-slot.invariant.none z stands tree

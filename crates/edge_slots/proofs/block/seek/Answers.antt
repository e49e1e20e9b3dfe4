use Rattle.std.proofs.Common.{◌∙◌, ◌+◌, not, sym, ap, subst}
use Rattle.std.specs.Prelude.{is_some}
use Rattle.std.proofs.lemmas.Bool.{false≢true}
use Rattle.edge_store.specs.Damages.{slot_in}
use Rattle.edge_slots.specs.Slot.{HasEntry, IsEmpty, IsSlot}
use Rattle.edge_slots.proofs.BlockLaws.{IsFreeAmong, lacks_entry, lacks_empty, free_filled, free_again, free_here, is_none_of, same_names}
use Rattle.edge_slots.proofs.block.seek.Goals as goal
use Rattle.edge_slots.proofs.block.seek.Goals.{in-Some+else-eq, in-None, in-None+else-is_none}

pub loop-slot-preserved : goal.loop-slot-preserved
loop-slot-preserved c =
    let g = c.args.g.now in
    let block = c.args.block.now in
    let k = c.loop-slot.slot in
    let here : IsSlot g (slot_in g block k) c.in_ok-entry.field-0 = c.in_ok-entry.ensures.slot in
    elim c.match-branch-2.branch [
      | in-Some+else-eq w ↦
          let has : HasEntry g (slot_in g block k) w.in-Some.entry.name.now w.in-Some.entry.number = subst (IsSlot g (slot_in g block k)) w.in-Some.is here in
          record {
            lacks = lacks_entry g block k c.args.name.now w.in-Some.entry.name.now w.in-Some.entry.number c.loop-slot.invariant.lacks has (λ same. false≢true (sym w.if-eq.false ∙ w.eq.ensures ∙ same_names _ _ same));
            free = subst (IsFreeAmong g block (k + 1)) (sym w.free-is) (free_filled g block k c.loop-slot.free w.in-Some.entry.name.now w.in-Some.entry.number c.loop-slot.invariant.free has);
          }
      | in-None w ↦
          let empty : IsEmpty g (slot_in g block k) = subst (IsSlot g (slot_in g block k)) w.in-None.is here in
          record {
            lacks = lacks_empty g block k c.args.name.now c.loop-slot.invariant.lacks empty;
            free = subst (IsFreeAmong g block (k + 1)) (sym w.free-is) (free_here g block k c.loop-slot.free c.loop-slot.invariant.free (is_none_of c.loop-slot.free (w.is_none.ensures ∙ ap not w.if-is_none.true)) empty);
          }
      | in-None+else-is_none w ↦
          let empty : IsEmpty g (slot_in g block k) = subst (IsSlot g (slot_in g block k)) w.in-None.is here in
          record {
            lacks = lacks_empty g block k c.args.name.now c.loop-slot.invariant.lacks empty;
            free = subst (IsFreeAmong g block (k + 1)) (sym w.free-is) (free_again g block k c.loop-slot.free c.loop-slot.invariant.free (λ none. false≢true (sym (ap is_some none) ∙ w.is_none.ensures ∙ ap not w.if-is_none.false)));
          }
    ]

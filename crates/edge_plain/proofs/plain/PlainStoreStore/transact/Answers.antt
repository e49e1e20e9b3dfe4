use Rattle.std.proofs.Common.{refl}
use Rattle.edge_base.specs.layout.Places.{first_allocable_of}
use Rattle.edge_plain.specs.KeptView.{view_of}
use Rattle.edge_plain.proofs.CountLaws.{counted_point, counted_eq}
use Rattle.edge_plain.proofs.plain.PlainStoreStore.transact.Goals as goal

pub invariant_of-self-2-clause-counted : goal.invariant_of-self-2-clause-counted
invariant_of-self-2-clause-counted c =
    let s = c.args.self.now in
    let g = s.working.geometry in
    let v = view_of s.working in
    counted_eq g g v (view_of c.copy_from.new.self) v v s.blocks_after s.blocks_after s.blocks_after s.blocks_after s.numbers s.numbers
    (first_allocable_of g) c.first_allocable-self.result s.first_number refl c.copy_from.ensures.view refl refl refl refl c.first_allocable-self.ensures
    (counted_point g (view_of s.committed) v _ _ _ _ _ s.counted)

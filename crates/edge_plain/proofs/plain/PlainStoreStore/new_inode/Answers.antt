use Rattle.std.proofs.Common.{arith, refl, Some}
use Rattle.edge_plain.specs.KeptView.{view_of}
use Rattle.edge_plain.proofs.CountLaws.{counted_made, moved}
use Rattle.edge_plain.proofs.plain.PlainStoreStore.new_inode.Goals as goal
use Rattle.edge_store.proofs.RoomLaws.{made_less}
use Rattle.edge_store.specs.View.{with_inode, empty_inode}

pub overflow_sub-self : goal.overflow_sub-self
overflow_sub-self c =
    let s = c.args.self.now in
    let g = s.working.geometry in
    let v = view_of s.working in
    let less = made_less g v (with_inode v c.in-Some.n (Some (empty_inode g c.args.head))) c.args.head c.in-Some.n c.in-Some.ensures.found refl in
    omega (arith, s.counted.numbers_is, less)

pub invariant_of-self-2-clause-counted : goal.invariant_of-self-2-clause-counted
invariant_of-self-2-clause-counted c =
    let s = c.args.self.now in
    let g = s.working.geometry in
    let c0 = view_of s.committed in
    let v = view_of s.working in
    let w = view_of c.put_inode.new.self in
    moved g c.put_inode.new.self.geometry c0 v v _ _ _ _ _ c.put_inode.ensures.geometry s.counted c0 w _ _ _ _ _
    (counted_made g c0 v w _ _ _ _ _ s.counted c.args.head c.in-Some.n c.in-Some.ensures.found c.put_inode.ensures.view)

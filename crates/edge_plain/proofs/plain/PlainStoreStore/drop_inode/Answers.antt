use Rattle.std.proofs.Common.{arith}
use Rattle.edge_plain.specs.KeptView.{view_of}
use Rattle.edge_plain.proofs.CountLaws.{counted_inode_dropped, free_inodes-few, moved}
use Rattle.edge_plain.proofs.plain.PlainStoreStore.drop_inode.Goals as goal
use Rattle.edge_store.proofs.RoomLaws.{inode_dropped_more}

pub overflow_add-self : goal.overflow_add-self
overflow_add-self c =
    let s = c.args.self.now in
    let g = s.working.geometry in
    let more = inode_dropped_more g (view_of s.working) (view_of c.drop_inode.new.self) c.args.n c.requires.number (c.requires.there (λ t. Rattle.std.proofs.Common.true)) c.drop_inode.ensures.view in
    omega (arith, s.working.limits.inodes, s.counted.numbers_is, more, free_inodes-few g (view_of c.drop_inode.new.self))

pub invariant_of-self-clause-counted : goal.invariant_of-self-clause-counted
invariant_of-self-clause-counted c =
    let s = c.args.self.now in
    let g = s.working.geometry in
    let c0 = view_of s.committed in
    let v = view_of s.working in
    let w = view_of c.drop_inode.new.self in
    moved g c.drop_inode.new.self.geometry c0 v v _ _ _ _ _ c.drop_inode.ensures.geometry s.counted c0 w _ _ _ _ _
    (counted_inode_dropped g c0 v w _ _ _ _ _ s.counted c.args.n c.min-self.result c.requires.number (c.requires.there (λ t. Rattle.std.proofs.Common.true)) c.drop_inode.ensures.view c.min-self.ensures)

use Rattle.edge_plain.specs.KeptView.{view_of}
use Rattle.edge_plain.proofs.CountLaws.{counted_head_set}
use Rattle.edge_plain.proofs.plain.PlainStoreStore.set_head.Goals as goal

pub invariant_of-self-clause-counted : goal.invariant_of-self-clause-counted
invariant_of-self-clause-counted c =
    let s = c.args.self.now in
    counted_head_set s.working.geometry _ (view_of s.committed) (view_of s.working) (view_of c.set_head.new.self) _ _ _ _ _ c.set_head.ensures.geometry s.counted
    c.args.n c.args.head c.set_head.ensures.view

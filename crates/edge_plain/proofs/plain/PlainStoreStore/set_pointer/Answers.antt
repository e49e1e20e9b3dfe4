use Rattle.std.proofs.Common.{◌∙◌, sym}
use Rattle.edge_store.proofs.ViewLaws.{spot_of}
use Rattle.edge_plain.specs.KeptView.{view_of}
use Rattle.edge_plain.proofs.CountLaws.{counted_pointer_set}
use Rattle.edge_plain.proofs.plain.PlainStoreStore.set_pointer.Goals as goal

pub invariant_of-self-clause-counted : goal.invariant_of-self-clause-counted
invariant_of-self-clause-counted c =
    let s = c.args.self.now in
    counted_pointer_set s.working.geometry _ (view_of s.committed) (view_of s.working) (view_of c.set_pointer.new.self) _ _ _ _ _ c.set_pointer.ensures.geometry s.counted
    c.args.s.form c.args.s.owner c.args.s.block c.args.i c.args.to (spot_of (view_of s.working) c.args.s.form c.args.s.owner c.args.s.block (sym c.damage.ensures ∙ c.in_default.is)) c.set_pointer.ensures.set

use Rattle.std.proofs.Common.{◌*◌}
use Rattle.edge_base.specs.outside.Below.{SameBelow}
use Rattle.edge_base.specs.tree.Slots.{slots_in_block}
use Rattle.edge_dir.specs.Looked.{AreFilledBefore}
use Rattle.edge_dir.proofs.LoopLaws.{LookedSoFar}
use Rattle.edge_dir.proofs.look.free_slot.Given as goal

abbrev pub invariant-loop-i : goal.invariant-loop-i
invariant-loop-i g l = LookedSoFar (g.S.Store.state l.fn.s) (g.S.Store.state l.s)
    (g.S.Store.is_clean l.fn.s → SameBelow (g.S.Store.may_hold l.fn.s) (g.S.Store.may_hold l.s) (g.S.Store.is_sure l.fn.s) (g.S.Store.is_sure l.s))
    (g.S.Store.is_clean l.fn.s → g.S.Store.is_clean l.s)
    (Unit {0})
    (AreFilledBefore (g.S.Store.state l.fn.s).origin.request (g.S.Store.state l.fn.s).working l.d (l.i * slots_in_block (g.S.Store.state l.fn.s).origin.request))

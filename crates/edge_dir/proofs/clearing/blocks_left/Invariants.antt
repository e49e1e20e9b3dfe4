use Rattle.std.proofs.Common.{ℕ, ◌≤◌, ◌<◌, ◌*◌, None}
use Rattle.edge_base.specs.outside.Below.{SameBelow}
use Rattle.edge_base.specs.tree.Slots.{slots_in_block}
use Rattle.edge_dir.specs.Looked.{HasSlot}
use Rattle.edge_dir.proofs.LoopLaws.{LookedSoFar}
use Rattle.edge_dir.proofs.clearing.blocks_left.Given as goal

abbrev pub invariant-loop-left : goal.invariant-loop-left
invariant-loop-left g l = LookedSoFar (g.S.Store.state l.fn.s) (g.S.Store.state l.s)
    (g.S.Store.is_clean l.fn.s → SameBelow (g.S.Store.may_hold l.fn.s) (g.S.Store.may_hold l.s) (g.S.Store.is_sure l.fn.s) (g.S.Store.is_sure l.s))
    (g.S.Store.is_clean l.fn.s → g.S.Store.is_clean l.s)
    (l.left ≤ l.count)
    ((j : ℕ) → l.left * slots_in_block (g.S.Store.state l.fn.s).origin.request ≤ j → j < l.count * slots_in_block (g.S.Store.state l.fn.s).origin.request
    → HasSlot (g.S.Store.state l.fn.s).origin.request (g.S.Store.state l.fn.s).working l.d j None)

abbrev pub decreases-loop-left : goal.decreases-loop-left
decreases-loop-left g l = l.left

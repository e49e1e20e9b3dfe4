use Rattle.std.proofs.Common.{length, ◌-◌}
use Rattle.edge_base.specs.outside.Below.{SameBelow}
use Rattle.edge_file.proofs.LoopLaws.{ReadSoFar}
use Rattle.edge_file.proofs.read.read_bytes.Given as goal

abbrev pub invariant-loop-done : goal.invariant-loop-done
invariant-loop-done g l =
    ReadSoFar (g.S.Store.state l.fn.s) (g.S.Store.state l.s) l.n l.at l.out l.done
    × (g.S.Store.is_clean l.fn.s → SameBelow (g.S.Store.may_hold l.fn.s) (g.S.Store.may_hold l.s) (g.S.Store.is_sure l.fn.s) (g.S.Store.is_sure l.s))
    × (g.S.Store.is_clean l.fn.s → g.S.Store.is_clean l.s)

abbrev pub decreases-loop-done : goal.decreases-loop-done
decreases-loop-done g l = length l.initial.out - l.done

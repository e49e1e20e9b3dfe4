use Rattle.std.proofs.Common.{◌-◌}
use Rattle.edge_base.specs.outside.Below.{SameBelow}
use Rattle.edge_space.specs.Counts.{AreFreshEntries}
use Rattle.edge_space.proofs.LoopLaws.{CountedSoFar}
use Rattle.edge_space.proofs.entries.fresh_entries.Given as goal

abbrev pub invariant-loop-entry : goal.invariant-loop-entry
invariant-loop-entry g l = CountedSoFar (g.S.Store.state l.fn.s) (g.S.Store.state l.s)
    (g.S.Store.is_clean l.fn.s → SameBelow (g.S.Store.may_hold l.fn.s) (g.S.Store.may_hold l.s) (g.S.Store.is_sure l.fn.s) (g.S.Store.is_sure l.s))
    (g.S.Store.is_clean l.fn.s → g.S.Store.is_clean l.s)
    (AreFreshEntries (g.S.Store.state l.fn.s) l.n l.fn.run.first (l.entry - l.fn.run.first) l.fresh) l.fresh (l.entry - l.fn.run.first)

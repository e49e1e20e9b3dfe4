use Rattle.std.proofs.Common.{◌-◌}
use Rattle.edge_base.specs.outside.Below.{SameBelow}
use Rattle.edge_space.specs.Counts.{AreFreshPlaces}
use Rattle.edge_space.proofs.LoopLaws.{CountedSoFar}
use Rattle.edge_space.proofs.nodes.fresh_places.Given as goal

abbrev pub invariant-loop-place : goal.invariant-loop-place
invariant-loop-place g l = CountedSoFar (g.S.Store.state l.fn.s) (g.S.Store.state l.s)
    (g.S.Store.is_clean l.fn.s → SameBelow (g.S.Store.may_hold l.fn.s) (g.S.Store.may_hold l.s) (g.S.Store.is_sure l.fn.s) (g.S.Store.is_sure l.s))
    (g.S.Store.is_clean l.fn.s → g.S.Store.is_clean l.s)
    (AreFreshPlaces (g.S.Store.state l.fn.s) l.fn.at.block l.fn.places.first (l.place - l.fn.places.first) l.fresh) l.fresh (l.place - l.fn.places.first)

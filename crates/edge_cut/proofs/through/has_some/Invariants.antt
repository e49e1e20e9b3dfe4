use Rattle.edge_base.specs.outside.Below.{SameBelow}
use Rattle.edge_cut.proofs.LoopLaws.{SearchedSoFar}
use Rattle.edge_cut.proofs.through.has_some.Given as goal

abbrev pub invariant-loop-place : goal.invariant-loop-place
invariant-loop-place g l = SearchedSoFar (g.S.Store.state l.fn.s) (g.S.Store.state l.s) l.at.form l.at.owner l.at.block l.from l.place
    (g.S.Store.is_clean l.fn.s → SameBelow (g.S.Store.may_hold l.fn.s) (g.S.Store.may_hold l.s) (g.S.Store.is_sure l.fn.s) (g.S.Store.is_sure l.s))
    (g.S.Store.is_clean l.fn.s → g.S.Store.is_clean l.s)

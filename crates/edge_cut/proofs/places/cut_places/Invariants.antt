use Rattle.edge_cut.proofs.LoopLaws.{CutsSoFar}
use Rattle.edge_cut.proofs.places.cut_places.Given as goal

abbrev pub invariant-loop-place : goal.invariant-loop-place
invariant-loop-place g l = CutsSoFar (g.S.Store.state l.fn.s) (g.S.Store.state l.s) l.at.form l.at.owner l.at.block l.top l.from l.place

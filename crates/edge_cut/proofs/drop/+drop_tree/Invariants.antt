use Rattle.edge_cut.proofs.DropLaws.{rank}
use Rattle.edge_cut.proofs.LoopLaws.{Drops}
use Rattle.edge_cut.proofs.drop.+drop_tree.Given as goal

abbrev pub decreases-drop_tree : goal.decreases-drop_tree
decreases-drop_tree g l = rank l.at.form

abbrev pub invariant-loop-place : goal.invariant-loop-place
invariant-loop-place g l = Drops (g.S.Store.state l.fn.s) (g.S.Store.state l.s) l.at.form l.at.owner l.at.block l.top l.place l.hollow_so_far

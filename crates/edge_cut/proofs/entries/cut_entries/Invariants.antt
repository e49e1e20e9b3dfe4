use Rattle.edge_cut.proofs.LoopLaws.{EntriesSoFar}
use Rattle.edge_cut.proofs.entries.cut_entries.Given as goal

abbrev pub invariant-loop-e : goal.invariant-loop-e
invariant-loop-e g l = EntriesSoFar (g.S.Store.state l.fn.s) (g.S.Store.state l.s) l.n l.from l.e

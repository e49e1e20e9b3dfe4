use Rattle.edge_cut.proofs.GoLaws.{on_ok_map}
use Rattle.edge_cut.proofs.through.inner.Goals as goal

pub returns-clause-some : goal.returns-clause-some
returns-clause-some g c = on_ok_map c.sides_of.result (λ some told part there. some told) c.sides_of.ensures.some

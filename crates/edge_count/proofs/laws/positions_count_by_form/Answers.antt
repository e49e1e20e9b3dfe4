use Rattle.edge_moves.proofs.SlotLaws.{some_pointers_fit}
use Rattle.edge_count.proofs.RunLaws.{count_of-forms, run_ranges}
use Rattle.edge_count.proofs.laws.positions_count_by_form.Goals as goal

pub returns-clause-sum : goal.returns-clause-sum
returns-clause-sum c ps n first count test ranges = count_of-forms ps n first count test ranges

pub returns-clause-run : goal.returns-clause-run
returns-clause-run c g n lo len geometry = run_ranges g n lo len (some_pointers_fit g geometry)

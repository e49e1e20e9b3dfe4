use Rattle.edge_plain.proofs.RowLaws.{FilledTo, SameBut}
use Rattle.edge_plain.proofs.rows.fill_row.Given as goal

abbrev pub invariant-loop-i : goal.invariant-loop-i
invariant-loop-i g l = record { here : FilledTo l.size l.rows l.at l.value l.i; others : SameBut l.size l.fn.rows l.rows l.at }

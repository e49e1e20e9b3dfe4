use Rattle.edge_plain.specs.Kept.{row}
use Rattle.edge_plain.proofs.RowLaws.{CopiedTo, SameBut}
use Rattle.edge_plain.proofs.rows.copy_row.Given as goal

abbrev pub invariant-loop-i : goal.invariant-loop-i
invariant-loop-i g l = record { here : CopiedTo l.size l.rows l.to (row l.size l.fn.rows l.from) l.i; others : SameBut l.size l.fn.rows l.rows l.to }

use Rattle.std.proofs.Common.{◌≡◌, arith}
use Rattle.edge_plain.proofs.RowLaws.{filled_more, filled_all, same_but_more}
use Rattle.edge_plain.proofs.rows.fill_row.Goals as goal

pub loop-i-preserved : goal.loop-i-preserved
loop-i-preserved g c = record {
  here = filled_more c.args.size c.loop-i.rows c.args.at c.loop-i.i c.args.value (omega arith) (omega arith) c.loop-i.invariant.here;
  others = same_but_more c.args.size c.loop-i.rows c.args.at c.loop-i.i c.args.value (omega arith) (omega arith) _ c.loop-i.invariant.others;
}

pub returns-clause-here : goal.returns-clause-here
returns-clause-here g c =
    let all : c.loop-i.i ≡ c.args.size = omega arith in
    filled_all c.args.size c.loop-i.rows c.args.at c.args.value (omega arith) (λ j d low. c.loop-i.invariant.here j d (omega arith))

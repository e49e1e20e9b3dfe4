use Rattle.std.proofs.Common.{◌∙◌, ◌+◌, ◌*◌, ◌<◌, length, get_or, sym, ap, arith}
use Rattle.std.proofs.lemmas.List.{get_or_default}
use Rattle.edge_plain.specs.Kept.{row}
use Rattle.edge_plain.proofs.RowLaws.{copied_more, copied_all, same_but_more, row-get, length-row}
use Rattle.edge_plain.proofs.rows.copy_row.Goals as goal

pub loop-i-preserved : goal.loop-i-preserved
loop-i-preserved g c =
    let inv = c.loop-i.invariant in
    let size = c.args.size in
    let i = c.loop-i.i in
    let read = c.index-rows-from in
    let low : c.args.from * size + i < length c.loop-i.rows = omega (arith, c.requires.from) in
    record {
      here = copied_more size c.loop-i.rows c.args.to i read.result (omega arith) (omega arith) (row size c.args.rows.now c.args.from)
          (λ d. read.is ∙ get_or_default c.loop-i.rows (c.args.from * size + i) read.result d low ∙ sym (row-get size c.loop-i.rows c.args.from i d (omega arith)) ∙ ap (λ l. get_or l i d) (inv.others c.args.from c.requires.apart)) inv.here;
      others = same_but_more size c.loop-i.rows c.args.to i read.result (omega arith) (omega arith) _ inv.others;
    }

pub returns-clause-here : goal.returns-clause-here
returns-clause-here g c =
    copied_all c.args.size c.loop-i.rows c.args.to _ (omega arith) (length-row _ _ _ c.requires.from) (λ j d low. c.loop-i.invariant.here j d (omega arith))

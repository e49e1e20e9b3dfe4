use Rattle.std.proofs.Common.{ℕ, ◌+◌, ◌*◌, drop, Option, sym, ap, ◌∙◌, arith}
use Rattle.edge_script.specs.Bytes.{pairs_in, onto}
use Rattle.edge_script.proofs.CodeLaws.{in_front_none, one_more, next_pair}
use Rattle.edge_script.proofs.hexadecimal.read_pairs.Goals as goal

pub loop-i-init : goal.loop-i-init
loop-i-init c = in_front_none (pairs_in c.args.word.now)

pub loop-i-preserved : goal.loop-i-preserved
loop-i-preserved c =
    let word = c.args.word.now in
    let i = c.loop-i.i in
    one_more (pairs_in word) c.loop-i.out i c.in-Some.b (pairs_in (drop (2 * i) word)) (pairs_in (drop (2 * (i + 1)) word)) (omega arith) c.loop-i.invariant
    (next_pair word i (omega arith) ∙ ap (λ (o : Option ℕ). onto o (pairs_in (drop (2 * (i + 1)) word))) (sym c.read_pair.ensures ∙ c.in-Some.is))

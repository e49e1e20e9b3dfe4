use Rattle.std.proofs.Common.{◌∙◌, ◌+◌, ◌<◌, ◌^◌, ℕ, ap, sym, arith}
use Rattle.std.specs.Prelude.{bit_and, count_ones}
use Rattle.std.proofs.lemmas.Nat.{and_le_l}
use Rattle.edge_bits.proofs.WordLaws.{HasBits-and, count-word, count-word-fits}
use Rattle.edge_imap.specs.Inodes.{is_clear_pair}
use Rattle.edge_imap.proofs.pairs.count_clear_pairs.Goals as goal

pub overflow_add-total : goal.overflow_add-total
overflow_add-total c =
    let fits : bit_and c.clear_pairs.result c.within.result < 2 ^ 64 = omega (arith, and_le_l c.clear_pairs.result c.within.result) in
    omega (arith, c.loop-w.invariant, count-word-fits (is_clear_pair c.args.bits.now) 0 c.args.end c.loop-w.w (bit_and c.clear_pairs.result c.within.result) fits (HasBits-and c.clear_pairs.ensures c.within.ensures))

pub loop-w-preserved : goal.loop-w-preserved
loop-w-preserved c =
    let fits : bit_and c.clear_pairs.result c.within.result < 2 ^ 64 = omega (arith, and_le_l c.clear_pairs.result c.within.result) in
    ap (λ (n : ℕ). n + count_ones (bit_and c.clear_pairs.result c.within.result)) c.loop-w.invariant
    ∙ sym (count-word (is_clear_pair c.args.bits.now) 0 c.args.end c.loop-w.w (bit_and c.clear_pairs.result c.within.result) fits (HasBits-and c.clear_pairs.ensures c.within.ensures))

use Rattle.std.proofs.Common.{◌<◌, ◌^◌, arith}
use Rattle.std.specs.Prelude.{bit_and}
use Rattle.std.proofs.lemmas.Nat.{and_le_l}
use Rattle.edge_bits.proofs.WordLaws.{HasBits-and, lowest_bit, least_found, none_more}
use Rattle.edge_imap.specs.Inodes.{is_clear_pair}
use Rattle.edge_imap.proofs.pairs.first_clear_pair.Goals as goal

pub returns-then-pairs-ne0-clause-found : goal.returns-then-pairs-ne0-clause-found
returns-then-pairs-ne0-clause-found c =
    let fits : bit_and c.clear_pairs.result c.within.result < 2 ^ 64 = omega (arith, and_le_l c.clear_pairs.result c.within.result) in
    least_found (is_clear_pair c.args.bits.now) 0 c.args.end c.loop-w.w _
    (lowest_bit (HasBits-and c.clear_pairs.ensures c.within.ensures) (omega (arith, c.if-pairs-ne0.true)) fits)
    c.loop-w.invariant

pub loop-w-preserved : goal.loop-w-preserved
loop-w-preserved c =
    none_more (is_clear_pair c.args.bits.now) 0 c.args.end c.loop-w.w (bit_and c.clear_pairs.result c.within.result)
    (HasBits-and c.clear_pairs.ensures c.within.ensures) c.if-pairs-ne0.false c.loop-w.invariant

use Rattle.std.proofs.Common.{◌<◌, ◌^◌, arith, w64}
use Rattle.std.specs.Prelude.{bit_and}
use Rattle.std.specs.Int.{bit_not}
use Rattle.std.proofs.lemmas.Nat.{and_le_l}
use Rattle.edge_bits.specs.Bits.{is_clear}
use Rattle.edge_bits.proofs.WordLaws.{HasBits-and, HasBits-not, lowest_bit, least_found, none_more}
use Rattle.edge_bits.proofs.first_zero_from.Goals as goal

pub returns-then-clear-ne0-clause-found : goal.returns-then-clear-ne0-clause-found
returns-then-clear-ne0-clause-found c =
    let clear = bit_and (bit_not w64 c.word_at.result) c.within.result in
    let fits : clear < 2 ^ 64 = omega (arith, and_le_l (bit_not w64 c.word_at.result) c.within.result) in
    least_found (is_clear c.args.bytes.now) c.args.from c.args.len c.loop-w.w _
    (lowest_bit (HasBits-and (HasBits-not c.word_at.type_inv c.word_at.ensures) c.within.ensures) (omega (arith, c.if-clear-ne0.true)) fits)
    c.loop-w.invariant

pub loop-w-preserved : goal.loop-w-preserved
loop-w-preserved c =
    none_more (is_clear c.args.bytes.now) c.args.from c.args.len c.loop-w.w (bit_and (bit_not w64 c.word_at.result) c.within.result)
    (HasBits-and (HasBits-not c.word_at.type_inv c.word_at.ensures) c.within.ensures) c.if-clear-ne0.false c.loop-w.invariant

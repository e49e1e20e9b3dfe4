use Rattle.std.proofs.Common.{◌<◌, ◌^◌, ◌+◌, ◌*◌, ℕ, subst, arith, w64}
use Rattle.std.specs.Prelude.{bit_and}
use Rattle.std.specs.Int.{bit_not, trailing_zeros}
use Rattle.std.proofs.lemmas.Nat.{and_le_r}
use Rattle.edge_bits.specs.Bits.{IsLeast}
use Rattle.edge_alloc.specs.Pairs.{is_free}
use Rattle.edge_bits.proofs.WordLaws.{HasBits-and, HasBits-not, lowest_bit, least_found, none_more}
use Rattle.edge_alloc.proofs.free_in.Goals as goal

pub returns-then-free-ne0-clause-found : goal.returns-then-free-ne0-clause-found
returns-then-free-ne0-clause-found c =
    let clear = bit_and (bit_not w64 c.word_at.result) (bit_not w64 c.word_at-in-loop-word.result) in
    let fits : bit_and clear c.within.result < 2 ^ 64 = omega (arith, and_le_r clear c.within.result, c.within.type_inv) in
    subst (λ (from : ℕ). IsLeast (is_free c.args.committed.now c.args.working.now) from (c.args.w.first + c.args.w.len) (64 * c.loop-word.word + trailing_zeros w64 (bit_and clear c.within.result)))
    c.max-start.ensures
    (least_found (is_free c.args.committed.now c.args.working.now) _ _ c.loop-word.word _
    (lowest_bit (HasBits-and (HasBits-and (HasBits-not c.word_at.type_inv c.word_at.ensures) (HasBits-not c.word_at-in-loop-word.type_inv c.word_at-in-loop-word.ensures)) c.within.ensures)
    (omega (arith, c.if-free-ne0.true)) fits)
    c.loop-word.invariant)

pub loop-word-preserved : goal.loop-word-preserved
loop-word-preserved c =
    none_more (is_free c.args.committed.now c.args.working.now) _ _ c.loop-word.word _
    (HasBits-and (HasBits-and (HasBits-not c.word_at.type_inv c.word_at.ensures) (HasBits-not c.word_at-in-loop-word.type_inv c.word_at-in-loop-word.ensures)) c.within.ensures)
    c.if-free-ne0.false c.loop-word.invariant

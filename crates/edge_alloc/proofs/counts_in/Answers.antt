use Rattle.std.proofs.Common.{◌≡◌, ◌∙◌, ◌<◌, ◌≤◌, ◌^◌, ◌+◌, ◌*◌, ◌-◌, Bool, ℕ, min, ap, sym, arith}
use Rattle.std.specs.Prelude.{bit_and}
use Rattle.std.specs.Int.RustNames.{count_ones}
use Rattle.std.specs.List.{count_by, range_with_len}
use Rattle.std.proofs.lemmas.Nat.{and_le_r}
use Rattle.edge_bits.specs.Bits.{HasBits, is_within}
use Rattle.edge_bits.proofs.WordLaws.{HasBits-and, HasBits-not, count-word, count-word-fits}
use Rattle.edge_alloc.specs.Pairs.{is_free, is_almost_free}
use Rattle.edge_alloc.proofs.counts_in.Goals as goal

-- the ones of a word, masked, are counted next
module _ (test : ℕ → Bool) (from end w m n count : ℕ) (counted : count ≡ count_by test (range_with_len from (min (64 * w) end - from)))
    (has : HasBits test w m) (mask : HasBits (is_within from end) w n) (fits : n < 2 ^ 64) where
  small : bit_and m n < 2 ^ 64
  small = omega (arith, and_le_r m n)

  next : count + count_ones (bit_and m n) ≡ count_by test (range_with_len from (min (64 * (w + 1)) end - from))
  next = ap (λ (k : ℕ). k + count_ones (bit_and m n)) counted ∙ sym (count-word test from end w (bit_and m n) small (HasBits-and has mask))

  few : count + count_ones (bit_and m n) ≤ end
  few = omega (arith, counted, count-word-fits test from end w (bit_and m n) small (HasBits-and has mask))

pub overflow_add-counts : goal.overflow_add-counts
overflow_add-counts c = omega (
  arith,
  c.requires.small,
  few (is_free c.args.committed.now c.args.working.now) _ _ _ _ _ _ c.loop-word.invariant.free
      (HasBits-and (HasBits-not c.word_at-old.type_inv c.word_at-old.ensures) (HasBits-not c.word_at-new.type_inv c.word_at-new.ensures)) c.within-inside.ensures c.within-inside.type_inv,
)

pub overflow_add-counts-in-loop-word : goal.overflow_add-counts-in-loop-word
overflow_add-counts-in-loop-word c = omega (
  arith,
  c.requires.small,
  few (is_almost_free c.args.committed.now c.args.working.now) _ _ _ _ _ _ c.loop-word.invariant.almost
      (HasBits-and c.word_at-old.ensures (HasBits-not c.word_at-new.type_inv c.word_at-new.ensures)) c.within-inside.ensures c.within-inside.type_inv,
)

pub loop-word-preserved : goal.loop-word-preserved
loop-word-preserved c = record {
  free = next (is_free c.args.committed.now c.args.working.now) _ _ _ _ _ _ c.loop-word.invariant.free
      (HasBits-and (HasBits-not c.word_at-old.type_inv c.word_at-old.ensures) (HasBits-not c.word_at-new.type_inv c.word_at-new.ensures)) c.within-inside.ensures c.within-inside.type_inv;
  almost = next (is_almost_free c.args.committed.now c.args.working.now) _ _ _ _ _ _ c.loop-word.invariant.almost
      (HasBits-and c.word_at-old.ensures (HasBits-not c.word_at-new.type_inv c.word_at-new.ensures)) c.within-inside.ensures c.within-inside.type_inv;
}

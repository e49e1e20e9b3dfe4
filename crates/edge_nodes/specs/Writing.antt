-- What a write into a block leaves as it was.
use Rattle.std.specs.Prelude.{◌≡◌, ℕ, ◌+◌, ◌≤◌, List, take, drop}
use Rattle.edge_base.specs.layout.Bytes.{number_at, signature_in}
use Rattle.edge_base.specs.layout.Word.{check_word_of}

-- Only bytes between two places changed: the lists before and behind them are the old ones, and so is what is read there.
pub record ChangesOnly (from to : ℕ) (old new : List ℕ) : Type 0 where
  pub front : (k : ℕ) → k ≤ from → take k new ≡ take k old
  pub back : (k : ℕ) → to ≤ k → drop k new ≡ drop k old
  pub before : (i n : ℕ) → i + n ≤ from → number_at i n new ≡ number_at i n old
  pub behind : (i n : ℕ) → to ≤ i → number_at i n new ≡ number_at i n old
  pub signature : 4 ≤ from → signature_in new ≡ signature_in old

-- The check word is put right, and nothing else changed.
pub record IsSealed (old new : List ℕ) : Type 0 where
  pub word : number_at 4 4 new ≡ check_word_of (drop 8 new)
  pub front : take 4 new ≡ take 4 old
  pub back : drop 8 new ≡ drop 8 old

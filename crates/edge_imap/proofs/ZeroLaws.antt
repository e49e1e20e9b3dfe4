-- Zeros have no bit that is set.
use Rattle.std.proofs.Common.{◌≡◌, inl, inr, ℕ, ◌+◌, ◌/◌, ◌%◌, ◌==◌, false, List, length, replicate, get_or, ap, ◌∙◌, arith}
use Rattle.std.specs.Int.{bit_at}
use Rattle.std.proofs.lemmas.Bool.{cases_lt}
use Rattle.std.proofs.lemmas.List.{get_or-replicate, get_or_past, length-replicate}
use Rattle.std.proofs.lemmas.Nat.Bits.{bit_at-zero}
use Rattle.edge_base.specs.layout.Bytes.{bit_in}
use Rattle.edge_imap.proofs.BitLaws.{bit_is}

abbrev pub zeros : ℕ → List ℕ
zeros n = replicate n 0

zero_read : (n k : ℕ) → get_or (zeros n) k 0 ≡ 0
zero_read n k = elim (cases_lt k n) [
  | inl low ↦ get_or-replicate {A = ℕ} n k 0 0 low
  | inr high ↦
      let len : length (zeros n) ≡ n = length-replicate {A = ℕ} n 0 in
      get_or_past (zeros n) k 0 (omega (arith, len, high))
]

pub zero_bits : (n i : ℕ) → bit_in 0 (zeros n) i ≡ false
zero_bits n i = bit_is 0 (zeros n) i ∙ ap (λ (y : ℕ). bit_at y (i % 8) == 1) (zero_read n (0 + i / 8)) ∙ ap (λ (y : ℕ). y == 1) (bit_at-zero (i % 8))

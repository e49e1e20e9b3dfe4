-- A bit of a list of bytes of which one was changed.
use Rattle.std.proofs.Common.{◌≡◌, ◌≢◌, inl, inr, ℕ, ◌/◌, ◌%◌, ◌<◌, ◌==◌, List, length, set, get_or, sym, ap, ◌∙◌, arith, zero-add}
use Rattle.std.specs.Prelude.{slice_index}
use Rattle.std.specs.Int.{bit_at}
use Rattle.std.proofs.lemmas.Bool.{cases_eq}
use Rattle.std.proofs.lemmas.List.{get_or-set_same, get_or-set_other}
use Rattle.edge_base.specs.layout.Bytes.{bit_in}

bit_zero : (b : List ℕ) (i : ℕ) → bit_in 0 b i ≡ (bit_at (slice_index b (i / 8)) (i % 8) == 1)
unfolding bit_in
bit_zero b i = ap (λ (n : ℕ). bit_at (slice_index b n) (i % 8) == 1) (zero-add (i / 8))

pub bit_set : (bytes : List ℕ) (i k byte : ℕ) → i / 8 < length bytes → ((j : ℕ) → j < 8 → j ≢ i % 8 → bit_at byte j ≡ bit_at (slice_index bytes (i / 8)) j) → k ≢ i
    → bit_in 0 (set bytes (i / 8) byte) k ≡ bit_in 0 bytes k
bit_set bytes i k byte inside same far = bit_zero (set bytes (i / 8) byte) k ∙ elim (cases_eq (k / 8) (i / 8)) [
  | inl e ↦
      let other : k % 8 ≢ i % 8 = λ f. far (omega (arith, e, f)) in
      ap (λ (x : ℕ). bit_at x (k % 8) == 1) (ap (λ (n : ℕ). get_or (set bytes (i / 8) byte) n 0) e ∙ get_or-set_same bytes (i / 8) byte 0 inside)
      ∙ ap (λ (x : ℕ). x == 1) (same (k % 8) (omega arith) other ∙ ap (λ (n : ℕ). bit_at (get_or bytes n 0) (k % 8)) (sym e))
  | inr off ↦ ap (λ (x : ℕ). bit_at x (k % 8) == 1) (get_or-set_other bytes (i / 8) (k / 8) byte 0 off)
] ∙ sym (bit_zero bytes k)

pub bit_here : (bytes : List ℕ) (i byte : ℕ) → i / 8 < length bytes → bit_in 0 (set bytes (i / 8) byte) i ≡ (bit_at byte (i % 8) == 1)
bit_here bytes i byte inside = bit_zero (set bytes (i / 8) byte) i ∙ ap (λ (x : ℕ). bit_at x (i % 8) == 1) (get_or-set_same bytes (i / 8) byte 0 inside)

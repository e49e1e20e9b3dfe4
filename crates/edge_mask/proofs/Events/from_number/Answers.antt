use Rattle.std.proofs.Common.{◌≡◌, ◌≢◌, ◌∙◌, ◌<◌, ◌≤◌, ◌%◌, ◌^◌, inl, inr, ℕ, arith, bit_and}
use Rattle.std.specs.Option.{is_some}
use Rattle.std.proofs.lemmas.Bool.{cases_lt, both_ways}
use Rattle.std.proofs.lemmas.Nat.{and_mask}
use Rattle.bitflags.proofs.OnLiterals.{bitflags_on_literals}
use Rattle.edge_mask.proofs.Events.from_number.Goals as goal

known : (n : ℕ) → n ≤ 2047 → bit_and n 2047 ≡ n
known n le = let low : n % 2 ^ 11 ≡ n = omega arith in and_mask n 11 ∙ low

unknown : (n : ℕ) → 2047 < n → bit_and n 2047 ≢ n
unknown n above = λ e. omega (arith, and_mask n 11)

pub returns-clause-above : goal.returns-clause-above
unfolding bitflags_on_literals
returns-clause-above c = (
  λ none. elim (cases_lt 2047 c.args.n) [
    | inl above ↦ above
    | inr le ↦ absurd (both_ways (is_some c.from_bits.result) none ((c.from_bits.ensures.known tt).1 (known c.args.n le)))
  ],
  λ above. c.from_bits.ensures.unknown tt (unknown c.args.n above),
)

-- A word spells a number exactly where it is read as it.
use Rattle.std.proofs.Common.{◌≡◌, ℕ, ◌+◌, ◌-◌, ◌*◌, ◌^◌, ◌<◌, ◌≤◌, Bool, true, false, ◌&&◌, cond, eqb, List, [], ◌∷◌, ◌++◌, length, get_or, Option, Some, None, refl, sym, ap, ◌∙◌, arith, rules}
use Rattle.std.specs.Char.{is_ascii_digit}
use Rattle.std.specs.Fmt.{decimal}
use Rattle.std.specs.Prelude.{nat_le, not, option_and_then}
use Rattle.std.specs.Str.{all_ascii_digits}
use Rattle.std.proofs.lemmas.Bool.Decides.{nat_tests}
use Rattle.std.proofs.lemmas.Fmt.{digits_decimal, digits_value-decimal, decimal-digits_value, decimal_digit, first_decimal}
use Rattle.std.proofs.lemmas.Str.Parse.{IsNumeralModel, numerals_by_fold}
use Rattle.edge_script.proofs.Tests.{and_parts, chosen, le_of, of_le}
use Rattle.edge_script.specs.Numbers.{Word, SpellsWithin, value_behind, value_of, is_decimal, number_in, greatest_u64, is_padded, read_on}
use Rattle.edge_script.specs.Reading.{split_at_space, behind_byte}

own : IsNumeralModel (λ ds. all_ascii_digits ds ≡ true) value_of
own = numerals_by_fold _ (search rules) value_behind (search rules)

-- ---- tests

-- ---- digits

record IsDigits (word : Word) : Type 0 where
  all : all_ascii_digits word ≡ true
  some : 0 < length word
  alone : get_or word 0 0 ≡ 48 → length word ≡ 1

digits_of : (word : Word) → is_decimal word ≡ true → IsDigits word
digits_of [] e = absurd (cc)
digits_of (b ∷ []) e = record { all = ap (λ t. t && true) e; some = omega arith; alone = λ _. refl }
digits_of (b ∷ c ∷ word) e =
    let parts = and_parts (not (eqb b 48)) (all_ascii_digits (b ∷ c ∷ word)) e in
    record { all = parts.1; some = omega arith; alone = λ is. absurd (not_zero b is parts.0) }
  where
    not_zero : (b : ℕ) → b ≡ 48 → not (eqb b 48) ≡ true → ⊥
    not_zero b is e = grind (arith, nat_tests)

decimal_of : (word : Word) → all_ascii_digits word ≡ true → 48 < get_or word 0 0 → is_decimal word ≡ true
decimal_of [] e h = absurd (omega arith)
decimal_of (b ∷ []) e h = (and_parts (is_ascii_digit b) true e).0
decimal_of (b ∷ c ∷ word) e h = ap (λ t. t && all_ascii_digits (b ∷ c ∷ word)) (other b h) ∙ e
  where
    other : (b : ℕ) → 48 < b → not (eqb b 48) ≡ true
    other b h = grind (arith, nat_tests)

-- ---- spelled and read

pub number_spelled : {least most : ℕ} {word : Word} {n : ℕ} → most ≤ greatest_u64 → number_in least most word ≡ Some n → SpellsWithin least most word n
number_spelled {least} {most} {word} {n} small e =
    let c = chosen (is_decimal word && nat_le least (value_of word) && nat_le (value_of word) most) (value_of word) n e in
    let outer = and_parts (is_decimal word && nat_le least (value_of word)) (nat_le (value_of word) most) c.0 in
    let inner = and_parts (is_decimal word) (nat_le least (value_of word)) outer.0 in
    let d = digits_of word inner.0 in
    let low : least ≤ value_of word = le_of _ _ inner.1 in
    let high : value_of word ≤ most = le_of _ _ outer.1 in
    let same : value_of word ≡ n = c.1 in
    record {
      digits = sym (decimal-digits_value own word d.all d.some d.alone (omega arith)) ∙ ap decimal same;
      from = omega arith;
      to = omega arith;
    }

decimal_is : (n : ℕ) → n < 2 ^ 64 → is_decimal (decimal n) ≡ true
decimal_is n small = by_zero (eqb n 0) refl
  where
    zero_is : (b : Bool) → eqb n 0 ≡ b → b ≡ true → n ≡ 0
    zero_is b is e = grind (arith, nat_tests)

    above : (b : Bool) → eqb n 0 ≡ b → b ≡ false → 0 < n
    above b is e = grind (arith, nat_tests)

    by_zero : (b : Bool) → eqb n 0 ≡ b → is_decimal (decimal n) ≡ true
    by_zero true is = ap (λ (m : ℕ). is_decimal (decimal m)) (zero_is true is refl) ∙ ap is_decimal (decimal_digit 0 (omega arith))
    by_zero false is = decimal_of (decimal n) (digits_decimal own n small) (first_decimal n (above false is refl) small)

pub number_read : {least most : ℕ} {word : Word} {n : ℕ} → most ≤ greatest_u64 → SpellsWithin least most word n → number_in least most word ≡ Some n
number_read {least} {most} {word} {n} small spells =
    let h : n < 2 ^ 64 = let a = spells.to in omega arith in
    let value : value_of word ≡ n = ap value_of spells.digits ∙ digits_value-decimal own n h in
    let is : is_decimal word ≡ true = ap is_decimal spells.digits ∙ decimal_is n h in
    let low : nat_le least (value_of word) ≡ true = ap (nat_le least) value ∙ of_le least n spells.from in
    let high : nat_le (value_of word) most ≡ true = ap (λ (m : ℕ). nat_le m most) value ∙ of_le n most spells.to in
    (λ i. cond (is i && low i && high i) (Some (value_of word)) None) ∙ ap Some value

-- ---- one digit after another

grows : (word : Word) (n : ℕ) → n ≤ value_behind n word
grows [] n = omega arith
grows (b ∷ word) n =
    let more = grows word (10 * n + (b - 48)) in
    omega arith

abbrev read_whole : ℕ → Word → Option ℕ
read_whole n word = cond (all_ascii_digits word && nat_le (value_behind n word) greatest_u64) (Some (value_behind n word)) None

too_much : (b : Bool) (a c : ℕ) → c < a → b && nat_le a c ≡ false
too_much true a c h = grind (arith, nat_tests)
too_much false a c h = refl

above_of : (a b : ℕ) → nat_le a b ≡ false → b < a
above_of a b e = grind (arith, nat_tests)

pub read_on_is : (word : Word) (n : ℕ) → n ≤ greatest_u64 → read_on n word ≡ read_whole n word
read_on_is [] n small = sym (ap (λ b. cond b (Some n) None) (of_le n greatest_u64 small))
read_on_is (b ∷ word) n small = by_digit (λ h. read_on_is word (10 * n + (b - 48)) h) (is_ascii_digit b) refl (nat_le (10 * n + (b - 48)) greatest_u64) refl
  where
    no_more : (d : Bool) → is_ascii_digit b ≡ d → d ≡ false → read_on n (b ∷ word) ≡ None
    no_more d is none = ap
        (λ t. option_and_then (λ m. read_on m word) (cond (t && nat_le (10 * n + (b - 48)) greatest_u64) (Some (10 * n + (b - 48))) None)) (is ∙ none)

    by_digit : (10 * n + (b - 48) ≤ greatest_u64 → read_on (10 * n + (b - 48)) word ≡ read_whole (10 * n + (b - 48)) word)
        → (d : Bool) → is_ascii_digit b ≡ d → (f : Bool) → nat_le (10 * n + (b - 48)) greatest_u64 ≡ f → read_on n (b ∷ word) ≡ read_whole n (b ∷ word)
    by_digit rest false is f fits = no_more false is refl
        ∙ sym (ap (λ t. cond ((t && all_ascii_digits word) && nat_le (value_behind (10 * n + (b - 48)) word) greatest_u64)
        (Some (value_behind (10 * n + (b - 48)) word)) None) is)
    by_digit rest true is false fits =
        let more : 10 * n + (b - 48) ≤ value_behind (10 * n + (b - 48)) word = grows word (10 * n + (b - 48)) in
        let above : greatest_u64 < 10 * n + (b - 48) = above_of _ _ fits in
        (λ i. option_and_then (λ m. read_on m word) (cond (is i && fits i) (Some (10 * n + (b - 48))) None))
        ∙ sym (ap (λ t. cond t (Some (value_behind (10 * n + (b - 48)) word)) None)
        (too_much (is_ascii_digit b && all_ascii_digits word) _ greatest_u64 (omega arith)))
    by_digit rest true is true fits =
        (λ i. option_and_then (λ m. read_on m word) (cond (is i && fits i) (Some (10 * n + (b - 48))) None))
        ∙ rest (le_of _ _ fits)
        ∙ sym (ap (λ t. cond ((t && all_ascii_digits word) && nat_le (value_behind (10 * n + (b - 48)) word) greatest_u64)
        (Some (value_behind (10 * n + (b - 48)) word)) None) is)

-- ---- the space behind a number

digit_no_space : (b : ℕ) → is_ascii_digit b ≡ true → eqb b 32 ≡ false
digit_no_space b h = grind (arith, nat_tests)

pub digits_end : (word : Word) → all_ascii_digits word ≡ true → (rest : List ℕ) → split_at_space (word ++ 32 ∷ rest) ≡ Some (word, rest)
digits_end [] e rest = refl
digits_end (b ∷ word) e rest =
    let parts = and_parts (is_ascii_digit b) (all_ascii_digits word) e in
    ap (λ t. cond t (Some ([], word ++ 32 ∷ rest)) (behind_byte b (split_at_space (word ++ 32 ∷ rest)))) (digit_no_space b parts.0)
    ∙ ap (behind_byte b) (digits_end word parts.1 rest)

pub number_ends : {least most : ℕ} {word : Word} {n : ℕ} → most ≤ greatest_u64 → SpellsWithin least most word n → (rest : List ℕ)
    → split_at_space (word ++ 32 ∷ rest) ≡ Some (word, rest)
number_ends {least} {most} {word} {n} small spells rest =
    let h : n < 2 ^ 64 = let a = spells.to in omega arith in
    digits_end word (ap all_ascii_digits spells.digits ∙ digits_decimal own n h) rest

-- ---- the code's way

padded_is : (word : Word) → is_padded word ≡ true → is_decimal word ≡ false
padded_is [] e = refl
padded_is (b ∷ []) e = absurd (cc)
padded_is (b ∷ c ∷ word) e = ap (λ t. not t && all_ascii_digits (b ∷ c ∷ word)) e

unpadded_is : (word : Word) → is_padded word ≡ false → is_decimal word ≡ all_ascii_digits word
unpadded_is [] e = absurd (cc)
unpadded_is (b ∷ []) e = go (is_ascii_digit b)
  where
    go : (t : Bool) → t ≡ (t && true)
    go true = refl
    go false = refl
unpadded_is (b ∷ c ∷ word) e = ap (λ t. not t && all_ascii_digits (b ∷ c ∷ word)) e

pub number_padded : (word : Word) → is_padded word ≡ true → number_in 0 greatest_u64 word ≡ None
number_padded word e = ap (λ t. cond ((t && nat_le 0 (value_of word)) && nat_le (value_of word) greatest_u64) (Some (value_of word)) None) (padded_is word e)

from_zero : (t : Bool) (n : ℕ) → (t && nat_le 0 n) ≡ t
from_zero t n = grind (arith, nat_tests)

pub number_unpadded : (word : Word) → is_padded word ≡ false → read_on 0 word ≡ number_in 0 greatest_u64 word
number_unpadded word e =
    read_on_is word 0 (omega arith)
    ∙ sym (ap (λ t. cond (t && nat_le (value_of word) greatest_u64) (Some (value_of word)) None) (from_zero (is_decimal word) (value_of word)
    ∙ unpadded_is word e))

pub refuses : (word : Word) (least most n : ℕ) → most ≤ greatest_u64 → number_in least most word ≡ None → SpellsWithin least most word n → ⊥
refuses word least most n small none spells = apart n (sym (number_read small spells) ∙ none)
  where
    apart : (n : ℕ) → Some n ≡ None → ⊥
    apart n e = cc

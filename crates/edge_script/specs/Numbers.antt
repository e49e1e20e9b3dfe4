-- Decimal numbers, as words of a script.
use Rattle.std.specs.Prelude.{◌≡◌, ◌≤◌, ℕ, ◌+◌, ◌-◌, ◌*◌, ◌==◌, ◌&&◌, not, Bool, true, false, nat_le, if◌then◌else◌, List, [], ◌∷◌, decimal, Option, Some, None, option_and_then}
use Rattle.std.specs.Char.{is_ascii_digit}
use Rattle.std.specs.Str.{all_ascii_digits}

-- a word is its bytes
abbrev pub Word : Type 0
Word = List ℕ

-- A word spells a number within bounds: it is the number's decimal digits, with no sign and no zero in front.
pub record SpellsWithin (least most : ℕ) (word : Word) (n : ℕ) : Type 0 where
  pub digits : word ≡ decimal n
  pub from : least ≤ n
  pub to : n ≤ most

-- the greatest descriptor, and the greatest mask that a word spells: those of 32 bits
abbrev pub greatest_u32 : ℕ
greatest_u32 = 4_294_967_295

-- the greatest position, and the greatest size: those of 64 bits
abbrev pub greatest_u64 : ℕ
greatest_u64 = 18_446_744_073_709_551_615

-- the most bytes of one read, and of one fill
abbrev pub most_read : ℕ
most_read = 4096

abbrev pub most_filled : ℕ
most_filled = 65536

-- ---- the number that a word spells

-- the value of digits, behind a value
abbrev pub value_behind : ℕ → Word → ℕ
value_behind n [] = n
value_behind n (b ∷ word) = value_behind (10 * n + (b - 48)) word

abbrev pub value_of : Word → ℕ
value_of word = value_behind 0 word

-- digits, and none of them a zero in front of others
abbrev pub is_decimal : Word → Bool
is_decimal [] = false
is_decimal (b ∷ []) = is_ascii_digit b
is_decimal (b ∷ c ∷ word) = not (b == 48) && all_ascii_digits (b ∷ c ∷ word)

abbrev pub number_in : ℕ → ℕ → Word → Option ℕ
number_in least most word = if is_decimal word && nat_le least (value_of word) && nat_le (value_of word) most then Some (value_of word) else None

-- ---- digit after digit

-- no digit, or a zero in front of others
abbrev pub is_padded : Word → Bool
is_padded [] = true
is_padded (b ∷ []) = false
is_padded (b ∷ c ∷ word) = b == 48

-- a digit behind a number that stays within 64 bits
abbrev pub with_digit : ℕ → ℕ → Option ℕ
with_digit n b = if is_ascii_digit b && nat_le (10 * n + (b - 48)) greatest_u64 then Some (10 * n + (b - 48)) else None

-- the number that digits make behind a number
abbrev pub read_on : ℕ → Word → Option ℕ
read_on n [] = Some n
read_on n (b ∷ word) = option_and_then (λ m. read_on m word) (with_digit n b)

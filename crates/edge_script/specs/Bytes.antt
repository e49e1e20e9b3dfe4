-- Bytes, as words of a script: paths and hexadecimal digits.
use Rattle.std.specs.Prelude.{◌≡◌, ◌≢◌, ◌≤◌, ℕ, ◌+◌, ◌-◌, ◌*◌, ◌/◌, ◌%◌, ◌==◌, ◌&&◌, not, Bool, IsTrue, nat_le, nat_lt, if◌then◌else◌, List, [], ◌∷◌, ◌++◌, length, flat_map, Option, Some, None}
use Rattle.edge_script.specs.Numbers.{Word, most_read}

-- ---- digits

-- the value of a hexadecimal digit of either case: `0` to `9`, `A` to `F`, `a` to `f`
abbrev pub digit_value : ℕ → Option ℕ
digit_value b =
    if nat_le 48 b && nat_le b 57 then Some (b - 48)
    else if nat_le 65 b && nat_le b 70 then Some (b - 55)
    else if nat_le 97 b && nat_le b 102 then Some (b - 87)
    else None

abbrev pub joined : Option ℕ → Option ℕ → Option ℕ
joined None low = None
joined (Some high) None = None
joined (Some high) (Some low) = Some (16 * high + low)

-- the byte of two digits, the high one first
abbrev pub pair_value : ℕ → ℕ → Option ℕ
pair_value high low = joined (digit_value high) (digit_value low)

-- A word is pairs of digits, and spells their bytes.
pub data SpellsPairs : Word → List ℕ → Type 0 where
  no_pair : SpellsPairs [] []
  pair : {word bytes : List ℕ} (high low b : ℕ) → pair_value high low ≡ Some b → SpellsPairs word bytes → SpellsPairs (high ∷ low ∷ word) (b ∷ bytes)

-- A word spells 1 to 4,096 bytes in hexadecimal digits.
pub record SpellsHex (word : Word) (bytes : List ℕ) : Type 0 where
  pub pairs : SpellsPairs word bytes
  pub some : 1 ≤ length bytes
  pub few : length bytes ≤ most_read

-- A word spells one byte in two digits.
abbrev pub SpellsByte : Word → ℕ → Type 0
SpellsByte word b = SpellsPairs word (b ∷ [])

-- ---- paths

-- a byte that stands for itself: 21 to 7e, but not `%`
abbrev pub is_plain : ℕ → Bool
is_plain b = nat_le 33 b && nat_le b 126 && not (b == 37)

-- A word spells bytes: a plain byte stands for itself, and `%` with two digits for a byte that is not zero.
pub data SpellsBytes : Word → List ℕ → Type 0 where
  no_byte : SpellsBytes [] []
  plain : {word bytes : List ℕ} (b : ℕ) → IsTrue (is_plain b) → SpellsBytes word bytes → SpellsBytes (b ∷ word) (b ∷ bytes)
  escaped : {word bytes : List ℕ} (high low b : ℕ) → pair_value high low ≡ Some b → b ≢ 0 → SpellsBytes word bytes
      → SpellsBytes (37 ∷ high ∷ low ∷ word) (b ∷ bytes)

-- A word spells a path, which is not empty.
pub record SpellsPath (word : Word) (path : List ℕ) : Type 0 where
  pub bytes : SpellsBytes word path
  pub some : 1 ≤ length path

-- ---- how bytes are written

-- a digit in lower case
abbrev pub digit_of : ℕ → ℕ
digit_of n = if nat_lt n 10 then n + 48 else n + 87

-- two digits
abbrev pub pair_of : ℕ → List ℕ
pair_of b = digit_of (b / 16) ∷ digit_of (b % 16) ∷ []

abbrev pub spelled_byte : ℕ → List ℕ
spelled_byte b = if is_plain b then b ∷ [] else 37 ∷ pair_of b

-- how a path or a name is written
abbrev pub spelling_of : List ℕ → Word
spelling_of bytes = flat_map spelled_byte bytes

abbrev pub hex_of : List ℕ → Word
hex_of bytes = flat_map pair_of bytes

-- ---- the bytes that a word spells

abbrev pub onto : Option ℕ → Option (List ℕ) → Option (List ℕ)
onto None bytes = None
onto (Some b) None = None
onto (Some b) (Some bytes) = Some (b ∷ bytes)

abbrev pub pairs_in : Word → Option (List ℕ)
pairs_in [] = Some []
pairs_in (high ∷ []) = None
pairs_in (high ∷ low ∷ word) = onto (pair_value high low) (pairs_in word)

abbrev pub within_read : Option (List ℕ) → Option (List ℕ)
within_read None = None
within_read (Some bytes) = if nat_le 1 (length bytes) && nat_le (length bytes) most_read then Some bytes else None

abbrev pub hex_in : Word → Option (List ℕ)
hex_in word = within_read (pairs_in word)

abbrev pub byte_in : Word → Option ℕ
byte_in (high ∷ low ∷ []) = pair_value high low
byte_in other = None

abbrev pub plain_value : ℕ → Option ℕ
plain_value b = if is_plain b then Some b else None

abbrev pub not_zero : Option ℕ → Option ℕ
not_zero None = None
not_zero (Some b) = if b == 0 then None else Some b

abbrev pub bytes_in : Word → Option (List ℕ)
bytes_in [] = Some []
bytes_in (b ∷ []) = onto (plain_value b) (Some [])
bytes_in (b ∷ c ∷ []) = onto (plain_value b) (bytes_in (c ∷ []))
bytes_in (b ∷ c ∷ d ∷ word) = if b == 37 then onto (not_zero (pair_value c d)) (bytes_in word) else onto (plain_value b) (bytes_in (c ∷ d ∷ word))

abbrev pub path_in : Word → Option (List ℕ)
path_in [] = None
path_in (b ∷ word) = bytes_in (b ∷ word)

-- the byte that the front of a text spells, and what is behind it
abbrev pub with_rest : Option ℕ → List ℕ → Option (ℕ × List ℕ)
with_rest None rest = None
with_rest (Some b) rest = Some (b, rest)

abbrev pub front_in : List ℕ → Option (ℕ × List ℕ)
front_in [] = None
front_in (b ∷ []) = with_rest (plain_value b) []
front_in (b ∷ c ∷ []) = with_rest (plain_value b) (c ∷ [])
front_in (b ∷ c ∷ d ∷ word) = if b == 37 then with_rest (not_zero (pair_value c d)) word else with_rest (plain_value b) (c ∷ d ∷ word)

-- bytes in front of those that are read
abbrev pub in_front : List ℕ → Option (List ℕ) → Option (List ℕ)
in_front front None = None
in_front front (Some rest) = Some (front ++ rest)

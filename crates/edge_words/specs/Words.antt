-- The words of the command line: options with their values, and arguments. A word is its bytes.
use Rattle.std.specs.Prelude.{◌≡◌, ◌⊎◌, ◌<◌, ◌^◌, ◌==◌, ℕ, Bool, false, IsTrue, List, [], ◌∷◌, filter, map, slice_index, decimal}
use Rattle.std.specs.List.{list_any, AllByRecursion}
use Rattle.std.specs.Str.{bytes_eq}
use Rattle.std.specs.Borrow.{Bor}

abbrev pub Word : Type 0
Word = List ℕ

-- the bytes of each word
abbrev pub words_of : List (Bor Word) → List Word
words_of words = map (λ (word : Bor Word). word.now) words

-- whether a word is an option: it begins with `-`
abbrev pub is_option : Word → Bool
is_option word = slice_index word 0 == 45

-- an option's name and the word behind it
pub record Given : Type 0 where
  pub name : Word
  pub value : Word

-- Words are options with their values and arguments, each in their order: a word that begins with `-` is an option,
-- the word behind it is its value, and any other word is an argument.
pub data Interleaved : List Word → List Given → List Word → Type 0 where
  nothing : Interleaved [] [] []
  option : {words : List Word} {options : List Given} {arguments : List Word} (name value : Word) → IsTrue (is_option name)
      → Interleaved words options arguments → Interleaved (name ∷ value ∷ words) (record { name = name; value = value } ∷ options) arguments
  argument : {words : List Word} {options : List Given} {arguments : List Word} (word : Word) → is_option word ≡ false
      → Interleaved words options arguments → Interleaved (word ∷ words) options (word ∷ arguments)

-- ---- values of options

-- the values that stand behind an option of this name
abbrev pub values_of : Word → List Given → List Word
values_of name options = map (λ (given : Given). given.value) (filter (λ (given : Given). bytes_eq given.name name) options)

-- A word spells a number below 2^32: it is the number's decimal digits, with no sign and no zero in front.
pub record SpellsNumber (word : Word) (n : ℕ) : Type 0 where
  pub digits : word ≡ decimal n
  pub fits : n < 2 ^ 32

-- The option stands once, and its value spells the number.
pub record Says (options : List Given) (name : Word) (n : ℕ) : Type 0 where
  pub value : Word
  pub once : values_of name options ≡ value ∷ []
  pub number : SpellsNumber value n

-- The same, or the option stands nowhere and the number is its default.
abbrev pub SaysOr : List Given → Word → ℕ → ℕ → Type 0
SaysOr options name default n = Says options name n ⊎ ((values_of name options ≡ []) × (n ≡ default))

-- whether a word is one of these
abbrev pub is_one_of : List Word → Word → Bool
is_one_of names word = list_any (λ name. bytes_eq name word) names

-- Each option has one of these names.
abbrev pub HaveNames : List Word → List Given → Type 0
HaveNames names options = AllByRecursion (λ (given : Given). IsTrue (is_one_of names given.name)) options

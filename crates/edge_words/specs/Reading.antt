-- How words are read.
use Rattle.std.specs.Prelude.{◌≡◌, IsTrue, List, [], ◌∷◌, ◌++◌, Option, Some, None, Result, MatchResult}
use Rattle.std.specs.Borrow.{Bor}
use Rattle.edge_words.specs.Words.{Word, Given, Interleaved, is_option}

-- P of the options of words, whatever they are read as
abbrev pub OfOptions : List Word → (List Given → Type 0) → Type 0
OfOptions words P = (options : List Given) (arguments : List Word) → Interleaved words options arguments → P options

-- The result is what the options say by P, an error where they say nothing.
abbrev pub Tells : {T E : Type 0} → List Word → (List Given → T → Type 0) → Result T E → Type 0
Tells {T} words P r = OfOptions words (λ options. MatchResult r (P options) (λ _. (t : T) → ¬ (P options t)))

-- Words that begin with an option and its value.
abbrev pub BeginsWithOption : List Word → Type 0
BeginsWithOption [] = ⊥
BeginsWithOption (name ∷ []) = ⊥
BeginsWithOption (name ∷ value ∷ words) = IsTrue (is_option name)

-- The rest stands behind options, each with its value, at the front of the words.
pub record IsBehindOptions (words rest : List Word) : Type 0 where
  pub before : List Word
  pub options : List Given
  pub words_are : words ≡ before ++ rest
  pub options_before : Interleaved before options []

-- The same, and the rest begins with no option and its value.
pub record SkipsOptions (words rest : List Word) : Type 0 where
  pub skipped : IsBehindOptions words rest
  pub stops : ¬ (BeginsWithOption rest)

-- the word that was found, as a list
abbrev pub value_list : Option (Bor Word) → List Word
value_list None = []
value_list (Some word) = word.now ∷ []

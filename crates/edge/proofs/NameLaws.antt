-- The word at the place that has to be attached is the image's name.
use Rattle.std.proofs.Common.{◌≡◌, ℕ, ◌+◌, ◌<◌, List, [], ◌∷◌, ◌++◌, length, get_or, drop, Option, Some, None, Bor, refl, sym, ap, ◌∙◌, arith}
use Rattle.std.proofs.lemmas.List.{get_or_at, get_or-drop, length-append, length-drop}
use Rattle.std.proofs.lemmas.Option.{slice_get-map, slice_get-get_or, none-some, same_Some}
use Rattle.std.specs.Prelude.{slice_get, option_map}
use Rattle.edge_words.specs.Words.{Word, words_of}
use Rattle.edge_words.specs.Needs.{IsFirstArgument}

-- a word whose bytes these are
pub record HasBytes (found : Option (Bor Word)) (bytes : Word) : Type 0 where
  pub name : Bor Word
  pub is : found ≡ Some name
  pub now : name.now ≡ bytes

has_bytes : (found : Option (Bor Word)) (bytes : Word) → option_map (λ (word : Bor Word). word.now) found ≡ Some bytes → HasBytes found bytes
has_bytes None bytes told = absurd (none-some bytes told)
has_bytes (Some name) bytes told = record { name = name; is = refl; now = same_Some name.now bytes told }

pub at_place : (words : List (Bor Word)) (place : ℕ) (image : Word) → IsFirstArgument (drop 1 (words_of words)) place image → HasBytes (slice_get words (1 + place)) image
at_place words place image first =
    let all = words_of words in
    let long : 1 + place < length all =
    let parts = ap length first.words_are ∙ length-append first.before (image ∷ first.behind) in
    let rest = length-drop 1 all in
    let behind = first.place_is in
    omega arith in
    let read : get_or all (1 + place) [] ≡ image =
    sym (get_or-drop 1 all place []) ∙ ap (λ l. get_or l place []) first.words_are ∙ get_or_at first.before image first.behind [] place (sym first.place_is) in
    has_bytes (slice_get words (1 + place)) image (sym (slice_get-map (λ (word : Bor Word). word.now) words (1 + place)) ∙ slice_get-get_or all (1 + place) [] long ∙ ap Some read)

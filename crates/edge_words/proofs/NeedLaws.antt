-- The place of the image's name, and what has to be attached.
use Rattle.std.proofs.Common.{◌≡◌, ℕ, ◌+◌, ◌-◌, false, List, [], ◌∷◌, ◌++◌, length, drop, Some, Bor, refl, sym, ap, ◌∙◌, subst, arith, IsTrue}
use Rattle.std.proofs.lemmas.List.{length-append, length-map}
use Rattle.edge_words.specs.declared.attached.Attached.{Attached}
use Rattle.edge_words.specs.Words.{Word, Given, Interleaved, option, argument, is_option, words_of}
use Rattle.edge_words.specs.Reading.{BeginsWithOption, SkipsOptions}
use Rattle.edge_base.specs.layout.Sizes.{is_block_size}
use Rattle.edge_words.specs.Orders.{Wanted, Run, Format, Spells, image_of, block_size_of}
use Rattle.edge_words.specs.Needs.{IsFirstArgument, IsNeedOf, make_blocks_of}
use Rattle.edge_words.proofs.WordLaws.{rest_reads}
use Rattle.edge_words.proofs.OrderLaws.{one_wanted}

-- a rest that begins with no option begins with the argument
record BeginsWith (rest : List Word) (word : Word) : Type 0 where
  behind : List Word
  are : rest ≡ word ∷ behind
  no_option : is_option word ≡ false

begins : {rest : List Word} {more : List Given} {word : Word} {others : List Word} → ¬ (BeginsWithOption rest) → Interleaved rest more (word ∷ others) → BeginsWith rest word
begins stops (option name value is reads) = absurd (stops is)
begins stops (argument {words = behind} word is_no reads) = record { behind = behind; are = refl; no_option = is_no }

pub first_place : {words rest : List Word} {options : List Given} {word : Word} {others : List Word} → SkipsOptions words rest → Interleaved words options (word ∷ others)
    → (place : ℕ) → place ≡ length words - length rest → IsFirstArgument words place word
first_place {words} {rest} {options} {word} skips reads place is =
    let first = begins skips.stops (rest_reads skips.skipped reads).1 in
    let before = skips.skipped.before in
    record {
      before = before;
      options = skips.skipped.options;
      behind = first.behind;
      words_are = skips.skipped.words_are ∙ ap (λ r. before ++ r) first.are;
      place_is =
          let long = ap length skips.skipped.words_are ∙ length-append before rest in
          omega arith;
      options_before = skips.skipped.options_before;
      no_option = first.no_option;
    }

reads_image : (command : Word) (words : List Word) (wanted : Wanted) → Spells (command ∷ words) wanted → (options : List Given) × Interleaved words options (image_of wanted ∷ [])
reads_image command words (Run image block_size) spells = (spells.1.options, spells.1.parts.parts)
reads_image command words (Format image request) spells = (spells.1.options, spells.1.parts.parts)

pub length-words : (words rest : List (Bor Word)) → length words - length rest ≡ length (words_of words) - length (words_of rest)
length-words words rest = simp length-map

-- what is attached for the order that the words spell
pub need_of : {command : Word} {behind words : List Word} (told : Wanted) {place : ℕ} (a : Attached) → words ≡ command ∷ behind → Spells words told
    → ((options : List Given) (word : Word) (others : List Word) → Interleaved behind options (word ∷ others) → IsFirstArgument behind place word)
    → a.image ≡ Some (1 + place) → a.block_size ≡ block_size_of told → a.make_blocks ≡ make_blocks_of told
    → (wanted : Wanted) → Spells words wanted → IsNeedOf words wanted a
need_of {command} {behind} {words} told {place} a are spells first image block_size make_blocks wanted also =
    let same = one_wanted words told wanted spells also in
    let reads = reads_image command behind wanted (subst (λ (w : List Word). Spells w wanted) are also) in
    record {
      place = place;
      image = image;
      is_image = subst (λ (w : List Word). IsFirstArgument (drop 1 w) place (image_of wanted)) (sym are) (first reads.0 (image_of wanted) [] reads.1);
      block_size = block_size ∙ ap block_size_of same;
      make_blocks = make_blocks ∙ ap make_blocks_of same;
    }

-- words that spell an order say one of the four block sizes
pub spelled_size : (words : List Word) (wanted : Wanted) → Spells words wanted → IsTrue (is_block_size (block_size_of wanted))
spelled_size [] wanted spells = absurd spells
spelled_size (command ∷ words) (Run image block_size) spells = spells.1.block_size_is.one_of_four
spelled_size (command ∷ words) (Format image request) spells = spells.1.request_is.block_size.one_of_four

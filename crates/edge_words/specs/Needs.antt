-- What has to be attached for the words.
use Rattle.std.specs.Prelude.{◌≡◌, ◌+◌, ℕ, false, List, [], ◌∷◌, ◌++◌, length, drop, Option, Some, None, is_none, if◌then◌else◌}
use Rattle.edge_base.specs.layout.Places.{bad_geometry}
use Rattle.edge_words.specs.declared.attached.Attached.{Attached}
use Rattle.edge_words.specs.Words.{Word, Given, Interleaved, is_option}
use Rattle.edge_words.specs.Orders.{Wanted, Run, Format, image_of, block_size_of}

-- The first argument of words stands at this place: before it are only options with their values.
pub record IsFirstArgument (words : List Word) (place : ℕ) (argument : Word) : Type 0 where
  pub before : List Word
  pub options : List Given
  pub behind : List Word
  pub words_are : words ≡ before ++ argument ∷ behind
  pub place_is : place ≡ length before
  pub options_before : Interleaved before options []
  pub no_option : is_option argument ≡ false

-- the blocks that the image is made with, where the order makes one and its geometry is within the limits
abbrev pub make_blocks_of : Wanted → Option ℕ
make_blocks_of (Run image block_size) = None
make_blocks_of (Format image request) = if is_none (bad_geometry request) then Some request.blocks else None

-- What is attached for words that spell what is asked. The image's name is the first argument behind the command word.
pub record IsNeedOf (words : List Word) (wanted : Wanted) (a : Attached) : Type 0 where
  pub place : ℕ
  pub image : a.image ≡ Some (1 + place)
  pub is_image : IsFirstArgument (drop 1 words) place (image_of wanted)
  pub block_size : a.block_size ≡ block_size_of wanted
  pub make_blocks : a.make_blocks ≡ make_blocks_of wanted

-- nothing, for words that spell no order
abbrev pub no_need : Attached
no_need = record { image = None; block_size = 512; make_blocks = None }

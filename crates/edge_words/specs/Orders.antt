-- The orders, and which words spell each.
use Rattle.std.specs.Prelude.{◌≡◌, ◌≢◌, ℕ, IsTrue, List, [], ◌∷◌, codes}
use Rattle.edge_base.specs.layout.Sizes.{is_block_size}
use Rattle.edge_base.specs.declared.geometry.Request.{Request}
use Rattle.edge_words.specs.declared.order.Order.{Order}
use Rattle.edge_words.specs.declared.order.Order.TheVariants as orders
use Rattle.edge_words.specs.Words.{Word, Given, Interleaved, Says, SaysOr, HaveNames}

-- an order, with the bytes of the image's name
pub data Wanted : Type 0 where
  Run : (image : Word) (block_size : ℕ) → Wanted
  Format : (image : Word) (request : Request) → Wanted

-- what an order wants
abbrev pub wanted_by : Order → Wanted
wanted_by (orders.Run image block_size) = Run image.now block_size
wanted_by (orders.Format image request) = Format image.now request

-- the bytes of the image's name
abbrev pub image_of : Wanted → Word
image_of (Run image block_size) = image
image_of (Format image request) = image

abbrev pub block_size_of : Wanted → ℕ
block_size_of (Run image block_size) = block_size
block_size_of (Format image request) = request.block_size

abbrev pub run_options : List Word
run_options = codes "-b" ∷ []

abbrev pub format_options : List Word
format_options = codes "-b" ∷ codes "-n" ∷ codes "-m" ∷ codes "-l" ∷ codes "-a" ∷ codes "-i" ∷ []

-- The words behind the command word are the image's name, which is not empty, and options of these names.
pub record HasParts (names : List Word) (words : List Word) (options : List Given) (image : Word) : Type 0 where
  pub parts : Interleaved words options (image ∷ [])
  pub named : image ≢ []
  pub known : HaveNames names options

-- the block size that `-b` says, 512 where it is missing
pub record SaysBlockSize (options : List Given) (n : ℕ) : Type 0 where
  pub size : SaysOr options (codes "-b") 512 n
  pub one_of_four : IsTrue (is_block_size n)

-- The words behind `run` are this image's name and an option that says this block size.
pub record SpellsRun (words : List Word) (image : Word) (block_size : ℕ) : Type 0 where
  pub options : List Given
  pub parts : HasParts run_options words options image
  pub block_size_is : SaysBlockSize options block_size

-- what the options of `format` say
pub record SaysRequest (options : List Given) (r : Request) : Type 0 where
  pub block_size : SaysBlockSize options r.block_size
  pub blocks : Says options (codes "-n") r.blocks
  pub inodes : Says options (codes "-m") r.inodes
  pub name_max : SaysOr options (codes "-l") 28 r.name_max
  pub direct : SaysOr options (codes "-a") 4 r.direct
  pub indirect : SaysOr options (codes "-i") 32 r.indirect

-- The words behind `format` are this image's name and options that say this request.
pub record SpellsFormat (words : List Word) (image : Word) (request : Request) : Type 0 where
  pub options : List Given
  pub parts : HasParts format_options words options image
  pub request_is : SaysRequest options request

-- The words spell what is wanted: first the command word, and then options and the image's name.
abbrev pub Spells : List Word → Wanted → Type 0
Spells [] wanted = ⊥
Spells (command ∷ words) (Run image block_size) = (command ≡ codes "run") × SpellsRun words image block_size
Spells (command ∷ words) (Format image request) = (command ≡ codes "format") × SpellsFormat words image request

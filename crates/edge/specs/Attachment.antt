-- What the program attaches for its words.
use Rattle.std.specs.Prelude.{◌≡◌, ℕ, List, Some, None}
use Rattle.std.specs.Borrow.{Bor}
use Rattle.edge_words.specs.Orders.{Wanted, image_of, block_size_of}
use Rattle.edge_words.specs.Needs.{make_blocks_of}
use Rattle.edge.specs.declared.attach.Attachment.{Attachment}

-- What is attached is the image that the words name, by the block size and with the blocks that they ask for.
pub record IsFor (wanted : Wanted) (a : Attachment) : Type 0 where
  pub name : Bor (List ℕ)
  pub image : a.image ≡ Some name
  pub named : name.now ≡ image_of wanted
  pub block_size : a.block_size ≡ block_size_of wanted
  pub make_blocks : a.make_blocks ≡ make_blocks_of wanted

-- no image, by blocks of 512 bytes
abbrev pub nothing : Attachment
nothing = record { image = None; block_size = 512; make_blocks = None }

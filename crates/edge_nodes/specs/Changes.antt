-- What a change in place makes of a node that a block spells, once its check word is put right.
use Rattle.std.specs.Prelude.{◌≡◌, ℕ, Bool, List, set}
use Rattle.edge_base.specs.declared.geometry.Request.{Request}
use Rattle.edge_base.specs.declared.node.Head.{Head}
use Rattle.edge_base.specs.layout.Bytes.{number_at}
use Rattle.edge_base.specs.layout.Spelling.{number_of_kind, SpellsInode, SpellsPointer, SpellsImap}
use Rattle.edge_nodes.specs.Writing.{IsSealed}

-- the fields of an inode before its entries
pub record HasHead (sequence : ℕ) (head : Head) (b : List ℕ) : Type 0 where
  pub sequence_is : number_at 8 8 b ≡ sequence
  pub size : number_at 16 8 b ≡ head.size
  pub mode : number_at 24 2 b ≡ number_of_kind head.kind
  pub links : number_at 26 2 b ≡ head.links
  pub parent : number_at 28 4 b ≡ head.parent

-- an inode has this sequence number and this head, and its entries
abbrev pub ChangesHead : ℕ → Head → List ℕ → List ℕ → Type 0
ChangesHead sequence head old new =
    (g : Request) (before : ℕ) (was : Head) (entries node : List ℕ) → SpellsInode g before was entries old → IsSealed new node
    → SpellsInode g sequence head entries node

-- an inode has this number as entry i
abbrev pub ChangesEntry : ℕ → ℕ → List ℕ → List ℕ → Type 0
ChangesEntry i entry old new =
    (g : Request) (sequence : ℕ) (head : Head) (entries node : List ℕ) → SpellsInode g sequence head entries old → IsSealed new node
    → SpellsInode g sequence head (set entries i entry) node

-- a pointer node has this number as entry i
abbrev pub ChangesPointer : ℕ → ℕ → List ℕ → List ℕ → Type 0
ChangesPointer i entry old new =
    (g : Request) (double : Bool) (sequence owner : ℕ) (entries node : List ℕ) → SpellsPointer g double sequence owner entries old → IsSealed new node
    → SpellsPointer g double sequence owner (set entries i entry) node

-- a node of each kind that is copied to another place has this sequence number
pub record ChangesSequence (sequence : ℕ) (old new : List ℕ) : Type 0 where
  pub inode : (g : Request) (before : ℕ) (head : Head) (entries node : List ℕ) → SpellsInode g before head entries old → IsSealed new node
      → SpellsInode g sequence head entries node
  pub pointer : (g : Request) (double : Bool) (before owner : ℕ) (entries node : List ℕ) → SpellsPointer g double before owner entries old → IsSealed new node
      → SpellsPointer g double sequence owner entries node
  pub imap : (g : Request) (i before : ℕ) (bits node : List ℕ) → SpellsImap g i before bits old → IsSealed new node → SpellsImap g i sequence bits node

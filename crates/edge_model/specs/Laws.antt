-- What holds of every state of a session and of every run.
use Rattle.std.specs.Prelude.{◌≡◌, ℕ, Bool, true, false, List, [], ◌∷◌, Option, Some, None}
use Rattle.edge_base.specs.declared.geometry.Request.{Request}
use Rattle.edge_base.specs.tree.Positions.{Position, has, ancestors, data_at}
use Rattle.edge_base.specs.commands.Descriptors.{Descriptor, descriptor_at}
use Rattle.edge_base.specs.tree.Nodes.{Node, block_of}
use Rattle.edge_base.specs.tree.NodeRules.{IsNode}
use Rattle.edge_model.specs.Asked.{Asked, close, read, seek, fsync, open_dir, read_dir, rewind, stat, fstat, space, mask, set_mask, transact}
use Rattle.edge_model.specs.Tree.{Tree, node_at, is_directory, tree_positions}
use Rattle.edge_model.specs.State.{State, Outcome}

-- each node keeps the rules of a file or a directory
abbrev pub HasNodes : Request → Tree → Type 0
HasNodes g t = (n : ℕ) (node : Node) → t n ≡ Some node → IsNode g node

-- each open descriptor is for a node of its kind
abbrev pub IsOpenByKind : State → Type 0
IsOpenByKind s = (h : ℕ) (d : Descriptor) → descriptor_at s.descriptors h ≡ Some d → is_directory s.tree d.number ≡ d.directory

-- ---- dirty positions

-- each is a position of the tree
abbrev pub IsDirtyWithin : Request → State → Type 0
IsDirtyWithin g s = (p : Position) → has s.dirty p ≡ true → has (tree_positions g s.tree) p ≡ true

-- the ancestors of each are dirty
abbrev pub IsDirtyUpwards : Request → State → Type 0
IsDirtyUpwards g s = (p q : Position) → has s.dirty p ≡ true → has (ancestors g p) q ≡ true → has s.dirty q ≡ true

-- each position of the tree that is not dirty is one of the committed tree
abbrev pub IsCleanCommitted : Request → State → Type 0
IsCleanCommitted g s = (p : Position) → has (tree_positions g s.tree) p ≡ true → has s.dirty p ≡ false → has (tree_positions g s.committed) p ≡ true

-- of a pointer node that is not dirty the tree has the same data blocks below it as the committed tree
abbrev pub IsCleanAbove : Request → State → Type 0
IsCleanAbove g s = (p : Position) (n i : ℕ) → has (tree_positions g s.tree) p ≡ true → has s.dirty p ≡ false → has (ancestors g (data_at n i)) p ≡ true
    → has (tree_positions g s.tree) (data_at n i) ≡ has (tree_positions g s.committed) (data_at n i)

-- a data block that is not dirty has its bytes in the committed tree
abbrev pub IsCleanSame : Request → State → Type 0
IsCleanSame g s = (n i : ℕ) → has (tree_positions g s.tree) (data_at n i) ≡ true → has s.dirty (data_at n i) ≡ false
    → block_of g (node_at s.tree n) i ≡ block_of g (node_at s.committed n) i

-- the rules that hold of the dirty positions after every run
pub record IsDirtySound (g : Request) (s : State) : Type 0 where
  pub within : IsDirtyWithin g s
  pub upwards : IsDirtyUpwards g s
  pub clean : IsCleanCommitted g s

-- ---- points

-- the last of some trees, or another where there is none
abbrev pub last_or : Tree → List Tree → Tree
last_or t [] = t
last_or t (next ∷ trees) = last_or next trees

-- no point was taken
abbrev pub TakesNone : State → Outcome → Type 0
TakesNone s o = (o.points ≡ []) × (o.state.committed ≡ s.committed) × (o.state.dirty ≡ s.dirty)

-- a point of the tree was taken
abbrev pub TakesOne : State → Outcome → Type 0
TakesOne s o = (o.points ≡ s.tree ∷ []) × (o.state.committed ≡ s.tree) × (o.state.dirty ≡ [])

-- ---- commands that change no tree

abbrev pub reads_only : Asked → Bool
reads_only (close h) = true
reads_only (read h count) = true
reads_only (seek h to) = true
reads_only (fsync h) = true
reads_only (open_dir path) = true
reads_only (read_dir h) = true
reads_only (rewind h) = true
reads_only (stat path) = true
reads_only (fstat h) = true
reads_only space = true
reads_only mask = true
reads_only (set_mask events) = true
reads_only transact = true
reads_only command = false

-- those that change nothing at all
abbrev pub tells_only : Asked → Bool
tells_only (stat path) = true
tells_only (fstat h) = true
tells_only space = true
tells_only mask = true
tells_only command = false

-- a line that spells no command, or one that changes nothing
abbrev pub line_tells_only : Option Asked → Bool
line_tells_only None = true
line_tells_only (Some command) = tells_only command

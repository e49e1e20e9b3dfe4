-- What is asked of a change, and what is answered, where the views are told. s is a store as a call begins.
use Rattle.std.specs.Prelude.{◌≡◌, ◌+◌, ◌/◌, ℕ, Bool, nat_le, if◌then◌else◌, List, IfSome, Option, Some, None, Result}
use Rattle.edge_base.specs.tree.Nodes.{directory}
use Rattle.edge_base.specs.tree.Slots as tree
use Rattle.edge_file.specs.Shortened.{has_rest, shortening_need}
use Rattle.edge_store.specs.declared.fault.StoreFault.{StoreFault}
use Rattle.edge_store.specs.Calls.{NeverDamaged}
use Rattle.edge_store.specs.Fresh.{fresh_count}
use Rattle.edge_store.specs.Placed.{HasNode, IsShaped}
use Rattle.edge_store.specs.State.{StoreState, Told, IsNumber, HasInode}
use Rattle.edge_store.specs.View.{free_now}
use Rattle.edge_moves.specs.Writable.{fresh_on_chain}
use Rattle.edge_tree.specs.Answers.{NeverOnShaped}
use Rattle.edge_dir.specs.Directory.{IsDirectoryNode}
use Rattle.edge_space.specs.declared.change.Change.{Change}
use Rattle.edge_space.specs.declared.change.Change.TheVariants.{Bytes, Size, Slots}
use Rattle.edge_space.specs.declared.change.SlotAt.{SlotAt}
use Rattle.edge_space.specs.Changes.{is_longer, need_of_change, writes_of, removes_of, AreLeft, AreShaped}
use Rattle.edge_space.specs.Slots.{IsCleared, clear_need, put_need}

-- the nodes that a change names have inodes, and one of which a slot is cleared is a directory
abbrev pub AreThere : StoreState → Change → Type 0
AreThere s (Bytes n at len) = IsNumber s n × HasInode s n
AreThere s (Size n size) = IsNumber s n × HasInode s n
AreThere s (Slots put clear) = IfSome put (λ at. IsNumber s at.dir × HasInode s at.dir)
    × IfSome clear (λ at. IsNumber s at.dir × HasInode s at.dir × IsDirectoryNode s at.dir)

-- node d is a directory that keeps its rules
abbrev pub IsSoundDirectory : StoreState → ℕ → Type 0
IsSoundDirectory s d = (slots : tree.Slots) × (parent : ℕ) × HasNode s.origin.request s.working d (directory slots parent)

-- nothing is told where the nodes that a change names have the shape of nodes, and one of which a slot is cleared keeps the rules of a directory
abbrev pub NeverOnNamed : {T : Type 0} → StoreState → Change → Result T StoreFault → Type 0
NeverOnNamed s (Bytes n at len) result = NeverOnShaped s n result
NeverOnNamed s (Size n size) result = NeverOnShaped s n result
NeverOnNamed s (Slots put clear) result = Told s → IfSome put (λ at. IsShaped s.origin.request s.working at.dir)
    → IfSome clear (λ at. IsSoundDirectory s at.dir) → NeverDamaged result

-- whether node n goes past a size
abbrev pub IsLonger : StoreState → ℕ → ℕ → Bool → Type 0
IsLonger s n size longer = Told s → longer ≡ is_longer s.working n size

-- of the data block that a size is within, if there is one, the positions of its chain that are not dirty
abbrev pub IsFreshInside : StoreState → ℕ → ℕ → Option ℕ → Type 0
IsFreshInside s n size found = Told s → found ≡ (if has_rest s.origin.request s.working n size
    then Some (fresh_on_chain s.origin.request s.committed s.working n (size / s.origin.request.block_size)) else None)

-- how many free blocks it takes to cut node n behind so many bytes
abbrev pub IsShorteningNeed : StoreState → ℕ → ℕ → ℕ → Type 0
IsShorteningNeed s n size need = Told s → need ≡ shortening_need s.origin.request s.committed s.working n size

-- how many data blocks are left of the directory of which a slot is cleared
abbrev pub AreBlocksAfter : StoreState → Option SlotAt → SlotAt → ℕ → Type 0
AreBlocksAfter s put clear blocks = Told s → (left : ℕ) → IsCleared s.origin.request s.working put clear left → blocks ≡ left

-- how many free blocks it takes to clear a slot where so many are left, and besides to put an entry into another
abbrev pub IsClearNeed : StoreState → SlotAt → ℕ → ℕ → Type 0
IsClearNeed s clear left need = Told s → need ≡ clear_need s.origin.request s.committed s.working clear left

abbrev pub IsPutNeed : StoreState → SlotAt → SlotAt → ℕ → ℕ → Type 0
IsPutNeed s put clear left need = Told s → need ≡ put_need s.origin.request s.committed s.working put clear left

-- how many free blocks a change takes
abbrev pub IsNeedOf : StoreState → Change → ℕ → Type 0
IsNeedOf s change need = Told s → (left : ℕ) → AreLeft s.origin.request s.working change left
    → need ≡ need_of_change s.origin.request s.committed s.working change left

-- They, with a reserve, are at most the blocks that are free now.
abbrev pub HasRoomFor : StoreState → Change → ℕ → Bool → Type 0
HasRoomFor s change reserve fits = Told s → (left : ℕ) → AreLeft s.origin.request s.working change left
    → fits ≡ nat_le (need_of_change s.origin.request s.committed s.working change left + reserve) (free_now s.origin.request s.committed s.working)

-- ---- positions

-- how many positions a change makes dirty that are not dirty yet, where the function tells the data blocks of the nodes that may lose some,
-- and so many are left of a directory of which a slot is cleared
abbrev pub count_of_change : StoreState → Change → (ℕ → List ℕ) → ℕ → ℕ
count_of_change s change indices left = fresh_count s.origin.request s.committed s.working
    (writes_of s.origin.request s.working change left) (removes_of s.origin.request s.working change indices left)

abbrev pub IsFreshOf : StoreState → Change → ℕ → Type 0
IsFreshOf s change fresh = Told s → (indices : ℕ → List ℕ) (left : ℕ) → AreShaped s.origin.request s.working change indices left
    → fresh ≡ count_of_change s change indices left

-- They, with a reserve, are at most the blocks that are free now.
abbrev pub IsFitting : StoreState → Change → ℕ → Bool → Type 0
IsFitting s change reserve fits = Told s → (indices : ℕ → List ℕ) (left : ℕ) → AreShaped s.origin.request s.working change indices left
    → fits ≡ nat_le (count_of_change s change indices left + reserve) (free_now s.origin.request s.committed s.working)

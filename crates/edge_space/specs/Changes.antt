-- What a change touches in a view: the data positions that it writes or adds, and those that it removes.
use Rattle.std.specs.Prelude.{◌≡◌, ◌&&◌, ◌/◌, ◌+◌, ◌<◌, ◌≤◌, ℕ, Bool, nat_lt, if◌then◌else◌, List, [], ◌∷◌, ◌++◌, map, IfSome}
use Rattle.edge_base.specs.declared.geometry.Request.{Request}
use Rattle.edge_base.specs.layout.Places.{max_size_of}
use Rattle.edge_base.specs.tree.Nodes.{directory, indices_of}
use Rattle.edge_base.specs.tree.Positions.{Position, data_at}
use Rattle.edge_base.specs.tree.Slots.{pieces}
use Rattle.edge_store.specs.View.{View}
use Rattle.edge_shape.specs.Shape.{HasShape}
use Rattle.edge_count.specs.Cuts.{removed}
use Rattle.edge_file.specs.Bytes.{blocks_under, size_at}
use Rattle.edge_file.specs.Rewritten.{fresh_on}
use Rattle.edge_file.specs.Shortened.{has_rest, shortening_need}
use Rattle.edge_space.specs.declared.change.Change.{Change}
use Rattle.edge_space.specs.declared.change.Change.TheVariants.{Bytes, Size, Slots}
use Rattle.edge_space.specs.Slots.{IsCleared, IsSlotWithin, clear_removes, clear_writes, need_of_slots, put_writes}

-- The change writes some bytes, and no file would be too great; slots lie in data blocks that a node may have.
abbrev pub IsWithin : Request → Change → Type 0
IsWithin g (Bytes n at len) = (0 < len) × (at + len ≤ max_size_of g)
IsWithin g (Size n size) = size ≤ max_size_of g
IsWithin g (Slots put clear) = IfSome put (IsSlotWithin g) × IfSome clear (IsSlotWithin g)

-- ---- a size

-- whether node n goes past a size, so that it is made shorter
abbrev pub is_longer : View → ℕ → ℕ → Bool
is_longer v n size = nat_lt size (size_at v n)

-- ---- slots

-- So many data blocks are left of the directory of which a slot is cleared, which keeps its rules; nothing is asked of other changes.
abbrev pub AreLeft : Request → View → Change → ℕ → Type 0
AreLeft g v (Bytes n at len) left = Unit {0}
AreLeft g v (Size n size) left = Unit {0}
AreLeft g v (Slots put clear) left = IfSome clear (λ at. IsCleared g v put at left)

-- ---- positions

-- The data positions that a change writes or adds. So many data blocks are left of a directory of which a slot is cleared.
abbrev pub writes_of : Request → View → Change → ℕ → List Position
writes_of g v (Bytes n at len) left = map (data_at n) (blocks_under g at len)
writes_of g v (Size n size) left = if is_longer v n size && has_rest g v n size then data_at n (size / g.block_size) ∷ [] else []
writes_of g v (Slots put clear) left = put_writes g put ++ clear_writes g clear left

-- The nodes that a change may remove data blocks of have the shape of nodes, or are directories that keep their rules; the function
-- tells the data blocks of each, and so many are left of such a directory.
abbrev pub AreShaped : Request → View → Change → (ℕ → List ℕ) → ℕ → Type 0
AreShaped g v (Bytes n at len) indices left = Unit {0}
AreShaped g v (Size n size) indices left = HasShape g v n (indices n)
AreShaped g v (Slots put clear) indices left =
    IfSome clear (λ at. (is : IsCleared g v put at left) × (indices at.dir ≡ indices_of g (directory is.slots is.parent)))

-- the data positions that a change removes: those behind the new end
abbrev pub removes_of : Request → View → Change → (ℕ → List ℕ) → ℕ → List Position
removes_of g v (Bytes n at len) indices left = []
removes_of g v (Size n size) indices left = if is_longer v n size then removed n (pieces g.block_size size) (indices n) else []
removes_of g v (Slots put clear) indices left = clear_removes clear indices left

-- ---- free blocks

-- how many a change takes
abbrev pub need_of_change : Request → View → View → Change → ℕ → ℕ
need_of_change g c v (Bytes n at len) left = fresh_on g c v n (blocks_under g at len)
need_of_change g c v (Size n size) left = if is_longer v n size then shortening_need g c v n size else 0
need_of_change g c v (Slots put clear) left = need_of_slots g c v put clear left

-- What may be written between two points, and an anchor as blocks tell it.
use Rattle.std.specs.Prelude.{◌≡◌, ◌≢◌, ◌<◌, ℕ, List}
use Rattle.edge_base.specs.layout.Bitmap.{used_under}
use Rattle.edge_anchor.specs.Anchor.{Anchor, Needs, geometry_of, spare_of}

-- Block k may be given any bytes: it lies in the volume, the last point does not need it, and it is not the spare metaroot's.
abbrev pub Spares : Anchor → ℕ → List ℕ → Type 0
Spares a k c = (Needs a k → ⊥) × (k ≢ spare_of a) × (k < (geometry_of a).blocks)

-- block b is given bytes of which nothing is told
abbrev pub block_given : ℕ → ℕ → List ℕ → Type 0
block_given b k c = k ≡ b

-- the anchor with the used blocks that its bitmap tells over what blocks hold
abbrev pub as_told : Anchor → (ℕ → List ℕ) → Anchor
as_told a content = record { master = a.master; place = a.place; root = a.root; roots = a.roots; used = used_under (geometry_of a) a.roots content }

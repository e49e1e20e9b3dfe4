-- The shape of a node depends on which data blocks it has, and not on how they are listed.
use Rattle.std.proofs.Common.{◌≡◌, ℕ, Bool, true, false, List, refl, Option, Some, None}
use Rattle.edge_base.specs.declared.geometry.Request.{Request}
use Rattle.edge_store.specs.Changed.{SameMembers}
use Rattle.edge_store.specs.View.{View, Inode, whole, broken, is_whole}
use Rattle.edge_store.specs.Placed.{IsShaped}
use Rattle.edge_store.proofs.ChangedLaws.{same_places, same_once}
use Rattle.edge_shape.specs.Shape.{HasShape}

pub shape_same : (g : Request) (v : View) (n : ℕ) (xs ys : List ℕ) → SameMembers xs ys → HasShape g v n xs → HasShape g v n ys
shape_same g v n xs ys same shape = record {
  geometry = shape.geometry;
  view = shape.view;
  inode = shape.inode;
  places = same_places g v n xs ys same shape.places;
  once = same_once g v n xs ys same shape.once;
}

-- ---- a node of some shape is shaped

pub shaped_by : (g : Request) (v : View) (n : ℕ) (indices : List ℕ) → HasShape g v n indices → (shaped : IsShaped g v n) × (shaped.indices ≡ indices)
shaped_by g v n indices shape = by (v.inodes n) refl shape.inode
  where
    by : (o : Option Inode) → v.inodes n ≡ o → is_whole o ≡ true → (shaped : IsShaped g v n) × (shaped.indices ≡ indices)
    by (Some (whole head entries)) is h =
        (record { head = head; entries = entries; inode = is; indices = indices; places = shape.places; once = shape.once }, refl)
    by (Some (broken damage)) is h = absurd (let e : false ≡ true = h in cc)
    by None is h = absurd (let e : false ≡ true = h in cc)

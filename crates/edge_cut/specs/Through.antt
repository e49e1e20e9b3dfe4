-- Where a cut goes through, as the views tell. s is a store as a call begins.
use Rattle.std.specs.Prelude.{◌≡◌, ◌≢◌, ◌<◌, ◌≤◌, ◌+◌, ◌==◌, ℕ, Bool, true, slice_index}
use Rattle.edge_base.specs.declared.form.Form.{Form}
use Rattle.edge_base.specs.declared.form.Form.TheVariants.{Indirect, Double}
use Rattle.edge_base.specs.declared.geometry.Request.{Request}
use Rattle.edge_base.specs.declared.way.Way.{Way}
use Rattle.edge_base.specs.declared.way.Way.TheVariants as way
use Rattle.edge_base.specs.layout.Places.{entries_of, pointers_of, max_blocks_of, way_of}
use Rattle.edge_store.specs.declared.spot.Spot.{Spot}
use Rattle.edge_store.specs.Damages.{form_of_entry}
use Rattle.edge_store.specs.Placed.{entry_at, pointer_at}
use Rattle.edge_store.specs.State.{StoreState, Told}
use Rattle.edge_store.specs.View.{View}
use Rattle.edge_moves.specs.Renewal.{cost}
use Rattle.edge_shape.specs.declared.cut.Cut.{Cut}
use Rattle.edge_shape.specs.declared.cut.Cut.TheVariants as cuts
use Rattle.edge_shape.specs.Shape.{entries_at}
use Rattle.edge_cut.specs.Dropped.{has_pointer, IsFullInode}
use Rattle.edge_shape.specs.Where.{some_in, inner_kept, inner_cut, cut_of_way, cut_at, cut_need, IsWithin}

-- whether some pointer of a node is there in the places from one up to another
abbrev pub IsSomeIn : StoreState → Spot → ℕ → ℕ → Bool → Type 0
IsSomeIn s at from upto some = Told s → some ≡ some_in (entries_at s.working at.form at.block) from upto

-- whether the pointer in a place of a node is absent
abbrev pub IsAbsentAt : StoreState → Spot → ℕ → Bool → Type 0
IsAbsentAt s at place absent = Told s → absent ≡ (slice_index (entries_at s.working at.form at.block) place == 0)

-- whether something stays, and whether something goes, of an indirect node that is cut from a place on
abbrev pub IsKeptOfInner : StoreState → ℕ → ℕ → Bool → Type 0
IsKeptOfInner s b place kept = Told s → kept ≡ inner_kept s.origin.request s.working b place

abbrev pub IsCutOfInner : StoreState → ℕ → ℕ → Bool → Type 0
IsCutOfInner s b place cut = Told s → cut ≡ inner_cut s.origin.request s.working b place

abbrev pub IsCutOfWay : StoreState → ℕ → Way → Cut → Type 0
IsCutOfWay s n way cut = Told s → cut ≡ cut_of_way s.origin.request s.working n way

abbrev pub IsCutAt : StoreState → ℕ → ℕ → Cut → Type 0
IsCutAt s n i cut = Told s → cut ≡ cut_at s.origin.request s.working n i

-- the pointer nodes that it goes through are there
abbrev pub GoesThroughThere : StoreState → ℕ → Cut → Type 0
GoesThroughThere s n cut = Told s → IsWithin s.origin.request s.working n cut

-- The entry and the places of a cut are within an inode and its pointer nodes, and the entry leads to what is cut.
abbrev pub AreInRange : Request → Cut → Type 0
AreInRange g (cuts.Whole entry) = entry ≤ entries_of g
AreInRange g (cuts.Node entry place) = (entry < entries_of g) × (form_of_entry g entry ≡ Indirect) × (place ≤ pointers_of g)
AreInRange g (cuts.Top entry place) = (entry < entries_of g) × (form_of_entry g entry ≡ Double) × (place ≤ pointers_of g)
AreInRange g (cuts.Both entry outer place) = (entry < entries_of g) × (form_of_entry g entry ≡ Double) × (outer < pointers_of g) × (place ≤ pointers_of g)

abbrev pub IsInRange : StoreState → Cut → Type 0
IsInRange s cut = AreInRange s.origin.request cut

-- how many free blocks a cut of a node at an index needs
abbrev pub IsCutNeed : StoreState → ℕ → ℕ → ℕ → Type 0
IsCutNeed s n i need = Told s → need ≡ cut_need s.origin.request s.committed s.working n i

-- what making the block of an entry new takes
abbrev pub IsEntryCost : StoreState → ℕ → ℕ → ℕ → Type 0
IsEntryCost s n entry taken = Told s → taken ≡ cost s.committed s.working (entry_at s.working n entry)

-- and of the double-indirect node of an entry, and the indirect node in a place of it
abbrev pub IsPairCost : StoreState → ℕ → ℕ → ℕ → ℕ → Type 0
IsPairCost s n entry outer taken = Told s
    → taken ≡ cost s.committed s.working (entry_at s.working n entry)
    + cost s.committed s.working (pointer_at s.working Double (entry_at s.working n entry) outer)

-- ---- pointer nodes that a cut meets

-- the pointer node has a pointer, if there is one
abbrev pub HasSome : View → Form → ℕ → Type 0
HasSome v form b = b ≢ 0 → has_pointer v form b ≡ true

-- Each pointer node on a way has a pointer, where the way is not the first one through it: then a cut there goes through it. A
-- double-indirect one has one anyway.
abbrev pub HasSomeOnWay : View → ℕ → Way → Type 0
HasSomeOnWay v n (way.Direct entry) = Unit {0}
HasSomeOnWay v n (way.Single entry place) = place ≢ 0 → HasSome v Indirect (entry_at v n entry)
HasSomeOnWay v n (way.Double entry outer place) =
    HasSome v Double (entry_at v n entry) × (place ≢ 0 → HasSome v Indirect (pointer_at v Double (entry_at v n entry) outer))

abbrev pub IsSomeOnWay : StoreState → ℕ → Way → Type 0
IsSomeOnWay s n on = Told s → HasSomeOnWay s.working n on

-- each one on the way to data block i of node n
abbrev pub IsSomeOnWayTo : StoreState → ℕ → ℕ → Type 0
IsSomeOnWayTo s n i = Told s → i < max_blocks_of s.origin.request → HasSomeOnWay s.working n (way_of s.origin.request i)

-- the pointer node of the spot
abbrev pub HasSomeAt : StoreState → Spot → Type 0
HasSomeAt s spot = Told s → has_pointer s.working spot.form spot.block ≡ true

-- an indirect node that is cut from a place on, which is not its first
abbrev pub HasSomeWithin : StoreState → ℕ → ℕ → Type 0
HasSomeWithin s b place = Told s → place ≢ 0 → HasSome s.working Indirect b

-- A cut that goes through no pointer node: each one had a pointer that hung under the entries that went.
abbrev pub HasFullGone : Request → View → ℕ → Cut → Type 0
HasFullGone g v n (cuts.Whole entry) = IsFullInode g v n entry
HasFullGone g v n (cuts.Node entry place) = Unit {0}
HasFullGone g v n (cuts.Top entry place) = Unit {0}
HasFullGone g v n (cuts.Both entry outer place) = Unit {0}

abbrev pub IsFullGone : StoreState → ℕ → ℕ → Type 0
IsFullGone s n i = Told s → HasFullGone s.origin.request s.working n (cut_at s.origin.request s.working n i)

-- What cutting does, where the views are told. s is a store as a call begins; old and new are it and the store after the call.
use Rattle.std.specs.Prelude.{◌≡◌, ◌≢◌, ◌≤◌, ℕ, true, false, List, Result}
use Rattle.edge_base.specs.declared.form.Form.{Form}
use Rattle.edge_base.specs.declared.form.Form.TheVariants.{Plain, Indirect, Double}
use Rattle.edge_base.specs.declared.geometry.Request.{Request}
use Rattle.edge_base.specs.layout.Places.{entries_of, pointers_of}
use Rattle.edge_store.specs.declared.fault.StoreFault.{StoreFault}
use Rattle.edge_store.specs.declared.spot.Spot.{Spot}
use Rattle.edge_store.specs.Calls.{NeverDamaged}
use Rattle.edge_store.specs.State.{StoreState, Told}
use Rattle.edge_store.specs.Damages.{form_under}
use Rattle.edge_store.specs.View.{View, IsView, is_spot, is_used, free_now}
use Rattle.edge_moves.specs.Renewal.{EntryRenewed, PointerRenewed}
use Rattle.edge_shape.specs.declared.cut.Cut.{Cut}
use Rattle.edge_shape.specs.declared.cut.Cut.TheVariants.{Whole, Node, Top}
use Rattle.edge_shape.specs.Cut.{IsCut}
use Rattle.edge_shape.specs.Shape.{HasShape}
use Rattle.edge_shape.specs.Steps.{Steps}
use Rattle.edge_shape.specs.Where.{cut_at, need_of, cut_need, GoesThrough}
use Rattle.edge_shape.specs.Trees.{in_tree, IsSoundTree, IsSoundInode}
use Rattle.edge_shape.specs.Cutting.{CutPlaces, CutEntries}
use Rattle.edge_cut.specs.Dropped.{without, IsAtEntry, StaysLinked, top_below, IsLost, IsHollow, IsFull, IsFullInode}

-- ---- what is asked

-- The block of the spot, if it is a pointer node, stays linked while the block top stays.
abbrev pub HangsBeside : StoreState → Spot → ℕ → Type 0
HangsBeside s spot top = Told s → spot.form ≢ Plain → StaysLinked s.origin.request s.working spot.owner top spot.form spot.block

-- The block that a place of a pointer node leads to, if it is a pointer node, stays linked while the one above it stays, or the block top.
abbrev pub StaysBelow : StoreState → Spot → ℕ → ℕ → Type 0
StaysBelow s at top b = Told s → form_under at.form ≢ Plain
    → StaysLinked s.origin.request s.working at.owner (top_below at.form at.block top) (form_under at.form) b

-- The block top is a double-indirect node of node n, or 0.
abbrev pub IsTopOf : StoreState → ℕ → ℕ → Type 0
IsTopOf s n top = Told s → top ≢ 0 → IsAtEntry s.origin.request s.working n Double top

-- the last point does not use the block
abbrev pub IsUncommitted : StoreState → ℕ → Type 0
IsUncommitted s b = Told s → is_used s.committed b ≡ false

abbrev pub LosesBlock : StoreState → ℕ → Type 0
LosesBlock s b = Told s → IsLost s.origin.request s.working b

abbrev pub IsHollowSpot : StoreState → Spot → Type 0
IsHollowSpot s spot = Told s → IsHollow s.origin.request s.working spot.owner spot.form spot.block

-- ---- damage

-- No damage is told where the block is used, with its form and its owner, and is not the block top.
abbrev pub NeverOnSpot : {T : Type 0} → StoreState → Spot → ℕ → Result T StoreFault → Type 0
NeverOnSpot s spot top result = Told s → is_spot s.working spot.form spot.owner spot.block ≡ true → spot.block ≢ top → NeverDamaged result

-- No damage is told where what hangs under the block is sound, and does not have the block top.
abbrev pub NeverOnSoundTree : {T : Type 0} → StoreState → Spot → ℕ → Result T StoreFault → Type 0
NeverOnSoundTree s spot top result = Told s → IsSoundTree s.origin.request s.working spot.form spot.owner spot.block
    → (top ≢ 0 → in_tree s.working spot.form spot.block top ≡ false) → NeverDamaged result

-- The same of what hangs in a place of a pointer node that does not hang under it itself.
abbrev pub NeverOnSoundBelow : {T : Type 0} → StoreState → Spot → ℕ → ℕ → Result T StoreFault → Type 0
NeverOnSoundBelow s at top b result = Told s → IsSoundTree s.origin.request s.working (form_under at.form) at.owner b
    → in_tree s.working (form_under at.form) b at.block ≡ false → (top ≢ 0 → in_tree s.working (form_under at.form) b top ≡ false) → NeverDamaged result

-- No damage is told where all that hangs under the entries from one on is sound.
abbrev pub NeverOnSoundInode : {T : Type 0} → StoreState → ℕ → ℕ → Result T StoreFault → Type 0
NeverOnSoundInode s n from result = Told s → IsSoundInode s.origin.request s.working n from → NeverDamaged result

-- ---- effects

-- the block and all that hangs under it are not used any more, and all else is as it was
abbrev pub DropsTree : StoreState → StoreState → Spot → Type 0
DropsTree old new spot = Told old → new.working ≡ without old.working (in_tree old.working spot.form spot.block)

-- each pointer node of it had a pointer
abbrev pub IsFullSpot : StoreState → Spot → Type 0
IsFullSpot s spot = Told s → IsFull s.working spot.form spot.block

abbrev pub KeepsBlock : StoreState → StoreState → ℕ → Type 0
KeepsBlock old new b = Told old → new.working.blocks b ≡ old.working.blocks b

abbrev pub DropsBelow : StoreState → StoreState → Spot → ℕ → Type 0
DropsBelow old new at b = Told old → new.working ≡ without old.working (in_tree old.working (form_under at.form) b)

-- The pointers of a sound node from a place on are gone, with all that hangs under them.
abbrev pub CutsPlaces : StoreState → StoreState → Spot → ℕ → Type 0
CutsPlaces old new at from = Told old → IsSoundTree old.origin.request old.working at.form at.owner at.block
    → CutPlaces old.working new.working at.form at.owner at.block from (pointers_of old.origin.request)

-- Where all that hangs under the entries from one on is sound, they are gone, with all of it.
abbrev pub CutsEntries : StoreState → StoreState → ℕ → ℕ → Type 0
CutsEntries old new n from = Told old → IsSoundInode old.origin.request old.working n from
    → CutEntries old.origin.request old.working new.working n from (entries_of old.origin.request)

-- each pointer node had a pointer that hung under them
abbrev pub AreFullEntries : StoreState → ℕ → ℕ → Type 0
AreFullEntries s n from = Told s → IsFullInode s.origin.request s.working n from

-- ---- a cut of a node

-- the pointer node of an entry is cut from a place on
abbrev pub node_cut : Form → ℕ → ℕ → Cut
node_cut Double entry place = Top entry place
node_cut Indirect entry place = Node entry place
node_cut Plain entry place = Whole entry

-- as many blocks are free as a cut needs
abbrev pub RoomForCut : StoreState → ℕ → Cut → Type 0
RoomForCut s n cut = need_of s.committed s.working n cut ≤ free_now s.origin.request s.committed s.working

abbrev pub RoomForCutAt : StoreState → ℕ → ℕ → Type 0
RoomForCutAt s n i = cut_need s.origin.request s.committed s.working n i ≤ free_now s.origin.request s.committed s.working

-- No damage is told of a node of some shape of which something stays in each pointer node that the cut goes through, where there is room.
abbrev pub NeverOnCut : {T : Type 0} → StoreState → ℕ → Cut → Result T StoreFault → Type 0
NeverOnCut s n cut result = Told s → (indices : List ℕ) → HasShape s.origin.request s.working n indices → GoesThrough s.origin.request indices cut
    → RoomForCut s n cut → NeverDamaged result

abbrev pub TakesSteps : StoreState → StoreState → ℕ → Cut → Type 0
TakesSteps old new n cut = Told old → Steps old.origin.request old.committed old.working new.working n cut

abbrev pub TakesStepsAt : StoreState → StoreState → ℕ → ℕ → Type 0
TakesStepsAt old new n i = Told old → Steps old.origin.request old.committed old.working new.working n (cut_at old.origin.request old.working n i)

-- Node n is cut at index i, if it had the shape of a node.
abbrev pub CutsFrom : StoreState → StoreState → ℕ → ℕ → Type 0
CutsFrom old new n i = Told old → (indices : List ℕ) → HasShape old.origin.request old.working n indices
    → IsCut old.origin.request old.committed old.working new.working n i indices

-- ---- two pointer nodes made new

-- The double-indirect node of an entry is new, as block top, and then the indirect node in a place of it, as block node.
pub record PairRenewed (g : Request) (c v w : View) (n entry outer top node : ℕ) : Type 0 where
  pub between : View
  pub view : IsView g between
  pub entry_made : EntryRenewed g c v between n entry top
  pub node_made : PointerRenewed g c between w Double n top outer node

abbrev pub RenewsPair : StoreState → StoreState → ℕ → ℕ → ℕ → ℕ → ℕ → Type 0
RenewsPair old new n entry outer top node = Told old → PairRenewed old.origin.request old.committed old.working new.working n entry outer top node

-- the double-indirect node is used, with its form and owner
abbrev pub IsTopSpot : StoreState → ℕ → ℕ → Type 0
IsTopSpot s n top = Told s → is_spot s.working Double n top ≡ true

-- the indirect node stays linked while the double-indirect one stays
abbrev pub StaysUnder : StoreState → ℕ → ℕ → ℕ → Type 0
StaysUnder s n top node = Told s → StaysLinked s.origin.request s.working n top Indirect node

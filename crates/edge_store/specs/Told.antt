-- What calls answer and do where the views are told: each word has that as its premise. s is a store as a call begins; old and new are
-- it and the store after the call.
use Rattle.std.specs.Prelude.{◌≡◌, ℕ, Bool, List, slice_index, slice_range, Option, Result}
use Rattle.edge_base.specs.declared.form.Form.{Form}
use Rattle.edge_base.specs.declared.form.Form.TheVariants.{Plain}
use Rattle.edge_base.specs.declared.node.Head.{Head}
use Rattle.edge_store.specs.declared.fault.StoreFault.{StoreFault}
use Rattle.edge_store.specs.declared.spot.Spot.{Spot}
use Rattle.edge_store.specs.Calls.{Meets, NeverDamaged}
use Rattle.edge_store.specs.Damages.{damage_at, damage_of_inode}
use Rattle.edge_store.specs.Effects.{IsHeadAt, HeadSet, EntrySet, InodeMade, InodeDropped, Taken, Copied, BlockDropped, PointerSet, BytesSet}
use Rattle.edge_store.specs.Placed.{entry_at}
use Rattle.edge_store.specs.State.{StoreState, Told, IsLive}
use Rattle.edge_store.specs.View.{bytes_in, content_at, entries_in, free_now, free_after, free_inodes, is_new}

-- ---- damage

-- a call that names inode n
abbrev pub MeetsInode : {T : Type 0} → StoreState → StoreState → ℕ → Result T StoreFault → Type 0
MeetsInode old new n result = Told old → Meets (damage_of_inode (old.working.inodes n)) old new result

-- a call that names a block, with its form and its owner
abbrev pub MeetsBlock : {T : Type 0} → StoreState → StoreState → Spot → Result T StoreFault → Type 0
MeetsBlock old new spot result = Told old → Meets (damage_at old.working spot.form spot.owner spot.block) old new result

-- a call that names neither
abbrev pub MeetsNone : {T : Type 0} → StoreState → Result T StoreFault → Type 0
MeetsNone s result = Told s → NeverDamaged result

-- ---- answers

abbrev pub IsHeadOf : StoreState → ℕ → Option Head → Type 0
IsHeadOf s n found = Told s → IsHeadAt s.working n found

abbrev pub IsPlaceOf : StoreState → ℕ → ℕ → Type 0
IsPlaceOf s n b = Told s → b ≡ s.places n

abbrev pub IsEntryOf : StoreState → ℕ → ℕ → ℕ → Type 0
IsEntryOf s n e b = Told s → b ≡ entry_at s.working n e

abbrev pub IsPointerOf : StoreState → Spot → ℕ → ℕ → Type 0
IsPointerOf s spot i b = Told s → b ≡ slice_index (entries_in (content_at s.working spot.form spot.block)) i

-- the bytes of a block from one place up to another
abbrev pub AreBytesOf : StoreState → Spot → ℕ → ℕ → List ℕ → Type 0
AreBytesOf s spot from to bytes = Told s → bytes ≡ slice_range (bytes_in (content_at s.working Plain spot.block)) from to

abbrev pub IsNewOf : StoreState → ℕ → Bool → Type 0
IsNewOf s b new = Told s → new ≡ is_new s.committed s.working b

-- ---- room, as long as the store is live

abbrev pub AreFreeNow : StoreState → ℕ → Type 0
AreFreeNow s count = Told s → IsLive s → count ≡ free_now s.origin.request s.committed s.working

abbrev pub AreFreeAfter : StoreState → ℕ → Type 0
AreFreeAfter s count = Told s → IsLive s → count ≡ free_after s.origin.request s.working

abbrev pub AreFreeInodes : StoreState → ℕ → Type 0
AreFreeInodes s count = Told s → IsLive s → count ≡ free_inodes s.origin.request s.working

-- ---- changes

abbrev pub SetsHead : StoreState → StoreState → ℕ → Head → Type 0
SetsHead old new n head = Told old → HeadSet old.working new.working n head

abbrev pub SetsEntry : StoreState → StoreState → ℕ → ℕ → ℕ → Type 0
SetsEntry old new n e to = Told old → EntrySet old.working new.working n e to

abbrev pub MakesInode : StoreState → StoreState → Head → Option ℕ → Type 0
MakesInode old new head found = Told old → InodeMade old.origin.request old.working new.working head found

abbrev pub DropsInode : StoreState → StoreState → ℕ → Type 0
DropsInode old new n = Told old → InodeDropped old.working new.working n

abbrev pub SetsPointer : StoreState → StoreState → Spot → ℕ → ℕ → Type 0
SetsPointer old new spot i to = Told old → PointerSet old.working new.working spot.form spot.owner spot.block i to

abbrev pub SetsBytes : StoreState → StoreState → Spot → ℕ → List ℕ → Type 0
SetsBytes old new spot at bytes = Told old → BytesSet old.working new.working spot.block at bytes

abbrev pub Takes : StoreState → StoreState → Form → ℕ → ℕ → Type 0
Takes old new form owner b = Told old → Taken old.origin.request old.committed old.working new.working form owner b

abbrev pub Copies : StoreState → StoreState → Spot → ℕ → Type 0
Copies old new spot b = Told old → Copied old.origin.request old.committed old.working new.working spot.form spot.block b

abbrev pub DropsBlock : StoreState → StoreState → Spot → Type 0
DropsBlock old new spot = Told old → BlockDropped old.working new.working spot.block

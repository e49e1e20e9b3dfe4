-- What calls do that make blocks of a node new, where the views are told. s is a store as a call begins; old and new are it and the store
-- after the call.
use Rattle.std.specs.Prelude.{◌≡◌, ◌≢◌, ◌+◌, ◌<◌, ◌≤◌, ℕ, true, List, Result, Err}
use Rattle.edge_base.specs.declared.damage.Damage.{Damage}
use Rattle.edge_base.specs.declared.damage.DamageKind.TheVariants.{Tangled}
use Rattle.edge_base.specs.declared.way.Way.{Way}
use Rattle.edge_store.specs.declared.fault.StoreFault.{StoreFault}
use Rattle.edge_store.specs.declared.fault.StoreFault.TheVariants.{Damaged}
use Rattle.edge_store.specs.declared.spot.Spot.{Spot}
use Rattle.edge_store.specs.Calls.{NeverDamaged, TellsNoTangle}
use Rattle.edge_store.specs.Damages.{form_of_entry}
use Rattle.edge_store.specs.Placed.{entry_at, pointer_at, data_block, HasPlaces, IsOnce, IsShaped}
use Rattle.edge_store.specs.State.{StoreState, Told}
use Rattle.edge_store.specs.View.{entries_of_inode, is_spot, is_whole, free_now}
use Rattle.edge_moves.specs.Sound.{IsSound, IsApart}
use Rattle.edge_moves.specs.Renewal.{cost, EntryRenewed, PointerRenewed, SameHeads}
use Rattle.edge_moves.specs.Writable.{IsMadeWritable, fresh_on_chain}
use Rattle.edge_tree.specs.Chains.{cost_of_way}

-- ---- room

-- at most two blocks are free
abbrev pub HasFew : StoreState → Type 0
HasFew s = Told s → free_now s.origin.request s.committed s.working < 3

-- as many blocks are free as it takes to make this block new
abbrev pub RoomForBlock : StoreState → ℕ → Type 0
RoomForBlock s b = cost s.committed s.working b ≤ free_now s.origin.request s.committed s.working

abbrev pub RoomForEntry : StoreState → ℕ → ℕ → Type 0
RoomForEntry s n e = RoomForBlock s (entry_at s.working n e)

abbrev pub RoomForPointer : StoreState → Spot → ℕ → Type 0
RoomForPointer s at i = RoomForBlock s (pointer_at s.working at.form at.block i)

-- the block of an entry, and the one in a place of it
abbrev pub RoomForUnder : StoreState → ℕ → ℕ → ℕ → Type 0
RoomForUnder s n e place =
    cost s.committed s.working (entry_at s.working n e)
    + cost s.committed s.working (pointer_at s.working (form_of_entry s.origin.request e) (entry_at s.working n e) place)
    ≤ free_now s.origin.request s.committed s.working

-- the blocks on a way
abbrev pub RoomForWay : StoreState → ℕ → Way → Type 0
RoomForWay s n way = cost_of_way s.committed s.working (entries_of_inode (s.working.inodes n)) way ≤ free_now s.origin.request s.committed s.working

-- the positions of a chain
abbrev pub RoomForChain : StoreState → ℕ → ℕ → Type 0
RoomForChain s n i = fresh_on_chain s.origin.request s.committed s.working n i ≤ free_now s.origin.request s.committed s.working

-- ---- damage

-- the place of inode n is told as the block of a tangled node, if damage is told
abbrev pub IsTangledAt : StoreState → ℕ → StoreFault → Type 0
IsTangledAt s n fault = Told s → (damage : Damage) → fault ≡ Damaged damage → damage ≡ record { block = s.places n; kind = Tangled }

-- a tangled node that is told is node n: its block is the place of that inode, as the call leaves it
abbrev pub TellsTangleOf : {T : Type 0} → StoreState → StoreState → ℕ → Result T StoreFault → Type 0
TellsTangleOf old new n result = Told old → (damage : Damage) → result ≡ Err (Damaged damage) → damage.kind ≡ Tangled → damage.block ≡ new.places n

-- no tangled node is told where there is room
abbrev pub UntangledIf : {T : Type 0} → StoreState → Type 0 → Result T StoreFault → Type 0
UntangledIf s room result = Told s → room → TellsNoTangle result

-- no damage is told where what is named keeps its rules, and there is room
abbrev pub UndamagedIf : {T : Type 0} → StoreState → Type 0 → Type 0 → Result T StoreFault → Type 0
UndamagedIf s rules room result = Told s → rules → room → NeverDamaged result

abbrev pub IsSpotSound : StoreState → Spot → Type 0
IsSpotSound s spot = spot.block ≢ 0 → is_spot s.working spot.form spot.owner spot.block ≡ true

-- node n can be read, and its blocks are sound
abbrev pub IsNodeSound : StoreState → ℕ → Type 0
IsNodeSound s n = (is_whole (s.working.inodes n) ≡ true) × IsSound s.origin.request s.working n

-- besides, each of its blocks is at one position
abbrev pub IsNodeTidy : StoreState → ℕ → Type 0
IsNodeTidy s n = (is_whole (s.working.inodes n) ≡ true) × IsSound s.origin.request s.working n × IsApart s.origin.request s.working n

abbrev pub IsNodeShaped : StoreState → ℕ → Type 0
IsNodeShaped s n = IsShaped s.origin.request s.working n

-- ---- effects

abbrev pub RenewsEntry : StoreState → StoreState → ℕ → ℕ → ℕ → Type 0
RenewsEntry old new n e b = Told old → EntryRenewed old.origin.request old.committed old.working new.working n e b

abbrev pub RenewsPointer : StoreState → StoreState → Spot → ℕ → ℕ → Type 0
RenewsPointer old new at i b = Told old → PointerRenewed old.origin.request old.committed old.working new.working at.form at.owner at.block i b

abbrev pub KeepsInodes : StoreState → StoreState → Type 0
KeepsInodes old new = Told old → new.working.inodes ≡ old.working.inodes

-- number n keeps its head, and the others their inodes
abbrev pub KeepsHeads : StoreState → StoreState → ℕ → Type 0
KeepsHeads old new n = Told old → SameHeads old.working new.working n

-- the pointer in a place of a node leads to the block
abbrev pub LeadsTo : StoreState → Spot → ℕ → ℕ → Type 0
LeadsTo s at i b = Told s → (is_spot s.working at.form at.owner at.block ≡ true) × (b ≡ pointer_at s.working at.form at.block i)

-- Data block i of node n is block b, to be written, if the node had the shape of a node.
abbrev pub MakesWritable : StoreState → StoreState → ℕ → ℕ → ℕ → Type 0
MakesWritable old new n i b = Told old → (indices : List ℕ)
    → HasPlaces old.origin.request old.working n indices → IsOnce old.origin.request old.working n indices
    → IsMadeWritable old.origin.request old.committed old.working new.working n i indices × (data_block old.origin.request new.working n i ≡ b)

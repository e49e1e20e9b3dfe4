-- A name taken from a node, and a node dropped with its last one. old and new are the store as a call begins and after it.
use Rattle.std.specs.Prelude.{◌≡◌, ◌≢◌, ◌≤◌, ℕ, Bool, true, false, is_some, List, [], Some, Option}
use Rattle.edge_base.specs.declared.geometry.Request.{Request}
use Rattle.edge_base.specs.tree.Slots.{Entry}
use Rattle.edge_store.specs.declared.fault.StoreFault.{StoreFault}
use Rattle.edge_store.specs.State.{StoreState}
use Rattle.edge_store.specs.View.{free_now}
use Rattle.edge_model.specs.Named.{without_slot}
use Rattle.edge_model.specs.Names.{unnamed}
use Rattle.edge_model.specs.Rules.{IsTree}
use Rattle.edge_model.specs.State.{State}
use Rattle.edge_model.specs.Tree.{is_directory, links_of, slots_at}
use Rattle.edge_dir.specs.Cleared.{clearing_need}
use Rattle.edge_steps.specs.Naming.{slot_of}
use Rattle.edge_volume.specs.Parts.{IsOfNoDamage}
use Rattle.edge_volume.specs.Volume.{StoreStands}
use Rattle.edge_names.specs.Carried.{CarriesOut}

-- In the tree of a state a slot of directory d names node n, which is another; without that name, and without the node where it is the last one,
-- it is a tree.
pub record MayUnname (g : Request) (z : State) (n d slot : ℕ) (last : Bool) : Type 0 where
  pub tree : IsTree g z.tree
  pub directory : is_directory z.tree d ≡ true
  pub other : d ≢ n
  pub there : is_some (z.tree n) ≡ true
  pub entry : Entry
  pub named : slot_of z.tree d slot ≡ Some entry
  pub number : entry.number ≡ n
  pub tree_then : IsTree g (unnamed g z.tree d (record { slot = slot; number = n }) last).tree

-- Where that may be of a file with other names it is carried out.
abbrev pub Unnames : StoreState → StoreState → ℕ → ℕ → ℕ → Type 0
Unnames old new n d slot = (z : State) → StoreStands old z → MayUnname old.origin.request z n d slot false → is_directory z.tree n ≡ false
    → CarriesOut old new z (unnamed old.origin.request z.tree d (record { slot = slot; number = n }) false)

-- So it is where a node without slots is dropped with its name.
abbrev pub Drops : StoreState → StoreState → ℕ → ℕ → ℕ → Type 0
Drops old new n d slot = (z : State) → StoreStands old z → MayUnname old.origin.request z n d slot true → slots_at z.tree n ≡ []
    → CarriesOut old new z (unnamed old.origin.request z.tree d (record { slot = slot; number = n }) true)

-- as many blocks are free as clearing the slot takes
abbrev pub HasRoomToClear : StoreState → State → ℕ → ℕ → Type 0
HasRoomToClear old z d slot = clearing_need old d slot (without_slot (slots_at z.tree d) slot) ≤ free_now old.origin.request old.committed old.working

-- no damage is told where there is that room
abbrev pub NeverUnnaming : StoreState → ℕ → ℕ → ℕ → Bool → Option StoreFault → Type 0
NeverUnnaming old n d slot last fault = (z : State) → StoreStands old z → MayUnname old.origin.request z n d slot last → HasRoomToClear old z d slot
    → IsOfNoDamage fault

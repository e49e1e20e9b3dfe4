-- A further name of a file. old and new are the store as a call begins and after it.
use Rattle.std.specs.Prelude.{◌≡◌, ◌+◌, ℕ, true, false, is_some, Option, List, [], ◌∷◌, Ok}
use Rattle.edge_base.specs.declared.geometry.Request.{Request}
use Rattle.edge_store.specs.declared.fault.StoreFault.{StoreFault}
use Rattle.edge_store.specs.State.{StoreState}
use Rattle.edge_model.specs.Named.{new_slot, placed, slot_position}
use Rattle.edge_model.specs.Rules.{IsTree}
use Rattle.edge_model.specs.State.{State, Edit}
use Rattle.edge_model.specs.Tree.{Tree, is_directory}
use Rattle.edge_file.specs.Writing.{RoomForBytes}
use Rattle.edge_dir.specs.Written.{place_of_slot}
use Rattle.edge_volume.specs.Parts.{IsOfNoDamage}
use Rattle.edge_volume.specs.Volume.{StoreStands}
use Rattle.edge_names.specs.Carried.{CarriesOut}

-- the change by which number n gets this name in a slot of directory d
abbrev pub linked : Request → Tree → ℕ → ℕ → ℕ → List ℕ → Edit
linked g t n d slot name = record {
  tree = placed t d slot (record { name = name; number = n });
  writes = slot_position g d slot ∷ [];
  removes = [];
  reserve = 3;
}

-- In the tree of a state file n may get this name, in the slot of directory d that a new name takes.
pub record MayLink (g : Request) (z : State) (n d slot : ℕ) (name : List ℕ) : Type 0 where
  pub tree : IsTree g z.tree
  pub file : (is_some (z.tree n) ≡ true) × (is_directory z.tree n ≡ false)
  pub directory : is_directory z.tree d ≡ true
  pub room : new_slot g z.tree d ≡ Ok slot
  pub tree_then : IsTree g (linked g z.tree n d slot name).tree

-- Where that may be it is carried out.
abbrev pub Links : StoreState → StoreState → ℕ → ℕ → ℕ → List ℕ → Type 0
Links old new n d slot name = (z : State) → StoreStands old z → MayLink old.origin.request z n d slot name
    → CarriesOut old new z (linked old.origin.request z.tree n d slot name)

-- and no damage is told where there is room for the slot's block
abbrev pub NeverLinking : StoreState → ℕ → ℕ → ℕ → List ℕ → Option StoreFault → Type 0
NeverLinking old n d slot name fault = (z : State) → StoreStands old z → MayLink old.origin.request z n d slot name
    → RoomForBytes old d (place_of_slot old.origin.request slot) (4 + old.origin.request.name_max) → IsOfNoDamage fault

-- A name moved from one slot to another. old and new are the store as a call begins and after it.
use Rattle.std.specs.Prelude.{◌≡◌, ◌≢◌, ◌≤◌, ℕ, true, is_some, List, [], Option, Some, None, Ok}
use Rattle.edge_base.specs.declared.geometry.Request.{Request}
use Rattle.edge_base.specs.tree.Slots.{Entry}
use Rattle.edge_store.specs.declared.fault.StoreFault.{StoreFault}
use Rattle.edge_store.specs.State.{StoreState}
use Rattle.edge_store.specs.View.{free_now}
use Rattle.edge_model.specs.Named.{new_slot}
use Rattle.edge_model.specs.Names.{renamed}
use Rattle.edge_model.specs.Rules.{IsTree}
use Rattle.edge_model.specs.State.{State, Edit}
use Rattle.edge_model.specs.Tree.{Tree, is_directory, slots_at}
use Rattle.edge_model.specs.Walk.{within, find_name}
use Rattle.edge_space.specs.Changes.{AreLeft, need_of_change}
use Rattle.edge_space.specs.declared.change.Change.TheVariants.{Slots}
use Rattle.edge_space.specs.declared.change.SlotAt.{SlotAt}
use Rattle.edge_steps.specs.Naming.{slot_of}
use Rattle.edge_volume.specs.Parts.{IsOfNoDamage}
use Rattle.edge_volume.specs.Volume.{StoreStands}
use Rattle.edge_names.specs.Carried.{CarriesOut}
use Rattle.edge_names.specs.declared.moves.Move.{Move}
use Rattle.edge_names.specs.declared.moves.NamedNode.{NamedNode}

-- ---- the change

abbrev pub number_of : Option NamedNode → Option ℕ
number_of None = None
number_of (Some node) = Some node.number

-- the change of a tree that moves the name; of the place that it is moved from the directory and the slot count
abbrev pub moved : Request → Tree → Move → List ℕ → Edit
moved g t m name =
    renamed g t (within m.from.dir name) (record { slot = m.from.slot; number = m.node.number }) (within m.to.dir name) m.to.slot (number_of m.replaced)

-- ---- when it may be made

-- The name is not in the directory that it is moved to, and is put into the slot that a new name takes.
pub record IsNew (g : Request) (t : Tree) (m : Move) (name : List ℕ) : Type 0 where
  pub absent : find_name t m.to.dir name ≡ None
  pub room : new_slot g t m.to.dir ≡ Ok m.to.slot

-- The slot has the name, of a node without slots: it is neither the node that is moved nor one of the directories.
pub record IsReplaced (t : Tree) (m : Move) (name : List ℕ) (node : NamedNode) : Type 0 where
  pub named : slot_of t m.to.dir m.to.slot ≡ Some (record { name = name; number = node.number })
  pub other : node.number ≢ m.node.number
  pub not_from : m.from.dir ≢ node.number
  pub not_to : m.to.dir ≢ node.number
  pub slotless : slots_at t node.number ≡ []

abbrev pub IsPlaced : Request → Tree → Move → List ℕ → Option NamedNode → Type 0
IsPlaced g t m name None = IsNew g t m name
IsPlaced g t m name (Some node) = IsReplaced t m name node

-- In the tree of a state a slot names the node, and the name may be moved to the other slot: that leads to a tree.
pub record MayMove (g : Request) (z : State) (m : Move) (name : List ℕ) : Type 0 where
  pub tree : IsTree g z.tree
  -- the directory that the name is moved from
  pub from : is_directory z.tree m.from.dir ≡ true
  pub entry : Entry
  pub named : slot_of z.tree m.from.dir m.from.slot ≡ Some entry
  pub number : entry.number ≡ m.node.number
  -- and the one that it is moved to
  pub to : is_directory z.tree m.to.dir ≡ true
  pub placed : IsPlaced g z.tree m name m.replaced
  pub apart : m.to.dir ≡ m.from.dir → m.to.slot ≢ m.from.slot
  -- the node, which is neither of them
  pub there : is_some (z.tree m.node.number) ≡ true
  pub not_from : m.from.dir ≢ m.node.number
  pub not_to : m.to.dir ≢ m.node.number
  pub tree_then : IsTree g (moved g z.tree m name).tree

-- Where it may be made it is carried out.
abbrev pub Moves : StoreState → StoreState → Move → List ℕ → Type 0
Moves old new m name = (z : State) → StoreStands old z → MayMove old.origin.request z m name
    → CarriesOut old new z (moved old.origin.request z.tree m name)

-- as many blocks are free as it takes to put an entry into one slot and then to clear another
abbrev pub HasRoomToMove : StoreState → SlotAt → SlotAt → Type 0
HasRoomToMove old put clear = let g = old.origin.request in (left : ℕ) → AreLeft g old.working (Slots (Some put) (Some clear)) left
    → need_of_change g old.committed old.working (Slots (Some put) (Some clear)) left ≤ free_now g old.committed old.working

-- no damage is told where there is that room
abbrev pub NeverMoving : StoreState → Move → List ℕ → Option StoreFault → Type 0
NeverMoving old m name fault = (z : State) → StoreStands old z → MayMove old.origin.request z m name → HasRoomToMove old m.to m.from → IsOfNoDamage fault

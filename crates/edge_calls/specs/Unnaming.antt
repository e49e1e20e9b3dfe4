-- Taking away a name of a node, which is dropped with its last one. st, old and new are a store as a call begins and after it.
use Rattle.std.specs.Prelude.{◌≡◌, ◌<◌, ◌/◌, ◌==◌, ℕ, Bool, List, [], Some, Result, Ok, Err}
use Rattle.edge_base.specs.commands.Events as event
use Rattle.edge_base.specs.commands.Refusals.{◌>>=◌, or_refuse}
use Rattle.edge_base.specs.declared.geometry.Request.{Request}
use Rattle.edge_base.specs.declared.refusal.Refusal.{Refusal}
use Rattle.edge_base.specs.declared.refusal.Refusal.TheVariants as refusal
use Rattle.edge_base.specs.layout.Places.{max_blocks_of}
use Rattle.edge_base.specs.tree.Slots.{Entry, slots_in_block}
use Rattle.edge_store.specs.State.{StoreState}
use Rattle.edge_model.specs.Asked.{Asked, unlink, remove_dir, done}
use Rattle.edge_model.specs.Names.{unnamed, has_one_link}
use Rattle.edge_model.specs.State.{State, Plan, Edit, changes}
use Rattle.edge_model.specs.Step.{plan}
use Rattle.edge_model.specs.Tree.{Tree, links_of, slots_at}
use Rattle.edge_model.specs.Walk as tree
use Rattle.edge_steps.specs.Naming.{slot_of}
use Rattle.edge_volume.specs.Nodes.{IsNodeOf}
use Rattle.edge_volume.specs.Volume.{VolumeState, StoreStands, VolumeStands, request_of}
use Rattle.edge_walk.specs.Reached.{IsHolder}
use Rattle.edge_names.specs.Carried.{CarriesOut}
use Rattle.edge_names.specs.Unnamed.{MayUnname}
use Rattle.edge_calls.specs.declared.unname.Named.{Named}

-- ---- a name that a path leads to

-- the slot of a directory that has a name, with the number that it names
pub record NameAt : Type 0 where
  pub d : ℕ
  pub found : tree.Found

-- no name leads to the root, which is refused
abbrev pub named_in : tree.Spot → tree.Found → Refusal → Result NameAt Refusal
named_in tree.top found at_root = Err at_root
named_in (tree.within d name) found at_root = Ok (record { d = d; found = found })

-- the name that a path leads to, or why there is none
abbrev pub name_of : Request → Tree → List ℕ → Refusal → Result NameAt Refusal
name_of g t path at_root = do
  spot ← tree.spot_of g t path
  found ← or_refuse (tree.at_spot t spot) refusal.NoEntry
  named_in spot found at_root

abbrev pub found_in : Named → tree.Found
found_in named = record { slot = named.slot; number = named.number }

abbrev pub name_in : Result Named Refusal → Result NameAt Refusal
name_in (Ok named) = Ok (record { d = named.d; found = found_in named })
name_in (Err e) = Err e

-- The slot lies in a block that a directory may have, the directory is one, and the number has this head.
pub record IsNamedNode (st : StoreState) (named : Named) : Type 0 where
  pub holder : IsHolder st named.d
  pub block : named.slot / slots_in_block st.origin.request < max_blocks_of st.origin.request
  pub node : IsNodeOf st named.number named.head

-- ---- a name that may go

-- whether it is the last one of its node
abbrev pub is_last : Named → Bool
is_last named = named.head.links == 1

-- In a tree the slot names the node, which has no slots, and so many links.
pub record IsLeafName (g : Request) (t : Tree) (named : Named) : Type 0 where
  pub entry : Entry
  pub there : slot_of t named.d named.slot ≡ Some entry
  pub number : entry.number ≡ named.number
  pub slotless : slots_at t named.number ≡ []
  pub links : links_of g t named.number ≡ named.head.links

-- the change by which it goes
abbrev pub unnaming_edit : Request → Tree → Named → Edit
unnaming_edit g t named = unnamed g t named.d (found_in named) (has_one_link g t named.number)

-- what a command plans that takes it away, or why it is refused
abbrev pub unnaming : Request → State → Result Named Refusal → Result Plan Refusal
unnaming g s (Ok named) = Ok (changes s (unnaming_edit g s.tree named) event.unlink done)
unnaming g s (Err e) = Err e

-- The commands that take a name away.
pub data Unnames : Asked → Type 0 where
  of_file : (path : List ℕ) → Unnames (unlink path)
  of_directory : (path : List ℕ) → Unnames (remove_dir path)

-- In each state that the volume stands for the command plans to take this name away, and the name may go.
abbrev pub PlansToUnname : Asked → VolumeState → Named → Type 0
PlansToUnname command v named = (s : State) → VolumeStands v s
    → (plan (request_of v) s command ≡ unnaming (request_of v) s (Ok named)) × IsLeafName (request_of v) s.tree named

-- Where that may be the name goes, and its node with the last one.
abbrev pub TakesAway : StoreState → StoreState → Named → Type 0
TakesAway old new named = (z : State) → StoreStands old z → MayUnname old.origin.request z named.number named.d named.slot (is_last named)
    → IsLeafName old.origin.request z.tree named
    → CarriesOut old new z (unnamed old.origin.request z.tree named.d (found_in named) (is_last named))

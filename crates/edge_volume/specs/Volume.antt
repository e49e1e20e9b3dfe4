-- What a volume is at a moment, and when it stands for the state of a session.
use Rattle.std.specs.Prelude.{◌≡◌, ℕ, Bool, true, false, is_some, if◌then◌else◌, List, [], ◌∷◌, Option, Some, None}
use Rattle.edge_base.specs.commands.Descriptors.{Descriptors, descriptor_at}
use Rattle.edge_base.specs.declared.geometry.Request.{Request}
use Rattle.edge_store.specs.State.{StoreState, Told}
use Rattle.edge_store.specs.View.{View}
use Rattle.edge_model.specs.Rules.{IsTree}
use Rattle.edge_model.specs.State.{State, point_taken}
use Rattle.edge_model.specs.Tree.{Tree}
use Rattle.edge_image.specs.Opens.{StandsFor}
use Rattle.edge_steps.specs.Session.{IsSession}
use Rattle.edge_stands.specs.Session.{StandForState}

-- A volume at a moment: its store, the mask of events and the open descriptors. The candidates of the disk below are members of the store.
pub record VolumeState : Type 1 where
  pub store : StoreState
  pub mask : ℕ
  pub descriptors : Descriptors

abbrev pub request_of : VolumeState → Request
request_of v = v.store.origin.request

-- which descriptors are open
abbrev pub opens_of : VolumeState → ℕ → Bool
opens_of v h = is_some (descriptor_at v.descriptors h)

-- The views of a store are told, with no point under way, and stand for a state, whatever its mask and its descriptors.
pub record StoreStands (st : StoreState) (s : State) : Type 0 where
  pub told : Told st
  pub whole : st.under_way ≡ None
  pub views : StandForState st.origin.request st.committed st.working s

-- A volume stands for the state of a session, which keeps the rules of one.
pub record VolumeStands (v : VolumeState) (s : State) : Type 0 where
  pub store : StoreStands v.store s
  pub session : IsSession (request_of v) s
  pub mask : v.mask ≡ s.mask
  pub descriptors : v.descriptors ≡ s.descriptors

-- ---- points

-- the state after a point, where one is due, and the trees of its points
abbrev pub point_after : Bool → State → State
point_after true s = point_taken s
point_after false s = s

abbrev pub trees_after : Bool → State → List Tree
trees_after true s = s.tree ∷ []
trees_after false s = []

abbrev pub points_due : Bool → ℕ
points_due due = if due then 1 else 0

-- ---- of which trees the last point was, and one that a fault cut short

-- the view stands for this tree
pub record IsOfTree (g : Request) (v : View) (t : Tree) : Type 0 where
  pub tree : IsTree g t
  pub stands : StandsFor g v t

-- there is a view, and it stands for this tree
abbrev pub IsSomeOfTree : Request → Option View → Tree → Type 0
IsSomeOfTree g (Some v) t = IsOfTree g v t
IsSomeOfTree g None t = ⊥

abbrev pub IsCommitted : VolumeState → Tree → Type 0
IsCommitted v t = IsOfTree (request_of v) v.store.committed t

abbrev pub IsUnderWay : VolumeState → Tree → Type 0
IsUnderWay v t = IsSomeOfTree (request_of v) v.store.under_way t

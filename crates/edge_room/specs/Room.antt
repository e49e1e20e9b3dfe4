-- What a command plans, as a change of a store's nodes, and what there is room for.
use Rattle.std.specs.Prelude.{◌≡◌, ◌≤◌, ◌+◌, ◌&&◌, ◌||◌, not, ℕ, Bool, true, is_some, List, Some, Ok}
use Rattle.edge_base.specs.commands.Events as event
use Rattle.edge_base.specs.declared.geometry.Request.{Request}
use Rattle.edge_base.specs.tree.Positions.{Position, has}
use Rattle.edge_store.specs.State.{StoreState, Told}
use Rattle.edge_store.specs.View.{View, free_now}
use Rattle.edge_model.specs.Asked.{Asked}
use Rattle.edge_model.specs.Asking.{IsInLimits}
use Rattle.edge_model.specs.Bytes.{IsOfBytes}
use Rattle.edge_model.specs.State.{State, Edit, Plan}
use Rattle.edge_model.specs.Step.{plan}
use Rattle.edge_model.specs.Tree.{Tree, data_positions}
use Rattle.edge_space.specs.declared.change.Change.{Change}
use Rattle.edge_space.specs.Changes.{AreLeft, writes_of, removes_of, need_of_change}
use Rattle.edge_steps.specs.Session.{IsSession}
use Rattle.edge_stands.specs.Stands.{indices_at}
use Rattle.edge_volume.specs.Volume.{StoreStands}

-- the data blocks of each number of a tree
abbrev pub blocks_in : Request → Tree → ℕ → List ℕ
blocks_in g t n = indices_at g (t n)

-- whether a position is a data block of tree t whose number has no node in tree u
abbrev pub goes_with : Request → Tree → Tree → Position → Bool
goes_with g t u p = has (data_positions g t p.number) p && not (is_some (u p.number))

-- A change and a reserve say what an edit does to the data positions of a tree: it writes those, in whatever order they are listed, and
-- leaves as many blocks free. It removes those of the change, and those of each node that it drops, which is none of which the change
-- writes or removes some. So many data blocks are left of a directory of which a slot is cleared.
pub record NamesEdit (g : Request) (v : View) (t : Tree) (change : Change) (reserve : ℕ) (e : Edit) : Type 0 where
  pub left : ℕ
  pub are_left : AreLeft g v change left
  pub writes : (p : Position) → has e.writes p ≡ has (writes_of g v change left) p
  pub removes : (p : Position) → has e.removes p ≡ (has (removes_of g v change (blocks_in g t) left) p || goes_with g t e.tree p)
  pub stay : (p : Position) → (has e.writes p || has (removes_of g v change (blocks_in g t) left) p) ≡ true → is_some (e.tree p.number) ≡ true
  pub leaves : e.reserve ≡ reserve

-- A store stands for a state of a session, whose mask asks for a point on a full volume where this is said, and a command of the state
-- plans an edit that the change and the reserve name.
pub record Plans (st : StoreState) (full : Bool) (change : Change) (reserve : ℕ) (z : State) (command : Asked) : Type 0 where
  pub stands : StoreStands st z
  pub session : IsSession st.origin.request z
  pub is_full : full ≡ event.has_event z.mask event.full
  pub of_bytes : IsOfBytes command
  pub in_limits : IsInLimits command
  pub done : Plan
  pub is : plan st.origin.request z command ≡ Ok done
  pub edit : Edit
  pub has_edit : done.edit ≡ Some edit
  pub names : NamesEdit st.origin.request st.working z.tree change reserve edit

-- where it is said that there is room, as many blocks are free as a change takes and leaves
abbrev pub HasRoomWhere : StoreState → Change → ℕ → Bool → Type 0
HasRoomWhere st change reserve room = room ≡ true → Told st → (left : ℕ) → AreLeft st.origin.request st.working change left
    → need_of_change st.origin.request st.committed st.working change left + reserve ≤ free_now st.origin.request st.committed st.working

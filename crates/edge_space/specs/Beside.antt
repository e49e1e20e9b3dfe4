-- What two chains of a node have in common.
use Rattle.std.specs.Prelude.{◌≡◌, ◌≢◌, ◌<◌, ◌≤◌, ◌+◌, ℕ}
use Rattle.edge_base.specs.declared.geometry.Request.{Request}
use Rattle.edge_base.specs.layout.Places.{entries_of}
use Rattle.edge_store.specs.State.{StoreState, Told}
use Rattle.edge_count.specs.Beside.{fresh_beside, row_of, table_of}
use Rattle.edge_space.specs.declared.beside.Common.{Common}
use Rattle.edge_space.specs.declared.beside.Common.TheVariants.{Whole, Nodes, Table, Nothing}

-- Data blocks i and k stand below different indirect nodes of one double-indirect node, which is in the entry.
pub record IsTable (g : Request) (i k entry : ℕ) : Type 0 where
  pub past_i : g.direct ≤ i
  pub past_k : g.direct ≤ k
  pub apart : row_of g i ≢ row_of g k
  pub row_i : g.indirect ≤ row_of g i
  pub row_k : g.indirect ≤ row_of g k
  pub same : table_of g i ≡ table_of g k
  pub is_entry : entry ≡ g.direct + g.indirect + table_of g i
  pub within : entry < entries_of g

-- They stand below no pointer node that is the same.
pub record IsNothing (g : Request) (i k : ℕ) : Type 0 where
  pub apart : i ≢ k
  pub rows : g.direct ≤ i → g.direct ≤ k → row_of g i ≢ row_of g k
  pub tables : g.direct ≤ i → g.direct ≤ k → g.indirect ≤ row_of g i → g.indirect ≤ row_of g k → table_of g i ≢ table_of g k

abbrev pub IsCommon : Request → ℕ → ℕ → Common → Type 0
IsCommon g i k Whole = i ≡ k
IsCommon g i k Nodes = (i ≢ k) × (g.direct ≤ k) × (row_of g i ≡ row_of g k)
IsCommon g i k (Table entry) = IsTable g i k entry
IsCommon g i k Nothing = IsNothing g i k

-- how many positions of the chain of data block i of node n are not dirty, without those on the chain of its data block k
abbrev pub IsFreshBeside : StoreState → ℕ → ℕ → ℕ → ℕ → Type 0
IsFreshBeside s n i k fresh = Told s → fresh ≡ fresh_beside s.origin.request s.committed s.working n i k

-- What holds while pointers are gone through.
use Rattle.std.proofs.Common.{◌≡◌, ◌≢◌, ◌⊎◌, ℕ, ◌<◌, ◌≤◌, Bool, true, None}
use Rattle.std.specs.Prelude.{is_some, slice_index}
use Rattle.edge_base.specs.declared.form.Form.{Form}
use Rattle.edge_store.specs.Calls.{KeepsWorking}
use Rattle.edge_store.specs.Damages.{form_of_entry, form_under}
use Rattle.edge_store.specs.Placed.{entry_at}
use Rattle.edge_store.specs.State.{StoreState, Told}
use Rattle.edge_store.specs.View.{is_spot}
use Rattle.edge_moves.specs.Renewal.{SameHeads}
use Rattle.edge_shape.specs.Shape.{entries_at}
use Rattle.edge_shape.specs.Trees.{IsSoundTree, IsSoundInode}
use Rattle.edge_shape.specs.Cutting.{CutPlaces, CutEntries}
use Rattle.edge_cut.specs.Dropped.{IsFull}
use Rattle.edge_cut.proofs.GoLaws.{GoesOn}
use Rattle.edge_cut.proofs.DropLaws.{DropsSoFar}

-- The pointers of block b before place k are gone through, and what hangs there is dropped.
pub record Drops (old now : StoreState) (form : Form) (owner b top k : ℕ) (none_yet : Bool) : Type 0 where
  pub goes_on : GoesOn old now
  pub places : now.places ≡ old.places
  pub views : Told old → DropsSoFar old.working now.working form owner b top k none_yet
  -- each pointer node had a pointer that hung there
  pub full : Told old → (j : ℕ) → j < k → slice_index (entries_at old.working form b) j ≢ 0
      → IsFull old.working (form_under form) (slice_index (entries_at old.working form b) j)

-- Besides, they are set to 0, from a place on.
pub record CutsSoFar (old now : StoreState) (form : Form) (owner b top from k : ℕ) : Type 0 where
  pub goes_on : GoesOn old now
  pub places : now.places ≡ old.places
  pub inodes : Told old → now.working.inodes ≡ old.working.inodes
  pub kept : Told old → now.working.blocks top ≡ old.working.blocks top
  pub cut : Told old → IsSoundTree old.origin.request old.working form owner b → CutPlaces old.working now.working form owner b from k

-- The same of the entries of node n.
pub record EntriesSoFar (old now : StoreState) (n from k : ℕ) : Type 0 where
  pub goes_on : GoesOn old now
  pub places : (m : ℕ) → m ≢ n → now.places m ≡ old.places m
  pub there : Told old → is_some (old.working.inodes n) ≡ true → is_some (now.working.inodes n) ≡ true
  pub heads : Told old → SameHeads old.working now.working n
  pub cut : Told old → IsSoundInode old.origin.request old.working n from → CutEntries old.origin.request old.working now.working n from k
  -- blocks were dropped alone, the entries from k on stay, and each pointer node had a pointer that hung under those before
  pub less : Told old → (x : ℕ) → (now.working.blocks x ≡ old.working.blocks x) ⊎ (now.working.blocks x ≡ None)
  pub later : Told old → (e : ℕ) → k ≤ e → entry_at now.working n e ≡ entry_at old.working n e
  pub full : Told old → (e : ℕ) → from ≤ e → e < k → entry_at old.working n e ≢ 0
      → IsFull old.working (form_of_entry old.origin.request e) (entry_at old.working n e)

-- Nothing was there so far, and nothing has changed.
pub record SearchedSoFar (old now : StoreState) (form : Form) (owner b from k : ℕ) (below clean : Type 0) : Type 0 where
  pub goes_on : GoesOn old now
  pub reads : KeepsWorking old now
  pub same_below : below
  pub still_clean : clean
  pub spot : Told old → from < k → is_spot old.working form owner b ≡ true
  pub none : Told old → (j : ℕ) → from ≤ j → j < k → slice_index (entries_at old.working form b) j ≡ 0

-- What a loop keeps that counts blocks and changes nothing.
use Rattle.std.proofs.Common.{ℕ, ◌≤◌}
use Rattle.edge_store.specs.Calls.{KeepsWorking}
use Rattle.edge_store.specs.State.{StoreState}
use Rattle.edge_cut.proofs.GoLaws.{GoesOn}

-- So many were counted, which are no more than were looked at; `exact` says of what.
pub record CountedSoFar (old now : StoreState) (below clean exact : Type 0) (fresh seen : ℕ) : Type 0 where
  pub goes_on : GoesOn old now
  pub reads : KeepsWorking old now
  pub same_below : below
  pub still_clean : clean
  pub most : fresh ≤ seen
  pub counted : exact

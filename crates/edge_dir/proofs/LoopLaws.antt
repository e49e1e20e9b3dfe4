-- What a loop over the data blocks of a directory keeps.
use Rattle.edge_store.specs.Calls.{KeepsWorking}
use Rattle.edge_store.specs.State.{StoreState, Told}
use Rattle.edge_cut.proofs.GoLaws.{GoesOn}

-- The blocks so far were looked through, and nothing has changed.
pub record LookedSoFar (old now : StoreState) (SameBelow StillClean Within Seen : Type 0) : Type 0 where
  pub goes_on : GoesOn old now
  pub reads : KeepsWorking old now
  pub same_below : SameBelow
  pub still_clean : StillClean
  -- what holds on every store, and what is told
  pub within : Within
  pub seen : Told old → Seen

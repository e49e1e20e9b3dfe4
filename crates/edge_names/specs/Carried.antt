-- What it does to a store that stands for a state to carry out a change of its tree. old and new are the store as a call begins and after it.
use Rattle.edge_store.specs.State.{StoreState}
use Rattle.edge_model.specs.State.{State, Edit}
use Rattle.edge_changes.specs.Edited.{IsEdited}

-- The working view has come to stand for the tree of the change, and what is dirty is told by its writes and removes.
abbrev pub CarriesOut : StoreState → StoreState → State → Edit → Type 0
CarriesOut old new z e = IsEdited old.origin.request old.committed old.working new.working z.tree e

use Rattle.edge_store.proofs.ViewLaws.{spot_of, no_damage_of}
use Rattle.edge_store.proofs.laws.spots_have_no_damage.Goals as goal

pub returns-clause-spot : goal.returns-clause-spot
returns-clause-spot c = spot_of

pub returns-clause-none : goal.returns-clause-none
returns-clause-none c = no_damage_of

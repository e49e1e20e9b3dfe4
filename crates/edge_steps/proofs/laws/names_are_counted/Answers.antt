use Rattle.edge_steps.proofs.NamingLaws.{placed_names, cleared_names, renamed_names, unchanged_names, set_names, absent_names, placed_kinds, cleared_kinds}
use Rattle.edge_steps.proofs.laws.names_are_counted.Goals as goal

pub returns-clause-placed : goal.returns-clause-placed
returns-clause-placed c = placed_names

pub returns-clause-cleared : goal.returns-clause-cleared
returns-clause-cleared c = cleared_names

pub returns-clause-renamed : goal.returns-clause-renamed
returns-clause-renamed c = λ g t df name found dt target slot replaced e n kind_from low_from high_from kind_to low_to high_to was number inside apart lost.
    renamed_names g t df name found dt target slot e kind_from kind_to was number inside apart replaced n low_from high_from low_to high_to lost

pub returns-clause-same_slots : goal.returns-clause-same_slots
returns-clause-same_slots c = unchanged_names

pub returns-clause-set : goal.returns-clause-set
returns-clause-set c = set_names

pub returns-clause-absent : goal.returns-clause-absent
returns-clause-absent c = absent_names

pub returns-clause-placed_kinds : goal.returns-clause-placed_kinds
returns-clause-placed_kinds c = placed_kinds

pub returns-clause-cleared_kinds : goal.returns-clause-cleared_kinds
returns-clause-cleared_kinds c = cleared_kinds

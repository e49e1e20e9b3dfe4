use Rattle.edge_base.proofs.CountLaws.{count_by-LeadTo, count_by-LeadTo-rest, count_by-LeadTo-neither}
use Rattle.edge_base.proofs.laws.numbers_count_as_positions.Goals as goal

pub returns-clause-passing : goal.returns-clause-passing
returns-clause-passing c = λ f ps test a n lead. count_by-LeadTo lead

pub returns-clause-rest : goal.returns-clause-rest
returns-clause-rest c = λ f ps test a n lead. count_by-LeadTo-rest lead

pub returns-clause-two_ways : goal.returns-clause-two_ways
returns-clause-two_ways c = λ f h ps qs one two a n first second apart. count_by-LeadTo-neither first second apart

use Rattle.edge_anchor.specs.Medium.{medium_of, none_given}
use Rattle.edge_anchor.proofs.KeepLaws.{follows_more}
use Rattle.edge_phase.specs.Spared.{Spares}
use Rattle.edge_phase.proofs.SparedLaws.{block_spares, follows_then}
use Rattle.edge_phase.proofs.laws.what_spares_the_last_point.Goals as goal

pub returns-clause-none : goal.returns-clause-none
returns-clause-none g c = λ old new a. follows_more none_given (Spares a) (medium_of g.D.Disk old) (medium_of g.D.Disk new) (λ k bytes given. absurd given)

pub returns-clause-free : goal.returns-clause-free
returns-clause-free g c = λ old new a b free far below. block_spares a b (medium_of g.D.Disk old) (medium_of g.D.Disk new) free far below

pub returns-clause-after : goal.returns-clause-after
returns-clause-after g c = λ old mid new a. follows_then (Spares a) (medium_of g.D.Disk old) (medium_of g.D.Disk mid) (medium_of g.D.Disk new)

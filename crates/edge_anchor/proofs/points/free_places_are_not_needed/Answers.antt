use Rattle.edge_anchor.proofs.FreeLaws.{unused_free, not_live_free}
use Rattle.edge_anchor.proofs.points.free_places_are_not_needed.Goals as goal

pub returns-clause-unused : goal.returns-clause-unused
returns-clause-unused c = λ origin a b on. unused_free origin a on b

pub returns-clause-not_live : goal.returns-clause-not_live
returns-clause-not_live c = λ origin a i on. not_live_free origin a on i

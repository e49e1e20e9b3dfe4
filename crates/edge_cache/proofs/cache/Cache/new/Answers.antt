use Rattle.std.proofs.Common.{◌∙◌, ap}
use Rattle.edge_cache.specs.Given.{waiting}
use Rattle.edge_cache.proofs.GivenLaws.{waiting_none}
use Rattle.edge_cache.proofs.cache.Cache.new.Goals as goal

pub returns-clause-clean : goal.returns-clause-clean
returns-clause-clean g c = λ b. ap (λ s. waiting s.list b) c.in-Ok.ensures.made ∙ waiting_none b

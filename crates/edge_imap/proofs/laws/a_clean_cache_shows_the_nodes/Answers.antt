use Rattle.std.proofs.Common.{sym, ap}
use Rattle.edge_cache.specs.Given.{or_shown}
use Rattle.edge_imap.proofs.TieLaws.{tie_same}
use Rattle.edge_imap.proofs.laws.a_clean_cache_shows_the_nodes.Goals as goal

pub returns : goal.returns
returns c = λ m held shown clean tied. tie_same m _ shown (λ k. sym (ap (λ w. or_shown w (shown k)) (clean k))) tied

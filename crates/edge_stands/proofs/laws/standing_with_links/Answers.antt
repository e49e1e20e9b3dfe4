use Rattle.edge_stands.proofs.NodeLaws.{with_links_of, agreed_links}
use Rattle.edge_stands.proofs.laws.standing_with_links.Goals as goal

pub returns-clause-same : goal.returns-clause-same
returns-clause-same c = with_links_of

pub returns-clause-agreed : goal.returns-clause-agreed
returns-clause-agreed c = agreed_links

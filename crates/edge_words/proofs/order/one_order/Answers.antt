use Rattle.edge_words.proofs.OrderLaws.{one_wanted}
use Rattle.edge_words.proofs.order.one_order.Goals as goal

pub returns : goal.returns
returns c = one_wanted

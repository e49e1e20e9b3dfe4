use Rattle.edge_imap.specs.Bitmaps.{node_of}
use Rattle.edge_imap.proofs.ListLaws.{spare_behind, spare_before}
use Rattle.edge_imap.proofs.laws.the_spare_place_is_of_the_nodes.Goals as goal

pub returns-clause-behind : goal.returns-clause-behind
returns-clause-behind c = λ g roots bit. spare_behind g roots (node_of g bit)

pub returns-clause-before : goal.returns-clause-before
returns-clause-before c = spare_before

use Rattle.std.proofs.Common.{length}
use Rattle.edge_file.specs.Bytes.{blocks_under}
use Rattle.edge_file.proofs.ChangeLaws.{rewritten_changed, rewritten_dirty, rewritten_contents}
use Rattle.edge_file.proofs.RangeLaws.{under_in_range}
use Rattle.edge_file.proofs.laws.a_write_changes_its_node.Goals as goal

pub returns-clause-changed : goal.returns-clause-changed
returns-clause-changed c g past v w n at new indices view places written =
    rewritten_changed g past v w n (blocks_under g at (length new)) indices view (under_in_range g n at (length new)) places written.rewritten

pub returns-clause-dirtied : goal.returns-clause-dirtied
returns-clause-dirtied c g past v w n at new indices view places written =
    rewritten_dirty g past v w n (blocks_under g at (length new)) indices view (under_in_range g n at (length new)) places written.rewritten

pub returns-clause-contents : goal.returns-clause-contents
returns-clause-contents c g past v w n at new indices view places written i there none =
    rewritten_contents g past v w n (blocks_under g at (length new)) indices view (under_in_range g n at (length new)) places written.rewritten i there none

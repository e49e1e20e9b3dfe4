use Rattle.edge_nodes.proofs.MasterLaws.{master_in-spelled}
use Rattle.edge_format.proofs.nodes.fill_master.Goals as goal

pub returns : goal.returns
returns c = master_in-spelled _ _ c.encode_master.ensures

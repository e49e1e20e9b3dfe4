use Rattle.edge_model.proofs.DescriptorsRows.{descriptor_rows_pass}
use Rattle.edge_model.proofs.rows.rows_of_descriptors.Goals as goal

pub returns : goal.returns
returns c = descriptor_rows_pass

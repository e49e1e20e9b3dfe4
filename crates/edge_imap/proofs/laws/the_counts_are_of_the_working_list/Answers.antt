use Rattle.edge_imap.proofs.ListLaws.{counts_working}
use Rattle.edge_imap.proofs.laws.the_counts_are_of_the_working_list.Goals as goal

pub returns : goal.returns
returns c = counts_working

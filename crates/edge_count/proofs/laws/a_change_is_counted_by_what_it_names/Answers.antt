use Rattle.edge_count.proofs.JoinLaws.{same_named, kept_count}
use Rattle.edge_count.proofs.laws.a_change_is_counted_by_what_it_names.Goals as goal

pub returns-clause-named : goal.returns-clause-named
returns-clause-named c = same_named

pub returns-clause-kept : goal.returns-clause-kept
returns-clause-kept c = kept_count

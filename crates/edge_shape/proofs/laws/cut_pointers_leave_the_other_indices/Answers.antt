use Rattle.edge_shape.proofs.TrimLaws.{trims_twice, node_trims, top_trims, entries_trims}
use Rattle.edge_shape.proofs.laws.cut_pointers_leave_the_other_indices.Goals as goal

pub returns-clause-indirect : goal.returns-clause-indirect
returns-clause-indirect c g v w n j from indices shape view most stays cut = node_trims g v w n indices shape view j from most stays cut

pub returns-clause-double : goal.returns-clause-double
returns-clause-double c g v w n d from indices shape view most stays cut = top_trims g v w n indices shape view d from most stays cut

pub returns-clause-entries : goal.returns-clause-entries
returns-clause-entries c g v w n from indices shape view cut = entries_trims g v w n indices shape view from cut

pub returns-clause-twice : goal.returns-clause-twice
returns-clause-twice c = trims_twice

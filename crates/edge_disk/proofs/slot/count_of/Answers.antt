use Rattle.std.proofs.Common.{rules, tests, nat_eq, sym, ◌∙◌}
use Rattle.std.proofs.lemmas.List.{length-map}
use Rattle.std.proofs.lemmas.Iterator.{YieldsList-from_slice}
use Rattle.std.proofs.lemmas.Iterator.Consumers.{YieldsList-from_filter, count_from_yields_List}
use Rattle.edge_disk.proofs.slot.count_of.Goals as goal

pub returns-clause-count : goal.returns-clause-count
returns-clause-count c = count_from_yields_List c.filter.result _ c.count.ensures.ran (YieldsList-from_filter _ (λ s. nat_eq s.block c.args.block) (YieldsList-from_slice c.args.slots.now cc) c.filter.ensures.closure (λ x r q k. search (rules, tests))) ∙ sym (length-map _ _)

use Rattle.std.proofs.Common.{rules, tests, nat_eq}
use Rattle.std.proofs.lemmas.Iterator.{YieldsList-from_slice}
use Rattle.std.proofs.lemmas.Iterator.Consumers.{YieldsList-from_filter, nth_from_yields_List}
use Rattle.edge_disk.proofs.slot.nth_of.Goals as goal

pub returns : goal.returns
returns c = nth_from_yields_List _ _ _ c.nth.ensures.ran (YieldsList-from_filter _ (λ s. nat_eq s.block c.args.block) (YieldsList-from_slice c.args.slots.now cc) c.filter.ensures.closure (λ x r q k. search (rules, tests)))

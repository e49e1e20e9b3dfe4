use Rattle.std.proofs.Common.{◌∙◌, ap, rules, tests}
use Rattle.std.specs.Option.{option_map}
use Rattle.std.proofs.lemmas.Iterator.{YieldsList-from_slice}
use Rattle.std.proofs.lemmas.Iterator.Search.{any_from_yields_List}
use Rattle.edge_base.specs.commands.Descriptors.{Descriptors, is_for, is_open}
use Rattle.edge_handles.specs.Table.{descriptor_of}
use Rattle.edge_handles.proofs.TableLaws.{any-descriptors}
use Rattle.edge_handles.proofs.Handles.holds.Goals as goal

pub returns : goal.returns
returns c =
    let slots = c.self.inside.slots in
    any_from_yields_List (λ slot. is_for c.args.number (option_map descriptor_of slot)) _ _ c.any.result c.any.ensures.ran (YieldsList-from_slice slots cc) (λ x b q k. search (rules, tests))
    ∙ any-descriptors c.args.number slots
    ∙ ap (λ (table : Descriptors). is_open table c.args.number) c.self.view_is

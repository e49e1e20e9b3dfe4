use Rattle.std.proofs.Common.{◌∙◌, Bool, ap, sym, rules, tests}
use Rattle.std.specs.Prelude.{◌||◌, not}
use Rattle.std.specs.List.{list_any}
use Rattle.std.proofs.lemmas.Iterator.Consumers.{YieldsList-from_first}
use Rattle.std.proofs.lemmas.Iterator.Search.{any_from_yields_List}
use Rattle.edge_base.specs.commands.Paths.{names_in}
use Rattle.edge_base.specs.tree.Slots.{is_bad_name}
use Rattle.edge_path.proofs.NameLaws.{begins}
use Rattle.edge_path.proofs.is_invalid.Goals as goal

pub returns-else-not-starts_with : goal.returns-else-not-starts_with
returns-else-not-starts_with c =
    any_from_yields_List is_bad_name _ _ c.any.result c.any.ensures.ran (YieldsList-from_first (λ name. name.now) (λ names. names) (names_in c.args.path.now) c.names.ensures) (λ x b q k. search (rules, tests))
    ∙ ap (λ (b : Bool). not b || list_any is_bad_name (names_in c.args.path.now)) (sym c.if-not-starts_with.false ∙ c.starts_with.ensures.value ∙ begins c.args.path.now)

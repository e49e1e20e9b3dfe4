use Rattle.std.proofs.Common.{◌∙◌, Bool, length, ap, sym, arith, rules, tests}
use Rattle.std.specs.Prelude.{◌||◌, nat_lt}
use Rattle.std.specs.List.{list_any}
use Rattle.std.proofs.lemmas.Iterator.Consumers.{YieldsList-from_first}
use Rattle.std.proofs.lemmas.Iterator.Search.{any_from_yields_List}
use Rattle.std.proofs.lemmas.Bool.{le-ltb}
use Rattle.edge_base.specs.commands.Paths.{names_in}
use Rattle.edge_path.proofs.is_too_long.Goals as goal

pub returns-else-path-gt-LONGEST_PATH : goal.returns-else-path-gt-LONGEST_PATH
returns-else-path-gt-LONGEST_PATH c =
    any_from_yields_List (λ name. nat_lt c.args.name_max (length name)) _ _ c.any.result c.any.ensures.ran (YieldsList-from_first (λ name. name.now) (λ names. names) (names_in c.args.path.now) c.names.ensures) (λ x b q k. search (rules, tests))
    ∙ ap (λ (b : Bool). b || list_any (λ name. nat_lt c.args.name_max (length name)) (names_in c.args.path.now)) (sym (le-ltb 255 (length c.args.path.now) (omega arith)))

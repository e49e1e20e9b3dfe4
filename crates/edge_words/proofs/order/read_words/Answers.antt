use Rattle.std.proofs.Common.{List, sym, subst}
use Rattle.edge_words.specs.Words.{Word}
use Rattle.edge_words.specs.Orders.{Wanted, Spells}
use Rattle.edge_words.proofs.WordLaws.{first_one}
use Rattle.edge_words.proofs.OrderLaws.{begin, no_run, no_format, on_err-map}
use Rattle.edge_words.proofs.order.read_words.Goals as goal

pub returns-in-run-clause-refused : goal.returns-in-run-clause-refused
returns-in-run-clause-refused c =
    let P = λ (words : List Word). (wanted : Wanted) → ¬ (Spells words wanted) in
    on_err-map c.run.result
    (λ none. subst P (sym (begin (first_one c.args.words.now _ c.in-run.len_at_least) c.in-run.is-run)) (no_run none))
    c.run.ensures.refused

pub returns-in-format-clause-refused : goal.returns-in-format-clause-refused
returns-in-format-clause-refused c =
    let P = λ (words : List Word). (wanted : Wanted) → ¬ (Spells words wanted) in
    on_err-map c.format.result
    (λ none. subst P (sym (begin (first_one c.args.words.now _ c.in-format.len_at_least) c.in-format.is-format)) (no_format none))
    c.format.ensures.refused

use Rattle.std.proofs.Common.{◌∙◌, ℕ, Option, ap, length, rules, tests}
use Rattle.std.specs.Prelude.{is_none, unwrap_or}
use Rattle.std.proofs.lemmas.Iterator.{YieldsList-from_slice}
use Rattle.std.proofs.lemmas.Iterator.Search.{position_from_yields_List}
use Rattle.edge_handles.proofs.TableLaws.{first_is}
use Rattle.edge_handles.proofs.first_free.Goals as goal

pub returns : goal.returns
returns c =
    let slots = c.args.slots.now in
    c.unwrap_or.ensures
    ∙ ap (λ (o : Option ℕ). unwrap_or o (length slots)) (position_from_yields_List is_none _ _ c.position.result c.position.ensures.ran (YieldsList-from_slice slots cc) (λ x b q k. search (rules, tests)))
    ∙ first_is slots

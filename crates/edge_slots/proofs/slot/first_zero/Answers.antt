use Rattle.std.proofs.Common.{◌∙◌, ℕ, ◌==◌, Option, ap, length, rules, tests}
use Rattle.std.specs.Prelude.{unwrap_or}
use Rattle.std.proofs.lemmas.Iterator.{YieldsList-from_slice}
use Rattle.std.proofs.lemmas.Iterator.Search.{position_from_yields_List}
use Rattle.edge_slots.proofs.SlotLaws.{first_zero-is}
use Rattle.edge_slots.proofs.slot.first_zero.Goals as goal

pub returns-clause-place : goal.returns-clause-place
returns-clause-place c =
    c.unwrap_or.ensures
    ∙ ap (λ (o : Option ℕ). unwrap_or o (length c.args.text.now)) (position_from_yields_List (λ b. b == 0) _ _ c.position.result c.position.ensures.ran (YieldsList-from_slice c.args.text.now cc) (λ x b q k. search (rules, tests)))
    ∙ first_zero-is c.args.text.now

use Rattle.std.proofs.Common.{◌≡◌, ◌∙◌, ℕ, ◌==◌, ◌∷◌, Option, ap, sym, arith, length, take, drop, rules, tests}
use Rattle.std.specs.Prelude.{unwrap_or}
use Rattle.std.proofs.lemmas.Iterator.{YieldsList-from_slice}
use Rattle.std.proofs.lemmas.Iterator.Search.{position_from_yields_List}
use Rattle.edge_path.specs.Names.{names_left}
use Rattle.edge_path.proofs.NameLaws.{first_slash, first_slash-is, split-first}
use Rattle.edge_path.proofs.names.PathNamesIterator.next.Goals as goal

pub returns-clause-steps : goal.returns-clause-steps
returns-clause-steps c =
    let after = c.in_ok-after.after.now in
    let end : c.unwrap_or-end.result ≡ first_slash after =
    c.unwrap_or-end.ensures
    ∙ ap (λ (o : Option ℕ). unwrap_or o (length after)) (position_from_yields_List (λ b. b == 47) _ _ c.position.result c.position.ensures.ran (YieldsList-from_slice after cc) (λ x b q k. search (rules, tests)))
    ∙ first_slash-is after in
    let name : c.split_at.result.0.now ≡ take (first_slash after) after = c.split_at.ensures.front ∙ ap (λ (n : ℕ). take n after) end in
    let rest : c.split_at.result.1.now ≡ drop (first_slash after) after = c.split_at.ensures.back ∙ ap (λ (n : ℕ). drop n after) end in
    sym c.self.view_is ∙ ap names_left c.in_ok-after.ensures.cases.0 ∙ split-first after ∙ (λ i. sym name i ∷ names_left (sym rest i))

pub returns-clause-goes : goal.returns-clause-goes
returns-clause-goes c = record {
  on = λ _. (tt, tt, omega (arith, ap length (returns-clause-steps c)));
  keeps = tt;
  rests = λ _. tt;
}

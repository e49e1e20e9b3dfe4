use Rattle.std.proofs.Common.{◌≡◌, ℕ, ◌<◌, ◌≤◌, List, get_or, map, Option, Some, None, refl, sym, ap, ◌∙◌, subst, arith}
use Rattle.std.specs.Prelude.{unwrap_or}
use Rattle.std.specs.List.{range_with_len}
use Rattle.std.proofs.lemmas.Bool.Decides.{nat_tests}
use Rattle.std.proofs.lemmas.List.FromFn.{get_or-map-range_with_len}
use Rattle.edge_script.specs.Bytes.{digit_value}
use Rattle.edge_script.specs.declared.hexadecimal.TheConstants.{VALUES}
use Rattle.edge_script.proofs.hexadecimal.read_digit.Goals as goal

-- what the table has
code_of : ℕ → ℕ
code_of b = unwrap_or (digit_value b) 255

VALUES-is : VALUES ≡ map code_of (range_with_len 0 256)
unfolding code_of
VALUES-is = refl

get_or-VALUES : (b : ℕ) → b < 256 → get_or VALUES b 0 ≡ code_of b
get_or-VALUES b h =
    ap (λ (values : List ℕ). get_or values b 0) VALUES-is
    ∙ get_or-map-range_with_len code_of 0 256 b b 0 h (omega arith)

bounded : (b d : ℕ) → digit_value b ≡ Some d → d < 16
bounded b d e = grind (arith, nat_tests)

no_digit : (b : ℕ) → 15 < code_of b → None ≡ digit_value b
unfolding code_of
no_digit b h = go (digit_value b) refl h
  where
    go : (o : Option ℕ) → digit_value b ≡ o → 15 < unwrap_or o 255 → None ≡ digit_value b
    go None is h = sym is
    go (Some d) is h = absurd (let small = bounded b d is in omega arith)

a_digit : (b : ℕ) → code_of b ≤ 15 → Some (code_of b) ≡ digit_value b
unfolding code_of
a_digit b h = go (digit_value b) refl h
  where
    go : (o : Option ℕ) → digit_value b ≡ o → unwrap_or o 255 ≤ 15 → Some (unwrap_or (digit_value b) 255) ≡ digit_value b
    go None is h = absurd (omega arith)
    go (Some d) is h = ap (λ (o : Option ℕ). Some (unwrap_or o 255)) is ∙ sym is

pub returns-then-value-gt15-clause-value : goal.returns-then-value-gt15-clause-value
returns-then-value-gt15-clause-value c = no_digit c.args.b (subst (λ (n : ℕ). 15 < n) (get_or-VALUES c.args.b (omega arith)) c.if-value-gt15.true)

pub returns-else-value-gt15-clause-value : goal.returns-else-value-gt15-clause-value
returns-else-value-gt15-clause-value c =
    ap Some (get_or-VALUES c.args.b (omega arith)) ∙ a_digit c.args.b (subst (λ (n : ℕ). n ≤ 15) (get_or-VALUES c.args.b (omega arith)) c.if-value-gt15.false)

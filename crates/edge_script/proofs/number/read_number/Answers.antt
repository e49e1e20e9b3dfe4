use Rattle.std.proofs.Common.{◌≡◌, ℕ, Option, Some, None, IfSome, IfNone, sym, ◌∙◌, arith}
use Rattle.edge_script.specs.Numbers.{Word, SpellsWithin, number_in, greatest_u64}
use Rattle.edge_script.proofs.NumberLaws.{number_padded, number_unpadded, number_spelled, refuses}
use Rattle.edge_script.proofs.number.read_number.Goals as goal

is_spelled : (word : Word) (o : Option ℕ) → number_in 0 greatest_u64 word ≡ o → IfSome o (λ n. SpellsWithin 0 greatest_u64 word n)
is_spelled word None e = tt
is_spelled word (Some n) e = number_spelled (omega arith) e

is_refused : (word : Word) (o : Option ℕ) → number_in 0 greatest_u64 word ≡ o → IfNone o ((n : ℕ) → SpellsWithin 0 greatest_u64 word n → ⊥)
is_refused word None e = λ n. refuses word 0 greatest_u64 n (omega arith) e
is_refused word (Some n) e = tt

pub returns-then-is_padded-clause-refused : goal.returns-then-is_padded-clause-refused
returns-then-is_padded-clause-refused c =
    λ n. refuses c.args.word.now 0 greatest_u64 n (omega arith) (number_padded c.args.word.now (sym c.is_padded.ensures ∙ c.if-is_padded.true))

pub returns-clause-exact : goal.returns-clause-exact
returns-clause-exact c = c.digits.ensures ∙ number_unpadded c.args.word.now (sym c.is_padded.ensures ∙ c.if-is_padded.false)

pub returns-clause-spelled : goal.returns-clause-spelled
returns-clause-spelled c =
    is_spelled c.args.word.now c.digits.result
    (sym (c.digits.ensures ∙ number_unpadded c.args.word.now (sym c.is_padded.ensures ∙ c.if-is_padded.false)))

pub returns-clause-refused : goal.returns-clause-refused
returns-clause-refused c =
    is_refused c.args.word.now c.digits.result
    (sym (c.digits.ensures ∙ number_unpadded c.args.word.now (sym c.is_padded.ensures ∙ c.if-is_padded.false)))

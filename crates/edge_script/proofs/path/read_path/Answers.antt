use Rattle.std.proofs.Common.{◌≡◌, ℕ, ◌<◌, ◌==◌, Bool, false, List, [], ◌∷◌, length, take, Option, Some, None, IfSome, IfNone, refl, sym, ◌∙◌, arith}
use Rattle.std.specs.Prelude.{option_map}
use Rattle.std.proofs.lemmas.Bool.Decides.{nat_tests}
use Rattle.edge_script.specs.Numbers.{Word}
use Rattle.edge_script.specs.Bytes.{SpellsPath, path_in, bytes_in}
use Rattle.edge_script.proofs.ByteLaws.{path_read, path_spelled}
use Rattle.edge_script.proofs.path.read_path.Goals as goal

some_bytes : (n : ℕ) (r : Bool) → r ≡ (n == 0) → r ≡ false → 0 < n
some_bytes n r test is = grind (arith, nat_tests)

same_bytes : (word : Word) → 0 < length word → bytes_in word ≡ path_in word
same_bytes [] some = absurd (omega arith)
same_bytes (b ∷ word) some = refl

is_spelled : (word : Word) (o : Option ℕ) (out : List ℕ) → option_map (λ n. take n out) o ≡ path_in word → IfSome o (λ n. SpellsPath word (take n out))
is_spelled word None out e = tt
is_spelled word (Some n) out e = path_spelled word (take n out) (sym e)

is_refused : (word : Word) (o : Option ℕ) (out : List ℕ) → option_map (λ n. take n out) o ≡ path_in word → IfNone o ((path : List ℕ) → SpellsPath word path → ⊥)
is_refused word None out e = λ path spells. apart path (e ∙ path_read spells)
  where
    apart : (path : List ℕ) → None ≡ Some path → ⊥
    apart path e = cc
is_refused word (Some n) out e = tt

pub returns-clause-spelled : goal.returns-clause-spelled
returns-clause-spelled c =
    is_spelled c.args.word.now c.read_bytes.result c.read_bytes.new.out
    (c.read_bytes.ensures.exact ∙ same_bytes c.args.word.now (some_bytes _ _ c.is_empty.ensures c.if-is_empty.false))

pub returns-clause-refused : goal.returns-clause-refused
returns-clause-refused c =
    is_refused c.args.word.now c.read_bytes.result c.read_bytes.new.out
    (c.read_bytes.ensures.exact ∙ same_bytes c.args.word.now (some_bytes _ _ c.is_empty.ensures c.if-is_empty.false))

use Rattle.std.proofs.Common.{◌≡◌, ℕ, ◌/◌, Bool, true, false, cond, List, length, drop, Option, Some, None, sym, ap, ◌∙◌, subst, arith}
use Rattle.std.proofs.lemmas.List.{take_at}
use Rattle.edge_script.specs.Bytes.{SpellsHex, pairs_in}
use Rattle.edge_script.proofs.ByteLaws.{pairs_read, pairs_spelled, pairs_long, hex_none}
use Rattle.edge_script.proofs.hexadecimal.read_hex.Goals as goal
use Rattle.edge_script.proofs.hexadecimal.read_hex.Goals.{then-word-ne0-via-then-word-ne0, then-word-ne0-via-else-word-ne0+then-len-eq0, then-word-ne0-via-else-word-ne0+else-len-eq0+then-len-gt-MOST_BYTES}

pub returns-then-word-ne0-clause-refused : goal.returns-then-word-ne0-clause-refused
returns-then-word-ne0-clause-refused c = λ bytes spells.
    let long = pairs_long spells.pairs in
    let some = spells.some in
    let few = spells.few in
    elim c.then-word-ne0.branch [
      | then-word-ne0-via-then-word-ne0 w ↦ omega arith
      | then-word-ne0-via-else-word-ne0+then-len-eq0 w ↦ omega arith
      | then-word-ne0-via-else-word-ne0+else-len-eq0+then-len-gt-MOST_BYTES w ↦ omega arith
    ]

pub returns-then-word-ne0-clause-exact : goal.returns-then-word-ne0-clause-exact
returns-then-word-ne0-clause-exact c = hex_none c.args.word.now (returns-then-word-ne0-clause-refused c)

when_true : (t : Bool) (out : List ℕ) (o : Option (List ℕ)) → cond t (Some out) None ≡ o → t ≡ true → o ≡ Some out
when_true t out o e is = sym e ∙ ap (λ t. cond t (Some out) None) is

when_false : (t : Bool) (out : List ℕ) (o : Option (List ℕ)) → cond t (Some out) None ≡ o → t ≡ false → o ≡ None
when_false t out o e is = sym e ∙ ap (λ t. cond t (Some out) None) is

pub returns-then-read_pairs-clause-spelled : goal.returns-then-read_pairs-clause-spelled
returns-then-read_pairs-clause-spelled c =
    let word = c.args.word.now in
    let out = c.read_pairs.new.out in
    let pairs = pairs_spelled word out (when_true c.read_pairs.result out (pairs_in word) c.read_pairs.ensures c.if-read_pairs.true) in
    let long = pairs_long pairs in
    let half : length out ≡ length word / 2 = omega arith in
    let spells : SpellsHex word out = record { pairs = pairs; some = omega arith; few = omega arith } in
    subst (SpellsHex word) (sym (take_at out (drop (length word / 2) c.args.out.now) (length word / 2) half)) spells

pub returns-else-read_pairs-clause-refused : goal.returns-else-read_pairs-clause-refused
returns-else-read_pairs-clause-refused c = λ bytes spells.
    apart bytes (sym (pairs_read spells.pairs)
    ∙ when_false c.read_pairs.result c.read_pairs.new.out (pairs_in c.args.word.now) c.read_pairs.ensures c.if-read_pairs.false)
  where
    apart : (bytes : List ℕ) → Some bytes ≡ None → ⊥
    apart bytes e = cc

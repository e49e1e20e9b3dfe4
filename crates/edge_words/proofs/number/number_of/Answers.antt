use Rattle.std.proofs.Common.{ℕ, ◌≡◌, ◌^◌, ◌<◌, List, true, false, Option, None, Some, Result, MatchOption, arith, sym, subst, ap, ◌∙◌}
use Rattle.std.proofs.lemmas.Fmt.{parse-decimal}
use Rattle.std.proofs.lemmas.Slice.Eq.{bytes_eq-Decides}
use Rattle.std.specs.Fmt.{decimal}
use Rattle.std.specs.Result.{result_ok}
use Rattle.std.specs.Str.{bytes_eq}
use Rattle.std.specs.Str.Parse.{ParsesUnsigned}
use Rattle.edge_words.specs.Words.{SpellsNumber}
use Rattle.edge_words.proofs.number.number_of.Goals as goal

-- what spells a number is parsed as it
parsed : {E : Type 0} (word : List ℕ) (n : ℕ) (r : Result ℕ E) (o : Option ℕ) → ParsesUnsigned 32 10 word r → o ≡ result_ok r → SpellsNumber word n → o ≡ Some n
parsed word n r o parses is_ok spells =
    is_ok ∙ ap result_ok (parse-decimal 32 n word r spells.fits (let h : n < 2 ^ 32 = spells.fits in omega arith) spells.digits parses)

-- and the number prints as the word
printed : (word text : List ℕ) (m n : ℕ) (o : Option ℕ) → o ≡ Some n → o ≡ Some m → SpellsNumber word n → text ≡ decimal m → bytes_eq text word ≡ true
printed word text m n o is_n is_m spells prints =
    let same : m ≡ n = cc in
    (bytes_eq-Decides text word).1 (prints ∙ ap decimal same ∙ sym spells.digits)

pub returns-in_err-n : goal.returns-in_err-n
returns-in_err-n c =
    let P = λ (o : Option ℕ). MatchOption o ((n : ℕ) → ¬ (SpellsNumber c.args.word.now n)) (λ n. SpellsNumber c.args.word.now n) in
    subst P (sym c.from_residual.ensures) (λ n spells.
    apart (parsed c.args.word.now n c.parse.result c.ok.result c.parse.ensures.value.0 c.ok.ensures.value spells) c.in_err-n.was)
  where
    apart : {n : ℕ} {o : Option ℕ} → o ≡ Some n → o ≡ None → ⊥
    apart some none = cc

pub returns-else-eq : goal.returns-else-eq
returns-else-eq c = λ n spells.
    let is_n = parsed c.args.word.now n c.parse.result c.ok.result c.parse.ensures.value.0 c.ok.ensures.value spells in
    let same = printed c.args.word.now c.format.result.now c.in_ok-n.n n c.ok.result is_n c.in_ok-n.was spells c.format.ensures.text in
    apart (sym same ∙ sym c.eq.ensures ∙ c.if-eq.false)
  where
    apart : true ≡ false → ⊥
    apart e = cc

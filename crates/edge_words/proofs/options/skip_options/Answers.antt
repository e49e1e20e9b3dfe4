use Rattle.std.proofs.Common.{List, sym, subst, ◌∙◌}
use Rattle.edge_words.specs.Words.{Word, words_of}
use Rattle.edge_words.specs.Reading.{IsBehindOptions}
use Rattle.edge_words.proofs.WordLaws.{nothing_skipped, one_more_skipped, first_two}
use Rattle.edge_words.proofs.options.skip_options.Goals as goal

pub loop-rest-init : goal.loop-rest-init
loop-rest-init c = nothing_skipped (words_of c.args.words.now)

pub loop-rest-preserved : goal.loop-rest-preserved
loop-rest-preserved c =
    let rest = c.loop-rest.rest.now in
    let P = λ (words : List Word). IsBehindOptions (words_of c.args.words.now) words in
    one_more_skipped _ _ (subst P (first_two rest _ c.in-len2-up.len_at_least) c.loop-rest.invariant)
    (sym c.is_option.ensures ∙ c.if-not-is_option.false)

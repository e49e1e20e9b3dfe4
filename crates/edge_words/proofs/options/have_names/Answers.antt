use Rattle.std.proofs.Common.{List, ◌∙◌, sym, subst}
use Rattle.edge_words.specs.Words.{Word, words_of}
use Rattle.edge_words.proofs.WordLaws.{HasUnjudged, unjudged-argument, first_one}
use Rattle.edge_words.proofs.options.have_names.Goals as goal

pub loop-rest-preserved-in-len1-up : goal.loop-rest-preserved-in-len1-up
loop-rest-preserved-in-len1-up c = λ options arguments reads.
    let P = λ (rest : List Word). HasUnjudged (words_of c.args.names.now) rest options in
    unjudged-argument (subst P (first_one c.loop-rest.rest.now _ c.in-len1-up.len_at_least) (c.loop-rest.invariant options arguments reads))
    (sym c.is_option.ensures ∙ c.if-not-is_option.true)

use Rattle.edge_words.specs.Words.{Says}
use Rattle.edge_words.proofs.WordLaws.{twice_says_nothing, tells_nothing}
use Rattle.edge_words.proofs.options.number.Goals as goal

pub returns-in_err-value_of : goal.returns-in_err-value_of
returns-in_err-value_of c = tells_nothing (λ options. Says options c.args.name.now) c.from_residual.result c.from_residual.ensures.0
    (λ options arguments reads n. twice_says_nothing options n (c.in_err-value_of.ensures.err options arguments reads))

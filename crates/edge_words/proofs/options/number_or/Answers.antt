use Rattle.edge_words.specs.Words.{SaysOr}
use Rattle.edge_words.proofs.WordLaws.{twice_says_nothing_or, tells_nothing}
use Rattle.edge_words.proofs.options.number_or.Goals as goal

pub returns-in_err-value : goal.returns-in_err-value
returns-in_err-value c = tells_nothing (λ options. SaysOr options c.args.name.now c.args.default) c.from_residual.result c.from_residual.ensures.0
    (λ options arguments reads n. twice_says_nothing_or options c.args.default n (c.in_err-value.ensures.err options arguments reads))

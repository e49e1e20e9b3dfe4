use Rattle.std.proofs.Common.{sym, ◌∙◌}
use Rattle.edge_words.specs.Orders.{SaysBlockSize}
use Rattle.edge_words.proofs.WordLaws.{tells_nothing, says_one_or}
use Rattle.edge_words.proofs.OrderLaws.{none_of_four}
use Rattle.edge_words.proofs.order.block_size.Goals as goal

pub returns-in_err-size : goal.returns-in_err-size
returns-in_err-size c = tells_nothing SaysBlockSize c.from_residual.result c.from_residual.ensures.0
    (λ options arguments reads n says. c.in_err-size.ensures options arguments reads n says.size)

pub returns-else-contains : goal.returns-else-contains
returns-else-contains c = λ options arguments reads n says.
    none_of_four (says_one_or (c.in_ok-size.ensures options arguments reads) says.size) (sym c.contains.ensures.value ∙ c.if-contains.false) says.one_of_four

use Rattle.edge_words.specs.Orders.{SaysRequest}
use Rattle.edge_words.proofs.WordLaws.{tells_nothing}
use Rattle.edge_words.proofs.order.request.Goals as goal

pub returns-in_err-number : goal.returns-in_err-number
returns-in_err-number c = tells_nothing SaysRequest c.from_residual-in_err-number.result c.from_residual-in_err-number.ensures.0
    (λ options arguments reads r says. c.in_err-number.ensures options arguments reads r.blocks says.blocks)

pub returns-in_err-number-2 : goal.returns-in_err-number-2
returns-in_err-number-2 c = tells_nothing SaysRequest c.from_residual-in_err-number-2.result c.from_residual-in_err-number-2.ensures.0
    (λ options arguments reads r says. c.in_err-number-2.ensures options arguments reads r.inodes says.inodes)

pub returns-in_err-number_or : goal.returns-in_err-number_or
returns-in_err-number_or c = tells_nothing SaysRequest c.from_residual-in_err-number_or.result c.from_residual-in_err-number_or.ensures.0
    (λ options arguments reads r says. c.in_err-number_or.ensures options arguments reads r.name_max says.name_max)

pub returns-in_err-number_or-2 : goal.returns-in_err-number_or-2
returns-in_err-number_or-2 c = tells_nothing SaysRequest c.from_residual-in_err-number_or-2.result c.from_residual-in_err-number_or-2.ensures.0
    (λ options arguments reads r says. c.in_err-number_or-2.ensures options arguments reads r.direct says.direct)

pub returns-in_err-number_or-3 : goal.returns-in_err-number_or-3
returns-in_err-number_or-3 c = tells_nothing SaysRequest c.from_residual-in_err-number_or-3.result c.from_residual-in_err-number_or-3.ensures.0
    (λ options arguments reads r says. c.in_err-number_or-3.ensures options arguments reads r.indirect says.indirect)

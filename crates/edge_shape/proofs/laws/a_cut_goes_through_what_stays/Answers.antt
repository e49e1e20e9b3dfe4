use Rattle.edge_shape.proofs.SplitLaws.{split_by_cut}
use Rattle.edge_shape.proofs.WhereLaws.{finds}
use Rattle.edge_shape.proofs.WithinLaws.{cut_of_way-within, cut_at-below, cut_at-end}
use Rattle.edge_shape.specs.Where.{cut_at}
use Rattle.edge_shape.proofs.laws.a_cut_goes_through_what_stays.Goals as goal

pub returns-clause-through : goal.returns-clause-through
returns-clause-through c g v n i indices shape = (finds g v n indices shape i).goes_through

pub returns-clause-takes : goal.returns-clause-takes
returns-clause-takes c g v n i indices shape = (finds g v n indices shape i).takes

pub returns-clause-same : goal.returns-clause-same
returns-clause-same c g v n i indices shape = (finds g v n indices shape i).same

pub returns-clause-split : goal.returns-clause-split
returns-clause-split c g v n i indices form m shape =
    let f = finds g v n indices shape i in split_by_cut g v n i indices shape (cut_at g v n i) f.goes_through f.takes f.same form m

pub returns-clause-way : goal.returns-clause-way
returns-clause-way c = cut_at-below

pub returns-clause-end : goal.returns-clause-end
returns-clause-end c = cut_at-end

pub returns-clause-within : goal.returns-clause-within
returns-clause-within c = cut_of_way-within

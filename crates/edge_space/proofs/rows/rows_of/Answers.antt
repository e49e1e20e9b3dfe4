use Rattle.std.proofs.Common.{◌≡◌, ℕ, ◌+◌, ◌-◌, ◌/◌, ◌<◌, ap, arith}
use Rattle.std.specs.Prelude.{max}
use Rattle.edge_space.proofs.RowLaws.{rows_few, count_some}
use Rattle.edge_space.proofs.rows.rows_of.Goals as goal

pub returns-clause-most : goal.returns-clause-most
returns-clause-most c =
    let lo = c.args.run.first in
    let len = c.args.run.count in
    let skip = c.args.skip in
    let size = c.args.size in
    let past : max lo skip < lo + len = omega (arith, c.max.ensures, c.if-end-max.false) in
    let few = rows_few skip size lo len c.requires.some in
    let many = count_some skip size lo len past in
    let first : c.saturating_sub.result / size ≡ (lo - skip) / size = ap (λ (m : ℕ). m / size) c.saturating_sub.ensures in
    omega arith

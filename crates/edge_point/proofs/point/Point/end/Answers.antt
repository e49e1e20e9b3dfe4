use Rattle.std.proofs.Common.{sym, subst}
use Rattle.std.specs.Prelude.{IsTrue}
use Rattle.edge_disk.specs.State.{EachCut, disk_of, shown_by}
use Rattle.edge_anchor.specs.Opens.{OpensAs}
use Rattle.edge_point.specs.Seen.{IsLeft, anchor_of, last_view}
use Rattle.edge_point.proofs.StandsLaws.{point_shown}
use Rattle.edge_point.proofs.point.Point.end.Goals as goal

pub returns-clause-cut : goal.returns-clause-cut
returns-clause-cut g c = λ guarded.
    let d = g.D.Disk in
    subst (λ back. EachCut (disk_of d back) (IsLeft d c.args.self.parts)) (sym c.end.ensures) guarded.cut

pub returns-clause-shown : goal.returns-clause-shown
returns-clause-shown g c = λ live shows.
    let d = g.D.Disk in
    let p = c.args.self.parts in
    subst (λ back. OpensAs (anchor_of d p) (last_view d p) (shown_by (disk_of d back))) (sym c.end.ensures)
    (point_shown d p c.args.self.stands live (subst (λ back. IsTrue (d.origin back).shows) c.end.ensures shows))

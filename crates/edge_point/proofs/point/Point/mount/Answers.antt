use Rattle.std.proofs.Common.{sym, subst}
use Rattle.edge_point.specs.Mounted.{MountsPoint}
use Rattle.edge_point.specs.Standing.{IsPoint}
use Rattle.edge_point.proofs.MountedLaws.{mounted_point, mounts_point}
use Rattle.edge_point.proofs.point.Point.mount.Goals as goal

pub returns-in-Ok-clause-mounts : goal.returns-in-Ok-clause-mounts
returns-in-Ok-clause-mounts g c =
    let m = c.in-Ok.mounted in
    subst (MountsPoint g.D.Disk c.args.disk) (sym c.begin.ensures.parts)
    (mounts_point g.D.Disk c.args.disk m c.in-Ok.ensures.mounts (g.met.D.Disk.sure_is_shown m.cache.disk))

pub invariant_of-result : goal.invariant_of-result
invariant_of-result g c =
    let m = c.in-Ok.mounted in
    record {
      stands = subst (IsPoint g.D.Disk) (sym c.begin.ensures.parts)
          (mounted_point g.D.Disk c.args.disk m c.in-Ok.ensures.mounts c.begin.ensures.geometry (g.met.D.Disk.whole_blocks m.cache.disk));
    }

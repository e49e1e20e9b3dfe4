use Rattle.std.proofs.Common.{refl, arith}
use Rattle.edge_disk.specs.State.{disk_of, shown_by}
use Rattle.edge_nodes.proofs.GeometryLaws.{block_long}
use Rattle.edge_mount.proofs.ReasonLaws.{too_few}
use Rattle.edge_mount.proofs.WholeLaws.{untouched_same}
use Rattle.edge_mount.proofs.volume.mount.Goals as goal

pub returns-then-blocks-lt3-clause-refuses : goal.returns-then-blocks-lt3-clause-refuses
returns-then-blocks-lt3-clause-refuses g c = record {
  untouched = untouched_same g.D.Disk c.args.disk;
  why = (refl, λ shows. too_few (shown_by (disk_of g.D.Disk c.args.disk)) (omega arith));
}

pub take_rooms-requires : goal.take_rooms-requires
take_rooms-requires g c =
    let long = block_long (g.D.Disk.origin c.args.disk).block_size (g.met.D.Disk.known_size c.args.disk) in
    omega (arith, long.least, c.block_size-block_size.ensures)

pub returns-in_default-clause-refuses : goal.returns-in_default-clause-refuses
returns-in_default-clause-refuses g c = record { untouched = untouched_same g.D.Disk c.args.disk; why = refl }

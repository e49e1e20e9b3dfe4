use Rattle.edge_point.proofs.RoomLaws.{numbers_free}
use Rattle.edge_point.proofs.room.free_inodes.Goals as goal

pub returns : goal.returns
returns g c = λ told live. numbers_free g.D.Disk c.args.p.now c.requires.stands live told

use Rattle.std.proofs.Common.{◌≡◌, length, arith}
use Rattle.edge_nodes.proofs.ChangeLaws.{inode_entry}
use Rattle.edge_nodes.proofs.change.change_entry.Goals as goal

pub returns-clause-spelled : goal.returns-clause-spelled
returns-clause-spelled c = λ g sequence head entries node spells sealed.
    let long : length c.put_u32.new.b ≡ length c.args.b.now = omega arith in
    inode_entry g sequence c.args.i c.args.entry head entries c.args.b.now c.put_u32.new.b node long c.requires c.put_u32.ensures.kept c.put_u32.ensures.here spells sealed

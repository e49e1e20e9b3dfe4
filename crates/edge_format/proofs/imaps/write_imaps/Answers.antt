use Rattle.std.proofs.Common.{◌≡◌, ◌<◌, length, ◌∙◌, arith}
use Rattle.edge_base.specs.layout.Places.{imap_nodes_of}
use Rattle.edge_disk.specs.State.{disk_of}
use Rattle.edge_format.proofs.ImapLaws.{beside_more, wrote_more}
use Rattle.edge_format.proofs.imaps.write_imaps.Goals as goal

pub returns-in_err-write_imap-clause-kept : goal.returns-in_err-write_imap-clause-kept
returns-in_err-write_imap-clause-kept g c =
    let inside : c.loop-node.node < imap_nodes_of c.args.g.now = omega (arith, c.loop-node-test.true, c.imap_nodes-node-end.ensures.count) in
    beside_more c.args.g.now c.loop-node.node (disk_of g.D.Disk c.args.disk.now) (disk_of g.D.Disk c.loop-node.disk) (disk_of g.D.Disk c.write_imap.new.disk) inside c.loop-node.invariant.0.kept c.write_imap.ensures.kept

pub loop-node-preserved : goal.loop-node-preserved
loop-node-preserved g c =
    let inside : c.loop-node.node < imap_nodes_of c.args.g.now = omega (arith, c.loop-node-test.true, c.imap_nodes-node-end.ensures.count) in
    let wrote = c.in_ok-write_imap.ensures in (
      wrote_more c.args.g.now c.loop-node.node (disk_of g.D.Disk c.args.disk.now) (disk_of g.D.Disk c.loop-node.disk) (disk_of g.D.Disk c.write_imap.new.disk) inside c.loop-node.invariant.0
          wrote.origin wrote.cause.passed wrote.kept wrote.shown,
      c.write_imap.ensures.whole ∙ c.loop-node.invariant.1,
    )

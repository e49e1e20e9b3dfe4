use Rattle.std.proofs.Common.{◌≡◌, length, arith}
use Rattle.edge_nodes.proofs.ChangeLaws.{inode_sequence, pointer_sequence, imap_sequence}
use Rattle.edge_nodes.proofs.change.change_sequence.Goals as goal

pub returns-clause-spelled : goal.returns-clause-spelled
returns-clause-spelled c =
    let old = c.args.b.now in
    let new = c.put_u64.new.b in
    let kept = c.put_u64.ensures.kept in
    let here = c.put_u64.ensures.here in
    let long : length new ≡ length old = omega arith in
    record {
      inode = λ g before head entries node spells sealed. inode_sequence g before c.args.sequence head entries old new node long c.requires kept here spells sealed;
      pointer = λ g double before owner entries node spells sealed. pointer_sequence g double before c.args.sequence owner entries old new node long c.requires kept here spells sealed;
      imap = λ g i before bits node spells sealed. imap_sequence g i before c.args.sequence bits old new node long c.requires kept here spells sealed;
    }

use Rattle.std.proofs.Common.{◌≡◌, length, ◌∙◌, arith}
use Rattle.edge_nodes.specs.Changes.{HasHead}
use Rattle.edge_nodes.specs.Writing.{ChangesOnly}
use Rattle.edge_nodes.proofs.ChangeLaws.{inode_head}
use Rattle.edge_nodes.proofs.WritingLaws.{later}
use Rattle.edge_nodes.proofs.change.change_head.Goals as goal

pub returns-clause-head : goal.returns-clause-head
returns-clause-head c =
    let head = c.put_head.ensures in
    record {
      sequence_is = head.kept.before 8 8 (omega arith) ∙ c.put_u64.ensures.here;
      size = head.size;
      mode = head.mode;
      links = head.links;
      parent = head.parent;
    }

pub returns-clause-kept : goal.returns-clause-kept
returns-clause-kept c = later c.put_u64.ensures.kept c.put_head.ensures.kept

pub returns-clause-spelled : goal.returns-clause-spelled
returns-clause-spelled c = λ g before was entries node spells sealed.
    let kept : ChangesOnly 8 32 c.args.b.now c.put_head.new.b = later c.put_u64.ensures.kept c.put_head.ensures.kept in
    let has : HasHead c.args.sequence c.args.head.now c.put_head.new.b = record {
      sequence_is = c.put_head.ensures.kept.before 8 8 (omega arith) ∙ c.put_u64.ensures.here;
      size = c.put_head.ensures.size;
      mode = c.put_head.ensures.mode;
      links = c.put_head.ensures.links;
      parent = c.put_head.ensures.parent;
    } in
    let long : length c.put_head.new.b ≡ length c.args.b.now = omega arith in
    inode_head g before c.args.sequence was c.args.head.now entries c.args.b.now c.put_head.new.b node long c.requires.whole c.requires.some_link c.requires.no_parent kept has spells sealed

use Rattle.std.proofs.Common.{ℕ, List, replicate, subst, arith}
use Rattle.edge_base.specs.layout.Places.{entries_of}
use Rattle.edge_nodes.specs.Writing.{IsSealed}
use Rattle.edge_nodes.proofs.GeometryLaws.{geometry_long}
use Rattle.edge_point.proofs.FindLaws.{whole_back}
use Rattle.edge_point.proofs.MakeLaws.{sealed_again}
use Rattle.edge_point.proofs.make.blank_inode.Goals as goal

pub returns-clause-spelled : goal.returns-clause-spelled
returns-clause-spelled g c =
    let p = c.args.p.now in
    let r = p.master.geometry in
    let new = c.fill_inode.new.out in
    let back = whole_back p.block.len new p.block.items (omega arith) p.block.ok.0 in
    let long = (geometry_long r c.request-within_limits.ensures.geometry).least in
    let spells = c.fill_inode.ensures in (
      c.saturating_add-sequence.result,
      λ node sealed. sealed_again r c.saturating_add-sequence.result c.args.head.now (replicate (entries_of r) 0) new node
          (omega (arith, long, spells.len)) spells (subst (λ (x : List ℕ). IsSealed x node) back sealed),
    )

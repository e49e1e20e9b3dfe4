use Rattle.std.proofs.Common.{◌∙◌, ap, arith}
use Rattle.edge_base.specs.declared.geometry.Request.{Request}
use Rattle.edge_store.proofs.DamageLaws.{tells_of_inode}
use Rattle.edge_volume.proofs.LookLaws.{looks_of_call}
use Rattle.edge_volume.proofs.NodeLaws.{meets_undamaged, told_head, is_node}
use Rattle.edge_volume.proofs.node.node_head.Goals as goal

pub returns-clause-looks : goal.returns-clause-looks
returns-clause-looks g c =
    let old = g.S.Store.state c.args.s.now in
    let new = g.S.Store.state c.head.new.self in
    let call = c.head.ensures in
    looks_of_call g.S.Store c.args.s.now c.head.new.self c.head.result call.called call.point call.reads call.below call.clean
    (λ told. tells_of_inode old new c.head.result call.called call.point c.args.n (g.met.S.Store.working_is_view c.args.s.now told c.requires.live) (call.damage told))

pub returns-clause-undamaged : goal.returns-clause-undamaged
returns-clause-undamaged g c z stands =
    meets_undamaged (g.S.Store.state c.args.s.now) (g.S.Store.state c.head.new.self) c.args.n c.head.result z stands (c.head.ensures.damage stands.told)

pub returns-clause-head : goal.returns-clause-head
returns-clause-head g c = told_head (g.S.Store.state c.args.s.now) (g.S.Store.state c.head.new.self) c.args.n c.head.result c.head.ensures.head

pub returns-clause-node : goal.returns-clause-node
returns-clause-node g c = is_node (g.S.Store.state c.args.s.now) c.args.n c.head.result (omega arith)
    (let low = c.if-n-inodes.false in let is = ap (λ (r : Request). r.inodes) (c.request-inodes.ensures.same ∙ c.geometry.ensures) in omega arith) c.head.ensures.head c.head.ensures.rules

use Rattle.std.proofs.Common.{◌∙◌, sym, ap}
use Rattle.edge_base.specs.declared.node.Head.{Head}
use Rattle.edge_base.specs.tree.Nodes.{Node, parent_of}
use Rattle.edge_store.specs.View.{head_of_inode}
use Rattle.edge_store.proofs.DamageLaws.{tells_of_inode}
use Rattle.edge_cut.proofs.GoLaws.{on_ok_map}
use Rattle.edge_volume.proofs.FaultLaws.{ends_of_call}
use Rattle.edge_names.proofs.GoneLaws.{headed_undamaged, meets_none}
use Rattle.edge_names.proofs.ParentLaws.{parent_kept, parent_step}
use Rattle.edge_names.proofs.moves.set_parent.Goals as goal

pub returns-then-stays-clause-set : goal.returns-then-stays-clause-set
returns-then-stays-clause-set g c t links node has =
    let old = g.S.Store.state c.args.s.now in
    parent_kept old.origin.request old.committed old.working old.working t links c.args.node.number c.args.parent has.stands node has.there
    (λ slots before is. sym (ap (λ (x : Node). parent_of x) is) ∙ sym (ap (λ (h : Head). h.parent) has.head) ∙ c.if-stays.true)

pub returns-in-Directory-clause-ends : goal.returns-in-Directory-clause-ends
returns-in-Directory-clause-ends g c =
    let old = g.S.Store.state c.args.s.now in
    let new = g.S.Store.state c.set_head.new.self in
    let call = c.set_head.ensures in
    ends_of_call old new c.set_head.result call.called
    (λ told. tells_of_inode old new c.set_head.result call.called call.point c.args.node.number (g.met.S.Store.working_is_view c.args.s.now told c.requires.live) (call.damage told))

pub returns-in-Directory-clause-undamaged : goal.returns-in-Directory-clause-undamaged
returns-in-Directory-clause-undamaged g c t links node has =
    let old = g.S.Store.state c.args.s.now in
    meets_none _ old (g.S.Store.state c.set_head.new.self) c.set_head.result (c.set_head.ensures.damage has.told)
    (headed_undamaged (old.working.inodes c.args.node.number) _ (ap head_of_inode (has.stands.nodes c.args.node.number node has.there).head.inode))

pub returns-in-Directory-clause-set : goal.returns-in-Directory-clause-set
returns-in-Directory-clause-set g c =
    let old = g.S.Store.state c.args.s.now in
    let new = g.S.Store.state c.set_head.new.self in
    on_ok_map c.set_head.result (λ set t links node has.
    parent_step old.origin.request old.committed old.working new.working t links c.args.node.number c.args.parent has.stands node c.args.node.head
    (g.met.S.Store.working_is_view c.args.s.now has.told c.requires.live) has.there has.head c.in-Directory.is (set has.told)) c.set_head.ensures.set

use Rattle.std.proofs.Common.{◌≡◌, ◌∙◌, sym, ap, subst, IfSome, Option, Some}
use Rattle.std.specs.Prelude.{Err}
use Rattle.std.proofs.lemmas.Result.{err_from_is_err_and}
use Rattle.edge_base.specs.outside.Below.{Origin}
use Rattle.edge_store.specs.declared.fault.StoreFault.{StoreFault}
use Rattle.edge_store.specs.State.{Told}
use Rattle.edge_cut.proofs.GoLaws.{on_ok_map}
use Rattle.edge_model.specs.Names.{with_parent}
use Rattle.edge_model.specs.Tree.{links_of}
use Rattle.edge_volume.specs.Nodes.{IsNodeOf}
use Rattle.edge_volume.specs.Stopped.{fault_in}
use Rattle.edge_names.specs.declared.moves.NamedNode.{NamedNode}
use Rattle.edge_names.proofs.MovedStoreLaws.{clear_undamaged, moves_alone, moves_over, node_left, own_node, own_replaced, replaced_left}
use Rattle.edge_names.proofs.MoveTreeLaws.{left_of}
use Rattle.edge_names.proofs.moves.move_name.Goals as goal

same_fault : (x y : StoreFault) → Some x ≡ Some y → x ≡ y
same_fault x y e = cc

pub returns-in_err-put_name-clause-undamaged : goal.returns-in_err-put_name-clause-undamaged
returns-in_err-put_name-clause-undamaged g c z stands may room d e =
    let p = err_from_is_err_and c.from_residual.result c.from_residual.ensures.1 in
    c.in_err-put_name.ensures.undamaged z stands may room d (ap Some (sym (same_fault _ _ (sym e ∙ ap fault_in p.1) ∙ p.2)))

pub returns-in_err-clear-clause-undamaged : goal.returns-in_err-clear-clause-undamaged
returns-in_err-clear-clause-undamaged g c z stands may room d e =
    let old = g.S.Store.state c.args.s.now in
    let mid = g.S.Store.state c.put_name.new.s in
    let one = c.in_ok-put_name.ensures in
    let told_mid : Told mid = ap (λ (o : Origin). o.tells) one.ends.origin ∙ stands.told in
    let view_mid = g.met.S.Store.working_is_view c.put_name.new.s told_mid one.ends.live in
    let p = err_from_is_err_and c.from_residual-in_err-clear.result c.from_residual-in_err-clear.ensures.1 in
    clear_undamaged old mid z c.args.change.now c.args.name.now stands may c.requires.within.0 one.ends.origin one.point.committed view_mid one.put
    (Err c.in_err-clear.field-0.0) c.in_err-clear.ensures.undamaged (one.room z stands may room)
    d (ap Err (sym p.2 ∙ same_fault _ _ (ap fault_in (sym p.1) ∙ e)))

pub returns-in_err-set_parent-clause-undamaged : goal.returns-in_err-set_parent-clause-undamaged
returns-in_err-set_parent-clause-undamaged g c z stands may room d e =
    let old = g.S.Store.state c.args.s.now in
    let mid = g.S.Store.state c.put_name.new.s in
    let bare = g.S.Store.state c.clear.new.s in
    let m = c.args.change.now in
    let one = c.in_ok-put_name.ensures in
    let two = c.in_ok-clear.ensures in
    let told_mid : Told mid = ap (λ (o : Origin). o.tells) one.ends.origin ∙ stands.told in
    let view_mid = g.met.S.Store.working_is_view c.put_name.new.s told_mid one.ends.live in
    let p = err_from_is_err_and c.from_residual-in_err-set_parent.result c.from_residual-in_err-set_parent.ensures.1 in
    let own = own_node old mid z m c.args.name.now stands may c.requires.within.0 one.ends.origin one.point.committed view_mid one.put
    bare (two.called.origin ∙ one.ends.origin) (two.point.committed ∙ one.point.committed) two.cleared c.requires.node in
    c.in_err-set_parent.ensures.undamaged (left_of z.tree m c.args.name.now) (links_of old.origin.request z.tree) own.0
    (node_left old mid z m c.args.name.now stands may c.requires.within.0 one.ends.origin one.point.committed view_mid one.put
    bare (two.called.origin ∙ one.ends.origin) (two.point.committed ∙ one.point.committed) two.cleared c.requires.node)
    d (ap Some (sym (same_fault _ _ (sym e ∙ ap fault_in p.1) ∙ p.2)))

pub returns-in-None-clause-moved : goal.returns-in-None-clause-moved
returns-in-None-clause-moved g c z stands may =
    let old = g.S.Store.state c.args.s.now in
    let mid = g.S.Store.state c.put_name.new.s in
    let bare = g.S.Store.state c.clear.new.s in
    let new = g.S.Store.state c.set_parent.new.s in
    let one = c.in_ok-put_name.ensures in
    let two = c.in_ok-clear.ensures in
    let three = c.in_ok-set_parent.ensures in
    let told_mid : Told mid = ap (λ (o : Origin). o.tells) one.ends.origin ∙ stands.told in
    let view_mid = g.met.S.Store.working_is_view c.put_name.new.s told_mid one.ends.live in
    moves_alone old mid z c.args.change.now c.args.name.now stands may c.requires.within.0 one.ends.origin one.point.committed view_mid one.put
    bare (two.called.origin ∙ one.ends.origin) (two.point.committed ∙ one.point.committed) two.cleared c.requires.node
    new (three.ends.origin ∙ two.called.origin ∙ one.ends.origin) (three.point.committed ∙ two.point.committed ∙ one.point.committed) three.set c.in-None.is

pub returns-in-Some-clause-undamaged : goal.returns-in-Some-clause-undamaged
returns-in-Some-clause-undamaged g c z stands may room =
    let old = g.S.Store.state c.args.s.now in
    let mid = g.S.Store.state c.put_name.new.s in
    let bare = g.S.Store.state c.clear.new.s in
    let new = g.S.Store.state c.set_parent.new.s in
    let m = c.args.change.now in
    let one = c.in_ok-put_name.ensures in
    let two = c.in_ok-clear.ensures in
    let three = c.in_ok-set_parent.ensures in
    let told_mid : Told mid = ap (λ (o : Origin). o.tells) one.ends.origin ∙ stands.told in
    let view_mid = g.met.S.Store.working_is_view c.put_name.new.s told_mid one.ends.live in
    let is_replaced = subst (λ (o : Option NamedNode). IfSome o (λ node. IsNodeOf old node.number node.head)) c.in-Some.is c.requires.replaced in
    c.take_link.ensures.undamaged (with_parent (left_of z.tree m c.args.name.now) m.node.number m.to.dir) (links_of old.origin.request z.tree)
    (own_replaced old mid z m c.args.name.now stands may c.requires.within.0 one.ends.origin one.point.committed view_mid one.put
    bare (two.called.origin ∙ one.ends.origin) (two.point.committed ∙ one.point.committed) two.cleared c.requires.node
    new (three.ends.origin ∙ two.called.origin ∙ one.ends.origin) (three.point.committed ∙ two.point.committed ∙ one.point.committed) three.set c.in-Some.node c.in-Some.is is_replaced).0
    (replaced_left old mid z m c.args.name.now stands may c.requires.within.0 one.ends.origin one.point.committed view_mid one.put
    bare (two.called.origin ∙ one.ends.origin) (two.point.committed ∙ one.point.committed) two.cleared c.requires.node
    new (three.ends.origin ∙ two.called.origin ∙ one.ends.origin) (three.point.committed ∙ two.point.committed ∙ one.point.committed) three.set c.in-Some.node c.in-Some.is is_replaced)

pub returns-in-Some-clause-moved : goal.returns-in-Some-clause-moved
returns-in-Some-clause-moved g c =
    let old = g.S.Store.state c.args.s.now in
    let mid = g.S.Store.state c.put_name.new.s in
    let bare = g.S.Store.state c.clear.new.s in
    let new = g.S.Store.state c.set_parent.new.s in
    let last = g.S.Store.state c.take_link.new.s in
    let one = c.in_ok-put_name.ensures in
    let two = c.in_ok-clear.ensures in
    let three = c.in_ok-set_parent.ensures in
    on_ok_map c.take_link.result (λ takes z stands may.
    let told_mid : Told mid = ap (λ (o : Origin). o.tells) one.ends.origin ∙ stands.told in
    let view_mid = g.met.S.Store.working_is_view c.put_name.new.s told_mid one.ends.live in
    moves_over old mid z c.args.change.now c.args.name.now stands may c.requires.within.0 one.ends.origin one.point.committed view_mid one.put
    bare (two.called.origin ∙ one.ends.origin) (two.point.committed ∙ one.point.committed) two.cleared c.requires.node
    new (three.ends.origin ∙ two.called.origin ∙ one.ends.origin) (three.point.committed ∙ two.point.committed ∙ one.point.committed) three.set c.in-Some.node c.in-Some.is
    (subst (λ (o : Option NamedNode). IfSome o (λ node. IsNodeOf old node.number node.head)) c.in-Some.is c.requires.replaced) last takes) c.take_link.ensures.taken

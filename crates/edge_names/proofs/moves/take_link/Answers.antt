use Rattle.std.proofs.Common.{◌≡◌, ◌∙◌, ℕ, ◌≤◌, sym, ap, subst, arith, eq-eqb, Some}
use Rattle.std.specs.Prelude.{Ok, Err}
use Rattle.std.proofs.lemmas.Bool.{ne_eqb}
use Rattle.std.proofs.lemmas.Result.{err_from_is_err_and}
use Rattle.edge_base.specs.declared.node.Head.{Head}
use Rattle.edge_base.specs.layout.Places.{IsWithinLimits}
use Rattle.edge_base.specs.outside.Below.{Origin}
use Rattle.edge_base.specs.tree.Nodes.{indices_of}
use Rattle.edge_store.specs.declared.fault.StoreFault.{StoreFault}
use Rattle.edge_store.specs.State.{Told}
use Rattle.edge_store.specs.View.{free_now, head_of_inode}
use Rattle.edge_store.proofs.DamageLaws.{tells_of_inode}
use Rattle.edge_cut.proofs.GoLaws.{on_ok_map}
use Rattle.edge_stands.proofs.StandingLaws.{each_shape, each_shaped}
use Rattle.edge_volume.specs.Stopped.{fault_in}
use Rattle.edge_volume.proofs.FaultLaws.{ends_of_call, ends_on}
use Rattle.edge_names.proofs.GoneLaws.{cut_needs_none, headed_undamaged, meets_none}
use Rattle.edge_names.proofs.TakeLaws.{dropped_step, less_step}
use Rattle.edge_names.proofs.moves.take_link.Goals as goal

same_fault : (x y : StoreFault) → Some x ≡ Some y → x ≡ y
same_fault x y e = cc

pub returns-in_err-cut_from-clause-undamaged : goal.returns-in_err-cut_from-clause-undamaged
returns-in_err-cut_from-clause-undamaged g c t links node has d e =
    let old = g.S.Store.state c.args.s.now in
    let r = old.origin.request in
    let n = c.args.node.number in
    let view = g.met.S.Store.working_is_view c.args.s.now has.told c.requires.live in
    let limits : IsWithinLimits r = subst IsWithinLimits c.geometry.ensures c.request-within_limits.ensures.limits in
    let p = err_from_is_err_and c.from_residual.result c.from_residual.ensures.1 in
    c.in_err-cut_from.ensures.undamaged has.told (each_shaped r old.working t links view has.stands n node has.there)
    (subst (λ (x : ℕ). x ≤ free_now r old.committed old.working) (sym (cut_needs_none r old.committed old.working n limits.some_direct)) (omega arith))
    d (ap Err (sym p.2 ∙ same_fault _ _ (ap fault_in (sym p.1) ∙ e)))

pub returns-then-last-clause-ends : goal.returns-then-last-clause-ends
returns-then-last-clause-ends g c =
    let old = g.S.Store.state c.args.s.now in
    let bare = g.S.Store.state c.cut_from.new.s in
    let new = g.S.Store.state c.drop_inode.new.self in
    let one = c.in_ok-cut_from.ensures in
    let two = c.drop_inode.ensures in
    ends_on (fault_in c.drop_inode.result) old bare new (ends_of_call old bare (Ok c.in_ok-cut_from.field-0) one.called one.damage)
    (ends_of_call bare new c.drop_inode.result two.called
    (λ told. tells_of_inode bare new c.drop_inode.result two.called two.point c.args.node.number (g.met.S.Store.working_is_view c.cut_from.new.s told one.called.live) (two.damage told)))

pub returns-then-last-clause-undamaged : goal.returns-then-last-clause-undamaged
returns-then-last-clause-undamaged g c t links node has =
    let old = g.S.Store.state c.args.s.now in
    let bare = g.S.Store.state c.cut_from.new.s in
    let one = c.in_ok-cut_from.ensures in
    let told_bare : Told bare = ap (λ (o : Origin). o.tells) one.called.origin ∙ has.told in
    meets_none _ bare (g.S.Store.state c.drop_inode.new.self) c.drop_inode.result (c.drop_inode.ensures.damage told_bare)
    (headed_undamaged (bare.working.inodes c.args.node.number) _ ((one.heads has.told).head ∙ ap head_of_inode (has.stands.nodes c.args.node.number node has.there).head.inode))

pub returns-then-last-clause-taken : goal.returns-then-last-clause-taken
returns-then-last-clause-taken g c =
    let old = g.S.Store.state c.args.s.now in
    let bare = g.S.Store.state c.cut_from.new.s in
    let new = g.S.Store.state c.drop_inode.new.self in
    let r = old.origin.request in
    let n = c.args.node.number in
    let one = c.in_ok-cut_from.ensures in
    on_ok_map c.drop_inode.result (λ dropped t links node has.
    let told_bare : Told bare = ap (λ (o : Origin). o.tells) one.called.origin ∙ has.told in
    let view = g.met.S.Store.working_is_view c.args.s.now has.told c.requires.live in
    let geometry = g.met.S.Store.is_geometry c.args.s.now in
    dropped_step r old.committed old.working new.working t links n node view has.stands has.there bare.working geometry
    (one.cut has.told (indices_of r node) (each_shape r old.working t links view has.stands n node has.there geometry)) (dropped told_bare) (eq-eqb (links n) 1 (sym (ap (λ (h : Head). h.links) has.head) ∙ c.if-last.true))) c.drop_inode.ensures.dropped

pub returns-clause-ends : goal.returns-clause-ends
returns-clause-ends g c =
    let old = g.S.Store.state c.args.s.now in
    let new = g.S.Store.state c.set_head.new.self in
    let call = c.set_head.ensures in
    ends_of_call old new c.set_head.result call.called
    (λ told. tells_of_inode old new c.set_head.result call.called call.point c.args.node.number (g.met.S.Store.working_is_view c.args.s.now told c.requires.live) (call.damage told))

pub returns-clause-undamaged : goal.returns-clause-undamaged
returns-clause-undamaged g c t links node has =
    let old = g.S.Store.state c.args.s.now in
    meets_none _ old (g.S.Store.state c.set_head.new.self) c.set_head.result (c.set_head.ensures.damage has.told)
    (headed_undamaged (old.working.inodes c.args.node.number) _ (ap head_of_inode (has.stands.nodes c.args.node.number node has.there).head.inode))

pub returns-clause-taken : goal.returns-clause-taken
returns-clause-taken g c =
    let old = g.S.Store.state c.args.s.now in
    let new = g.S.Store.state c.set_head.new.self in
    on_ok_map c.set_head.result (λ set t links node has.
    less_step old.origin.request old.committed old.working new.working t links c.args.node.number node
    (g.met.S.Store.working_is_view c.args.s.now has.told c.requires.live) has.stands has.there c.args.node.head has.head (set has.told) (ne_eqb (links c.args.node.number) 1 (λ e. c.if-last.false (ap (λ (h : Head). h.links) has.head ∙ e)))) c.set_head.ensures.set

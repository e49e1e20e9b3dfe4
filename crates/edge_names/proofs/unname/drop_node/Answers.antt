use Rattle.std.proofs.Common.{◌≡◌, ◌∙◌, ℕ, ◌≤◌, Bool, List, [], true, false, is_some, unwrap_or, sym, ap, subst, arith, Option, Some, None}
use Rattle.std.specs.Prelude.{Ok, Err}
use Rattle.std.proofs.lemmas.Result.{err_from_is_err_and}
use Rattle.edge_base.specs.declared.geometry.Request.{Request}
use Rattle.edge_base.specs.layout.Places.{IsWithinLimits}
use Rattle.edge_base.specs.outside.Below.{Origin}
use Rattle.edge_base.specs.tree.Nodes.{Node, file, indices_of}
use Rattle.edge_store.specs.declared.fault.StoreFault.{StoreFault}
use Rattle.edge_store.specs.State.{Told}
use Rattle.edge_store.specs.View.{View, IsView, free_now, head_of_inode}
use Rattle.edge_store.proofs.DamageLaws.{tells_of_inode}
use Rattle.edge_shape.specs.Cut.{IsCut}
use Rattle.edge_shape.specs.Shape.{HasShape}
use Rattle.edge_cut.proofs.GoLaws.{on_ok_map}
use Rattle.edge_model.specs.Named.{cleared, without_slot}
use Rattle.edge_model.specs.Tree.{Tree, slots_at, links_of, slots_of_node}
use Rattle.edge_stands.specs.Stands.{StandsWith}
use Rattle.edge_stands.proofs.StandingLaws.{each_shape, each_shaped}
use Rattle.edge_volume.specs.Stopped.{fault_in}
use Rattle.edge_volume.proofs.FaultLaws.{ends_of_call, ends_on}
use Rattle.edge_names.specs.Unnamed.{MayUnname}
use Rattle.edge_names.proofs.GoneLaws.{cut_needs_none, headed_undamaged, meets_none}
use Rattle.edge_names.proofs.NamedAtLaws.{there_at, node_at_d, inside_at, set_at, rules_at, parent_at, own_at}
use Rattle.edge_names.proofs.UnnamedLaws.{left_stands, left_node, gone_stands, gone_dirties}
use Rattle.edge_names.proofs.unname.drop_node.Goals as goal

same_fault : (x y : StoreFault) → Some x ≡ Some y → x ≡ y
same_fault x y e = cc

pub returns-in_err-clear-clause-undamaged : goal.returns-in_err-clear-clause-undamaged
returns-in_err-clear-clause-undamaged g c z stands may room d e =
    let old = g.S.Store.state c.args.s.now in
    let r = old.origin.request in
    let view = g.met.S.Store.working_is_view c.args.s.now stands.told c.requires.live in
    let p = err_from_is_err_and c.from_residual.result c.from_residual.ensures.1 in
    c.in_err-clear.ensures.undamaged stands.told (slots_at z.tree c.args.d) (parent_at r old.working z c.args.n c.args.d c.args.slot true view stands.views.tree may)
    (node_at_d r old.working z c.args.n c.args.d c.args.slot true view stands.views.tree may) (without_slot (slots_at z.tree c.args.d) c.args.slot)
    (rules_at r old.working z c.args.n c.args.d c.args.slot true view stands.views.tree may) (inside_at r old.working z c.args.n c.args.d c.args.slot true view stands.views.tree may)
    (set_at r old.working z c.args.n c.args.d c.args.slot true view stands.views.tree may) room d (ap Err (sym p.2 ∙ same_fault _ _ (ap fault_in (sym p.1) ∙ e)))

pub returns-in_err-cut_from-clause-undamaged : goal.returns-in_err-cut_from-clause-undamaged
returns-in_err-cut_from-clause-undamaged g c z stands may room d e =
    let old = g.S.Store.state c.args.s.now in
    let mid = g.S.Store.state c.clear.new.s in
    let r = old.origin.request in
    let call = c.in_ok-clear.ensures in
    let told_mid : Told mid = ap (λ (o : Origin). o.tells) call.called.origin ∙ stands.told in
    let view = g.met.S.Store.working_is_view c.args.s.now stands.told c.requires.live in
    let view_mid = g.met.S.Store.working_is_view c.clear.new.s told_mid call.called.live in
    let limits : IsWithinLimits mid.origin.request = subst (λ (o : Origin). IsWithinLimits o.request) (sym call.called.origin) (subst IsWithinLimits c.geometry.ensures c.request-within_limits.ensures.limits) in
    let parent = parent_at r old.working z c.args.n c.args.d c.args.slot true view stands.views.tree may in
    let changed = call.cleared stands.told (slots_at z.tree c.args.d) (without_slot (slots_at z.tree c.args.d) c.args.slot) parent
    (node_at_d r old.working z c.args.n c.args.d c.args.slot true view stands.views.tree may)
    (rules_at r old.working z c.args.n c.args.d c.args.slot true view stands.views.tree may) (inside_at r old.working z c.args.n c.args.d c.args.slot true view stands.views.tree may)
    (set_at r old.working z c.args.n c.args.d c.args.slot true view stands.views.tree may) in
    let there = there_at r old.working z c.args.n c.args.d c.args.slot true view stands.views.tree may in
    let left = left_stands r old.committed old.working mid.working z.tree c.args.d c.args.slot c.args.n may.entry (slots_at z.tree c.args.d) parent view may.tree stands.views.tree there may.named may.number may.other changed in
    let node = left_node r old.committed old.working mid.working z.tree c.args.d c.args.slot c.args.n may.entry (slots_at z.tree c.args.d) parent view may.tree stands.views.tree there may.named may.number may.other changed
    ∙ (own_at r z c.args.n c.args.d c.args.slot true may).1 in
    let shaped = each_shaped mid.origin.request mid.working (cleared z.tree c.args.d c.args.slot) (links_of r z.tree) view_mid
    (subst (λ (o : Origin). StandsWith o.request mid.working (cleared z.tree c.args.d c.args.slot) (links_of r z.tree)) (sym call.called.origin) left) c.args.n _ node in
    let p = err_from_is_err_and c.from_residual-in_err-cut_from.result c.from_residual-in_err-cut_from.ensures.1 in
    c.in_err-cut_from.ensures.undamaged told_mid shaped
    (subst (λ (x : ℕ). x ≤ free_now mid.origin.request mid.committed mid.working) (sym (cut_needs_none mid.origin.request mid.committed mid.working c.args.n limits.some_direct)) (omega arith))
    d (ap Err (sym p.2 ∙ same_fault _ _ (ap fault_in (sym p.1) ∙ e)))

pub returns-clause-ends : goal.returns-clause-ends
returns-clause-ends g c =
    let old = g.S.Store.state c.args.s.now in
    let mid = g.S.Store.state c.clear.new.s in
    let bare = g.S.Store.state c.cut_from.new.s in
    let new = g.S.Store.state c.drop_inode.new.self in
    let one = c.in_ok-clear.ensures in
    let two = c.in_ok-cut_from.ensures in
    let three = c.drop_inode.ensures in
    ends_on (fault_in c.drop_inode.result) old bare new
    (ends_on None old mid bare (ends_of_call old mid (Ok c.in_ok-clear.field-0) one.called one.damage) (ends_of_call mid bare (Ok c.in_ok-cut_from.field-0) two.called two.damage))
    (ends_of_call bare new c.drop_inode.result three.called
    (λ told. tells_of_inode bare new c.drop_inode.result three.called three.point c.args.n (g.met.S.Store.working_is_view c.cut_from.new.s told two.called.live) (three.damage told)))

pub returns-clause-undamaged : goal.returns-clause-undamaged
returns-clause-undamaged g c z stands may room =
    let old = g.S.Store.state c.args.s.now in
    let mid = g.S.Store.state c.clear.new.s in
    let bare = g.S.Store.state c.cut_from.new.s in
    let new = g.S.Store.state c.drop_inode.new.self in
    let r = old.origin.request in
    let call = c.in_ok-clear.ensures in
    let second = c.in_ok-cut_from.ensures in
    let told_mid : Told mid = ap (λ (o : Origin). o.tells) call.called.origin ∙ stands.told in
    let told_bare : Told bare = ap (λ (o : Origin). o.tells) second.called.origin ∙ told_mid in
    let view = g.met.S.Store.working_is_view c.args.s.now stands.told c.requires.live in
    let view_mid = g.met.S.Store.working_is_view c.clear.new.s told_mid call.called.live in
    let parent = parent_at r old.working z c.args.n c.args.d c.args.slot true view stands.views.tree may in
    let changed = call.cleared stands.told (slots_at z.tree c.args.d) (without_slot (slots_at z.tree c.args.d) c.args.slot) parent
    (node_at_d r old.working z c.args.n c.args.d c.args.slot true view stands.views.tree may)
    (rules_at r old.working z c.args.n c.args.d c.args.slot true view stands.views.tree may) (inside_at r old.working z c.args.n c.args.d c.args.slot true view stands.views.tree may)
    (set_at r old.working z c.args.n c.args.d c.args.slot true view stands.views.tree may) in
    let there = there_at r old.working z c.args.n c.args.d c.args.slot true view stands.views.tree may in
    let left = left_stands r old.committed old.working mid.working z.tree c.args.d c.args.slot c.args.n may.entry (slots_at z.tree c.args.d) parent view may.tree stands.views.tree there may.named may.number may.other changed in
    let node = left_node r old.committed old.working mid.working z.tree c.args.d c.args.slot c.args.n may.entry (slots_at z.tree c.args.d) parent view may.tree stands.views.tree there may.named may.number may.other changed
    ∙ (own_at r z c.args.n c.args.d c.args.slot true may).1 in
    let head = (left.nodes c.args.n _ node).head in
    meets_none _ bare new c.drop_inode.result (c.drop_inode.ensures.damage told_bare)
    (headed_undamaged (bare.working.inodes c.args.n) _ ((second.heads told_mid).head ∙ ap head_of_inode head.inode))

pub returns-clause-dropped : goal.returns-clause-dropped
returns-clause-dropped g c =
    let old = g.S.Store.state c.args.s.now in
    let mid = g.S.Store.state c.clear.new.s in
    let bare = g.S.Store.state c.cut_from.new.s in
    let new = g.S.Store.state c.drop_inode.new.self in
    let r = old.origin.request in
    let call = c.in_ok-clear.ensures in
    let second = c.in_ok-cut_from.ensures in
    on_ok_map c.drop_inode.result (λ dropped z stands may slotless.
    let told_mid : Told mid = ap (λ (o : Origin). o.tells) call.called.origin ∙ stands.told in
    let told_bare : Told bare = ap (λ (o : Origin). o.tells) second.called.origin ∙ told_mid in
    let view = g.met.S.Store.working_is_view c.args.s.now stands.told c.requires.live in
    let view_mid : IsView r mid.working = subst (λ (o : Origin). IsView o.request mid.working) call.called.origin (g.met.S.Store.working_is_view c.clear.new.s told_mid call.called.live) in
    let geometry = g.met.S.Store.is_geometry c.args.s.now in
    let own = own_at r z c.args.n c.args.d c.args.slot true may in
    let parent = parent_at r old.working z c.args.n c.args.d c.args.slot true view stands.views.tree may in
    let changed = call.cleared stands.told (slots_at z.tree c.args.d) (without_slot (slots_at z.tree c.args.d) c.args.slot) parent
    (node_at_d r old.working z c.args.n c.args.d c.args.slot true view stands.views.tree may)
    (rules_at r old.working z c.args.n c.args.d c.args.slot true view stands.views.tree may) (inside_at r old.working z c.args.n c.args.d c.args.slot true view stands.views.tree may)
    (set_at r old.working z c.args.n c.args.d c.args.slot true view stands.views.tree may) in
    let there = there_at r old.working z c.args.n c.args.d c.args.slot true view stands.views.tree may in
    let left = left_stands r old.committed old.working mid.working z.tree c.args.d c.args.slot c.args.n may.entry (slots_at z.tree c.args.d) parent view may.tree stands.views.tree there may.named may.number may.other changed in
    let node = left_node r old.committed old.working mid.working z.tree c.args.d c.args.slot c.args.n may.entry (slots_at z.tree c.args.d) parent view may.tree stands.views.tree there may.named may.number may.other changed ∙ own.1 in
    let shape = each_shape r mid.working (cleared z.tree c.args.d c.args.slot) (links_of r z.tree) view_mid left c.args.n own.0 node geometry in
    let cut : IsCut r old.committed mid.working bare.working c.args.n 0 (indices_of r own.0) =
    subst (λ (v : View). IsCut r v mid.working bare.working c.args.n 0 (indices_of r own.0)) call.point.committed
    (subst (λ (o : Origin). IsCut o.request mid.committed mid.working bare.working c.args.n 0 (indices_of r own.0)) call.called.origin
    (second.cut told_mid (indices_of r own.0) (subst (λ (o : Origin). HasShape o.request mid.working c.args.n (indices_of r own.0)) (sym call.called.origin) shape))) in
    let bare_node : slots_of_node own.0 ≡ [] = sym (ap (λ (o : Option Node). slots_of_node (unwrap_or o (file [] []))) own.1) ∙ slotless in
    record {
      stands = gone_stands r old.committed old.working mid.working z.tree c.args.d c.args.slot c.args.n may.entry (slots_at z.tree c.args.d) parent view may.tree stands.views.tree there may.named may.number may.other changed
          bare.working new.working own.0 geometry view_mid own.1 bare_node cut (dropped told_bare);
      dirtied = gone_dirties r old.committed old.working mid.working z.tree c.args.d c.args.slot c.args.n may.entry (slots_at z.tree c.args.d) parent view may.tree stands.views.tree there may.named may.number may.other changed
          bare.working new.working own.0 geometry view_mid own.1 bare_node cut (dropped told_bare);
    }) c.drop_inode.ensures.dropped

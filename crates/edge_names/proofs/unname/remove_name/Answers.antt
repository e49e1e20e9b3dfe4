use Rattle.std.proofs.Common.{◌≡◌, ◌∙◌, ℕ, Bool, List, false, sym, ap, subst, Some, None}
use Rattle.std.specs.Prelude.{Ok, Err}
use Rattle.std.proofs.lemmas.Result.{err_from_is_err_and}
use Rattle.edge_base.specs.outside.Below.{Origin}
use Rattle.edge_base.specs.tree.Nodes.{file}
use Rattle.edge_store.specs.declared.fault.StoreFault.{StoreFault}
use Rattle.edge_store.specs.State.{Told}
use Rattle.edge_store.specs.View.{IsView}
use Rattle.edge_cut.proofs.GoLaws.{on_ok_map}
use Rattle.edge_model.specs.Named.{without_slot}
use Rattle.edge_model.specs.Tree.{slots_at}
use Rattle.edge_steps.proofs.NodeLaws.{file_is}
use Rattle.edge_volume.specs.Stopped.{fault_in}
use Rattle.edge_names.proofs.NamedAtLaws.{there_at, node_at_d, inside_at, set_at, rules_at, parent_at, less_head}
use Rattle.edge_names.proofs.UnnamedLaws.{unlinked_stands, unlinked_dirties}
use Rattle.edge_names.proofs.unname.remove_name.Goals as goal

same_fault : (x y : StoreFault) → Some x ≡ Some y → x ≡ y
same_fault x y e = cc

pub returns-in_err-clear-clause-undamaged : goal.returns-in_err-clear-clause-undamaged
returns-in_err-clear-clause-undamaged g c z stands may room d e =
    let old = g.S.Store.state c.args.s.now in
    let r = old.origin.request in
    let view = g.met.S.Store.working_is_view c.args.s.now stands.told c.requires.live in
    let p = err_from_is_err_and c.from_residual.result c.from_residual.ensures.1 in
    c.in_err-clear.ensures.undamaged stands.told (slots_at z.tree c.args.d) (parent_at r old.working z c.args.n c.args.d c.args.slot false view stands.views.tree may)
    (node_at_d r old.working z c.args.n c.args.d c.args.slot false view stands.views.tree may) (without_slot (slots_at z.tree c.args.d) c.args.slot)
    (rules_at r old.working z c.args.n c.args.d c.args.slot false view stands.views.tree may) (inside_at r old.working z c.args.n c.args.d c.args.slot false view stands.views.tree may)
    (set_at r old.working z c.args.n c.args.d c.args.slot false view stands.views.tree may) room d (ap Err (sym p.2 ∙ same_fault _ _ (ap fault_in (sym p.1) ∙ e)))

pub returns-clause-unnamed : goal.returns-clause-unnamed
returns-clause-unnamed g c =
    let old = g.S.Store.state c.args.s.now in
    let mid = g.S.Store.state c.clear.new.s in
    let new = g.S.Store.state c.set_head.new.self in
    let r = old.origin.request in
    let call = c.in_ok-clear.ensures in
    on_ok_map c.set_head.result (λ set z stands may kind.
    let told_mid : Told mid = ap (λ (o : Origin). o.tells) call.called.origin ∙ stands.told in
    let view = g.met.S.Store.working_is_view c.args.s.now stands.told c.requires.live in
    let view_mid : IsView r mid.working = subst (λ (o : Origin). IsView o.request mid.working) call.called.origin (g.met.S.Store.working_is_view c.clear.new.s told_mid call.called.live) in
    let own = file_is z.tree c.args.n may.there kind in
    let changed = call.cleared stands.told (slots_at z.tree c.args.d) (without_slot (slots_at z.tree c.args.d) c.args.slot)
    (parent_at r old.working z c.args.n c.args.d c.args.slot false view stands.views.tree may)
    (node_at_d r old.working z c.args.n c.args.d c.args.slot false view stands.views.tree may)
    (rules_at r old.working z c.args.n c.args.d c.args.slot false view stands.views.tree may) (inside_at r old.working z c.args.n c.args.d c.args.slot false view stands.views.tree may)
    (set_at r old.working z c.args.n c.args.d c.args.slot false view stands.views.tree may) in
    let less = less_head r old.working mid.working new.working z.tree c.args.n (file own.0 own.1) c.args.head stands.views.tree own.2 (c.requires.node.is_head stands.told) (set told_mid) in
    let there = there_at r old.working z c.args.n c.args.d c.args.slot false view stands.views.tree may in
    record {
      stands = unlinked_stands r old.committed old.working mid.working z.tree c.args.d c.args.slot c.args.n may.entry (slots_at z.tree c.args.d)
          (parent_at r old.working z c.args.n c.args.d c.args.slot false view stands.views.tree may) view may.tree stands.views.tree there may.named may.number may.other changed new.working
          (file own.0 own.1) view_mid own.2 kind less;
      dirtied = unlinked_dirties r old.committed old.working mid.working z.tree c.args.d c.args.slot c.args.n may.entry (slots_at z.tree c.args.d)
          (parent_at r old.working z c.args.n c.args.d c.args.slot false view stands.views.tree may) view may.tree stands.views.tree there may.named may.number may.other changed new.working
          (file own.0 own.1) view_mid own.2 kind less;
    }) c.set_head.ensures.set

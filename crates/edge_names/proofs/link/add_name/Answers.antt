use Rattle.std.proofs.Common.{◌≡◌, ◌∙◌, ℕ, ◌+◌, ◌/◌, ◌≤◌, sym, ap, subst, Option, Some, None}
use Rattle.std.specs.Prelude.{Result, Ok, Err}
use Rattle.edge_base.specs.outside.Below.{Origin}
use Rattle.edge_base.specs.tree.Nodes.{directory}
use Rattle.edge_store.specs.declared.fault.StoreFault.{StoreFault}
use Rattle.edge_store.specs.Placed.{HasNode}
use Rattle.edge_store.specs.State.{Told}
use Rattle.edge_store.specs.View.{View, IsView, free_now, with_head}
use Rattle.edge_cut.proofs.GoLaws.{on_ok_map}
use Rattle.edge_file.specs.Bytes.{blocks_under}
use Rattle.edge_file.specs.Rewritten.{fresh_on}
use Rattle.edge_dir.specs.Written.{place_of_slot}
use Rattle.edge_volume.specs.Stopped.{fault_in}
use Rattle.edge_names.proofs.RoomLaws.{room_kept}
use Rattle.edge_names.proofs.StoreLaws.{placed_changed}
use Rattle.edge_names.proofs.LinkedLaws.{apart, first, directory_then, rules_then, stands_then, dirtied_then}
use Rattle.edge_names.proofs.link.add_name.Goals as goal

told_err : {T : Type 0} (r : Result T StoreFault) (fault : StoreFault) → fault_in r ≡ Some fault → r ≡ Err fault
told_err (Ok x) fault e = absurd (let wrong : None ≡ Some fault = e in cc)
told_err (Err y) fault e = ap Err (let same : Some y ≡ Some fault = e in cc)

pub returns-clause-undamaged : goal.returns-clause-undamaged
returns-clause-undamaged g c z stands may room d e =
    let old = g.S.Store.state c.args.s.now in
    let mid = g.S.Store.state c.set_head.new.self in
    let r = old.origin.request in
    let call = c.in_ok-set_head.ensures in
    let told_mid : Told mid = ap (λ (o : Origin). o.tells) call.called.origin ∙ stands.told in
    let view = g.met.S.Store.working_is_view c.args.s.now stands.told c.requires.live in
    let view_mid : IsView r mid.working = subst (λ (o : Origin). IsView o.request mid.working) call.called.origin (g.met.S.Store.working_is_view c.set_head.new.self told_mid call.called.live) in
    let set = call.set stands.told in
    let head = c.requires.node.is_head stands.told in
    let node = directory_then r old.committed old.working mid.working mid.working z c.args.n c.args.d c.args.slot c.args.name.now c.args.head view view_mid stands.views.tree may head set in
    let dir = first r old.committed old.working mid.working mid.working z c.args.n c.args.d c.args.slot c.args.name.now c.args.head view view_mid stands.views.tree may head set in
    let other = apart r old.committed old.working mid.working mid.working z c.args.n c.args.d c.args.slot c.args.name.now c.args.head view view_mid stands.views.tree may head set in
    let room_mid = room_kept r old.committed old.working c.args.d c.args.n (with_head (old.working.inodes c.args.n) (record c.args.head { links = c.args.head.links + 1 })) other (place_of_slot r c.args.slot) (4 + r.name_max) mid.working set room in
    c.place.ensures.undamaged told_mid dir.slots dir.parent (subst (λ (o : Origin). HasNode o.request mid.working c.args.d (directory dir.slots dir.parent)) (sym call.called.origin) node)
    (subst (λ (o : Origin). fresh_on o.request mid.committed mid.working c.args.d (blocks_under o.request (place_of_slot o.request c.args.slot) (4 + o.request.name_max)) ≤ free_now o.request mid.committed mid.working) (sym call.called.origin)
    (subst (λ (v : View). fresh_on r v mid.working c.args.d (blocks_under r (place_of_slot r c.args.slot) (4 + r.name_max)) ≤ free_now r v mid.working) (sym call.point.committed) room_mid))
    d (told_err c.place.result _ e)

pub returns-clause-linked : goal.returns-clause-linked
returns-clause-linked g c =
    let old = g.S.Store.state c.args.s.now in
    let mid = g.S.Store.state c.set_head.new.self in
    let new = g.S.Store.state c.place.new.s in
    let r = old.origin.request in
    let call = c.in_ok-set_head.ensures in
    on_ok_map c.place.result (λ placed z stands may.
    let told_mid : Told mid = ap (λ (o : Origin). o.tells) call.called.origin ∙ stands.told in
    let view = g.met.S.Store.working_is_view c.args.s.now stands.told c.requires.live in
    let view_mid : IsView r mid.working = subst (λ (o : Origin). IsView o.request mid.working) call.called.origin (g.met.S.Store.working_is_view c.set_head.new.self told_mid call.called.live) in
    let set = call.set stands.told in
    let head = c.requires.node.is_head stands.told in
    let node = directory_then r old.committed old.working mid.working new.working z c.args.n c.args.d c.args.slot c.args.name.now c.args.head view view_mid stands.views.tree may head set in
    let dir = first r old.committed old.working mid.working new.working z c.args.n c.args.d c.args.slot c.args.name.now c.args.head view view_mid stands.views.tree may head set in
    let rules = rules_then r old.committed old.working mid.working new.working z c.args.n c.args.d c.args.slot c.args.name.now c.args.head view view_mid stands.views.tree may head set in
    let changed = placed_changed old mid new c.args.d c.args.slot (record { name = c.args.name.now; number = c.args.n }) dir.slots dir.parent call.called.origin call.point.committed told_mid placed node rules dir.inside in
    record {
      stands = stands_then r old.committed old.working mid.working new.working z c.args.n c.args.d c.args.slot c.args.name.now c.args.head view view_mid stands.views.tree may head set changed;
      dirtied = dirtied_then r old.committed old.working mid.working new.working z c.args.n c.args.d c.args.slot c.args.name.now c.args.head view view_mid stands.views.tree may head set changed;
    }) c.place.ensures.placed

use Rattle.std.proofs.Common.{◌∙◌, ap, sym, subst}
use Rattle.edge_base.specs.outside.Below.{Origin}
use Rattle.edge_store.specs.State.{Told}
use Rattle.edge_store.specs.View.{IsView}
use Rattle.edge_moves.specs.Sound.{IsSound}
use Rattle.edge_moves.proofs.ArriveLaws.{under_sound}
use Rattle.edge_moves.proofs.SlotLaws.{entries_fit}
use Rattle.edge_tree.proofs.DoneLaws.{double_way, double_room}
use Rattle.edge_tree.proofs.BlankLaws.{same_under}
use Rattle.edge_tree.proofs.OwnLaws.{if_ok_map}
use Rattle.edge_tree.proofs.writable.own_below.Goals as goal

pub returns-clause-renewed : goal.returns-clause-renewed
returns-clause-renewed g c =
    let old = g.S.Store.state c.args.s.now in
    let mid = g.S.Store.state c.own_under.new.s in
    let new = g.S.Store.state c.renew_pointer.new.s in
    let first = c.in_ok-block.ensures in
    if_ok_map c.renew_pointer.result
    (λ b pointer told.
    let told_mid : Told mid = ap (λ o. o.tells) first.called.origin ∙ told in
    let view = g.met.S.Store.working_is_view c.args.s.now told c.requires.live in
    let view_mid : IsView old.origin.request mid.working = rw (← first.called.origin) (g.met.S.Store.working_is_view c.own_under.new.s told_mid first.called.live) in
    double_way old.origin.request old.committed old.working mid.working new.working c.args.n c.args.i c.args.outer c.args.place c.in_ok-block.block c.args.renewal b
    (g.met.S.Store.is_geometry c.args.s.now) view (first.was_readable told) view_mid c.requires.entry c.requires.outer c.requires.place
    c.requires.form (same_under _ _ _ _ _ _ _ _ (first.renewed told)) (rw (← first.called.origin, ← first.point.committed) (pointer told_mid)))
    c.renew_pointer.ensures.renewed

pub returns-clause-untangled : goal.returns-clause-untangled
returns-clause-untangled g c told room =
    let old = g.S.Store.state c.args.s.now in
    let mid = g.S.Store.state c.own_under.new.s in
    let first = c.in_ok-block.ensures in
    let told_mid : Told mid = ap (λ o. o.tells) first.called.origin ∙ told in
    let view = g.met.S.Store.working_is_view c.args.s.now told c.requires.live in
    let left = double_room old.origin.request old.committed old.working mid.working c.args.n c.args.i c.args.outer c.args.place c.in_ok-block.block view c.requires.form c.requires.outer c.requires.place (same_under _ _ _ _ _ _ _ _ (first.renewed told)) room in
    c.renew_pointer.ensures.untangled told_mid (rw (first.called.origin, first.point.committed) left)

pub returns-clause-undamaged : goal.returns-clause-undamaged
returns-clause-undamaged g c told tidy room =
    let old = g.S.Store.state c.args.s.now in
    let mid = g.S.Store.state c.own_under.new.s in
    let first = c.in_ok-block.ensures in
    let told_mid : Told mid = ap (λ o. o.tells) first.called.origin ∙ told in
    let view = g.met.S.Store.working_is_view c.args.s.now told c.requires.live in
    let view_mid : IsView old.origin.request mid.working = rw (← first.called.origin) (g.met.S.Store.working_is_view c.own_under.new.s told_mid first.called.live) in
    let left = double_room old.origin.request old.committed old.working mid.working c.args.n c.args.i c.args.outer c.args.place c.in_ok-block.block view c.requires.form c.requires.outer c.requires.place (same_under _ _ _ _ _ _ _ _ (first.renewed told)) room in
    let sound : IsSound old.origin.request mid.working c.args.n = under_sound old.origin.request old.committed old.working mid.working c.args.n (entries_fit old.origin.request (g.met.S.Store.is_geometry c.args.s.now))
    view view_mid tidy.1 tidy.2 tidy.0 c.args.i c.args.outer c.in_ok-block.block c.requires.entry c.requires.outer c.requires.form (same_under _ _ _ _ _ _ _ _ (first.renewed told)) in
    c.renew_pointer.ensures.undamaged told_mid (first.readable told_mid, subst (λ (o : Origin). IsSound o.request mid.working c.args.n) (sym first.called.origin) sound) (rw (first.called.origin, first.point.committed) left)

pub returns-clause-tangled : goal.returns-clause-tangled
returns-clause-tangled g c told =
    let told_mid : Told (g.S.Store.state c.own_under.new.s) = ap (λ o. o.tells) c.in_ok-block.ensures.called.origin ∙ told in
    c.renew_pointer.ensures.tangled told_mid

pub returns-clause-damage : goal.returns-clause-damage
returns-clause-damage g c told d e =
    let told_mid : Told (g.S.Store.state c.own_under.new.s) = ap (λ o. o.tells) c.in_ok-block.ensures.called.origin ∙ told in
    c.renew_pointer.ensures.damage told_mid d e

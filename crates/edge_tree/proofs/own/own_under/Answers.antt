use Rattle.std.proofs.Common.{◌≡◌, ◌≢◌, ◌∙◌, ℕ, sym, ap, subst}
use Rattle.std.specs.Prelude.{Option, slice_index}
use Rattle.edge_base.specs.declared.form.Form.{Form}
use Rattle.edge_base.specs.outside.Below.{Origin}
use Rattle.edge_base.specs.declared.form.Form.TheVariants.{Plain}
use Rattle.edge_store.specs.Damages.{form_of_entry, form_under, IsLinked, by_place}
use Rattle.edge_store.specs.Placed.{entry_at}
use Rattle.edge_store.specs.State.{Told}
use Rattle.edge_store.specs.View.{Inode, IsView, entries_of_inode}
use Rattle.edge_moves.specs.Sound.{IsSound}
use Rattle.edge_moves.proofs.ArriveLaws.{entry_arrives}
use Rattle.edge_moves.proofs.SlotLaws.{entries_fit}
use Rattle.edge_moves.proofs.SpentLaws.{entry_leads, entry_pointer}
use Rattle.edge_tree.specs.Blank.{IsFilled, PointerFilled}
use Rattle.edge_tree.proofs.LinkLaws.{entry_linked}
use Rattle.edge_tree.proofs.OwnLaws.{under_room, if_ok_map, if_ok_map_with}
use Rattle.edge_tree.proofs.own.own_under.Goals as goal

pub returns-clause-renewed : goal.returns-clause-renewed
returns-clause-renewed g c =
    let old = g.S.Store.state c.args.s.now in
    let mid = g.S.Store.state c.own_entry.new.s in
    let new = g.S.Store.state c.renew_pointer.new.s in
    let r = old.origin.request in
    let n = c.args.n in
    let e = c.args.i in
    let first = c.in_ok-block.ensures in
    let block = c.in_ok-block.block in
    let node : form_of_entry r e ≢ Plain = λ same. c.requires.node (c.requires.form ∙ same) in
    if_ok_map c.renew_pointer.result
    (λ b pointer told.
    let told_mid : Told mid = ap (λ o. o.tells) first.called.origin ∙ told in
    let entry = first.renewed told in
    let view : IsView r mid.working = rw (← first.called.origin) (g.met.S.Store.working_is_view c.own_entry.new.s told_mid first.called.live) in
    let below : PointerFilled r old.committed mid.working new.working (form_of_entry r e) n block c.args.place c.args.renewal b =
    subst (λ (f : Form). PointerFilled r old.committed mid.working new.working f n block c.args.place c.args.renewal b) c.requires.form (rw (← first.called.origin, ← first.point.committed) (pointer told_mid)) in
    record {
      between = below.between;
      renewed = record { top = block; between = mid.working; view = view; entry = entry; pointer = below.renewed };
      filled = subst (λ (k : ℕ). IsFilled r c.args.renewal below.between new.working (form_under (form_of_entry r e)) n k b)
          (entry_pointer r old.committed old.working mid.working n e block entry c.args.place node c.requires.place) below.filled;
    })
    c.renew_pointer.ensures.renewed

pub returns-clause-linked : goal.returns-clause-linked
returns-clause-linked g c =
    let old = g.S.Store.state c.args.s.now in
    let mid = g.S.Store.state c.own_entry.new.s in
    let new = g.S.Store.state c.renew_pointer.new.s in
    let first = c.in_ok-block.ensures in
    let block = c.in_ok-block.block in
    let origin : new.origin ≡ old.origin = c.renew_pointer.ensures.called.origin ∙ first.called.origin in
    if_ok_map_with c.renew_pointer.result
    (λ b kept leads told there.
    let told_old : Told old = ap (λ o. o.tells) (sym origin) ∙ told in
    let told_mid : Told mid = ap (λ o. o.tells) first.called.origin ∙ told_old in
    let view = g.met.S.Store.working_is_view c.args.s.now told_old c.requires.live in
    let at_mid : block ≡ entry_at mid.working c.args.n c.args.i =
    entry_leads old.origin.request old.committed old.working mid.working c.args.n c.args.i block view (first.was_readable told_old) c.requires.entry (first.renewed told_old) in
    let at_new : block ≡ entry_at new.working c.args.n c.args.i = at_mid ∙ sym (ap (λ (o : ℕ → Option Inode). slice_index (entries_of_inode (o c.args.n)) c.args.i) (kept told_mid)) in
    let linked : IsLinked old.origin.request new.working c.args.n c.args.form block = rw c.requires.form (entry_linked old.origin.request new.working c.args.n c.args.i block c.requires.entry at_new) in
    let below = by_place c.args.form block c.args.place c.requires.node linked (leads told).0 c.requires.place in
    rw (origin, (leads told).1) below)
    c.renew_pointer.ensures.inodes c.renew_pointer.ensures.leads

pub returns-clause-untangled : goal.returns-clause-untangled
returns-clause-untangled g c told room =
    let old = g.S.Store.state c.args.s.now in
    let mid = g.S.Store.state c.own_entry.new.s in
    let first = c.in_ok-block.ensures in
    let told_mid : Told mid = ap (λ o. o.tells) first.called.origin ∙ told in
    let node : form_of_entry old.origin.request c.args.i ≢ Plain = λ same. c.requires.node (c.requires.form ∙ same) in
    let left = under_room old.origin.request old.committed old.working mid.working c.args.n c.args.i c.in_ok-block.block c.args.place (first.renewed told) node c.requires.place room in
    c.renew_pointer.ensures.untangled told_mid (rw (first.called.origin, first.point.committed, c.requires.form) left)

pub returns-clause-undamaged : goal.returns-clause-undamaged
returns-clause-undamaged g c told tidy room =
    let old = g.S.Store.state c.args.s.now in
    let mid = g.S.Store.state c.own_entry.new.s in
    let first = c.in_ok-block.ensures in
    let told_mid : Told mid = ap (λ o. o.tells) first.called.origin ∙ told in
    let node : form_of_entry old.origin.request c.args.i ≢ Plain = λ same. c.requires.node (c.requires.form ∙ same) in
    let left = under_room old.origin.request old.committed old.working mid.working c.args.n c.args.i c.in_ok-block.block c.args.place (first.renewed told) node c.requires.place room in
    let view = g.met.S.Store.working_is_view c.args.s.now told c.requires.live in
    let view_mid : IsView old.origin.request mid.working = rw (← first.called.origin) (g.met.S.Store.working_is_view c.own_entry.new.s told_mid first.called.live) in
    let there = entry_arrives old.origin.request old.committed old.working mid.working c.args.n c.args.i c.in_ok-block.block (entries_fit old.origin.request (g.met.S.Store.is_geometry c.args.s.now)) view view_mid tidy.1 tidy.2 tidy.0 c.requires.entry (first.renewed told) in
    let sound : IsSound mid.origin.request mid.working c.args.n = subst (λ (o : Origin). IsSound o.request mid.working c.args.n) (sym first.called.origin) there.so_far.sound in
    c.renew_pointer.ensures.undamaged told_mid (first.readable told_mid, sound) (rw (first.called.origin, first.point.committed, c.requires.form) left)

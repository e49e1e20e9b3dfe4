use Rattle.std.proofs.Common.{◌≡◌, ◌≢◌, sym, ap, ◌∙◌, subst}
use Rattle.std.proofs.lemmas.Result.{err_from_is_err_and}
use Rattle.std.specs.Prelude.{Err}
use Rattle.edge_base.specs.declared.form.Form.TheVariants.{Plain, Double}
use Rattle.edge_base.specs.outside.Below.{Origin}
use Rattle.edge_store.specs.Damages.{form_of_entry}
use Rattle.edge_store.specs.State.{Told}
use Rattle.edge_store.specs.View.{IsView}
use Rattle.edge_store.specs.declared.fault.StoreFault.TheVariants.{Damaged}
use Rattle.edge_moves.proofs.ArriveLaws.{entry_arrives}
use Rattle.edge_moves.proofs.SlotLaws.{entries_fit}
use Rattle.edge_moves.specs.Sound.{IsSound}
use Rattle.edge_tree.proofs.OwnLaws.{under_room}
use Rattle.edge_cut.proofs.GoLaws.{err_of}
use Rattle.edge_cut.proofs.LastLaws.{at_entry_same, below_stays}
use Rattle.edge_cut.proofs.StepLaws.{entry_at_made, top_still_new}
use Rattle.edge_cut.proofs.cut.own_pair.Goals as goal

pub returns-clause-made : goal.returns-clause-made
returns-clause-made g c told =
    let old = g.S.Store.state c.args.s.now in
    let mid = g.S.Store.state c.own_entry.new.s in
    let new = g.S.Store.state c.own_pointer.new.s in
    let first = c.in_ok-top.ensures in
    let second = c.in_ok-node.ensures in
    let told_mid : Told mid = ap (λ o. o.tells) first.called.origin ∙ told in
    record {
      between = mid.working;
      view = rw (← first.called.origin) (g.met.S.Store.working_is_view c.own_entry.new.s told_mid first.called.live);
      entry_made = first.renewed told;
      node_made = rw (← first.called.origin, ← first.point.committed) (second.renewed told_mid);
    }

pub returns-clause-top_new : goal.returns-clause-top_new
returns-clause-top_new g c told =
    let old = g.S.Store.state c.args.s.now in
    let mid = g.S.Store.state c.own_entry.new.s in
    let new = g.S.Store.state c.own_pointer.new.s in
    let first = c.in_ok-top.ensures in
    let second = c.in_ok-node.ensures in
    let told_mid : Told mid = ap (λ o. o.tells) (sym second.called.origin) ∙ told in
    rw second.point.committed (top_still_new mid.origin.request mid.committed mid.working new.working c.args.n c.args.outer c.in_ok-top.top c.in_ok-node.node (first.is_new told_mid) (second.leads told).0)

pub returns-clause-at_entry : goal.returns-clause-at_entry
returns-clause-at_entry g c told some =
    let old = g.S.Store.state c.args.s.now in
    let mid = g.S.Store.state c.own_entry.new.s in
    let new = g.S.Store.state c.own_pointer.new.s in
    let first = c.in_ok-top.ensures in
    let second = c.in_ok-node.ensures in
    let told_mid : Told mid = ap (λ o. o.tells) (sym second.called.origin) ∙ told in
    let told_old : Told old = ap (λ o. o.tells) (sym first.called.origin) ∙ told_mid in
    let origin : new.origin ≡ old.origin = second.called.origin ∙ first.called.origin in
    let view = g.met.S.Store.working_is_view c.args.s.now told_old c.requires.live in
    let at = entry_at_made old.origin.request old.committed old.working mid.working c.args.n c.args.entry c.in_ok-top.top Double view (first.was_readable told_old) c.requires.entry c.requires.form (first.renewed told_old) in
    rw origin (at_entry_same old.origin.request mid.working new.working c.args.n Double c.in_ok-top.top (second.inodes told_mid) at)

pub returns-clause-below : goal.returns-clause-below
returns-clause-below g c told =
    let old = g.S.Store.state c.args.s.now in
    let mid = g.S.Store.state c.own_entry.new.s in
    let new = g.S.Store.state c.own_pointer.new.s in
    let first = c.in_ok-top.ensures in
    let second = c.in_ok-node.ensures in
    let told_mid : Told mid = ap (λ o. o.tells) (sym second.called.origin) ∙ told in
    let told_old : Told old = ap (λ o. o.tells) (sym first.called.origin) ∙ told_mid in
    let origin : new.origin ≡ old.origin = second.called.origin ∙ first.called.origin in
    let view = g.met.S.Store.working_is_view c.args.s.now told_old c.requires.live in
    let at = entry_at_made old.origin.request old.committed old.working mid.working c.args.n c.args.entry c.in_ok-top.top Double view (first.was_readable told_old) c.requires.entry c.requires.form (first.renewed told_old) in
    let leads = second.leads told in
    rw origin (below_stays old.origin.request new.working c.args.n c.in_ok-top.top c.args.outer c.in_ok-node.node (at_entry_same old.origin.request mid.working new.working c.args.n Double c.in_ok-top.top (second.inodes told_mid) at) leads.0 c.requires.outer leads.1)

pub returns-in_err-node-clause-untangled : goal.returns-in_err-node-clause-untangled
returns-in_err-node-clause-untangled g c told room d e =
    let old = g.S.Store.state c.args.s.now in
    let mid = g.S.Store.state c.own_entry.new.s in
    let first = c.in_ok-top.ensures in
    let told_mid : Told mid = ap (λ o. o.tells) first.called.origin ∙ told in
    let node : form_of_entry old.origin.request c.args.entry ≢ Plain = λ same. let h : Double ≡ Plain = sym c.requires.form ∙ same in cc in
    let left = under_room old.origin.request old.committed old.working mid.working c.args.n c.args.entry c.in_ok-top.top c.args.outer (first.renewed told) node c.requires.outer room in
    let p = err_from_is_err_and c.from_residual-in_err-node.result c.from_residual-in_err-node.ensures.1 in
    let same = err_of c.in_err-node.field-0.0 (Damaged d) (ap Err (sym p.2) ∙ sym p.1 ∙ e) in
    c.in_err-node.ensures.untangled told_mid (rw (first.called.origin, first.point.committed, ← c.requires.form) left) d (ap Err same)

pub returns-in_err-node-clause-undamaged : goal.returns-in_err-node-clause-undamaged
returns-in_err-node-clause-undamaged g c told tidy room d e =
    let old = g.S.Store.state c.args.s.now in
    let mid = g.S.Store.state c.own_entry.new.s in
    let first = c.in_ok-top.ensures in
    let told_mid : Told mid = ap (λ o. o.tells) first.called.origin ∙ told in
    let node : form_of_entry old.origin.request c.args.entry ≢ Plain = λ same. let h : Double ≡ Plain = sym c.requires.form ∙ same in cc in
    let left = under_room old.origin.request old.committed old.working mid.working c.args.n c.args.entry c.in_ok-top.top c.args.outer (first.renewed told) node c.requires.outer room in
    let view = g.met.S.Store.working_is_view c.args.s.now told c.requires.live in
    let view_mid : IsView old.origin.request mid.working = rw (← first.called.origin) (g.met.S.Store.working_is_view c.own_entry.new.s told_mid first.called.live) in
    let there = entry_arrives old.origin.request old.committed old.working mid.working c.args.n c.args.entry c.in_ok-top.top (entries_fit old.origin.request (g.met.S.Store.is_geometry c.args.s.now)) view view_mid tidy.1 tidy.2 tidy.0 c.requires.entry (first.renewed told) in
    let sound : IsSound mid.origin.request mid.working c.args.n = subst (λ (o : Origin). IsSound o.request mid.working c.args.n) (sym first.called.origin) there.so_far.sound in
    let p = err_from_is_err_and c.from_residual-in_err-node.result c.from_residual-in_err-node.ensures.1 in
    let same = err_of c.in_err-node.field-0.0 (Damaged d) (ap Err (sym p.2) ∙ sym p.1 ∙ e) in
    c.in_err-node.ensures.undamaged told_mid (first.readable told_mid, sound) (rw (first.called.origin, first.point.committed, ← c.requires.form) left) d (ap Err same)

pub returns-clause-spot : goal.returns-clause-spot
returns-clause-spot g c told = (c.in_ok-node.ensures.leads told).0

pub returns-in_err-top-clause-tangled : goal.returns-in_err-top-clause-tangled
returns-in_err-top-clause-tangled g c told d e =
    let p = err_from_is_err_and c.from_residual.result c.from_residual.ensures.1 in
    let same = err_of c.in_err-top.field-0.0 (Damaged d) (ap Err (sym p.2) ∙ sym p.1 ∙ e) in
    c.in_err-top.ensures.tangled told d (ap Err same)

pub returns-in_err-node-clause-tangled : goal.returns-in_err-node-clause-tangled
returns-in_err-node-clause-tangled g c told d e =
    let told_mid : Told (g.S.Store.state c.own_entry.new.s) = ap (λ o. o.tells) c.in_ok-top.ensures.called.origin ∙ told in
    let p = err_from_is_err_and c.from_residual-in_err-node.result c.from_residual-in_err-node.ensures.1 in
    let same = err_of c.in_err-node.field-0.0 (Damaged d) (ap Err (sym p.2) ∙ sym p.1 ∙ e) in
    c.in_err-node.ensures.tangled told_mid d (ap Err same)

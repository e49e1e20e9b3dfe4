use Rattle.std.proofs.Common.{◌≡◌, ◌≢◌, ◌∙◌, ◌<◌, ◌≤◌, ℕ, sym, ap, subst, true}
use Rattle.std.proofs.lemmas.Result.{err_from_is_err_and}
use Rattle.std.specs.Prelude.{Err}
use Rattle.edge_base.specs.declared.form.Form.{Form}
use Rattle.edge_base.specs.layout.Places.{entries_of}
use Rattle.edge_store.specs.Damages.{form_of_entry, IsLinked}
use Rattle.edge_store.specs.Placed.{entry_at}
use Rattle.edge_store.specs.State.{Told}
use Rattle.edge_store.specs.View.{IsView, is_allocable, is_spot, is_whole, free_now}
use Rattle.edge_moves.specs.Renewal.{cost}
use Rattle.edge_tree.proofs.LinkLaws.{spot_of_link, entry_linked}
use Rattle.edge_tree.proofs.OwnLaws.{set_entry_leads}
use Rattle.edge_tree.specs.Blank.{BlockFilled}
use Rattle.edge_tree.proofs.BlankLaws.{filled_inodes, entry_filled}
use Rattle.edge_tree.proofs.own.renew_entry.Goals as goal

pub returns-in_err-b-clause-undamaged : goal.returns-in_err-b-clause-undamaged
returns-in_err-b-clause-undamaged g c told rules room d e =
    let old = g.S.Store.state c.args.s.now in
    let mid = g.S.Store.state c.entry_link.new.s in
    let first = c.in_ok-block.ensures in
    let block = c.in_ok-block.block in
    let told_mid : Told mid = ap (λ o. o.tells) first.called.origin ∙ told in
    let spot : block ≢ 0 → is_spot mid.working c.args.form c.args.n block ≡ true =
    λ there. rw (first.reads.working, c.requires.form) (spot_of_link old.origin.request old.working c.args.n rules.1 (form_of_entry old.origin.request c.args.i) block (first.linked told there) there) in
    let room_mid : cost mid.committed mid.working block ≤ free_now mid.origin.request mid.committed mid.working = rw (first.called.origin, first.point.committed, first.reads.working, first.entry told) room in
    let p = err_from_is_err_and c.from_residual-in_err-b.result c.from_residual-in_err-b.ensures.1 in
    c.in_err-b.ensures.undamaged told_mid spot room_mid d (ap Err (sym p.2) ∙ sym p.1 ∙ e)

pub returns-in_ok-set_entry-clause-linked : goal.returns-in_ok-set_entry-clause-linked
returns-in_ok-set_entry-clause-linked g c told there =
    let old = g.S.Store.state c.args.s.now in
    let mid = g.S.Store.state c.entry_link.new.s in
    let far = g.S.Store.state c.renew.new.s in
    let new = g.S.Store.state c.set_entry.new.self in
    let first = c.in_ok-block.ensures in
    let second = c.in_ok-b.ensures in
    let third = c.in_ok-set_entry.ensures in
    let told_far : Told far = ap (λ o. o.tells) (sym third.called.origin) ∙ told in
    let told_mid : Told mid = ap (λ o. o.tells) (sym second.called.origin) ∙ told_far in
    let told_old : Told old = ap (λ o. o.tells) (sym first.called.origin) ∙ told_mid in
    let view = g.met.S.Store.working_is_view c.renew.new.s told_far second.called.live in
    let is : is_whole (far.working.inodes c.args.n) ≡ true = rw (filled_inodes _ _ _ _ _ _ _ _ _ (second.renewed told_mid), first.reads.working) (first.readable told_old) in
    let origin : far.origin ≡ old.origin = second.called.origin ∙ first.called.origin in
    let low : c.args.i < entries_of far.origin.request = rw origin c.requires.entry in
    let leads = set_entry_leads far.origin.request far.working new.working c.args.n c.args.i c.in_ok-b.b view is low (third.set told_far) in
    let linked : IsLinked far.origin.request new.working c.args.n (form_of_entry far.origin.request c.args.i) c.in_ok-b.b = entry_linked far.origin.request new.working c.args.n c.args.i c.in_ok-b.b low leads in
    rw (third.called.origin, c.requires.form, ← origin) linked

pub returns-in_ok-set_entry-clause-renewed : goal.returns-in_ok-set_entry-clause-renewed
returns-in_ok-set_entry-clause-renewed g c told =
    let old = g.S.Store.state c.args.s.now in
    let mid = g.S.Store.state c.entry_link.new.s in
    let far = g.S.Store.state c.renew.new.s in
    let new = g.S.Store.state c.set_entry.new.self in
    let n = c.args.n in
    let e = c.args.i in
    let b = c.in_ok-b.b in
    let block = c.in_ok-block.block in
    let first = c.in_ok-block.ensures in
    let second = c.in_ok-b.ensures in
    let third = c.in_ok-set_entry.ensures in
    let told_mid : Told mid = ap (λ o. o.tells) first.called.origin ∙ told in
    let told_far : Told far = ap (λ o. o.tells) second.called.origin ∙ told_mid in
    let told_new : Told new = ap (λ o. o.tells) third.called.origin ∙ told_far in
    let led : block ≡ entry_at old.working n e = first.entry told in
    let filled : BlockFilled old.origin.request old.committed old.working far.working c.args.form n block c.args.renewal b =
    rw (← first.called.origin, ← first.point.committed, ← first.reads.working) (second.renewed told_mid) in
    let there : BlockFilled old.origin.request old.committed old.working far.working (form_of_entry old.origin.request e) n (entry_at old.working n e) c.args.renewal b =
    subst (λ (f : Form). BlockFilled old.origin.request old.committed old.working far.working f n (entry_at old.working n e) c.args.renewal b) c.requires.form
    (subst (λ (k : ℕ). BlockFilled old.origin.request old.committed old.working far.working c.args.form n k c.args.renewal b) led filled) in
    let fits : is_allocable old.origin.request b ≡ true = rw (← first.called.origin) second.block in
    let view : IsView old.origin.request new.working = rw (← first.called.origin, ← second.called.origin, ← third.called.origin) (g.met.S.Store.working_is_view c.set_entry.new.self told_new third.called.live) in
    entry_filled _ _ _ _ _ _ _ _ there new.working (λ same. c.if-b-block.true (same ∙ sym led)) fits view (third.set told_far)

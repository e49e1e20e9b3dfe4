use Rattle.std.proofs.Common.{◌≡◌, ◌≢◌, ◌∙◌, ◌≤◌, ℕ, sym, ap, subst, true}
use Rattle.std.proofs.lemmas.Result.{err_from_is_err_and}
use Rattle.std.specs.Prelude.{Result, Err, Some, None}
use Rattle.edge_base.specs.declared.form.Form.{Form}
use Rattle.edge_store.specs.declared.fault.StoreFault.{StoreFault}
use Rattle.edge_store.specs.Damages.{form_under}
use Rattle.edge_store.specs.Placed.{pointer_at}
use Rattle.edge_store.specs.State.{Told}
use Rattle.edge_store.specs.View.{IsView, content, is_allocable, is_owned_by, is_new, is_spot, free_now}
use Rattle.edge_store.proofs.ViewLaws.{no_damage_of}
use Rattle.edge_moves.specs.Renewal.{cost}
use Rattle.edge_moves.proofs.StepLaws.{not_zero}
use Rattle.edge_tree.proofs.KindLaws.{block_untangled}
use Rattle.edge_tree.proofs.LinkLaws.{spot_of_link}
use Rattle.edge_tree.proofs.OwnLaws.{set_pointer_leads}
use Rattle.edge_tree.specs.Blank.{BlockFilled}
use Rattle.edge_tree.proofs.BlankLaws.{filled_stays, pointer_filled}
use Rattle.edge_tree.proofs.own.renew_pointer.Goals as goal

-- the fault of a call is that which is handed on
one_fault : (f h : StoreFault) → ◌≡◌ {A = Result ℕ StoreFault} (Err f) (Err h) → f ≡ h
one_fault f h e = cc

pub returns-in_err-b-clause-undamaged : goal.returns-in_err-b-clause-undamaged
returns-in_err-b-clause-undamaged g c told rules room d e =
    let old = g.S.Store.state c.args.s.now in
    let mid = g.S.Store.state c.pointer_link.new.s in
    let at = c.args.at in
    let first = c.in_ok-block.ensures in
    let block = c.in_ok-block.block in
    let told_mid : Told mid = ap (λ o. o.tells) first.called.origin ∙ told in
    let spot : block ≢ 0 → is_spot mid.working c.form_below.result at.owner block ≡ true =
    λ there. rw (first.reads.working, c.form_below.ensures) (spot_of_link old.origin.request old.working at.owner rules.1 (form_under at.form) block (first.linked told there) there) in
    let room_mid : cost mid.committed mid.working block ≤ free_now mid.origin.request mid.committed mid.working = rw (first.called.origin, first.point.committed, first.reads.working, first.pointer told) room in
    let p = err_from_is_err_and c.from_residual-in_err-b.result c.from_residual-in_err-b.ensures.1 in
    c.in_err-b.ensures.undamaged told_mid spot room_mid d (ap Err (sym p.2) ∙ sym p.1 ∙ e)

pub returns-in_err-set_pointer-clause-damage : goal.returns-in_err-set_pointer-clause-damage
returns-in_err-set_pointer-clause-damage g c told d e =
    let old = g.S.Store.state c.args.s.now in
    let mid = g.S.Store.state c.pointer_link.new.s in
    let far = g.S.Store.state c.renew.new.s in
    let at = c.args.at in
    let first = c.in_ok-block.ensures in
    let second = c.in_ok-b.ensures in
    let told_mid : Told mid = ap (λ o. o.tells) first.called.origin ∙ told in
    let told_far : Told far = ap (λ o. o.tells) second.called.origin ∙ told_mid in
    let new : is_new mid.committed mid.working at.block ≡ true = rw (first.point.committed, first.reads.working) (c.requires.is_new told) in
    let stays : far.working.blocks at.block ≡ mid.working.blocks at.block = filled_stays _ _ _ _ _ _ _ _ _ (second.renewed told_mid) at.block new in
    let some : at.block ≢ 0 = not_zero old.origin.request at.block c.requires.block in
    let spot : is_spot far.working at.form at.owner at.block ≡ true = ap (λ o. is_owned_by at.owner (content at.form o)) stays ∙ rw first.reads.working (first.spot told some) in
    let p = err_from_is_err_and c.from_residual-in_err-set_pointer.result c.from_residual-in_err-set_pointer.ensures.1 in
    let met = (c.in_err-set_pointer.ensures.damage told_far).that d (ap Err (one_fault _ _ (ap Err (sym p.2) ∙ sym p.1 ∙ e))) in
    absurd (let h : Some d ≡ None = sym met ∙ no_damage_of far.working at.form at.owner at.block spot in cc)

pub returns-in_err-set_pointer-clause-undamaged : goal.returns-in_err-set_pointer-clause-undamaged
returns-in_err-set_pointer-clause-undamaged g c told rules room d e =
    let old = g.S.Store.state c.args.s.now in
    let mid = g.S.Store.state c.pointer_link.new.s in
    let far = g.S.Store.state c.renew.new.s in
    let at = c.args.at in
    let first = c.in_ok-block.ensures in
    let second = c.in_ok-b.ensures in
    let told_mid : Told mid = ap (λ o. o.tells) first.called.origin ∙ told in
    let told_far : Told far = ap (λ o. o.tells) second.called.origin ∙ told_mid in
    let new : is_new mid.committed mid.working at.block ≡ true = rw (first.point.committed, first.reads.working) (c.requires.is_new told) in
    let stays : far.working.blocks at.block ≡ mid.working.blocks at.block = filled_stays _ _ _ _ _ _ _ _ _ (second.renewed told_mid) at.block new in
    let some : at.block ≢ 0 = not_zero old.origin.request at.block c.requires.block in
    let spot : is_spot far.working at.form at.owner at.block ≡ true = ap (λ o. is_owned_by at.owner (content at.form o)) stays ∙ rw first.reads.working (first.spot told some) in
    let p = err_from_is_err_and c.from_residual-in_err-set_pointer.result c.from_residual-in_err-set_pointer.ensures.1 in
    let met = (c.in_err-set_pointer.ensures.damage told_far).that d (ap Err (one_fault _ _ (ap Err (sym p.2) ∙ sym p.1 ∙ e))) in
    let h : Some d ≡ None = sym met ∙ no_damage_of far.working at.form at.owner at.block spot in cc

pub returns-in_err-set_pointer-clause-tangled : goal.returns-in_err-set_pointer-clause-tangled
returns-in_err-set_pointer-clause-tangled g c told d e kind =
    let mid = g.S.Store.state c.pointer_link.new.s in
    let far = g.S.Store.state c.renew.new.s in
    let at = c.args.at in
    let told_mid : Told mid = ap (λ o. o.tells) c.in_ok-block.ensures.called.origin ∙ told in
    let told_far : Told far = ap (λ o. o.tells) c.in_ok-b.ensures.called.origin ∙ told_mid in
    let p = err_from_is_err_and c.from_residual-in_err-set_pointer.result c.from_residual-in_err-set_pointer.ensures.1 in
    let same = ap Err (one_fault _ _ (ap Err (sym p.2) ∙ sym p.1 ∙ e)) in
    absurd (block_untangled far (g.S.Store.state c.set_pointer.new.self) at.form at.owner at.block (Err c.in_err-set_pointer.field-0.0) (c.in_err-set_pointer.ensures.damage told_far) d same kind)

pub returns-in_ok-set_pointer-clause-leads : goal.returns-in_ok-set_pointer-clause-leads
returns-in_ok-set_pointer-clause-leads g c told =
    let old = g.S.Store.state c.args.s.now in
    let mid = g.S.Store.state c.pointer_link.new.s in
    let far = g.S.Store.state c.renew.new.s in
    let new = g.S.Store.state c.set_pointer.new.self in
    let at = c.args.at in
    let first = c.in_ok-block.ensures in
    let second = c.in_ok-b.ensures in
    let third = c.in_ok-set_pointer.ensures in
    let told_far : Told far = ap (λ o. o.tells) (sym third.called.origin) ∙ told in
    let told_mid : Told mid = ap (λ o. o.tells) (sym second.called.origin) ∙ told_far in
    let told_old : Told old = ap (λ o. o.tells) (sym first.called.origin) ∙ told_mid in
    let is_new_mid : is_new mid.committed mid.working at.block ≡ true = rw (first.point.committed, first.reads.working) (c.requires.is_new told_old) in
    let stays : far.working.blocks at.block ≡ mid.working.blocks at.block = filled_stays _ _ _ _ _ _ _ _ _ (second.renewed told_mid) at.block is_new_mid in
    let some : at.block ≢ 0 = not_zero old.origin.request at.block c.requires.block in
    let spot : is_spot far.working at.form at.owner at.block ≡ true = ap (λ o. is_owned_by at.owner (content at.form o)) stays ∙ rw first.reads.working (first.spot told_old some) in
    let view = g.met.S.Store.working_is_view c.renew.new.s told_far second.called.live in
    set_pointer_leads far.origin.request far.working new.working at.form at.owner at.block c.args.i c.in_ok-b.b view spot c.requires.form (rw (second.called.origin, first.called.origin) c.requires.place) some (third.set told_far)

pub returns-in_ok-set_pointer-clause-renewed : goal.returns-in_ok-set_pointer-clause-renewed
returns-in_ok-set_pointer-clause-renewed g c told =
    let old = g.S.Store.state c.args.s.now in
    let mid = g.S.Store.state c.pointer_link.new.s in
    let far = g.S.Store.state c.renew.new.s in
    let new = g.S.Store.state c.set_pointer.new.self in
    let at = c.args.at in
    let b = c.in_ok-b.b in
    let block = c.in_ok-block.block in
    let first = c.in_ok-block.ensures in
    let second = c.in_ok-b.ensures in
    let third = c.in_ok-set_pointer.ensures in
    let told_mid : Told mid = ap (λ o. o.tells) first.called.origin ∙ told in
    let told_far : Told far = ap (λ o. o.tells) second.called.origin ∙ told_mid in
    let told_new : Told new = ap (λ o. o.tells) third.called.origin ∙ told_far in
    let led : block ≡ pointer_at old.working at.form at.block c.args.i = first.pointer told in
    let filled : BlockFilled old.origin.request old.committed old.working far.working c.form_below.result at.owner block c.args.renewal b =
    rw (← first.called.origin, ← first.point.committed, ← first.reads.working) (second.renewed told_mid) in
    let there : BlockFilled old.origin.request old.committed old.working far.working (form_under at.form) at.owner (pointer_at old.working at.form at.block c.args.i) c.args.renewal b =
    subst (λ (f : Form). BlockFilled old.origin.request old.committed old.working far.working f at.owner (pointer_at old.working at.form at.block c.args.i) c.args.renewal b) c.form_below.ensures
    (subst (λ (k : ℕ). BlockFilled old.origin.request old.committed old.working far.working c.form_below.result at.owner k c.args.renewal b) led filled) in
    let fits : is_allocable old.origin.request b ≡ true = rw (← first.called.origin) second.block in
    let view : IsView old.origin.request new.working = rw (← first.called.origin, ← second.called.origin, ← third.called.origin) (g.met.S.Store.working_is_view c.set_pointer.new.self told_new third.called.live) in
    pointer_filled _ _ _ _ _ _ _ _ _ _ there new.working (λ same. c.if-b-block.true (same ∙ sym led)) (c.requires.is_new told) fits view (third.set told_far)

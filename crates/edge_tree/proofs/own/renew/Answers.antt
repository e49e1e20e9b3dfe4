use Rattle.std.proofs.Common.{◌≡◌, ℕ, ◌<◌, ◌∙◌, sym, ap, subst, true, false, inr, arith}
use Rattle.std.proofs.lemmas.Result.{err_from_is_err_and}
use Rattle.std.specs.Prelude.{Result, Err}
use Rattle.edge_base.specs.declared.damage.Damage.{Damage}
use Rattle.edge_store.specs.declared.fault.StoreFault.{StoreFault}
use Rattle.edge_store.specs.declared.fault.StoreFault.TheVariants.{Damaged}
use Rattle.edge_store.specs.Calls.{Meets}
use Rattle.edge_store.specs.Damages.{IsLinked}
use Rattle.edge_store.specs.Effects.{Copied, Taken, BlockDropped}
use Rattle.edge_store.specs.State.{Told}
use Rattle.edge_store.specs.View.{IsView, is_new, is_spot, is_used, free_now}
use Rattle.edge_store.proofs.ViewLaws.{spot_of, unused_zero, used_of}
use Rattle.edge_store.proofs.DamageLaws.{tells_of_spot}
use Rattle.edge_store.proofs.RoomLaws.{dropped_old}
use Rattle.edge_tree.specs.declared.own.Renewal.TheVariants.{Same, Blank}
use Rattle.edge_tree.specs.Blank.{BlockFilled}
use Rattle.edge_tree.proofs.LinkLaws.{allocable_of_link}
use Rattle.edge_tree.proofs.OwnLaws.{moved_taken, moved_copied, committed_of}
use Rattle.edge_tree.proofs.BlankLaws.{filled_here, filled_blank}
use Rattle.edge_tree.proofs.own.renew.Goals as goal

-- the fault of a call that answers nothing is that which is handed on
one_damage : (f h : StoreFault) (d : Damage) → f ≡ h → ◌≡◌ {A = Result ℕ StoreFault} (Err h) (Err (Damaged d)) → ◌≡◌ {A = Result (Unit {0}) StoreFault} (Err f) (Err (Damaged d))
one_damage f h d same e = let e2 : h ≡ Damaged d = cc in ap Err (same ∙ e2)

pub returns-then-from-eq0-clause-renewed : goal.returns-then-from-eq0-clause-renewed
returns-then-from-eq0-clause-renewed g c told =
    let old = g.S.Store.state c.args.s.now in
    let new = g.S.Store.state c.take.new.self in
    let from = c.args.from in
    let b = c.in_ok-take.field-0 in
    let view = g.met.S.Store.working_is_view c.args.s.now told c.requires.live in
    let taken : Taken old.origin.request old.committed old.working new.working from.form from.owner b = c.in_ok-take.ensures.taken told in
    let told_new : Told new = ap (λ o. o.tells) c.in_ok-take.ensures.called.origin ∙ told in
    let view_new : IsView old.origin.request new.working = rw (← c.in_ok-take.ensures.called.origin) (g.met.S.Store.working_is_view c.take.new.self told_new c.in_ok-take.ensures.called.live) in
    subst (λ (k : ℕ). BlockFilled old.origin.request old.committed old.working new.working from.form from.owner k c.args.renewal b) (sym c.if-from-eq0.true) (record {
      between = new.working;
      renewed = inr (moved_taken _ _ _ _ _ _ _ taken (unused_zero _ _ view));
      filled = filled_here _ _ _ _ _ _ _ view_new (λ blank far. taken.content);
    })

pub returns-in_ok-copy-in-Same-clause-renewed : goal.returns-in_ok-copy-in-Same-clause-renewed
returns-in_ok-copy-in-Same-clause-renewed g c told =
    let old = g.S.Store.state c.args.s.now in
    let mid = g.S.Store.state c.is_new.new.self in
    let new = g.S.Store.state c.copy.new.self in
    let from = c.args.from in
    let first = c.in_ok-is_new.ensures in
    let second = c.in_ok-copy-in-Same.ensures in
    let told_mid : Told mid = ap (λ o. o.tells) first.called.origin ∙ told in
    let told_new : Told new = ap (λ o. o.tells) second.called.origin ∙ told_mid in
    let was : is_new old.committed old.working from.block ≡ false = sym (first.is_new told) ∙ c.if-branch.false in
    let met : Meets _ mid new _ = second.damage told_mid in
    let spot : is_spot mid.working from.form from.owner from.block ≡ true = spot_of mid.working from.form from.owner from.block met.none in
    let t : Copied mid.origin.request mid.committed mid.working new.working from.form from.block c.in_ok-copy-in-Same.field-0 = second.copied told_mid in
    let view_new : IsView old.origin.request new.working = rw (← first.called.origin, ← second.called.origin) (g.met.S.Store.working_is_view c.copy.new.self told_new second.called.live) in
    record {
      between = new.working;
      renewed = inr (moved_copied _ _ _ _ _ _ _ from.block c.if-from-eq0.false was (rw first.reads.working at spot) (rw (first.called.origin, first.point.committed, first.reads.working) at t));
      filled = filled_here _ _ _ _ _ _ _ view_new (λ blank far. absurd (let h : Same ≡ Blank = sym c.in-Same.is ∙ blank in cc));
    }

pub returns-in_err-copy-in-Same-clause-damage : goal.returns-in_err-copy-in-Same-clause-damage
returns-in_err-copy-in-Same-clause-damage g c told d e =
    let old = g.S.Store.state c.args.s.now in
    let mid = g.S.Store.state c.is_new.new.self in
    let new = g.S.Store.state c.copy.new.self in
    let from = c.args.from in
    let first = c.in_ok-is_new.ensures in
    let second = c.in_err-copy-in-Same.ensures in
    let told_mid : Told mid = ap (λ o. o.tells) first.called.origin ∙ told in
    let linked : IsLinked old.origin.request old.working from.owner from.form from.block = c.requires.linked told c.if-from-eq0.false in
    let fits = allocable_of_link old.origin.request from.block c.requires.link c.if-from-eq0.false in
    let p = err_from_is_err_and c.from_residual-in_err-copy-in-Same.result c.from_residual-in_err-copy-in-Same.ensures.1 in
    tells_of_spot mid new (Err c.in_err-copy-in-Same.field-0.0) second.called second.point from.owner from.form from.block
    (rw first.called.origin fits) (rw (first.called.origin, first.reads.working) linked) (second.damage told_mid) d (ap Err (sym p.2) ∙ sym p.1 ∙ e)

pub returns-in_err-drop_block-in-Blank-clause-damage : goal.returns-in_err-drop_block-in-Blank-clause-damage
returns-in_err-drop_block-in-Blank-clause-damage g c told d e =
    let old = g.S.Store.state c.args.s.now in
    let mid = g.S.Store.state c.is_new.new.self in
    let new = g.S.Store.state c.drop_block.new.self in
    let from = c.args.from in
    let first = c.in_ok-is_new.ensures in
    let second = c.in_err-drop_block-in-Blank.ensures in
    let told_mid : Told mid = ap (λ o. o.tells) first.called.origin ∙ told in
    let linked : IsLinked old.origin.request old.working from.owner from.form from.block = c.requires.linked told c.if-from-eq0.false in
    let fits = allocable_of_link old.origin.request from.block c.requires.link c.if-from-eq0.false in
    let p = err_from_is_err_and c.from_residual-in_err-drop_block-in-Blank.result c.from_residual-in_err-drop_block-in-Blank.ensures.1 in
    tells_of_spot mid new (Err c.in_err-drop_block-in-Blank.field-0.0) second.called second.point from.owner from.form from.block
    (rw first.called.origin fits) (rw (first.called.origin, first.reads.working) linked) (second.damage told_mid) d (one_damage _ _ _ (sym p.2) (sym p.1 ∙ e))

pub take-requires-in-Blank-clause-room : goal.take-requires-in-Blank-clause-room
take-requires-in-Blank-clause-room g c told =
    let old = g.S.Store.state c.args.s.now in
    let mid = g.S.Store.state c.is_new.new.self in
    let far = g.S.Store.state c.drop_block.new.self in
    let from = c.args.from in
    let first = c.in_ok-is_new.ensures in
    let second = c.in_ok-drop_block-in-Blank.ensures in
    let told_mid : Told mid = ap (λ o. o.tells) (sym second.called.origin) ∙ told in
    let told_old : Told old = ap (λ o. o.tells) (sym first.called.origin) ∙ told_mid in
    let was : is_new mid.committed mid.working from.block ≡ false = rw (first.point.committed, first.reads.working) (sym (first.is_new told_old) ∙ c.if-branch.false) in
    let met : Meets _ mid far _ = second.damage told_mid in
    let used : is_used mid.working from.block ≡ true = used_of from.form (mid.working.blocks from.block) from.owner (spot_of mid.working from.form from.owner from.block met.none) in
    let dropped : BlockDropped mid.working far.working from.block = second.dropped told_mid in
    let same : free_now mid.origin.request mid.committed far.working ≡ free_now mid.origin.request mid.committed mid.working =
    dropped_old mid.origin.request mid.committed mid.working far.working from.block (committed_of mid.committed mid.working from.block was used) dropped in
    let count = c.free-2.ensures.now told_mid first.called.live in
    let some = c.if-free-eq0-2.false in
    let room : 0 < free_now mid.origin.request mid.committed mid.working = omega arith in
    rw (second.called.origin, second.point.committed, same) room

pub returns-in_ok-take-in-Blank-clause-renewed : goal.returns-in_ok-take-in-Blank-clause-renewed
returns-in_ok-take-in-Blank-clause-renewed g c told =
    let old = g.S.Store.state c.args.s.now in
    let mid = g.S.Store.state c.is_new.new.self in
    let far = g.S.Store.state c.drop_block.new.self in
    let new = g.S.Store.state c.take-in-Blank.new.self in
    let from = c.args.from in
    let first = c.in_ok-is_new.ensures in
    let second = c.in_ok-drop_block-in-Blank.ensures in
    let third = c.in_ok-take-in-Blank.ensures in
    let told_mid : Told mid = ap (λ o. o.tells) first.called.origin ∙ told in
    let told_far : Told far = ap (λ o. o.tells) second.called.origin ∙ told_mid in
    let told_new : Told new = ap (λ o. o.tells) third.called.origin ∙ told_far in
    let was : is_new old.committed old.working from.block ≡ false = sym (first.is_new told) ∙ c.if-branch.false in
    let met : Meets _ mid far _ = second.damage told_mid in
    let spot : is_spot mid.working from.form from.owner from.block ≡ true = spot_of mid.working from.form from.owner from.block met.none in
    let dropped : BlockDropped mid.working far.working from.block = second.dropped told_mid in
    let t : Taken far.origin.request far.committed far.working new.working from.form from.owner c.in_ok-take-in-Blank.field-0 = third.taken told_far in
    let view = g.met.S.Store.working_is_view c.args.s.now told c.requires.live in
    let view_new : IsView old.origin.request new.working = rw (← first.called.origin, ← second.called.origin, ← third.called.origin) (g.met.S.Store.working_is_view c.take-in-Blank.new.self told_new third.called.live) in
    filled_blank _ _ _ far.working _ _ _ _ _ c.if-from-eq0.false was (rw first.reads.working at spot) view view_new (rw first.reads.working at dropped)
    (rw (second.called.origin, first.called.origin, second.point.committed, first.point.committed) at t) c.args.renewal c.in-Blank.is

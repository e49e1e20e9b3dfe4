use Rattle.std.proofs.Common.{◌≡◌, ◌≢◌, ◌<◌, ◌+◌, ℕ, true, refl, sym, ap, ◌∙◌, subst, arith, inl, inr}
use Rattle.std.proofs.lemmas.Bool.{cases_eq}
use Rattle.std.proofs.lemmas.Result.{err_from_is_err_and}
use Rattle.std.specs.Prelude.{is_some, slice_index, Option, Err}
use Rattle.edge_base.specs.layout.Places.{entries_of}
use Rattle.edge_store.specs.Damages.{form_of_entry}
use Rattle.edge_store.specs.Placed.{entry_at}
use Rattle.edge_store.specs.State.{Told}
use Rattle.edge_store.specs.View.{View, Inode, IsView, entries_of_inode, is_link}
use Rattle.edge_store.specs.declared.fault.StoreFault.TheVariants.{Damaged}
use Rattle.edge_shape.specs.Trees.{in_tree}
use Rattle.edge_shape.specs.Cutting.{CutEntries}
use Rattle.edge_cut.specs.Dropped.{without, IsAtEntry, IsFull}
use Rattle.edge_cut.proofs.EntryLaws.{entry_here, entry_sound, entry_absent, entry_cut, some_after, heads_after}
use Rattle.edge_cut.proofs.FullLaws.{was_full, less_twice, less_entry, later_entry}
use Rattle.edge_cut.proofs.GoLaws.{err_of, goes_on_then, told_now}
use Rattle.edge_cut.proofs.LastLaws.{at_entry_stays}
use Rattle.edge_cut.proofs.LoopLaws.{EntriesSoFar}
use Rattle.edge_cut.proofs.entries.cut_entries.Goals.{then-block-ne0+in_ok-drop_tree+in_ok-set_entry, else-block-ne0}
use Rattle.edge_cut.proofs.entries.cut_entries.Goals as goal

pub entry_link-requires-clause-there : goal.entry_link-requires-clause-there
entry_link-requires-clause-there g c told =
    let old = g.S.Store.state c.args.s.now in
    let inv = c.loop-e.invariant in
    let told_old : Told old = ap (λ o. o.tells) (sym inv.goes_on.called.origin) ∙ told in
    inv.there told_old (c.requires.there told_old)

pub returns-in_err-block-clause-undamaged : goal.returns-in_err-block-clause-undamaged
returns-in_err-block-clause-undamaged g c told sound d e =
    let old = g.S.Store.state c.args.s.now in
    let now = g.S.Store.state c.loop-e.s in
    let n = c.args.n in
    let k = c.loop-e.e in
    let inv = c.loop-e.invariant in
    let cut = inv.cut told sound in
    let told_at = told_now old now inv.goes_on told in
    let low : k < entries_of old.origin.request = omega (arith, c.loop-e-test.true, c.entries-e-end.ensures) in
    let view_old = g.met.S.Store.working_is_view c.args.s.now told c.requires.live in
    let view : IsView old.origin.request now.working = rw (← inv.goes_on.called.origin) (g.met.S.Store.working_is_view c.loop-e.s told_at inv.goes_on.called.live) in
    let here = entry_here old.origin.request old.working now.working n c.args.from k cut view_old view c.loop-e.auto.e low sound in
    let good : is_link now.origin.request (entry_at now.working n k) ≡ true = rw inv.goes_on.called.origin (ap (is_link old.origin.request) here ∙ sound.link k c.loop-e.auto.e low) in
    let p = err_from_is_err_and c.from_residual.result c.from_residual.ensures.1 in
    let same = err_of c.in_err-block.field-0.0 (Damaged d) (ap Err (sym p.2) ∙ sym p.1 ∙ e) in
    c.in_err-block.ensures.good told_at cut.inode good d (ap Err same)

pub drop_tree-requires-clause-hangs : goal.drop_tree-requires-clause-hangs
drop_tree-requires-clause-hangs g c told node =
    let old = g.S.Store.state c.args.s.now in
    let now = g.S.Store.state c.loop-e.s in
    let read = g.S.Store.state c.entry_link.new.s in
    let n = c.args.n in
    let k = c.loop-e.e in
    let inv = c.loop-e.invariant in
    let done = c.in_ok-block.ensures in
    let origin : read.origin ≡ old.origin = done.called.origin ∙ inv.goes_on.called.origin in
    let told_at : Told now = ap (λ o. o.tells) (sym done.called.origin) ∙ told in
    let low : k < entries_of read.origin.request = rw origin (let h : k < entries_of old.origin.request = omega (arith, c.loop-e-test.true, c.entries-e-end.ensures) in h) in
    let value : entry_at read.working n k ≡ c.in_ok-block.block = rw done.reads.working (sym (done.entry told_at)) in
    let at : IsAtEntry read.origin.request read.working n c.entry_form.result c.in_ok-block.block = record {
      entry = k;
      low = low;
      is_form = sym c.entry_form.ensures;
      block = value;
    } in
    at_entry_stays read.origin.request read.working n 0 c.entry_form.result c.in_ok-block.block at

pub returns-in_err-drop_tree-clause-undamaged : goal.returns-in_err-drop_tree-clause-undamaged
returns-in_err-drop_tree-clause-undamaged g c told sound d e =
    let old = g.S.Store.state c.args.s.now in
    let now = g.S.Store.state c.loop-e.s in
    let read = g.S.Store.state c.entry_link.new.s in
    let n = c.args.n in
    let k = c.loop-e.e in
    let inv = c.loop-e.invariant in
    let done = c.in_ok-block.ensures in
    let cut = inv.cut told sound in
    let told_at = told_now old now inv.goes_on told in
    let origin : read.origin ≡ old.origin = done.called.origin ∙ inv.goes_on.called.origin in
    let told_read : Told read = ap (λ o. o.tells) origin ∙ told in
    let low : k < entries_of old.origin.request = omega (arith, c.loop-e-test.true, c.entries-e-end.ensures) in
    let view_old = g.met.S.Store.working_is_view c.args.s.now told c.requires.live in
    let view : IsView old.origin.request now.working = rw (← inv.goes_on.called.origin) (g.met.S.Store.working_is_view c.loop-e.s told_at inv.goes_on.called.live) in
    let here = entry_here old.origin.request old.working now.working n c.args.from k cut view_old view c.loop-e.auto.e low sound in
    let is : c.in_ok-block.block ≡ entry_at old.working n k = done.entry told_at ∙ here in
    let there : entry_at old.working n k ≢ 0 = λ none. c.if-block-ne0.true (is ∙ none) in
    let child = entry_sound old.origin.request old.working now.working n c.args.from k cut view_old view c.loop-e.auto.e low sound there in
    let form : c.entry_form.result ≡ form_of_entry old.origin.request k = c.entry_form.ensures ∙ ap (λ o. form_of_entry o.request k) origin in
    let p = err_from_is_err_and c.from_residual-in_err-drop_tree.result c.from_residual-in_err-drop_tree.ensures.1 in
    c.in_err-drop_tree.ensures.undamaged told_read (rw (origin, done.reads.working, form, is) child) (λ some. absurd (some refl)) d (ap Err (sym p.2) ∙ sym p.1 ∙ e)

pub loop-e-preserved : goal.loop-e-preserved
loop-e-preserved g c =
    let old = g.S.Store.state c.args.s.now in
    let now = g.S.Store.state c.loop-e.s in
    let read = g.S.Store.state c.entry_link.new.s in
    let n = c.args.n in
    let k = c.loop-e.e in
    let inv = c.loop-e.invariant in
    let done = c.in_ok-block.ensures in
    let low : k < entries_of old.origin.request = omega (arith, c.loop-e-test.true, c.entries-e-end.ensures) in
    let goes = goes_on_then old now read c.in_ok-block.block inv.goes_on done.called done.point in
    let view_old = λ (told : Told old). g.met.S.Store.working_is_view c.args.s.now told c.requires.live in
    let view : Told old → IsView old.origin.request now.working = λ told. rw (← inv.goes_on.called.origin) (g.met.S.Store.working_is_view c.loop-e.s (told_now old now inv.goes_on told) inv.goes_on.called.live) in
    elim c.if-block-ne0.branch [
      | then-block-ne0+in_ok-drop_tree+in_ok-set_entry w ↦
          let mid = g.S.Store.state w.drop_tree.new.s in
          let after = g.S.Store.state w.set_entry.new.self in
          let dropped = w.in_ok-drop_tree.ensures in
          let set = w.in_ok-set_entry.ensures in
          let goes_mid = goes_on_then old read mid _ goes dropped.called dropped.point in
          let inodes : Told old → mid.working.inodes ≡ now.working.inodes = λ told. ap (λ (u : View). u.inodes) (dropped.dropped (told_now old read goes told)) ∙ ap (λ (u : View). u.inodes) done.reads.working in
          let so_far : EntriesSoFar old after n c.args.from (k + 1) = record {
            goes_on = goes_on_then old mid after _ goes_mid set.called set.point;
            places = λ m away. set.places m away ∙ ap (λ (p : ℕ → ℕ). p m) dropped.places ∙ ap (λ (p : ℕ → ℕ). p m) done.reads.places ∙ inv.places m away;
            there = λ told was. some_after mid.working after.working n k 0 (set.set (told_now old mid goes_mid told)) (ap (λ (o : ℕ → Option Inode). is_some (o n)) (inodes told) ∙ inv.there told was);
            heads = λ told. heads_after old.working now.working mid.working after.working n k 0 (inv.heads told) (inodes told) (set.set (told_now old mid goes_mid told));
            cut = λ told sound.
                let told_at = told_now old now inv.goes_on told in
                let told_read = told_now old read goes told in
                let cut = inv.cut told sound in
                let here = entry_here old.origin.request old.working now.working n c.args.from k cut (view_old told) (view told) c.loop-e.auto.e low sound in
                let is : c.in_ok-block.block ≡ entry_at old.working n k = done.entry told_at ∙ here in
                let form : w.entry_form.result ≡ form_of_entry old.origin.request k = w.entry_form.ensures ∙ ap (λ o. form_of_entry o.request k) goes.called.origin in
                let gone : mid.working ≡ without now.working (in_tree now.working (form_of_entry old.origin.request k) (entry_at old.working n k)) = rw (← done.reads.working, ← form, ← is) (dropped.dropped told_read) in
                entry_cut old.origin.request old.working now.working n c.args.from k cut (view_old told) (view told) c.loop-e.auto.e low sound mid.working after.working (λ none. w.if-block-ne0.true (is ∙ none)) gone
                (set.set (told_now old mid goes_mid told));
            less = λ told x. less_twice old.working now.working after.working x (inv.less told x)
                (less_entry now.working read.working mid.working after.working (in_tree read.working w.entry_form.result c.in_ok-block.block) n k done.reads.working (dropped.dropped (told_now old read goes told)) (set.set (told_now old mid goes_mid told)) x);
            later = λ told e behind.
                later_entry mid.working after.working n k e 0 (λ same. omega arith) (set.set (told_now old mid goes_mid told))
                ∙ ap (λ (o : ℕ → Option Inode). slice_index (entries_of_inode (o n)) e) (inodes told) ∙ inv.later told e (omega arith);
            full = λ told e from_e below there. elim (cases_eq e k) [
              | inl here ↦
                  let is : c.in_ok-block.block ≡ entry_at old.working n k = done.entry (told_now old now inv.goes_on told) ∙ inv.later told k (omega arith) in
                  let form : w.entry_form.result ≡ form_of_entry old.origin.request k = w.entry_form.ensures ∙ ap (λ o. form_of_entry o.request k) goes.called.origin in
                  let child : IsFull now.working (form_of_entry old.origin.request k) (entry_at old.working n k) = rw (← done.reads.working, ← form, ← is) (dropped.full (told_now old read goes told)) in
                  subst (λ (m : ℕ). IsFull old.working (form_of_entry old.origin.request m) (entry_at old.working n m)) (sym here)
                  (was_full old.working now.working (inv.less told) (form_of_entry old.origin.request k) (entry_at old.working n k) child)
              | inr away ↦ inv.full told e from_e (omega arith) there
            ];
          } in
          rw w.s-is so_far
      | else-block-ne0 w ↦
          let so_far : EntriesSoFar old read n c.args.from (k + 1) = record {
            goes_on = goes;
            places = λ m away. ap (λ (p : ℕ → ℕ). p m) done.reads.places ∙ inv.places m away;
            there = λ told was. rw done.reads.working (inv.there told was);
            heads = λ told. rw done.reads.working (inv.heads told);
            cut = λ told sound.
                let told_at = told_now old now inv.goes_on told in
                let cut = inv.cut told sound in
                let here = entry_here old.origin.request old.working now.working n c.args.from k cut (view_old told) (view told) c.loop-e.auto.e low sound in
                let absent = sym (done.entry told_at ∙ here) ∙ w.if-block-ne0.false in
                rw done.reads.working (entry_absent old.origin.request old.working now.working n c.args.from k cut (view_old told) (view told) c.loop-e.auto.e low sound absent);
            less = λ told. rw done.reads.working (inv.less told);
            later = λ told e behind. ap (λ (u : View). entry_at u n e) done.reads.working ∙ inv.later told e (omega arith);
            full = λ told e from_e below there. elim (cases_eq e k) [
              | inl here ↦ absurd (there (ap (entry_at old.working n) here ∙ sym (done.entry (told_now old now inv.goes_on told) ∙ inv.later told k (omega arith)) ∙ w.if-block-ne0.false))
              | inr away ↦ inv.full told e from_e (omega arith) there
            ];
          } in
          rw w.s-is so_far
    ]

pub returns-clause-there : goal.returns-clause-there
returns-clause-there g c told =
    let inv = c.loop-e.invariant in
    let told_old : Told (g.S.Store.state c.args.s.now) = ap (λ o. o.tells) (sym inv.goes_on.called.origin) ∙ told in
    inv.there told_old (c.requires.there told_old)

pub returns-clause-cut : goal.returns-clause-cut
returns-clause-cut g c =
    let old = g.S.Store.state c.args.s.now in
    let now = g.S.Store.state c.loop-e.s in
    let all : c.loop-e.e ≡ entries_of old.origin.request = omega (arith, c.loop-e.auto.e-end, c.loop-e-test.false, c.entries-e-end.ensures, c.requires.entry) in
    λ told sound. subst (λ (m : ℕ). CutEntries old.origin.request old.working now.working c.args.n c.args.from m) all (c.loop-e.invariant.cut told sound)

pub returns-clause-full : goal.returns-clause-full
returns-clause-full g c =
    let old = g.S.Store.state c.args.s.now in
    λ told e from_e below there. c.loop-e.invariant.full told e from_e (omega (arith, c.loop-e.auto.e-end, c.loop-e-test.false, c.entries-e-end.ensures, c.requires.entry, below)) there

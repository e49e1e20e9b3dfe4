use Rattle.std.proofs.Common.{◌≡◌, ◌≢◌, sym, ap, ◌∙◌, arith, inl, inr}
use Rattle.std.proofs.lemmas.Bool.{cases_eq}
use Rattle.std.specs.Prelude.{slice_index}
use Rattle.edge_store.specs.View.{View}
use Rattle.edge_store.proofs.CallLaws.{same_below_twice}
use Rattle.edge_moves.proofs.StepLaws.{not_zero, pointer_is}
use Rattle.edge_shape.specs.Shape.{entries_at}
use Rattle.edge_shape.proofs.ListLaws.{some_in-some, some_in-none}
use Rattle.edge_cut.proofs.GoLaws.{goes_on_then, told_now}
use Rattle.edge_cut.proofs.through.has_some.Goals as goal

pub loop-place-preserved : goal.loop-place-preserved
loop-place-preserved g c =
    let old = g.S.Store.state c.args.s.now in
    let now = g.S.Store.state c.loop-place.s in
    let read = g.S.Store.state c.pointer_link.new.s in
    let at = c.args.at in
    let inv = c.loop-place.invariant in
    let done = c.in_ok-pointer_link.ensures in
    let some : at.block ≢ 0 = not_zero old.origin.request at.block c.requires.block in
    record {
      goes_on = goes_on_then old now read c.in_ok-pointer_link.field-0 inv.goes_on done.called done.point;
      reads = record { working = done.reads.working ∙ inv.reads.working; places = done.reads.places ∙ inv.reads.places };
      same_below = λ clean. same_below_twice (inv.same_below clean) (done.below (inv.still_clean clean));
      still_clean = λ clean. done.clean (inv.still_clean clean);
      spot = λ told low. rw (← inv.reads.working) (done.spot (told_now old now inv.goes_on told) some);
      none = λ told j from below. elim (cases_eq j c.loop-place.place) [
        | inl is ↦
            let value = done.pointer (told_now old now inv.goes_on told) ∙ pointer_is now.working at.form at.block c.loop-place.place some in
            ap (slice_index (entries_at old.working at.form at.block)) is ∙ sym (ap (λ (u : View). slice_index (entries_at u at.form at.block) c.loop-place.place) inv.reads.working) ∙ sym value ∙ c.if-branch-ne0.false
        | inr away ↦ inv.none told j from (omega arith)
      ];
    }

pub returns-then-branch-ne0-clause-some : goal.returns-then-branch-ne0-clause-some
returns-then-branch-ne0-clause-some g c told =
    let old = g.S.Store.state c.args.s.now in
    let now = g.S.Store.state c.loop-place.s in
    let at = c.args.at in
    let inv = c.loop-place.invariant in
    let done = c.in_ok-pointer_link.ensures in
    let some : at.block ≢ 0 = not_zero old.origin.request at.block c.requires.block in
    let is : c.in_ok-pointer_link.field-0 ≡ slice_index (entries_at old.working at.form at.block) c.loop-place.place =
    done.pointer (told_now old now inv.goes_on told) ∙ pointer_is now.working at.form at.block c.loop-place.place some ∙ ap (λ (u : View). slice_index (entries_at u at.form at.block) c.loop-place.place) inv.reads.working in
    sym (some_in-some (entries_at old.working at.form at.block) c.args.from c.args.upto c.loop-place.place c.loop-place.auto.place c.loop-place-test.true (λ none. c.if-branch-ne0.true (is ∙ none)))

pub returns-clause-some : goal.returns-clause-some
returns-clause-some g c told =
    let old = g.S.Store.state c.args.s.now in
    let at = c.args.at in
    sym (some_in-none (entries_at old.working at.form at.block) c.args.from c.args.upto (λ j low high. c.loop-place.invariant.none told j low (omega (arith, c.loop-place-test.false))))

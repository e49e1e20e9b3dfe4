use Rattle.std.proofs.Common.{rules, ◌≡◌, ◌≢◌, ◌<◌, ◌+◌, ℕ, true, false, refl, sym, ap, ◌∙◌, subst, arith, None, inl, inr}
use Rattle.std.proofs.lemmas.Bool.{cases_eq}
use Rattle.std.proofs.lemmas.Result.{err_from_is_err_and}
use Rattle.std.specs.Prelude.{slice_index, Err}
use Rattle.edge_base.specs.declared.form.Form.TheVariants.{Plain, Double}
use Rattle.edge_base.specs.layout.Places.{pointers_of}
use Rattle.edge_store.specs.Damages.{IsLinked, form_under}
use Rattle.edge_store.specs.Placed.{pointer_at}
use Rattle.edge_store.specs.State.{Told, IsNumber}
use Rattle.edge_store.specs.declared.fault.StoreFault.TheVariants.{Damaged}
use Rattle.edge_store.specs.View.{View, IsView, is_link, is_spot, is_whole, is_allocable}
use Rattle.edge_store.proofs.ViewLaws.{with_block_apart}
use Rattle.edge_moves.proofs.FactLaws.{full_node}
use Rattle.edge_moves.proofs.SlotLaws.{some_pointers_fit}
use Rattle.edge_moves.proofs.StepLaws.{pointer_is}
use Rattle.edge_shape.specs.Shape.{entries_at}
use Rattle.edge_shape.specs.Trees.{in_tree}
use Rattle.edge_tree.proofs.LinkLaws.{allocable_of_link}
use Rattle.edge_cut.specs.Dropped.{without, IsAtEntry, StaysLinked, top_below, IsFull}
use Rattle.edge_cut.proofs.BelowLaws.{rank_below, not_zero, not_top, hangs_below, top_at_entry, top_kept, none_there, child_away}
use Rattle.edge_cut.proofs.DropLaws.{rank, below_shallow, drops_all, drops_plain, one_absent, one_dropped, same_inodes, same_pointers, was_spot_all}
use Rattle.edge_cut.proofs.FullLaws.{there_below, all_pointer, full_node_of, full_plain, was_full, less_so_far}
use Rattle.edge_cut.proofs.GoLaws.{err_of, goes_on_then, told_now, told_then, on_ok_map, on_ok_both}
use Rattle.edge_cut.proofs.LastLaws.{at_entry_same}
use Rattle.edge_cut.proofs.LoopLaws.{Drops}
use Rattle.edge_cut.proofs.SoundLaws.{sound_node, node_stays, link_stays, child_stays, child_top}
use Rattle.edge_cut.proofs.drop.+drop_tree.Goals.{then-block-ne0+in_ok-drop_tree, else-block-ne0}
use Rattle.edge_cut.proofs.drop.+drop_tree.Goals as goal

pub returns-then-eq-clause-dropped : goal.returns-then-eq-clause-dropped
returns-then-eq-clause-dropped g t c =
    let old = g.S.Store.state c.args.s.now in
    let plain : c.args.at.form ≡ Plain = search rules in
    on_ok_map c.drop_one.result (λ dropped told. dropped told ∙ drops_plain old.working c.args.at.form c.args.at.block plain) c.drop_one.ensures.dropped

pub returns-then-eq-clause-kept : goal.returns-then-eq-clause-kept
returns-then-eq-clause-kept g t c =
    let old = g.S.Store.state c.args.s.now in
    on_ok_both c.drop_one.result
    (λ apart dropped told. ap (λ (u : View). u.blocks c.args.top) (dropped told) ∙ with_block_apart old.working c.args.at.block None c.args.top (λ same. apart (sym same)))
    c.drop_one.ensures.kept c.drop_one.ensures.dropped

pub returns-in_err-block-clause-undamaged : goal.returns-in_err-block-clause-undamaged
returns-in_err-block-clause-undamaged g t c told sound away d e =
    let old = g.S.Store.state c.args.s.now in
    let now = g.S.Store.state c.loop-place.s in
    let at = c.args.at in
    let inv = c.loop-place.invariant in
    let so_far = inv.views told in
    let node : at.form ≢ Plain = search rules in
    let view = g.met.S.Store.working_is_view c.args.s.now told c.requires.live in
    let low : c.loop-place.place < pointers_of old.origin.request = omega (arith, c.loop-place-test.true, c.pointers-place-end.ensures) in
    let there = sound_node old.origin.request old.working at.form at.owner at.block node sound in
    let spot = node_stays old.origin.request old.working now.working at.form at.owner at.block c.args.top c.loop-place.place c.loop-place.hollow_so_far so_far view node there (omega arith) in
    let link = link_stays old.origin.request old.working now.working at.form at.owner at.block c.args.top c.loop-place.place c.loop-place.hollow_so_far so_far view node there low in
    let value = pointer_is now.working at.form at.block c.loop-place.place (not_zero old.origin.request at.block c.requires.block) in
    let good : is_link now.origin.request (pointer_at now.working at.form at.block c.loop-place.place) ≡ true = rw inv.goes_on.called.origin (ap (is_link old.origin.request) value ∙ link) in
    let p = err_from_is_err_and c.from_residual.result c.from_residual.ensures.1 in
    let same = err_of c.in_err-block.field-0.0 (Damaged d) (ap Err (sym p.2) ∙ sym p.1 ∙ e) in
    c.in_err-block.ensures.good (told_now old now inv.goes_on told) spot good d (ap Err same)

pub drop_tree-requires : goal.drop_tree-requires
drop_tree-requires g t c κs within =
    let old = g.S.Store.state c.args.s.now in
    let now = g.S.Store.state c.loop-place.s in
    let read = g.S.Store.state c.pointer_link.new.s in
    let at = c.args.at in
    let inv = c.loop-place.invariant in
    let done = c.in_ok-block.ensures in
    let block = c.in_ok-block.block in
    let node : at.form ≢ Plain = search rules in
    let some : at.block ≢ 0 = not_zero old.origin.request at.block c.requires.block in
    let origin : read.origin ≡ old.origin = done.called.origin ∙ inv.goes_on.called.origin in
    let told_old : Told read → Told old = λ told. ap (λ o. o.tells) (sym origin) ∙ told in
    let told_at : Told read → Told now = λ told. ap (λ o. o.tells) (sym done.called.origin) ∙ told in
    let low : c.loop-place.place < pointers_of old.origin.request = omega (arith, c.loop-place-test.true, c.pointers-place-end.ensures) in
    let inodes : Told old → now.working.inodes ≡ old.working.inodes = λ told. same_inodes old.working now.working at.form at.owner at.block c.args.top c.loop-place.place c.loop-place.hollow_so_far (inv.views told) in
    let linked_at : Told old → IsLinked old.origin.request now.working at.owner at.form at.block = λ told. c.requires.hangs told node now.working (inodes told) (inv.views told).kept in
    let falls = rank_below at.form node in
    let less : rank (form_under at.form) < t = omega (arith, falls, c.decreases) in
    let allocable : is_allocable read.origin.request block ≡ true = rw done.called.origin (allocable_of_link now.origin.request block done.link c.if-block-ne0.true) in
    let readable : Told read → is_whole (read.working.inodes at.owner) ≡ true = λ told. rw (done.reads.working, inodes (told_old told)) (c.requires.readable (told_old told)) in
    let linked : Told read → block ≢ 0 → IsLinked read.origin.request read.working at.owner (form_under at.form) block = λ told there. rw (done.called.origin, done.reads.working) (done.linked (told_at told) there) in
    let hangs : Told read → form_under at.form ≢ Plain → StaysLinked read.origin.request read.working at.owner (top_below at.form at.block c.args.top) (form_under at.form) block =
    λ told below. rw (origin, done.reads.working)
    (hangs_below old.origin.request now.working at.owner at.form at.block c.args.top c.loop-place.place block below (linked_at (told_old told)) (done.spot (told_at told) some) low (done.pointer (told_at told))) in
    let top : Told read → top_below at.form at.block c.args.top ≢ 0 → IsAtEntry read.origin.request read.working at.owner Double (top_below at.form at.block c.args.top) =
    λ told there. rw (origin, done.reads.working)
    (top_at_entry old.origin.request now.working at.owner at.form at.block c.args.top
    (λ has. at_entry_same old.origin.request old.working now.working at.owner Double c.args.top (inodes (told_old told)) (c.requires.top (told_old told) has)) (linked_at (told_old told)) there) in
    let highest : form_under at.form ≡ Double → top_below at.form at.block c.args.top ≡ 0 = λ is. absurd (below_shallow at.form is) in
    let form : c.form_below.result ≡ form_under at.form = c.form_below.ensures in
    let value : c.top_of.result ≡ top_below at.form at.block c.args.top = c.top_of.ensures in
    let owner : IsNumber read at.owner = rw origin c.requires.owner in
    rw (form, value) (less, (within, (done.called.live, (allocable, (owner, (readable, (linked, (hangs, (top, highest)))))))))

pub returns-in_err-drop_tree-clause-undamaged : goal.returns-in_err-drop_tree-clause-undamaged
returns-in_err-drop_tree-clause-undamaged g t c told sound away d e =
    let old = g.S.Store.state c.args.s.now in
    let now = g.S.Store.state c.loop-place.s in
    let read = g.S.Store.state c.pointer_link.new.s in
    let at = c.args.at in
    let inv = c.loop-place.invariant in
    let so_far = inv.views told in
    let done = c.in_ok-block.ensures in
    let node : at.form ≢ Plain = search rules in
    let some : at.block ≢ 0 = not_zero old.origin.request at.block c.requires.block in
    let view = g.met.S.Store.working_is_view c.args.s.now told c.requires.live in
    let told_at = told_now old now inv.goes_on told in
    let origin : read.origin ≡ old.origin = done.called.origin ∙ inv.goes_on.called.origin in
    let told_read : Told read = ap (λ o. o.tells) origin ∙ told in
    let low : c.loop-place.place < pointers_of old.origin.request = omega (arith, c.loop-place-test.true, c.pointers-place-end.ensures) in
    let there = sound_node old.origin.request old.working at.form at.owner at.block node sound in
    let es = entries_at old.working at.form at.block in
    let same = same_pointers old.origin.request old.working now.working at.form at.owner at.block c.args.top c.loop-place.place c.loop-place.hollow_so_far so_far view node low (done.spot told_at some) in
    let is : c.in_ok-block.block ≡ slice_index es c.loop-place.place =
    done.pointer told_at ∙ pointer_is now.working at.form at.block c.loop-place.place some ∙ ap (λ xs. slice_index xs c.loop-place.place) same in
    let has : slice_index es c.loop-place.place ≢ 0 = λ none. c.if-block-ne0.true (is ∙ none) in
    let child = child_stays old.origin.request old.working now.working at.form at.owner at.block c.args.top c.loop-place.place c.loop-place.hollow_so_far so_far view node there low has in
    let far : top_below at.form at.block c.args.top ≢ 0 → in_tree now.working (form_under at.form) (slice_index es c.loop-place.place) (top_below at.form at.block c.args.top) ≡ false =
    λ top. child_top old.origin.request old.working now.working at.form at.owner at.block c.args.top c.loop-place.place c.loop-place.hollow_so_far so_far view node there low has (top_below at.form at.block c.args.top)
    (child_away old.origin.request old.working at.form at.owner at.block c.args.top c.loop-place.place view node sound away low has top) in
    let p = err_from_is_err_and c.from_residual-in_err-drop_tree.result c.from_residual-in_err-drop_tree.ensures.1 in
    c.in_err-drop_tree.ensures.undamaged told_read (rw (origin, done.reads.working, c.form_below.ensures, is) child) (rw (done.reads.working, c.form_below.ensures, c.top_of.ensures, is) far) d (ap Err (sym p.2) ∙ sym p.1 ∙ e)

pub loop-place-preserved : goal.loop-place-preserved
loop-place-preserved g t c =
    let old = g.S.Store.state c.args.s.now in
    let now = g.S.Store.state c.loop-place.s in
    let read = g.S.Store.state c.pointer_link.new.s in
    let at = c.args.at in
    let inv = c.loop-place.invariant in
    let done = c.in_ok-block.ensures in
    let k = c.loop-place.place in
    let node : at.form ≢ Plain = search rules in
    let some : at.block ≢ 0 = not_zero old.origin.request at.block c.requires.block in
    let low : k < pointers_of old.origin.request = omega (arith, c.loop-place-test.true, c.pointers-place-end.ensures) in
    let goes = goes_on_then old now read c.in_ok-block.block inv.goes_on done.called done.point in
    let view = λ (told : Told old). g.met.S.Store.working_is_view c.args.s.now told c.requires.live in
    let spot = λ (told : Told old). done.spot (told_now old now inv.goes_on told) some in
    let is = λ (told : Told old). done.pointer (told_now old now inv.goes_on told) ∙ pointer_is now.working at.form at.block k some
    ∙ ap (λ xs. slice_index xs k) (same_pointers old.origin.request old.working now.working at.form at.owner at.block c.args.top k c.loop-place.hollow_so_far (inv.views told) (view told) node low (spot told)) in
    elim c.if-block-ne0.branch [
      | then-block-ne0+in_ok-drop_tree w ↦
          let after = g.S.Store.state w.drop_tree.new.s in
          let last = w.in_ok-drop_tree.ensures in
          let so_far : Drops old after at.form at.owner at.block c.args.top (k + 1) false = record {
            goes_on = goes_on_then old read after _ goes last.called last.point;
            places = last.places ∙ done.reads.places ∙ inv.places;
            views = λ told.
                let told_read = told_now old read goes told in
                let told_after = told_then read after _ last.called told_read in
                let es = entries_at old.working at.form at.block in
                let form : w.form_below.result ≡ form_under at.form = w.form_below.ensures in
                let there : slice_index es k ≢ 0 = λ none. w.if-block-ne0.true (is told ∙ none) in
                let child : is_spot now.working (form_under at.form) at.owner (slice_index es k) ≡ true = rw (← done.reads.working, ← form, ← is told) (last.spot told_read w.if-block-ne0.true) in
                let dropped : after.working ≡ without now.working (in_tree now.working (form_under at.form) (slice_index es k)) = rw (← done.reads.working, ← form, ← is told) (last.dropped told_read) in
                let view_now : IsView old.origin.request now.working = rw (← inv.goes_on.called.origin) (g.met.S.Store.working_is_view c.loop-place.s (told_now old now inv.goes_on told) inv.goes_on.called.live) in
                let view_after : IsView old.origin.request after.working = rw (← goes.called.origin, ← last.called.origin) (g.met.S.Store.working_is_view w.drop_tree.new.s told_after last.called.live) in
                let kept : after.working.blocks (top_below at.form at.block c.args.top) ≡ now.working.blocks (top_below at.form at.block c.args.top) = rw (← done.reads.working, ← w.top_of.ensures) (last.kept told_read) in
                one_dropped old.origin.request old.working now.working at.form at.owner at.block c.args.top k c.loop-place.hollow_so_far (inv.views told) (view told) node low (spot told) after.working at.owner there child dropped
                (top_kept old.origin.request now.working after.working at.form at.block c.args.top view_now view_after c.requires.highest kept);
            full = λ told j below there. elim (cases_eq j k) [
              | inl here ↦
                  let es = entries_at old.working at.form at.block in
                  let form : w.form_below.result ≡ form_under at.form = w.form_below.ensures in
                  let child : IsFull now.working (form_under at.form) (slice_index es k) = rw (← done.reads.working, ← form, ← is told) (last.full (told_now old read goes told)) in
                  let less = less_so_far old.working now.working at.form at.owner at.block c.args.top k c.loop-place.hollow_so_far (inv.views told) in
                  subst (λ (m : ℕ). IsFull old.working (form_under at.form) (slice_index es m)) (sym here) (was_full old.working now.working less (form_under at.form) (slice_index es k) child)
              | inr away ↦ inv.full told j (omega arith) there
            ];
          } in
          rw (w.s-is, w.hollow_so_far-is) so_far
      | else-block-ne0 w ↦
          let so_far : Drops old read at.form at.owner at.block c.args.top (k + 1) c.loop-place.hollow_so_far = record {
            goes_on = goes;
            places = done.reads.places ∙ inv.places;
            views = λ told. rw done.reads.working
                (one_absent old.origin.request old.working now.working at.form at.owner at.block c.args.top k c.loop-place.hollow_so_far (inv.views told) (view told) node low (spot told) (sym (is told) ∙ w.if-block-ne0.false));
            full = λ told j below there. elim (cases_eq j k) [
              | inl here ↦ absurd (there (ap (slice_index (entries_at old.working at.form at.block)) here ∙ sym (is told) ∙ w.if-block-ne0.false))
              | inr away ↦ inv.full told j (omega arith) there
            ];
          } in
          rw (w.s-is, w.hollow_so_far-is) so_far
    ]

pub hollow-requires-clause-hollow : goal.hollow-requires-clause-hollow
hollow-requires-clause-hollow g t c told =
    let old = g.S.Store.state c.args.s.now in
    let now = g.S.Store.state c.loop-place.s in
    let at = c.args.at in
    let inv = c.loop-place.invariant in
    let node : at.form ≢ Plain = search rules in
    let told_old : Told old = ap (λ o. o.tells) (sym inv.goes_on.called.origin) ∙ told in
    let so_far = inv.views told_old in
    let view = g.met.S.Store.working_is_view c.args.s.now told_old c.requires.live in
    let all : c.loop-place.place ≡ pointers_of old.origin.request = omega (arith, c.loop-place.auto.place-end, c.loop-place-test.false, c.pointers-place-end.ensures) in
    let hollow : c.loop-place.hollow_so_far ≡ true = c.if-hollow_so_far.true in
    let none = none_there old.origin.request old.working now.working at.form at.owner at.block c.args.top c.loop-place.place c.loop-place.hollow_so_far so_far view node
    (some_pointers_fit old.origin.request (g.met.S.Store.is_geometry c.args.s.now)) all hollow in
    let same : now.working ≡ old.working = so_far.unchanged hollow in
    rw (inv.goes_on.called.origin, same) (record {
      inode = c.requires.readable told_old;
      is_node = node;
      linked = c.requires.hangs told_old node old.working refl refl;
      spot = none.0;
      none = none.1;
    })

pub returns-clause-undamaged : goal.returns-clause-undamaged
returns-clause-undamaged g t c told sound away =
    let old = g.S.Store.state c.args.s.now in
    let now = g.S.Store.state c.loop-place.s in
    let at = c.args.at in
    let inv = c.loop-place.invariant in
    let node : at.form ≢ Plain = search rules in
    let view = g.met.S.Store.working_is_view c.args.s.now told c.requires.live in
    let all : c.loop-place.place ≡ pointers_of old.origin.request = omega (arith, c.loop-place.auto.place-end, c.loop-place-test.false, c.pointers-place-end.ensures) in
    let there = sound_node old.origin.request old.working at.form at.owner at.block node sound in
    let spot = node_stays old.origin.request old.working now.working at.form at.owner at.block c.args.top c.loop-place.place c.loop-place.hollow_so_far (inv.views told) view node there (omega arith) in
    let some : at.block ≢ 0 = not_zero old.origin.request at.block c.requires.block in
    c.drop_one-2.ensures.undamaged (told_now old now inv.goes_on told) spot (not_top old.working at.form at.block c.args.top some away)

pub returns-clause-dropped : goal.returns-clause-dropped
returns-clause-dropped g t c =
    let old = g.S.Store.state c.args.s.now in
    let now = g.S.Store.state c.loop-place.s in
    let last = g.S.Store.state c.drop_one-2.new.s in
    let at = c.args.at in
    let inv = c.loop-place.invariant in
    let node : at.form ≢ Plain = search rules in
    let some : at.block ≢ 0 = not_zero old.origin.request at.block c.requires.block in
    let all : c.loop-place.place ≡ pointers_of old.origin.request = omega (arith, c.loop-place.auto.place-end, c.loop-place-test.false, c.pointers-place-end.ensures) in
    on_ok_both c.drop_one-2.result
    (λ spot dropped told.
    let told_at = told_now old now inv.goes_on told in
    dropped told_at ∙ drops_all old.origin.request old.working now.working at.form at.owner at.block c.args.top c.loop-place.place c.loop-place.hollow_so_far (inv.views told)
    (g.met.S.Store.working_is_view c.args.s.now told c.requires.live) node all (spot told_at some))
    c.drop_one-2.ensures.spot c.drop_one-2.ensures.dropped

pub returns-clause-spot : goal.returns-clause-spot
returns-clause-spot g t c =
    let old = g.S.Store.state c.args.s.now in
    let now = g.S.Store.state c.loop-place.s in
    let at = c.args.at in
    let inv = c.loop-place.invariant in
    on_ok_map c.drop_one-2.result
    (λ spot told there. was_spot_all old.working now.working at.form at.form at.owner at.block at.block c.args.top c.loop-place.place c.loop-place.hollow_so_far (inv.views told) (spot (told_now old now inv.goes_on told) there))
    c.drop_one-2.ensures.spot

pub returns-clause-kept : goal.returns-clause-kept
returns-clause-kept g t c =
    let old = g.S.Store.state c.args.s.now in
    let now = g.S.Store.state c.loop-place.s in
    let at = c.args.at in
    let inv = c.loop-place.invariant in
    on_ok_both c.drop_one-2.result
    (λ apart dropped told. ap (λ (u : View). u.blocks c.args.top) (dropped (told_now old now inv.goes_on told)) ∙ with_block_apart now.working at.block None c.args.top (λ same. apart (sym same)) ∙ (inv.views told).kept)
    c.drop_one-2.ensures.kept c.drop_one-2.ensures.dropped

pub returns-then-eq-clause-full : goal.returns-then-eq-clause-full
returns-then-eq-clause-full g t c =
    let plain : c.args.at.form ≡ Plain = search rules in
    on_ok_map c.drop_one.result (λ kept told. full_plain (g.S.Store.state c.args.s.now).working c.args.at.form c.args.at.block plain) c.drop_one.ensures.kept

pub returns-clause-full : goal.returns-clause-full
returns-clause-full g t c =
    let old = g.S.Store.state c.args.s.now in
    let now = g.S.Store.state c.loop-place.s in
    let at = c.args.at in
    let inv = c.loop-place.invariant in
    let node : at.form ≢ Plain = search rules in
    let some : at.block ≢ 0 = not_zero old.origin.request at.block c.requires.block in
    let all : c.loop-place.place ≡ pointers_of old.origin.request = omega (arith, c.loop-place.auto.place-end, c.loop-place-test.false, c.pointers-place-end.ensures) in
    on_ok_map c.drop_one-2.result
    (λ spot told.
    let so_far = inv.views told in
    let was = was_spot_all old.working now.working at.form at.form at.owner at.block at.block c.args.top c.loop-place.place c.loop-place.hollow_so_far so_far (spot (told_now old now inv.goes_on told) some) in
    let view = g.met.S.Store.working_is_view c.args.s.now told c.requires.live in
    let long = full_node old.origin.request old.working at.form at.owner at.block node view was in
    full_node_of old.working at.form at.block node
    (all_pointer old.working at.form at.block c.loop-place.place (all ∙ sym long) (sym c.if-hollow_so_far.false ∙ so_far.hollow))
    (λ k there. inv.full told k (there_below old.working at.form at.block k c.loop-place.place (all ∙ sym long) there) there))
    c.drop_one-2.ensures.spot

use Rattle.std.proofs.Common.{◌≡◌, ◌≢◌, ◌<◌, ◌+◌, ℕ, true, false, sym, ap, ◌∙◌, subst, arith}
use Rattle.std.proofs.lemmas.Result.{err_from_is_err_and}
use Rattle.std.specs.Prelude.{slice_index, Err}
use Rattle.edge_base.specs.layout.Places.{pointers_of}
use Rattle.edge_store.specs.Damages.{IsLinked, form_under}
use Rattle.edge_store.specs.Placed.{pointer_at}
use Rattle.edge_store.specs.State.{Told}
use Rattle.edge_store.specs.declared.fault.StoreFault.TheVariants.{Damaged}
use Rattle.edge_store.specs.View.{View, IsView, is_link}
use Rattle.edge_store.proofs.DamageLaws.{tells_of_spot}
use Rattle.edge_store.proofs.ViewLaws.{with_block_apart}
use Rattle.edge_moves.proofs.StepLaws.{pointer_is}
use Rattle.edge_shape.specs.Shape.{entries_at}
use Rattle.edge_shape.specs.Trees.{in_tree}
use Rattle.edge_shape.specs.Cutting.{CutPlaces}
use Rattle.edge_cut.specs.Dropped.{without}
use Rattle.edge_cut.proofs.BelowLaws.{not_zero, hangs_below, child_far}
use Rattle.edge_cut.proofs.DropLaws.{below_shallow}
use Rattle.edge_cut.proofs.GoLaws.{err_of, goes_on_then, told_now, told_then}
use Rattle.edge_cut.proofs.LoopLaws.{CutsSoFar}
use Rattle.edge_cut.proofs.PlaceLaws.{read_here, tree_here, place_absent, place_cut}
use Rattle.edge_cut.proofs.SameLaws.{in_tree-same, sound-same}
use Rattle.edge_cut.proofs.SoundLaws.{sound_node}
use Rattle.edge_cut.proofs.places.cut_places.Goals.{then-block-ne0+in_ok-drop_below+in_ok-set_pointer, else-block-ne0}
use Rattle.edge_cut.proofs.places.cut_places.Goals as goal

pub returns-in_err-block-clause-undamaged : goal.returns-in_err-block-clause-undamaged
returns-in_err-block-clause-undamaged g c told sound away d e =
    let old = g.S.Store.state c.args.s.now in
    let now = g.S.Store.state c.loop-place.s in
    let at = c.args.at in
    let k = c.loop-place.place in
    let inv = c.loop-place.invariant in
    let cut = inv.cut told sound in
    let told_at = told_now old now inv.goes_on told in
    let low : k < pointers_of old.origin.request = omega (arith, c.loop-place-test.true, c.pointers-place-end.ensures) in
    let node = sound_node old.origin.request old.working at.form at.owner at.block c.requires.form sound in
    let view : IsView old.origin.request now.working = rw (← inv.goes_on.called.origin) (g.met.S.Store.working_is_view c.loop-place.s told_at inv.goes_on.called.live) in
    let here = read_here old.origin.request old.working now.working at.form at.owner at.block c.args.from k cut view c.requires.form c.loop-place.auto.place low node in
    let value = pointer_is now.working at.form at.block k (not_zero old.origin.request at.block c.requires.block) in
    let good : is_link now.origin.request (pointer_at now.working at.form at.block k) ≡ true = rw inv.goes_on.called.origin (ap (is_link old.origin.request) (value ∙ here) ∙ node.list.link k low) in
    let p = err_from_is_err_and c.from_residual.result c.from_residual.ensures.1 in
    let same = err_of c.in_err-block.field-0.0 (Damaged d) (ap Err (sym p.2) ∙ sym p.1 ∙ e) in
    c.in_err-block.ensures.good told_at cut.spot good d (ap Err same)

pub drop_below-requires-clause-below : goal.drop_below-requires-clause-below
drop_below-requires-clause-below g c told below =
    let old = g.S.Store.state c.args.s.now in
    let now = g.S.Store.state c.loop-place.s in
    let read = g.S.Store.state c.pointer_link.new.s in
    let at = c.args.at in
    let inv = c.loop-place.invariant in
    let done = c.in_ok-block.ensures in
    let origin : read.origin ≡ old.origin = done.called.origin ∙ inv.goes_on.called.origin in
    let told_at : Told now = ap (λ o. o.tells) (sym done.called.origin) ∙ told in
    let told_old : Told old = ap (λ o. o.tells) (sym inv.goes_on.called.origin) ∙ told_at in
    let low : c.loop-place.place < pointers_of old.origin.request = omega (arith, c.loop-place-test.true, c.pointers-place-end.ensures) in
    let some : at.block ≢ 0 = not_zero old.origin.request at.block c.requires.block in
    let linked : IsLinked old.origin.request now.working at.owner at.form at.block = c.requires.hangs told_old c.requires.form now.working (inv.inodes told_old) (inv.kept told_old) in
    rw (origin, done.reads.working)
    (hangs_below old.origin.request now.working at.owner at.form at.block c.args.top c.loop-place.place c.in_ok-block.block below linked (done.spot told_at some) low (done.pointer told_at))

pub returns-in_err-drop_below-clause-undamaged : goal.returns-in_err-drop_below-clause-undamaged
returns-in_err-drop_below-clause-undamaged g c told sound away d e =
    let old = g.S.Store.state c.args.s.now in
    let now = g.S.Store.state c.loop-place.s in
    let read = g.S.Store.state c.pointer_link.new.s in
    let at = c.args.at in
    let k = c.loop-place.place in
    let inv = c.loop-place.invariant in
    let done = c.in_ok-block.ensures in
    let cut = inv.cut told sound in
    let told_at = told_now old now inv.goes_on told in
    let origin : read.origin ≡ old.origin = done.called.origin ∙ inv.goes_on.called.origin in
    let told_read : Told read = ap (λ o. o.tells) origin ∙ told in
    let low : k < pointers_of old.origin.request = omega (arith, c.loop-place-test.true, c.pointers-place-end.ensures) in
    let some : at.block ≢ 0 = not_zero old.origin.request at.block c.requires.block in
    let node = sound_node old.origin.request old.working at.form at.owner at.block c.requires.form sound in
    let es = entries_at old.working at.form at.block in
    let view_old = g.met.S.Store.working_is_view c.args.s.now told c.requires.live in
    let view : IsView old.origin.request now.working = rw (← inv.goes_on.called.origin) (g.met.S.Store.working_is_view c.loop-place.s told_at inv.goes_on.called.live) in
    let here = read_here old.origin.request old.working now.working at.form at.owner at.block c.args.from k cut view c.requires.form c.loop-place.auto.place low node in
    let is : c.in_ok-block.block ≡ slice_index es k = done.pointer told_at ∙ pointer_is now.working at.form at.block k some ∙ here in
    let there : slice_index es k ≢ 0 = λ none. c.if-block-ne0.true (is ∙ none) in
    let same = tree_here old.origin.request old.working now.working at.form at.owner at.block c.args.from k cut view c.requires.form c.loop-place.auto.place low node there in
    let shallow = below_shallow at.form in
    let child = sound-same old.origin.request old.working now.working (form_under at.form) at.owner (slice_index es k) shallow there same (node.list.children k low there) in
    let tree : (x : ℕ) → in_tree now.working (form_under at.form) (slice_index es k) x ≡ in_tree old.working (form_under at.form) (slice_index es k) x = λ x. in_tree-same old.working now.working (form_under at.form) (slice_index es k) x shallow there same in
    let itself = tree at.block ∙ node.list.itself k low in
    let far : c.args.top ≢ 0 → in_tree now.working (form_under at.form) (slice_index es k) c.args.top ≡ false =
    λ has. tree c.args.top ∙ child_far old.origin.request old.working at.form at.owner at.block c.args.top k view_old c.requires.form sound (away has) low there c.requires.highest has in
    let p = err_from_is_err_and c.from_residual-in_err-drop_below.result c.from_residual-in_err-drop_below.ensures.1 in
    c.in_err-drop_below.ensures.undamaged told_read (rw (origin, done.reads.working, is) child) (rw (done.reads.working, is) itself) (rw (done.reads.working, is) far) d (ap Err (sym p.2) ∙ sym p.1 ∙ e)

pub returns-in_err-set_pointer-clause-damage : goal.returns-in_err-set_pointer-clause-damage
returns-in_err-set_pointer-clause-damage g c told d e =
    let old = g.S.Store.state c.args.s.now in
    let now = g.S.Store.state c.loop-place.s in
    let mid = g.S.Store.state c.drop_below.new.s in
    let at = c.args.at in
    let inv = c.loop-place.invariant in
    let done = c.in_ok-block.ensures in
    let dropped = c.in_ok-drop_below.ensures in
    let failed = c.in_err-set_pointer.ensures in
    let told_at = told_now old now inv.goes_on told in
    let told_read = told_then now (g.S.Store.state c.pointer_link.new.s) _ done.called told_at in
    let told_mid = told_then (g.S.Store.state c.pointer_link.new.s) mid _ dropped.called told_read in
    let origin : mid.origin ≡ old.origin = dropped.called.origin ∙ done.called.origin ∙ inv.goes_on.called.origin in
    let inodes : mid.working.inodes ≡ old.working.inodes = ap (λ (u : View). u.inodes) (dropped.dropped told_read) ∙ ap (λ (u : View). u.inodes) done.reads.working ∙ inv.inodes told in
    let kept : mid.working.blocks c.args.top ≡ old.working.blocks c.args.top = dropped.top told_read ∙ ap (λ (u : View). u.blocks c.args.top) done.reads.working ∙ inv.kept told in
    let linked : IsLinked old.origin.request mid.working at.owner at.form at.block = c.requires.hangs told c.requires.form mid.working inodes kept in
    let p = err_from_is_err_and c.from_residual-in_err-set_pointer.result c.from_residual-in_err-set_pointer.ensures.1 in
    tells_of_spot mid (g.S.Store.state c.set_pointer.new.self) (Err c.in_err-set_pointer.field-0.0) failed.called failed.point at.owner at.form at.block
    (rw origin c.requires.block) (rw origin linked) (failed.damage told_mid) d (ap Err (sym p.2) ∙ sym p.1 ∙ e)

pub loop-place-preserved : goal.loop-place-preserved
loop-place-preserved g c =
    let old = g.S.Store.state c.args.s.now in
    let now = g.S.Store.state c.loop-place.s in
    let read = g.S.Store.state c.pointer_link.new.s in
    let at = c.args.at in
    let k = c.loop-place.place in
    let inv = c.loop-place.invariant in
    let done = c.in_ok-block.ensures in
    let low : k < pointers_of old.origin.request = omega (arith, c.loop-place-test.true, c.pointers-place-end.ensures) in
    let some : at.block ≢ 0 = not_zero old.origin.request at.block c.requires.block in
    let goes = goes_on_then old now read c.in_ok-block.block inv.goes_on done.called done.point in
    let view : Told old → IsView old.origin.request now.working = λ told. rw (← inv.goes_on.called.origin) (g.met.S.Store.working_is_view c.loop-place.s (told_now old now inv.goes_on told) inv.goes_on.called.live) in
    elim c.if-block-ne0.branch [
      | then-block-ne0+in_ok-drop_below+in_ok-set_pointer w ↦
          let mid = g.S.Store.state w.drop_below.new.s in
          let after = g.S.Store.state w.set_pointer.new.self in
          let dropped = w.in_ok-drop_below.ensures in
          let set = w.in_ok-set_pointer.ensures in
          let goes_mid = goes_on_then old read mid _ goes dropped.called dropped.point in
          let so_far : CutsSoFar old after at.form at.owner at.block c.args.top c.args.from (k + 1) = record {
            goes_on = goes_on_then old mid after _ goes_mid set.called set.point;
            places = set.places ∙ dropped.places ∙ done.reads.places ∙ inv.places;
            inodes = λ told.
                let told_read = told_now old read goes told in
                ap (λ (u : View). u.inodes) (set.set (told_now old mid goes_mid told)).working ∙ ap (λ (u : View). u.inodes) (dropped.dropped told_read) ∙ ap (λ (u : View). u.inodes) done.reads.working ∙ inv.inodes told;
            kept = λ told.
                let told_read = told_now old read goes told in
                ap (λ (u : View). u.blocks c.args.top) (set.set (told_now old mid goes_mid told)).working ∙ with_block_apart mid.working at.block (after.working.blocks at.block) c.args.top (λ same. c.requires.apart (sym same))
                ∙ dropped.top told_read ∙ ap (λ (u : View). u.blocks c.args.top) done.reads.working ∙ inv.kept told;
            cut = λ told sound.
                let told_at = told_now old now inv.goes_on told in
                let told_read = told_now old read goes told in
                let cut = inv.cut told sound in
                let node = sound_node old.origin.request old.working at.form at.owner at.block c.requires.form sound in
                let es = entries_at old.working at.form at.block in
                let here = read_here old.origin.request old.working now.working at.form at.owner at.block c.args.from k cut (view told) c.requires.form c.loop-place.auto.place low node in
                let is : c.in_ok-block.block ≡ slice_index es k = done.pointer told_at ∙ pointer_is now.working at.form at.block k some ∙ here in
                let gone : mid.working ≡ without now.working (in_tree now.working (form_under at.form) (slice_index es k)) = rw (← done.reads.working, ← is) (dropped.dropped told_read) in
                place_cut old.origin.request old.working now.working at.form at.owner at.block c.args.from k cut (view told) c.requires.form c.loop-place.auto.place low node mid.working after.working
                (λ none. w.if-block-ne0.true (is ∙ none)) gone (set.set (told_now old mid goes_mid told));
          } in
          rw w.s-is so_far
      | else-block-ne0 w ↦
          let so_far : CutsSoFar old read at.form at.owner at.block c.args.top c.args.from (k + 1) = record {
            goes_on = goes;
            places = done.reads.places ∙ inv.places;
            inodes = λ told. ap (λ (u : View). u.inodes) done.reads.working ∙ inv.inodes told;
            kept = λ told. ap (λ (u : View). u.blocks c.args.top) done.reads.working ∙ inv.kept told;
            cut = λ told sound.
                let told_at = told_now old now inv.goes_on told in
                let cut = inv.cut told sound in
                let node = sound_node old.origin.request old.working at.form at.owner at.block c.requires.form sound in
                let here = read_here old.origin.request old.working now.working at.form at.owner at.block c.args.from k cut (view told) c.requires.form c.loop-place.auto.place low node in
                let absent = sym (done.pointer told_at ∙ pointer_is now.working at.form at.block k some ∙ here) ∙ w.if-block-ne0.false in
                rw done.reads.working
                (place_absent old.origin.request old.working now.working at.form at.owner at.block c.args.from k cut (view told) c.requires.form c.loop-place.auto.place low node absent);
          } in
          rw w.s-is so_far
    ]

pub returns-clause-cut : goal.returns-clause-cut
returns-clause-cut g c =
    let old = g.S.Store.state c.args.s.now in
    let now = g.S.Store.state c.loop-place.s in
    let at = c.args.at in
    let all : c.loop-place.place ≡ pointers_of old.origin.request = omega (arith, c.loop-place.auto.place-end, c.loop-place-test.false, c.pointers-place-end.ensures, c.requires.place) in
    λ told sound. subst (λ (m : ℕ). CutPlaces old.working now.working at.form at.owner at.block c.args.from m) all (c.loop-place.invariant.cut told sound)

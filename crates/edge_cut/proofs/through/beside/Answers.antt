use Rattle.std.proofs.Common.{◌≡◌, ◌≢◌, ◌+◌, true, false, inl, inr, sym, ap, ◌∙◌, subst}
use Rattle.std.proofs.lemmas.Bool.{eq-eqb, eqb-true}
use Rattle.std.specs.Prelude.{slice_index}
use Rattle.edge_base.specs.layout.Places.{pointers_of}
use Rattle.edge_store.specs.State.{Told}
use Rattle.edge_store.specs.View.{View}
use Rattle.edge_moves.proofs.FactLaws.{full_node}
use Rattle.edge_moves.proofs.StepLaws.{not_zero}
use Rattle.edge_shape.specs.Shape.{entries_at}
use Rattle.edge_shape.specs.Where.{some_in}
use Rattle.edge_cut.specs.Dropped.{has_pointer}
use Rattle.edge_cut.proofs.FullLaws.{some_pointer, there_pointer}
use Rattle.edge_cut.proofs.SearchLaws.{none_beside}
use Rattle.edge_cut.proofs.through.beside.Goals as goal

pub hollow-requires-clause-hollow : goal.hollow-requires-clause-hollow
hollow-requires-clause-hollow g c told =
    let old = g.S.Store.state c.args.s.now in
    let mid = g.S.Store.state c.has_some.new.s in
    let new = g.S.Store.state c.has_some-2.new.s in
    let at = c.args.at in
    let first = c.in_ok-kept.ensures in
    let second = c.in_ok-cut.ensures in
    let origin : new.origin ≡ old.origin = second.called.origin ∙ first.called.origin in
    let told_mid : Told mid = ap (λ o. o.tells) (sym second.called.origin) ∙ told in
    let told_old : Told old = ap (λ o. o.tells) (sym first.called.origin) ∙ told_mid in
    let some : at.block ≢ 0 = not_zero old.origin.request at.block c.requires.block in
    let end : c.pointers-end.result ≡ pointers_of old.origin.request = c.pointers-end.ensures ∙ ap (λ o. pointers_of o.request) first.called.origin in
    let spot = c.requires.spot told_old some in
    let view = g.met.S.Store.working_is_view c.args.s.now told_old c.requires.live in
    let es = entries_at old.working at.form at.block in
    let long = full_node old.origin.request old.working at.form at.owner at.block c.requires.form view spot in
    let kept : some_in es 0 c.args.outer ≡ false = sym (first.some told_old) ∙ c.if-not-kept.true in
    let here : slice_index es c.args.outer ≡ 0 = eqb-true (slice_index es c.args.outer) 0 (sym (c.requires.absent told_old) ∙ c.if-absent.true) in
    let cut : some_in es (c.args.outer + 1) (pointers_of old.origin.request) ≡ false = rw (← end, ← first.reads.working) (sym (second.some told_mid) ∙ c.if-not-cut.true) in
    rw (origin, second.reads.working, first.reads.working) (record {
      inode = c.requires.readable told_old;
      is_node = c.requires.form;
      linked = c.requires.linked told_old some;
      spot = spot;
      none = none_beside es (pointers_of old.origin.request) c.args.outer long kept here cut;
    })

pub returns-clause-some : goal.returns-clause-some
returns-clause-some g c told =
    let old = g.S.Store.state c.args.s.now in
    let mid = g.S.Store.state c.has_some.new.s in
    let at = c.args.at in
    let first = c.in_ok-kept.ensures in
    let second = c.in_ok-cut.ensures in
    let told_mid : Told mid = ap (λ o. o.tells) first.called.origin ∙ told in
    elim c.else-absent.either [
      | inl cut ↦ subst (λ (u : View). has_pointer u at.form at.block ≡ true) first.reads.working
          (some_pointer mid.working at.form at.block (c.args.outer + 1) c.pointers-end.result (sym (second.some told_mid) ∙ cut.2))
      | inr other ↦ elim other [
        | inl kept ↦ some_pointer old.working at.form at.block 0 c.args.outer (sym (first.some told) ∙ kept.1)
        | inr here ↦ there_pointer old.working at.form at.block c.args.outer
            (λ none. let h : true ≡ false = sym (eq-eqb (slice_index (entries_at old.working at.form at.block) c.args.outer) 0 none) ∙ sym (c.requires.absent told) ∙ here in cc)
      ]
    ]

use Rattle.std.proofs.Common.{◌≡◌, ◌∙◌, sym, ap, true, false}
use Rattle.std.proofs.lemmas.Result.{err_from_is_err_and}
use Rattle.std.specs.Prelude.{slice_index, Err, Some, None}
use Rattle.edge_base.specs.outside.Below.{Origin}
use Rattle.edge_store.specs.Damages.{by_place, form_under}
use Rattle.edge_store.specs.Placed.{pointer_at}
use Rattle.edge_store.specs.State.{Told}
use Rattle.edge_store.specs.View.{is_link, is_spot, entries_in, content_at}
use Rattle.edge_store.proofs.CallLaws.{same_below_twice}
use Rattle.edge_store.proofs.DamageLaws.{tells_of_spot, wrong_in_node}
use Rattle.edge_store.proofs.ViewLaws.{spot_of, no_damage_of}
use Rattle.edge_tree.proofs.KindLaws.{block_untangled}
use Rattle.edge_tree.proofs.LinkLaws.{place_linked, pointer_is, link_of_link, spot_of_link, allocable_of_link}
use Rattle.edge_tree.proofs.link.pointer_link.Goals as goal

pub returns-in_err-b-clause-damage : goal.returns-in_err-b-clause-damage
returns-in_err-b-clause-damage g c told d e =
    let old = g.S.Store.state c.args.s.now in
    let at = c.args.at in
    let p = err_from_is_err_and c.from_residual.result c.from_residual.ensures.1 in
    tells_of_spot old (g.S.Store.state c.pointer.new.self) (Err c.in_err-b.field-0.0) c.in_err-b.ensures.called c.in_err-b.ensures.point at.owner at.form at.block
    (allocable_of_link old.origin.request at.block c.requires.block c.if-at-eq0.false) (c.requires.linked told c.if-at-eq0.false) (c.in_err-b.ensures.damage told) d (ap Err (sym p.2) ∙ sym p.1 ∙ e)

pub returns-in_err-b-clause-undamaged : goal.returns-in_err-b-clause-undamaged
returns-in_err-b-clause-undamaged g c told is sound d e =
    let old = g.S.Store.state c.args.s.now in
    let at = c.args.at in
    let p = err_from_is_err_and c.from_residual.result c.from_residual.ensures.1 in
    let met = (c.in_err-b.ensures.damage told).that d (ap Err (sym p.2) ∙ sym p.1 ∙ e) in
    let none = no_damage_of old.working at.form at.owner at.block (spot_of_link old.origin.request old.working at.owner sound at.form at.block (c.requires.linked told c.if-at-eq0.false) c.if-at-eq0.false) in
    let h : Some d ≡ None = sym met ∙ none in cc

pub returns-then-is_good-clause-linked : goal.returns-then-is_good-clause-linked
returns-then-is_good-clause-linked g c told there =
    let old = g.S.Store.state c.args.s.now in
    let at = c.args.at in
    let first = c.in_ok-b.ensures in
    place_linked old.origin.request old.working at.owner at.form at.block c.args.i _ c.requires.form (c.requires.linked told) (λ some. spot_of old.working at.form at.owner at.block (first.damage told).none)
    c.requires.place (first.pointer told ∙ sym (pointer_is old.working at.form at.block c.args.i c.if-at-eq0.false)) there

pub report-requires-clause-holds : goal.report-requires-clause-holds
report-requires-clause-holds g c told =
    let old = g.S.Store.state c.args.s.now in
    let new = g.S.Store.state c.pointer.new.self in
    let at = c.args.at in
    let first = c.in_ok-b.ensures in
    let told_old : Told old = ap (λ (o : Origin). o.tells) (sym first.called.origin) ∙ told in
    let spot : is_spot old.working at.form at.owner at.block ≡ true = spot_of old.working at.form at.owner at.block (first.damage told_old).none in
    let wrong : is_link old.origin.request (slice_index (entries_in (content_at old.working at.form at.block)) c.args.i) ≡ false =
    ap (is_link old.origin.request) (sym (first.pointer told_old)) ∙ ap (λ (o : Origin). is_link o.request c.in_ok-b.b) (sym first.called.origin) ∙ sym c.is_good.ensures ∙ c.if-is_good.false in
    rw (first.called.origin, first.reads.working, first.reads.places)
    (wrong_in_node old.origin.request old.places old.working at.owner at.form c.args.i at.block c.requires.form (c.requires.linked told_old c.if-at-eq0.false) spot wrong)

pub returns-clause-below : goal.returns-clause-below
returns-clause-below g c clean = same_below_twice (c.in_ok-b.ensures.below clean) (c.report.ensures.below (c.in_ok-b.ensures.clean clean))

pub returns-clause-undamaged : goal.returns-clause-undamaged
returns-clause-undamaged g c told is sound =
    let old = g.S.Store.state c.args.s.now in
    let at = c.args.at in
    let first = c.in_ok-b.ensures in
    let view = g.met.S.Store.working_is_view c.args.s.now told c.requires.live in
    let value = first.pointer told in
    let spot : is_spot old.working at.form at.owner at.block ≡ true = spot_of old.working at.form at.owner at.block (first.damage told).none in
    let good = link_of_link old.origin.request old.working at.owner sound view (form_under at.form) (pointer_at old.working at.form at.block c.args.i)
    (by_place at.form at.block c.args.i c.requires.form (c.requires.linked told c.if-at-eq0.false) spot c.requires.place) in
    let bad : is_link old.origin.request (pointer_at old.working at.form at.block c.args.i) ≡ false =
    ap (is_link old.origin.request) (pointer_is old.working at.form at.block c.args.i c.if-at-eq0.false ∙ sym value) ∙ ap (λ (o : Origin). is_link o.request c.in_ok-b.b) (sym first.called.origin) ∙ sym c.is_good.ensures ∙ c.if-is_good.false in
    λ d e. let h : true ≡ false = sym good ∙ bad in cc

pub returns-in_err-b-clause-untangled : goal.returns-in_err-b-clause-untangled
returns-in_err-b-clause-untangled g c told d e =
    let old = g.S.Store.state c.args.s.now in
    let at = c.args.at in
    let p = err_from_is_err_and c.from_residual.result c.from_residual.ensures.1 in
    block_untangled old (g.S.Store.state c.pointer.new.self) at.form at.owner at.block (Err c.in_err-b.field-0.0) (c.in_err-b.ensures.damage told) d (ap Err (sym p.2) ∙ sym p.1 ∙ e)

pub returns-in_err-b-clause-good : goal.returns-in_err-b-clause-good
returns-in_err-b-clause-good g c told spot link d e =
    let old = g.S.Store.state c.args.s.now in
    let at = c.args.at in
    let p = err_from_is_err_and c.from_residual.result c.from_residual.ensures.1 in
    let met = (c.in_err-b.ensures.damage told).that d (ap Err (sym p.2) ∙ sym p.1 ∙ e) in
    let none = no_damage_of old.working at.form at.owner at.block spot in
    let h : Some d ≡ None = sym met ∙ none in cc

pub returns-clause-good : goal.returns-clause-good
returns-clause-good g c told spot good =
    let old = g.S.Store.state c.args.s.now in
    let at = c.args.at in
    let first = c.in_ok-b.ensures in
    let bad : is_link old.origin.request (pointer_at old.working at.form at.block c.args.i) ≡ false =
    ap (is_link old.origin.request) (pointer_is old.working at.form at.block c.args.i c.if-at-eq0.false ∙ sym (first.pointer told)) ∙ ap (λ (o : Origin). is_link o.request c.in_ok-b.b) (sym first.called.origin) ∙ sym c.is_good.ensures ∙ c.if-is_good.false in
    λ d e. let h : true ≡ false = sym good ∙ bad in cc

use Rattle.std.proofs.Common.{◌≡◌, ◌∙◌, ℕ, ◌+◌, ◌-◌, ◌*◌, ◌<◌, ◌≤◌, refl, sym, ap, subst, arith}
use Rattle.std.specs.Prelude.{max, min}
use Rattle.edge_base.specs.declared.form.Form.TheVariants.{Plain, Indirect}
use Rattle.edge_base.specs.declared.geometry.Request.{Request}
use Rattle.edge_base.specs.layout.Places.{entries_of, pointers_of}
use Rattle.edge_base.specs.tree.Positions.{positions_of_form}
use Rattle.edge_store.proofs.CallLaws.{same_below_twice}
use Rattle.edge_moves.specs.Relinks.{number_under}
use Rattle.edge_moves.proofs.SlotLaws.{some_pointers_fit}
use Rattle.edge_count.specs.Runs.{first_row, row_count}
use Rattle.edge_cut.proofs.GoLaws.{goes_on_first, goes_on_then, told_now}
use Rattle.edge_space.specs.Counts.{fresh_of_form}
use Rattle.edge_space.proofs.FreshLaws.{row_more}
use Rattle.edge_space.proofs.RowLaws.{reach, row_of, row_adds, row_low, reach_first, reach_last}
use Rattle.edge_space.proofs.nodes.fresh_rows.Goals as goal

pub loop-row-init : goal.loop-row-init
loop-row-init g c =
    let old = g.S.Store.state c.args.s.now in
    let r = old.origin.request in
    let lo = c.args.run.first in
    let len = c.args.run.count in
    let first = c.args.rows.first in
    let start = max lo r.direct in
    let none_yet : reach r.direct (pointers_of r) lo (lo + len) first - start ≡ 0 =
    ap (λ (m : ℕ). reach r.direct (pointers_of r) lo (lo + len) m - start) c.requires.first ∙ ap (λ (m : ℕ). m - start) (reach_first r.direct (pointers_of r) lo (lo + len)) ∙ omega arith in
    let no_rows : first - first_row r.direct (pointers_of r) lo ≡ 0 = omega (arith, c.requires.first) in
    record {
      goes_on = goes_on_first old c.requires.live;
      reads = record { working = refl; places = refl };
      same_below = λ clean. record { adds_none = λ k b h. h; stays = λ k b h. h; sure = λ k h. h; sure_stays = λ k h. h };
      still_clean = λ clean. clean;
      most = omega arith;
      counted = λ told. sym (λ i. fresh_of_form r old.committed old.working c.args.n Indirect (first_row r.direct (pointers_of r) lo) (no_rows i)
          + fresh_of_form r old.committed old.working c.args.n Plain start (none_yet i));
    }

pub places_in-places-requires-clause-begins : goal.places_in-places-requires-clause-begins
places_in-places-requires-clause-begins g c =
    let old = g.S.Store.state c.args.s.now in
    let r = old.origin.request in
    let lo = c.args.run.first in
    let len = c.args.run.count in
    let row = c.loop-row.row in
    let same : c.geometry.result ≡ r = c.geometry.ensures ∙ ap (λ o. o.request) c.loop-row.invariant.goes_on.called.origin in
    let from : first_row r.direct (pointers_of r) lo ≤ row = omega (arith, c.requires.first) in
    let below : row < first_row r.direct (pointers_of r) lo + row_count r.direct (pointers_of r) lo len = omega (arith, c.requires.first, c.requires.count) in
    let is = row_of r.direct (pointers_of r) lo len row (some_pointers_fit r (g.met.S.Store.is_geometry c.args.s.now)) from below in
    subst (λ (q : Request). q.direct + row * pointers_of q < lo + len) (sym same) is.begins

pub places_in-places-requires-clause-ends : goal.places_in-places-requires-clause-ends
places_in-places-requires-clause-ends g c =
    let old = g.S.Store.state c.args.s.now in
    let r = old.origin.request in
    let lo = c.args.run.first in
    let len = c.args.run.count in
    let row = c.loop-row.row in
    let same : c.geometry.result ≡ r = c.geometry.ensures ∙ ap (λ o. o.request) c.loop-row.invariant.goes_on.called.origin in
    let from : first_row r.direct (pointers_of r) lo ≤ row = omega (arith, c.requires.first) in
    let below : row < first_row r.direct (pointers_of r) lo + row_count r.direct (pointers_of r) lo len = omega (arith, c.requires.first, c.requires.count) in
    let is = row_of r.direct (pointers_of r) lo len row (some_pointers_fit r (g.met.S.Store.is_geometry c.args.s.now)) from below in
    subst (λ (q : Request). lo < q.direct + row * pointers_of q + pointers_of q) (sym same) is.ends

pub fresh_row-requires-clause-row : goal.fresh_row-requires-clause-row
fresh_row-requires-clause-row g c =
    let old = g.S.Store.state c.args.s.now in
    let r = old.origin.request in
    let lo = c.args.run.first in
    let len = c.args.run.count in
    let row = c.loop-row.row in
    let same : c.geometry.result ≡ r = c.geometry.ensures ∙ ap (λ o. o.request) c.loop-row.invariant.goes_on.called.origin in
    let from : first_row r.direct (pointers_of r) lo ≤ row = omega (arith, c.requires.first) in
    let below : row < first_row r.direct (pointers_of r) lo + row_count r.direct (pointers_of r) lo len = omega (arith, c.requires.first, c.requires.count) in
    let is = row_of r.direct (pointers_of r) lo len row (some_pointers_fit r (g.met.S.Store.is_geometry c.args.s.now)) from below in
    let origin = c.loop-row.invariant.goes_on.called.origin in
    subst (λ (q : Request). row < positions_of_form q Indirect) (sym (ap (λ o. o.request) origin)) (row_low r.direct r.indirect (entries_of r - r.direct - r.indirect) (pointers_of r) lo len row c.requires.end is)

pub loop-row-preserved : goal.loop-row-preserved
loop-row-preserved g c =
    let old = g.S.Store.state c.args.s.now in
    let now = g.S.Store.state c.loop-row.s in
    let read = g.S.Store.state c.fresh_row.new.s in
    let r = old.origin.request in
    let n = c.args.n in
    let inv = c.loop-row.invariant in
    let done = c.in_ok-fresh.ensures in
    let taken = c.in_ok-fresh.field-0 in
    let lo = c.args.run.first in
    let len = c.args.run.count in
    let row = c.loop-row.row in
    let places = c.places_in-places.result in
    let same : c.geometry.result ≡ r = c.geometry.ensures ∙ ap (λ o. o.request) inv.goes_on.called.origin in
    let from : first_row r.direct (pointers_of r) lo ≤ row = omega (arith, c.requires.first) in
    let below : row < first_row r.direct (pointers_of r) lo + row_count r.direct (pointers_of r) lo len = omega (arith, c.requires.first, c.requires.count) in
    let is = row_of r.direct (pointers_of r) lo len row (some_pointers_fit r (g.met.S.Store.is_geometry c.args.s.now)) from below in
    let begin : places.first ≡ lo - (r.direct + row * pointers_of r) = c.places_in-places.ensures.first ∙ ap (λ (q : Request). lo - (q.direct + row * pointers_of q)) same in
    let end : places.first + places.count ≡ min (lo + len - (r.direct + row * pointers_of r)) (pointers_of r) =
    c.places_in-places.ensures.end ∙ ap (λ (q : Request). min (lo + len - (q.direct + row * pointers_of q)) (pointers_of q)) same in
    let adds = row_adds r.direct (pointers_of r) lo len row places.first places.count is begin end in
    record {
      goes_on = goes_on_then old now read taken inv.goes_on done.called done.point;
      reads = record { working = done.reads.working ∙ inv.reads.working; places = done.reads.places ∙ inv.reads.places };
      same_below = λ clean. same_below_twice (inv.same_below clean) (done.below (inv.still_clean clean));
      still_clean = λ clean. done.clean (inv.still_clean clean);
      most = omega (arith, inv.most, done.most, adds.upto);
      counted = λ told.
          let this = done.fresh (told_now old now inv.goes_on told) ∙ (λ i. let q = inv.goes_on.called.origin i in
          fresh_of_form q.request (inv.goes_on.point.committed i) (inv.reads.working i) n Indirect row 1
          + fresh_of_form q.request (inv.goes_on.point.committed i) (inv.reads.working i) n Plain (number_under q.request Indirect row places.first) places.count) in
          row_more r old.committed old.working n lo len row places.first places.count c.loop-row.fresh taken from is begin end (inv.counted told) this;
    }

pub returns-clause-fresh : goal.returns-clause-fresh
returns-clause-fresh g c told =
    let old = g.S.Store.state c.args.s.now in
    let r = old.origin.request in
    let lo = c.args.run.first in
    let len = c.args.run.count in
    let row = c.loop-row.row in
    let start = max lo r.direct in
    let last : row ≡ first_row r.direct (pointers_of r) lo + row_count r.direct (pointers_of r) lo len = omega (arith, c.requires.first, c.requires.count) in
    let rows : row - first_row r.direct (pointers_of r) lo ≡ row_count r.direct (pointers_of r) lo len = omega arith in
    let all : reach r.direct (pointers_of r) lo (lo + len) row - start ≡ lo + len - start =
    ap (λ (m : ℕ). reach r.direct (pointers_of r) lo (lo + len) m - start) last ∙ reach_last r.direct (pointers_of r) lo len (some_pointers_fit r (g.met.S.Store.is_geometry c.args.s.now)) in
    c.loop-row.invariant.counted told
    ∙ (λ i. fresh_of_form r old.committed old.working c.args.n Indirect (first_row r.direct (pointers_of r) lo) (rows i) + fresh_of_form r old.committed old.working c.args.n Plain start (all i))

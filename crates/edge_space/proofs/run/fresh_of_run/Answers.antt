use Rattle.std.proofs.Common.{◌≡◌, ◌∙◌, ℕ, ◌+◌, ◌-◌, ◌*◌, ◌≤◌, not, sym, ap, arith}
use Rattle.std.specs.Prelude.{count_by, min, max}
use Rattle.std.specs.List.{range_with_len}
use Rattle.edge_base.specs.declared.form.Form.TheVariants.{Plain, Indirect, Double}
use Rattle.edge_store.specs.Placed.{entry_at}
use Rattle.edge_store.specs.State.{Told}
use Rattle.edge_store.specs.View.{is_new}
use Rattle.edge_base.specs.declared.geometry.Request.{Request}
use Rattle.edge_base.specs.layout.Places.{entries_of, pointers_of}
use Rattle.edge_moves.proofs.SlotLaws.{entries_fit, some_pointers_fit}
use Rattle.edge_count.specs.Runs.{first_row, row_count, run_first, run_count}
use Rattle.edge_space.specs.Counts.{fresh_of_form}
use Rattle.edge_space.proofs.FreshLaws.{direct_fresh, double_fresh, split_run}
use Rattle.edge_space.proofs.RowLaws.{rows_within}
use Rattle.edge_space.proofs.run.fresh_of_run.Goals as goal

pub fresh_entries-requires-2-clause-entries : goal.fresh_entries-requires-2-clause-entries
fresh_entries-requires-2-clause-entries g c =
    let old = g.S.Store.state c.args.s.now in
    let r = old.origin.request in
    let k = pointers_of r in
    let tables = entries_of r - r.direct - r.indirect in
    let lo = c.args.run.first in
    let len = c.args.run.count in
    let geometry = g.met.S.Store.is_geometry c.args.s.now in
    let same : c.request-r.result ≡ r = c.request-r.ensures.same ∙ c.geometry-g.ensures in
    let origin = c.in_ok-behind.ensures.called.origin ∙ c.in_ok-plain.ensures.called.origin in
    let split : (r.indirect + tables * k) * k ≡ r.indirect * k + tables * (k * k) = grind arith in
    let rows = rows_within r.direct k (r.indirect + tables * k) lo len (some_pointers_fit r geometry) (omega (arith, c.requires.end)) in
    let within = rows_within r.indirect k tables (run_first r lo len Indirect) (run_count r lo len Indirect) (some_pointers_fit r geometry) rows in
    let row_first : c.rows_of-rows.result.first ≡ run_first r lo len Indirect = c.rows_of-rows.ensures.first ∙ ap (λ (q : Request). run_first q lo len Indirect) same in
    let row_many : c.rows_of-rows.result.count ≡ run_count r lo len Indirect = c.rows_of-rows.ensures.count ∙ ap (λ (q : Request). run_count q lo len Indirect) same in
    let top_first : c.rows_of-tables.result.first ≡ run_first r lo len Double = c.rows_of-tables.ensures.first ∙ (λ i. first_row (same i).indirect (pointers_of (same i)) (row_first i)) in
    let top_many : c.rows_of-tables.result.count ≡ run_count r lo len Double = c.rows_of-tables.ensures.count ∙ (λ i. row_count (same i).indirect (pointers_of (same i)) (row_first i) (row_many i)) in
    let fit = entries_fit r geometry in
    let low : r.direct + r.indirect + run_first r lo len Double + run_count r lo len Double ≤ entries_of r = omega arith in
    rw (ap (λ o. o.request) origin, same, top_first, top_many) low

pub returns-clause-fresh : goal.returns-clause-fresh
returns-clause-fresh g c told =
    let old = g.S.Store.state c.args.s.now in
    let r = old.origin.request in
    let past = old.committed in
    let v = old.working in
    let n = c.args.n in
    let lo = c.args.run.first in
    let len = c.args.run.count in
    let first = c.in_ok-plain.ensures in
    let second = c.in_ok-behind.ensures in
    let third = c.in_ok-above.ensures in
    let told_one : Told (g.S.Store.state c.fresh_entries.new.s) = ap (λ o. o.tells) first.called.origin ∙ told in
    let told_two : Told (g.S.Store.state c.fresh_rows.new.s) = ap (λ o. o.tells) second.called.origin ∙ told_one in
    let same : c.request-r.result ≡ r = c.request-r.ensures.same ∙ c.geometry-g.ensures in
    let direct_first : c.part_before-direct.result.first ≡ min lo r.direct = c.part_before-direct.ensures.first ∙ ap (λ (q : Request). min lo q.direct) same in
    let direct_count : c.part_before-direct.result.count ≡ min len (r.direct - lo) = c.part_before-direct.ensures.count ∙ ap (λ (q : Request). min len (q.direct - lo)) same in
    let row_first : c.rows_of-rows.result.first ≡ run_first r lo len Indirect = c.rows_of-rows.ensures.first ∙ ap (λ (q : Request). run_first q lo len Indirect) same in
    let row_many : c.rows_of-rows.result.count ≡ run_count r lo len Indirect = c.rows_of-rows.ensures.count ∙ ap (λ (q : Request). run_count q lo len Indirect) same in
    let top_first : c.rows_of-tables.result.first ≡ run_first r lo len Double = c.rows_of-tables.ensures.first ∙ (λ i. first_row (same i).indirect (pointers_of (same i)) (row_first i)) in
    let top_many : c.rows_of-tables.result.count ≡ run_count r lo len Double = c.rows_of-tables.ensures.count ∙ (λ i. row_count (same i).indirect (pointers_of (same i)) (row_first i) (row_many i)) in
    let committed = second.point.committed ∙ first.point.committed in
    let working = second.reads.working ∙ first.reads.working in
    let plain : c.in_ok-plain.plain ≡ fresh_of_form r past v n Plain (min lo r.direct) (min len (r.direct - lo)) =
    first.fresh told
    ∙ (λ i. count_by (λ (e : ℕ). not (is_new past v (entry_at v n e))) (range_with_len (direct_first i) (direct_count i)))
    ∙ sym (direct_fresh r past v n (min lo r.direct) (min len (r.direct - lo)) (omega arith)) in
    let behind : c.in_ok-behind.behind ≡ fresh_of_form r past v n Indirect (run_first r lo len Indirect) (run_count r lo len Indirect) + fresh_of_form r past v n Plain (max lo r.direct) (lo + len - max lo r.direct) =
    second.fresh told_one
    ∙ (λ i. let q = (first.called.origin i).request in
    fresh_of_form q (first.point.committed i) (first.reads.working i) n Indirect (run_first q lo len Indirect) (run_count q lo len Indirect)
    + fresh_of_form q (first.point.committed i) (first.reads.working i) n Plain (max lo q.direct) (lo + len - max lo q.direct)) in
    let above : c.in_ok-above.above ≡ fresh_of_form r past v n Double (run_first r lo len Double) (run_count r lo len Double) =
    third.fresh told_two
    ∙ (λ i. count_by (λ (e : ℕ). not (is_new (committed i) (working i) (entry_at (working i) n e))) (range_with_len ((same i).direct + (same i).indirect + top_first i) (top_many i)))
    ∙ sym (double_fresh r past v n (run_first r lo len Double) (run_count r lo len Double)) in
    let split = split_run r past v n lo len in
    omega arith

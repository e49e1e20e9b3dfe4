use Rattle.std.proofs.Common.{◌≡◌, refl, sym, ap, ◌∙◌, arith}
use Rattle.std.proofs.lemmas.Result.{err_from_is_err_and}
use Rattle.std.specs.Prelude.{Err}
use Rattle.edge_base.specs.layout.Places.{pointers_of}
use Rattle.edge_store.specs.State.{Told}
use Rattle.edge_store.specs.View.{IsView}
use Rattle.edge_store.specs.declared.fault.StoreFault.TheVariants.{Damaged}
use Rattle.edge_moves.proofs.StepLaws.{not_zero}
use Rattle.edge_shape.specs.Cutting.{CutPlaces}
use Rattle.edge_cut.proofs.GoLaws.{err_of, on_ok_map}
use Rattle.edge_cut.proofs.LastLaws.{at_entry_stays}
use Rattle.edge_cut.proofs.NodeLaws.{node_tree, node_rest}
use Rattle.edge_cut.proofs.SizeLaws.{entries_most}
use Rattle.edge_cut.proofs.StepLaws.{entry_at_made, entry_heads, heads_then, heads_kept, uncommitted, node_steps, room_of, shape_sound}
use Rattle.edge_cut.proofs.cut.cut_node.Goals as goal

pub cut_places-requires-clause-hangs : goal.cut_places-requires-clause-hangs
cut_places-requires-clause-hangs g c told node =
    let old = g.S.Store.state c.args.s.now in
    let mid = g.S.Store.state c.own_entry.new.s in
    let first = c.in_ok-block.ensures in
    let told_old : Told old = ap (λ o. o.tells) (sym first.called.origin) ∙ told in
    let view = g.met.S.Store.working_is_view c.args.s.now told_old c.requires.live in
    let at = entry_at_made old.origin.request old.committed old.working mid.working c.args.n c.args.entry c.in_ok-block.block c.args.form view (first.was_readable told_old) c.requires.entry (sym c.requires.form) (first.renewed told_old) in
    rw first.called.origin (at_entry_stays old.origin.request mid.working c.args.n 0 c.args.form c.in_ok-block.block at)

pub cut_places-requires-clause-uncommitted : goal.cut_places-requires-clause-uncommitted
cut_places-requires-clause-uncommitted g c told =
    let old = g.S.Store.state c.args.s.now in
    let mid = g.S.Store.state c.own_entry.new.s in
    uncommitted mid.committed mid.working c.in_ok-block.block (c.in_ok-block.ensures.is_new told)

pub cut_places-requires-clause-apart : goal.cut_places-requires-clause-apart
cut_places-requires-clause-apart g c =
    let old = g.S.Store.state c.args.s.now in
    not_zero old.origin.request c.in_ok-block.block c.in_ok-block.ensures.block

pub overflow_add-entry : goal.overflow_add-entry
overflow_add-entry g c = let most = entries_most (g.S.Store.state c.args.s.now).origin.request (g.met.S.Store.is_geometry c.args.s.now) in omega (arith, most, c.requires.entry)

pub returns-clause-steps : goal.returns-clause-steps
returns-clause-steps g c =
    let old = g.S.Store.state c.args.s.now in
    let one = g.S.Store.state c.own_entry.new.s in
    let two = g.S.Store.state c.cut_places.new.s in
    let last = g.S.Store.state c.cut_entries.new.s in
    let first = c.in_ok-block.ensures in
    let second = c.in_ok-cut_places.ensures in
    let origin_two : two.origin ≡ old.origin = second.called.origin ∙ first.called.origin in
    on_ok_map c.cut_entries.result (λ rest told.
    let told_one : Told one = ap (λ o. o.tells) first.called.origin ∙ told in
    let told_two : Told two = ap (λ o. o.tells) second.called.origin ∙ told_one in
    let view_one : IsView old.origin.request one.working = rw (← first.called.origin) (g.met.S.Store.working_is_view c.own_entry.new.s told_one first.called.live) in
    let view_two : IsView old.origin.request two.working = rw (← origin_two) (g.met.S.Store.working_is_view c.cut_places.new.s told_two second.called.live) in
    node_steps old.origin.request old.committed old.working one.working two.working last.working c.args.n c.args.entry c.in_ok-block.block c.args.place c.args.form c.requires.node (first.renewed told) view_one view_two
    (rw (← first.called.origin) (second.cut told_one)) (rw (← origin_two) (rest told_two)))
    c.cut_entries.ensures.cut

pub returns-clause-heads : goal.returns-clause-heads
returns-clause-heads g c =
    let old = g.S.Store.state c.args.s.now in
    let one = g.S.Store.state c.own_entry.new.s in
    let two = g.S.Store.state c.cut_places.new.s in
    let last = g.S.Store.state c.cut_entries.new.s in
    let first = c.in_ok-block.ensures in
    let second = c.in_ok-cut_places.ensures in
    on_ok_map c.cut_entries.result (λ heads told.
    let told_one : Told one = ap (λ o. o.tells) first.called.origin ∙ told in
    let told_two : Told two = ap (λ o. o.tells) second.called.origin ∙ told_one in
    heads_then old.working two.working last.working c.args.n
    (heads_then old.working one.working two.working c.args.n (entry_heads old.origin.request old.committed old.working one.working c.args.n c.args.entry c.in_ok-block.block (first.renewed told)) (heads_kept one.working two.working c.args.n (second.inodes told_one)))
    (heads told_two))
    c.cut_entries.ensures.heads

pub returns-in_err-block-clause-untangled : goal.returns-in_err-block-clause-untangled
returns-in_err-block-clause-untangled g c told room d e =
    let old = g.S.Store.state c.args.s.now in
    let p = err_from_is_err_and c.from_residual.result c.from_residual.ensures.1 in
    let same = err_of c.in_err-block.field-0.0 (Damaged d) (ap Err (sym p.2) ∙ sym p.1 ∙ e) in
    c.in_err-block.ensures.untangled told (room_of old.origin.request old.committed old.working c.args.n c.args.entry c.args.place c.args.form c.requires.node room) d (ap Err same)

pub returns-in_err-block-clause-undamaged : goal.returns-in_err-block-clause-undamaged
returns-in_err-block-clause-undamaged g c told indices shape through room d e =
    let old = g.S.Store.state c.args.s.now in
    let p = err_from_is_err_and c.from_residual.result c.from_residual.ensures.1 in
    let same = err_of c.in_err-block.field-0.0 (Damaged d) (ap Err (sym p.2) ∙ sym p.1 ∙ e) in
    c.in_err-block.ensures.undamaged told (shape_sound old.origin.request old.working c.args.n indices shape)
    (room_of old.origin.request old.committed old.working c.args.n c.args.entry c.args.place c.args.form c.requires.node room) d (ap Err same)

pub returns-in_err-cut_places-clause-undamaged : goal.returns-in_err-cut_places-clause-undamaged
returns-in_err-cut_places-clause-undamaged g c told indices shape through room d e =
    let old = g.S.Store.state c.args.s.now in
    let one = g.S.Store.state c.own_entry.new.s in
    let first = c.in_ok-block.ensures in
    let told_one : Told one = ap (λ o. o.tells) first.called.origin ∙ told in
    let view_one : IsView old.origin.request one.working = rw (← first.called.origin) (g.met.S.Store.working_is_view c.own_entry.new.s told_one first.called.live) in
    let tree = node_tree old.origin.request old.committed old.working c.args.n indices shape c.args.entry c.args.place c.args.form c.requires.node through one.working c.in_ok-block.block (first.renewed told) view_one in
    let p = err_from_is_err_and c.from_residual-in_err-cut_places.result c.from_residual-in_err-cut_places.ensures.1 in
    c.in_err-cut_places.ensures.undamaged told_one (rw first.called.origin tree) (λ some. absurd (some refl)) d (ap Err (sym p.2) ∙ sym p.1 ∙ e)

pub returns-clause-undamaged : goal.returns-clause-undamaged
returns-clause-undamaged g c told indices shape through room =
    let old = g.S.Store.state c.args.s.now in
    let one = g.S.Store.state c.own_entry.new.s in
    let two = g.S.Store.state c.cut_places.new.s in
    let first = c.in_ok-block.ensures in
    let second = c.in_ok-cut_places.ensures in
    let origin_two : two.origin ≡ old.origin = second.called.origin ∙ first.called.origin in
    let told_one : Told one = ap (λ o. o.tells) first.called.origin ∙ told in
    let told_two : Told two = ap (λ o. o.tells) second.called.origin ∙ told_one in
    let view_one : IsView old.origin.request one.working = rw (← first.called.origin) (g.met.S.Store.working_is_view c.own_entry.new.s told_one first.called.live) in
    let view_two : IsView old.origin.request two.working = rw (← origin_two) (g.met.S.Store.working_is_view c.cut_places.new.s told_two second.called.live) in
    let tree = node_tree old.origin.request old.committed old.working c.args.n indices shape c.args.entry c.args.place c.args.form c.requires.node through one.working c.in_ok-block.block (first.renewed told) view_one in
    let cut : CutPlaces one.working two.working c.args.form c.args.n c.in_ok-block.block c.args.place (pointers_of old.origin.request) = rw (← first.called.origin) (second.cut told_one (rw first.called.origin tree)) in
    let rest = node_rest old.origin.request old.committed old.working c.args.n indices shape c.args.entry c.args.place c.args.form c.requires.node through one.working c.in_ok-block.block (first.renewed told) view_one two.working view_two cut in
    c.cut_entries.ensures.undamaged told_two (rw origin_two rest)

pub returns-in_err-block-clause-tangled : goal.returns-in_err-block-clause-tangled
returns-in_err-block-clause-tangled g c told d e =
    let p = err_from_is_err_and c.from_residual.result c.from_residual.ensures.1 in
    let same = err_of c.in_err-block.field-0.0 (Damaged d) (ap Err (sym p.2) ∙ sym p.1 ∙ e) in
    c.in_err-block.ensures.tangled told d (ap Err same)

pub returns-in_err-cut_places-clause-tangled : goal.returns-in_err-cut_places-clause-tangled
returns-in_err-cut_places-clause-tangled g c told d e kind =
    let told_one : Told (g.S.Store.state c.own_entry.new.s) = ap (λ o. o.tells) c.in_ok-block.ensures.called.origin ∙ told in
    let p = err_from_is_err_and c.from_residual-in_err-cut_places.result c.from_residual-in_err-cut_places.ensures.1 in
    absurd (c.in_err-cut_places.ensures.untangled told_one d (ap Err (sym p.2) ∙ sym p.1 ∙ e) kind)

pub returns-clause-tangled : goal.returns-clause-tangled
returns-clause-tangled g c told d e kind =
    let told_one : Told (g.S.Store.state c.own_entry.new.s) = ap (λ o. o.tells) c.in_ok-block.ensures.called.origin ∙ told in
    let told_two : Told (g.S.Store.state c.cut_places.new.s) = ap (λ o. o.tells) c.in_ok-cut_places.ensures.called.origin ∙ told_one in
    absurd (c.cut_entries.ensures.untangled told_two d e kind)

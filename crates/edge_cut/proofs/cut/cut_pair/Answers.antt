use Rattle.std.proofs.Common.{◌≡◌, ◌+◌, false, true, refl, sym, ap, ◌∙◌, arith}
use Rattle.std.proofs.lemmas.Result.{err_from_is_err_and}
use Rattle.std.specs.Prelude.{Err}
use Rattle.edge_base.specs.declared.form.Form.TheVariants.{Indirect, Double}
use Rattle.edge_base.specs.layout.Places.{pointers_of}
use Rattle.edge_store.specs.State.{Told}
use Rattle.edge_store.specs.View.{IsView}
use Rattle.edge_store.specs.declared.fault.StoreFault.TheVariants.{Damaged}
use Rattle.edge_moves.proofs.StepLaws.{not_zero}
use Rattle.edge_shape.specs.Cutting.{CutPlaces}
use Rattle.edge_shape.specs.Trees.{in_tree}
use Rattle.edge_cut.proofs.SoundLaws.{itself_in}
use Rattle.edge_store.proofs.ViewLaws.{some_of_whole}
use Rattle.edge_cut.proofs.GoLaws.{err_of, on_ok_map, on_ok_both}
use Rattle.edge_cut.proofs.LastLaws.{at_entry_same, at_entry_stays}
use Rattle.edge_cut.proofs.NodeLaws.{pair_tree, pair_away, pair_top_tree, pair_rest}
use Rattle.edge_cut.proofs.SizeLaws.{entries_most, pointers_most}
use Rattle.edge_cut.proofs.StepLaws.{uncommitted, heads_then, heads_kept, pair_heads, pair_room, shape_tidy, no_pair}
use Rattle.edge_cut.proofs.cut.cut_pair.Goals as goal

pub returns-clause-steps : goal.returns-clause-steps
returns-clause-steps g c =
    let old = g.S.Store.state c.args.s.now in
    let two = g.S.Store.state c.own_pair.new.s in
    let three = g.S.Store.state c.cut_places.new.s in
    let four = g.S.Store.state c.cut_places-2.new.s in
    let last = g.S.Store.state c.cut_entries.new.s in
    let first = c.in_ok-pair.ensures in
    let second = c.in_ok-cut_places.ensures in
    let third = c.in_ok-cut_places-2.ensures in
    let origin_two = first.called.origin in
    let origin_three : three.origin ≡ old.origin = second.called.origin ∙ origin_two in
    let origin_four : four.origin ≡ old.origin = third.called.origin ∙ origin_three in
    on_ok_map c.cut_entries.result (λ rest told.
    let told_two : Told two = ap (λ o. o.tells) first.called.origin ∙ told in
    let told_three : Told three = ap (λ o. o.tells) second.called.origin ∙ told_two in
    let told_four : Told four = ap (λ o. o.tells) third.called.origin ∙ told_three in
    let made = first.made told in
    record {
      top = c.in_ok-pair.pair.top;
      node = c.in_ok-pair.pair.node;
      one = made.between;
      one_view = made.view;
      own_top = made.entry_made;
      two = two.working;
      two_view = rw (← origin_two) (g.met.S.Store.working_is_view c.own_pair.new.s told_two first.called.live);
      own_node = made.node_made;
      three = three.working;
      three_view = rw (← origin_three) (g.met.S.Store.working_is_view c.cut_places.new.s told_three second.called.live);
      cut_node = rw (← origin_two) (second.cut told_two);
      four = four.working;
      four_view = rw (← origin_four) (g.met.S.Store.working_is_view c.cut_places-2.new.s told_four third.called.live);
      cut_top = rw (← origin_three) (third.cut told_three);
      rest = rw (← origin_four) (rest told_four);
    })
    c.cut_entries.ensures.cut

pub returns-in_err-pair-clause-undamaged : goal.returns-in_err-pair-clause-undamaged
returns-in_err-pair-clause-undamaged g c told indices shape through room d e =
    let old = g.S.Store.state c.args.s.now in
    let view = g.met.S.Store.working_is_view c.args.s.now told c.requires.live in
    let p = err_from_is_err_and c.from_residual.result c.from_residual.ensures.1 in
    let same = err_of c.in_err-pair.field-0.0 (Damaged d) (ap Err (sym p.2) ∙ sym p.1 ∙ e) in
    c.in_err-pair.ensures.undamaged told (shape_tidy old.origin.request old.working c.args.n indices shape)
    (pair_room old.origin.request old.committed old.working c.args.n c.args.entry c.args.outer c.args.place view c.requires.form room) d (ap Err same)

pub returns-in_err-pair-clause-untangled : goal.returns-in_err-pair-clause-untangled
returns-in_err-pair-clause-untangled g c told room d e =
    let old = g.S.Store.state c.args.s.now in
    let view = g.met.S.Store.working_is_view c.args.s.now told c.requires.live in
    let p = err_from_is_err_and c.from_residual.result c.from_residual.ensures.1 in
    let same = err_of c.in_err-pair.field-0.0 (Damaged d) (ap Err (sym p.2) ∙ sym p.1 ∙ e) in
    c.in_err-pair.ensures.untangled told
    (pair_room old.origin.request old.committed old.working c.args.n c.args.entry c.args.outer c.args.place view c.requires.form room) d (ap Err same)

pub drop_below-requires-clause-hangs : goal.drop_below-requires-clause-hangs
drop_below-requires-clause-hangs g c told node =
    let two = g.S.Store.state c.own_pair.new.s in
    let old = g.S.Store.state c.args.s.now in
    let some = not_zero old.origin.request c.in_ok-pair.pair.top c.in_ok-pair.ensures.top in
    at_entry_stays two.origin.request two.working c.args.n 0 Double c.in_ok-pair.pair.top (c.in_ok-pair.ensures.at_entry told some)

pub drop_below-requires-clause-node : goal.drop_below-requires-clause-node
drop_below-requires-clause-node g c told some = c.in_ok-pair.ensures.spot told

pub returns-then-pair-clause-undamaged : goal.returns-then-pair-clause-undamaged
returns-then-pair-clause-undamaged g c told indices shape through room =
    let old = g.S.Store.state c.args.s.now in
    let two = g.S.Store.state c.own_pair.new.s in
    let first = c.in_ok-pair.ensures in
    let told_two : Told two = ap (λ o. o.tells) first.called.origin ∙ told in
    let made = first.made told in
    let view_two : IsView old.origin.request two.working = rw (← first.called.origin) (g.met.S.Store.working_is_view c.own_pair.new.s told_two first.called.live) in
    let away = pair_away old.origin.request old.committed old.working c.args.n indices shape c.args.entry c.args.outer c.args.place through made.between c.in_ok-pair.pair.top made.entry_made made.view
    two.working c.in_ok-pair.pair.node made.node_made view_two in
    let h : true ≡ false = sym (itself_in two.working Indirect c.in_ok-pair.pair.node) ∙ ap (in_tree two.working Indirect c.in_ok-pair.pair.node) c.if-pair.true ∙ away in cc

pub returns-then-pair-clause-heads : goal.returns-then-pair-clause-heads
returns-then-pair-clause-heads g c =
    let old = g.S.Store.state c.args.s.now in
    let two = g.S.Store.state c.own_pair.new.s in
    let last = g.S.Store.state c.drop_below.new.s in
    let first = c.in_ok-pair.ensures in
    on_ok_both c.drop_below.result (λ kept dropped told.
    let told_two : Told two = ap (λ o. o.tells) first.called.origin ∙ told in
    absurd (no_pair two.working last.working c.args.n c.in_ok-pair.pair.top c.in_ok-pair.pair.node c.if-pair.true (first.spot told_two) (kept told_two) (dropped told_two)))
    c.drop_below.ensures.kept c.drop_below.ensures.dropped

pub returns-then-pair-clause-there : goal.returns-then-pair-clause-there
returns-then-pair-clause-there g c =
    let two = g.S.Store.state c.own_pair.new.s in
    let last = g.S.Store.state c.drop_below.new.s in
    on_ok_both c.drop_below.result (λ kept dropped told.
    let told_two : Told two = ap (λ o. o.tells) (sym c.drop_below.ensures.called.origin) ∙ told in
    absurd (no_pair two.working last.working c.args.n c.in_ok-pair.pair.top c.in_ok-pair.pair.node c.if-pair.true (c.in_ok-pair.ensures.spot told_two) (kept told_two) (dropped told_two)))
    c.drop_below.ensures.kept c.drop_below.ensures.dropped

pub returns-then-pair-clause-steps : goal.returns-then-pair-clause-steps
returns-then-pair-clause-steps g c =
    let old = g.S.Store.state c.args.s.now in
    let two = g.S.Store.state c.own_pair.new.s in
    let last = g.S.Store.state c.drop_below.new.s in
    let first = c.in_ok-pair.ensures in
    on_ok_both c.drop_below.result (λ kept dropped told.
    let told_two : Told two = ap (λ o. o.tells) first.called.origin ∙ told in
    absurd (no_pair two.working last.working c.args.n c.in_ok-pair.pair.top c.in_ok-pair.pair.node c.if-pair.true (first.spot told_two) (kept told_two) (dropped told_two)))
    c.drop_below.ensures.kept c.drop_below.ensures.dropped

pub cut_places-requires-clause-uncommitted : goal.cut_places-requires-clause-uncommitted
cut_places-requires-clause-uncommitted g c told =
    let two = g.S.Store.state c.own_pair.new.s in
    uncommitted two.committed two.working c.in_ok-pair.pair.node (c.in_ok-pair.ensures.node_new told)

pub returns-in_err-cut_places-clause-undamaged : goal.returns-in_err-cut_places-clause-undamaged
returns-in_err-cut_places-clause-undamaged g c told indices shape through room d e =
    let old = g.S.Store.state c.args.s.now in
    let two = g.S.Store.state c.own_pair.new.s in
    let first = c.in_ok-pair.ensures in
    let told_two : Told two = ap (λ o. o.tells) first.called.origin ∙ told in
    let made = first.made told in
    let view_two : IsView old.origin.request two.working = rw (← first.called.origin) (g.met.S.Store.working_is_view c.own_pair.new.s told_two first.called.live) in
    let tree = pair_tree old.origin.request old.committed old.working c.args.n indices shape c.args.entry c.args.outer c.args.place through made.between c.in_ok-pair.pair.top made.entry_made made.view
    two.working c.in_ok-pair.pair.node made.node_made view_two in
    let away = pair_away old.origin.request old.committed old.working c.args.n indices shape c.args.entry c.args.outer c.args.place through made.between c.in_ok-pair.pair.top made.entry_made made.view
    two.working c.in_ok-pair.pair.node made.node_made view_two in
    let p = err_from_is_err_and c.from_residual-in_err-cut_places.result c.from_residual-in_err-cut_places.ensures.1 in
    c.in_err-cut_places.ensures.undamaged told_two (rw first.called.origin tree) (λ some. away) d (ap Err (sym p.2) ∙ sym p.1 ∙ e)

pub overflow_add-outer : goal.overflow_add-outer
overflow_add-outer g c = let most = pointers_most (g.S.Store.state c.args.s.now).origin.request (g.met.S.Store.is_geometry c.args.s.now) in omega (arith, most, c.requires.outer)

pub overflow_add-entry : goal.overflow_add-entry
overflow_add-entry g c = let most = entries_most (g.S.Store.state c.args.s.now).origin.request (g.met.S.Store.is_geometry c.args.s.now) in omega (arith, most, c.requires.entry)

pub cut_places-requires-2-clause-hangs : goal.cut_places-requires-2-clause-hangs
cut_places-requires-2-clause-hangs g c told node =
    let old = g.S.Store.state c.args.s.now in
    let two = g.S.Store.state c.own_pair.new.s in
    let three = g.S.Store.state c.cut_places.new.s in
    let second = c.in_ok-cut_places.ensures in
    let told_two : Told two = ap (λ o. o.tells) (sym second.called.origin) ∙ told in
    let some = not_zero old.origin.request c.in_ok-pair.pair.top c.in_ok-pair.ensures.top in
    rw second.called.origin (at_entry_stays two.origin.request three.working c.args.n 0 Double c.in_ok-pair.pair.top
    (at_entry_same two.origin.request two.working three.working c.args.n Double c.in_ok-pair.pair.top (second.inodes told_two) (c.in_ok-pair.ensures.at_entry told_two some)))

pub cut_places-requires-2-clause-uncommitted : goal.cut_places-requires-2-clause-uncommitted
cut_places-requires-2-clause-uncommitted g c told =
    let two = g.S.Store.state c.own_pair.new.s in
    let second = c.in_ok-cut_places.ensures in
    let told_two : Told two = ap (λ o. o.tells) (sym second.called.origin) ∙ told in
    rw second.point.committed (uncommitted two.committed two.working c.in_ok-pair.pair.top (c.in_ok-pair.ensures.top_new told_two))

pub returns-in_err-cut_places-2-clause-undamaged : goal.returns-in_err-cut_places-2-clause-undamaged
returns-in_err-cut_places-2-clause-undamaged g c told indices shape through room d e =
    let old = g.S.Store.state c.args.s.now in
    let two = g.S.Store.state c.own_pair.new.s in
    let three = g.S.Store.state c.cut_places.new.s in
    let first = c.in_ok-pair.ensures in
    let second = c.in_ok-cut_places.ensures in
    let told_two : Told two = ap (λ o. o.tells) first.called.origin ∙ told in
    let told_three : Told three = ap (λ o. o.tells) second.called.origin ∙ told_two in
    let origin_three : three.origin ≡ old.origin = second.called.origin ∙ first.called.origin in
    let made = first.made told in
    let view_two : IsView old.origin.request two.working = rw (← first.called.origin) (g.met.S.Store.working_is_view c.own_pair.new.s told_two first.called.live) in
    let view_three : IsView old.origin.request three.working = rw (← origin_three) (g.met.S.Store.working_is_view c.cut_places.new.s told_three second.called.live) in
    let tree = pair_tree old.origin.request old.committed old.working c.args.n indices shape c.args.entry c.args.outer c.args.place through made.between c.in_ok-pair.pair.top made.entry_made made.view
    two.working c.in_ok-pair.pair.node made.node_made view_two in
    let cut : CutPlaces two.working three.working Indirect c.args.n c.in_ok-pair.pair.node c.args.place (pointers_of old.origin.request) = rw (← first.called.origin) (second.cut told_two (rw first.called.origin tree)) in
    let top_tree = pair_top_tree old.origin.request old.committed old.working c.args.n indices shape c.args.entry c.args.outer c.args.place through made.between c.in_ok-pair.pair.top made.entry_made made.view
    two.working c.in_ok-pair.pair.node made.node_made view_two three.working view_three cut in
    let p = err_from_is_err_and c.from_residual-in_err-cut_places-2.result c.from_residual-in_err-cut_places-2.ensures.1 in
    c.in_err-cut_places-2.ensures.undamaged told_three (rw origin_three top_tree) (λ some. absurd (some refl)) d (ap Err (sym p.2) ∙ sym p.1 ∙ e)

pub cut_entries-requires-clause-there : goal.cut_entries-requires-clause-there
cut_entries-requires-clause-there g c told =
    let two = g.S.Store.state c.own_pair.new.s in
    let three = g.S.Store.state c.cut_places.new.s in
    let four = g.S.Store.state c.cut_places-2.new.s in
    let second = c.in_ok-cut_places.ensures in
    let third = c.in_ok-cut_places-2.ensures in
    let told_three : Told three = ap (λ o. o.tells) (sym third.called.origin) ∙ told in
    let told_two : Told two = ap (λ o. o.tells) (sym second.called.origin) ∙ told_three in
    rw (third.inodes told_three, second.inodes told_two) (some_of_whole (two.working.inodes c.args.n) (c.in_ok-pair.ensures.readable told_two))

pub returns-clause-damage : goal.returns-clause-damage
returns-clause-damage g c told =
    let told_two = ap (λ o. o.tells) c.in_ok-pair.ensures.called.origin ∙ told in
    let told_three = ap (λ o. o.tells) c.in_ok-cut_places.ensures.called.origin ∙ told_two in
    let told_four = ap (λ o. o.tells) c.in_ok-cut_places-2.ensures.called.origin ∙ told_three in
    c.cut_entries.ensures.damage told_four

pub returns-clause-untangled : goal.returns-clause-untangled
returns-clause-untangled g c told room =
    let told_two = ap (λ o. o.tells) c.in_ok-pair.ensures.called.origin ∙ told in
    let told_three = ap (λ o. o.tells) c.in_ok-cut_places.ensures.called.origin ∙ told_two in
    let told_four = ap (λ o. o.tells) c.in_ok-cut_places-2.ensures.called.origin ∙ told_three in
    c.cut_entries.ensures.untangled told_four

pub returns-clause-undamaged : goal.returns-clause-undamaged
returns-clause-undamaged g c told indices shape through room =
    let old = g.S.Store.state c.args.s.now in
    let two = g.S.Store.state c.own_pair.new.s in
    let three = g.S.Store.state c.cut_places.new.s in
    let four = g.S.Store.state c.cut_places-2.new.s in
    let first = c.in_ok-pair.ensures in
    let second = c.in_ok-cut_places.ensures in
    let third = c.in_ok-cut_places-2.ensures in
    let told_two : Told two = ap (λ o. o.tells) first.called.origin ∙ told in
    let told_three : Told three = ap (λ o. o.tells) second.called.origin ∙ told_two in
    let told_four : Told four = ap (λ o. o.tells) third.called.origin ∙ told_three in
    let origin_three : three.origin ≡ old.origin = second.called.origin ∙ first.called.origin in
    let origin_four : four.origin ≡ old.origin = third.called.origin ∙ origin_three in
    let made = first.made told in
    let view_two : IsView old.origin.request two.working = rw (← first.called.origin) (g.met.S.Store.working_is_view c.own_pair.new.s told_two first.called.live) in
    let view_three : IsView old.origin.request three.working = rw (← origin_three) (g.met.S.Store.working_is_view c.cut_places.new.s told_three second.called.live) in
    let view_four : IsView old.origin.request four.working = rw (← origin_four) (g.met.S.Store.working_is_view c.cut_places-2.new.s told_four third.called.live) in
    let tree = pair_tree old.origin.request old.committed old.working c.args.n indices shape c.args.entry c.args.outer c.args.place through made.between c.in_ok-pair.pair.top made.entry_made made.view
    two.working c.in_ok-pair.pair.node made.node_made view_two in
    let cut : CutPlaces two.working three.working Indirect c.args.n c.in_ok-pair.pair.node c.args.place (pointers_of old.origin.request) = rw (← first.called.origin) (second.cut told_two (rw first.called.origin tree)) in
    let top_tree = pair_top_tree old.origin.request old.committed old.working c.args.n indices shape c.args.entry c.args.outer c.args.place through made.between c.in_ok-pair.pair.top made.entry_made made.view
    two.working c.in_ok-pair.pair.node made.node_made view_two three.working view_three cut in
    let cut_top : CutPlaces three.working four.working Double c.args.n c.in_ok-pair.pair.top (c.args.outer + 1) (pointers_of old.origin.request) = rw (← origin_three) (third.cut told_three (rw origin_three top_tree)) in
    let rest = pair_rest old.origin.request old.committed old.working c.args.n indices shape c.args.entry c.args.outer c.args.place through made.between c.in_ok-pair.pair.top made.entry_made made.view
    two.working c.in_ok-pair.pair.node made.node_made view_two three.working view_three cut four.working view_four cut_top in
    c.cut_entries.ensures.undamaged told_four (rw origin_four rest)

pub returns-clause-heads : goal.returns-clause-heads
returns-clause-heads g c =
    let old = g.S.Store.state c.args.s.now in
    let two = g.S.Store.state c.own_pair.new.s in
    let three = g.S.Store.state c.cut_places.new.s in
    let four = g.S.Store.state c.cut_places-2.new.s in
    let last = g.S.Store.state c.cut_entries.new.s in
    let first = c.in_ok-pair.ensures in
    let second = c.in_ok-cut_places.ensures in
    let third = c.in_ok-cut_places-2.ensures in
    on_ok_map c.cut_entries.result (λ heads told.
    let told_two : Told two = ap (λ o. o.tells) first.called.origin ∙ told in
    let told_three : Told three = ap (λ o. o.tells) second.called.origin ∙ told_two in
    let told_four : Told four = ap (λ o. o.tells) third.called.origin ∙ told_three in
    heads_then old.working four.working last.working c.args.n
    (heads_then old.working two.working four.working c.args.n
    (pair_heads old.origin.request old.committed old.working two.working c.args.n c.args.entry c.args.outer c.in_ok-pair.pair.top c.in_ok-pair.pair.node (first.made told))
    (heads_kept two.working four.working c.args.n (third.inodes told_three ∙ second.inodes told_two)))
    (heads told_four))
    c.cut_entries.ensures.heads

pub returns-in_err-pair-clause-tangled : goal.returns-in_err-pair-clause-tangled
returns-in_err-pair-clause-tangled g c told d e =
    let p = err_from_is_err_and c.from_residual.result c.from_residual.ensures.1 in
    let same = err_of c.in_err-pair.field-0.0 (Damaged d) (ap Err (sym p.2) ∙ sym p.1 ∙ e) in
    c.in_err-pair.ensures.tangled told d (ap Err same)

pub returns-then-pair-clause-tangled : goal.returns-then-pair-clause-tangled
returns-then-pair-clause-tangled g c told d e kind =
    let told_two : Told (g.S.Store.state c.own_pair.new.s) = ap (λ o. o.tells) c.in_ok-pair.ensures.called.origin ∙ told in
    absurd (c.drop_below.ensures.untangled told_two d e kind)

pub returns-in_err-cut_places-clause-tangled : goal.returns-in_err-cut_places-clause-tangled
returns-in_err-cut_places-clause-tangled g c told d e kind =
    let told_two : Told (g.S.Store.state c.own_pair.new.s) = ap (λ o. o.tells) c.in_ok-pair.ensures.called.origin ∙ told in
    let p = err_from_is_err_and c.from_residual-in_err-cut_places.result c.from_residual-in_err-cut_places.ensures.1 in
    absurd (c.in_err-cut_places.ensures.untangled told_two d (ap Err (sym p.2) ∙ sym p.1 ∙ e) kind)

pub returns-in_err-cut_places-2-clause-tangled : goal.returns-in_err-cut_places-2-clause-tangled
returns-in_err-cut_places-2-clause-tangled g c told d e kind =
    let told_two : Told (g.S.Store.state c.own_pair.new.s) = ap (λ o. o.tells) c.in_ok-pair.ensures.called.origin ∙ told in
    let told_three : Told (g.S.Store.state c.cut_places.new.s) = ap (λ o. o.tells) c.in_ok-cut_places.ensures.called.origin ∙ told_two in
    let p = err_from_is_err_and c.from_residual-in_err-cut_places-2.result c.from_residual-in_err-cut_places-2.ensures.1 in
    absurd (c.in_err-cut_places-2.ensures.untangled told_three d (ap Err (sym p.2) ∙ sym p.1 ∙ e) kind)

pub returns-clause-tangled : goal.returns-clause-tangled
returns-clause-tangled g c told d e kind =
    let told_two = ap (λ o. o.tells) c.in_ok-pair.ensures.called.origin ∙ told in
    let told_three = ap (λ o. o.tells) c.in_ok-cut_places.ensures.called.origin ∙ told_two in
    let told_four = ap (λ o. o.tells) c.in_ok-cut_places-2.ensures.called.origin ∙ told_three in
    absurd (c.cut_entries.ensures.untangled told_four d e kind)

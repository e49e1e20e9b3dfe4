use Rattle.std.proofs.Common.{◌∙◌, sym, ap}
use Rattle.edge_base.specs.outside.Below.{Origin}
use Rattle.edge_calls.specs.Makes.{NewName, is_behind}
use Rattle.edge_calls.proofs.VacancyLaws.{told_none, told_some, place_without_number, place_behind, place_is}
use Rattle.edge_walk.specs.Spots.{spot_in}
use Rattle.edge_calls.proofs.vacant.node_place.Goals as goal

pub returns-then-free_inodes-eq0-clause-place : goal.returns-then-free_inodes-eq0-clause-place
returns-then-free_inodes-eq0-clause-place g c z stands tree =
    let st = g.S.Store.state c.args.s.now in
    let call = c.in_ok-at.ensures in
    let at : NewName = record { d = c.in_ok-at.at.d; name = c.in_ok-at.at.name.now; slot = c.in_ok-at.at.slot } in
    place_without_number st.origin.request z.tree (spot_in c.args.spot) at (call.vacancy z stands tree)
    (told_none g.S.Store c.args.s.now c.vacant_at.new.s call.looks c.free_inodes.result c.free_inodes.ensures z stands c.if-free_inodes-eq0.true)

pub returns-then-is_behind-clause-place : goal.returns-then-is_behind-clause-place
returns-then-is_behind-clause-place g c z stands tree =
    let st = g.S.Store.state c.args.s.now in
    let call = c.in_ok-at.ensures in
    let at : NewName = record { d = c.in_ok-at.at.d; name = c.in_ok-at.at.name.now; slot = c.in_ok-at.at.slot } in
    let some = told_some g.S.Store c.args.s.now c.vacant_at.new.s call.looks c.free_inodes.result c.free_inodes.ensures z stands c.if-free_inodes-eq0.false in
    let same = c.geometry.ensures ∙ ap (λ (o : Origin). o.request) call.looks.ends.origin in
    place_behind st.origin.request z.tree (spot_in c.args.spot) at (call.vacancy z stands tree) some.0 some.1
    (sym (c.is_behind.ensures.behind ∙ (λ i. is_behind (same i) at.slot)) ∙ c.if-is_behind.true)

pub returns-clause-place : goal.returns-clause-place
returns-clause-place g c z stands tree =
    let st = g.S.Store.state c.args.s.now in
    let call = c.in_ok-at.ensures in
    let at : NewName = record { d = c.in_ok-at.at.d; name = c.in_ok-at.at.name.now; slot = c.in_ok-at.at.slot } in
    let some = told_some g.S.Store c.args.s.now c.vacant_at.new.s call.looks c.free_inodes.result c.free_inodes.ensures z stands c.if-free_inodes-eq0.false in
    let same = c.geometry.ensures ∙ ap (λ (o : Origin). o.request) call.looks.ends.origin in
    place_is st.origin.request z.tree (spot_in c.args.spot) at (call.vacancy z stands tree) some.0 some.1
    (sym (c.is_behind.ensures.behind ∙ (λ i. is_behind (same i) at.slot)) ∙ c.if-is_behind.false)

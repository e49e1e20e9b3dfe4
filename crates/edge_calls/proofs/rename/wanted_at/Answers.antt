use Rattle.std.proofs.Common.{◌∙◌, true, false, sym, ap}
use Rattle.std.specs.Prelude.{Ok}
use Rattle.edge_model.specs.Walk.{top, within}
use Rattle.edge_walk.specs.Spots.{spot_in}
use Rattle.edge_walk.specs.declared.spot.Spot.{Spot}
use Rattle.edge_calls.proofs.RenameAtLaws.{in_way, name_found}
use Rattle.edge_calls.proofs.rename.wanted_at.Goals as goal

pub returns-then-is_in_way-clause-name : goal.returns-then-is_in_way-clause-name
returns-then-is_in_way-clause-name g c z stands tree =
    let st = g.S.Store.state c.args.s.now in
    let n = c.args.node.number in
    let way = c.in_ok-way in
    name_found z.tree c.args.names n (spot_in way.way.spot) true (way.ensures.spot z stands tree)
    (c.if-is_in_way.ensures ∙ in_way st n c.args.node.head c.args.names way.way.through c.requires.node way.ensures.through z stands tree)

pub returns-in-Top-clause-name : goal.returns-in-Top-clause-name
returns-in-Top-clause-name g c z stands tree =
    let st = g.S.Store.state c.args.s.now in
    let n = c.args.node.number in
    let way = c.in_ok-way in
    name_found z.tree c.args.names n top false (ap (λ (spot : Spot). Ok (spot_in spot)) (sym c.in-Top.is) ∙ way.ensures.spot z stands tree)
    (c.if-is_in_way.ensures ∙ in_way st n c.args.node.head c.args.names way.way.through c.requires.node way.ensures.through z stands tree)

pub returns-in-Within-clause-name : goal.returns-in-Within-clause-name
returns-in-Within-clause-name g c z stands tree =
    let st = g.S.Store.state c.args.s.now in
    let n = c.args.node.number in
    let way = c.in_ok-way in
    name_found z.tree c.args.names n (within c.in-Within.d c.in-Within.name.now) false
    (ap (λ (spot : Spot). Ok (spot_in spot)) (sym c.in-Within.is) ∙ way.ensures.spot z stands tree)
    (c.if-is_in_way.ensures ∙ in_way st n c.args.node.head c.args.names way.way.through c.requires.node way.ensures.through z stands tree)

use Rattle.edge_cut.proofs.SearchLaws.{shaped_some, spot_some}
use Rattle.edge_cut.proofs.HollowLaws.{hollow_is_damage}
use Rattle.edge_cut.proofs.drop.hollow.Goals as goal

pub report-requires-clause-holds : goal.report-requires-clause-holds
report-requires-clause-holds g c told =
    let old = g.S.Store.state c.args.s.now in
    hollow_is_damage old.origin.request old.places old.committed old.working c.args.at.owner c.args.at.form c.args.at.block (c.requires.hollow told)

pub returns-clause-undamaged : goal.returns-clause-undamaged
returns-clause-undamaged g c told shaped =
    let old = g.S.Store.state c.args.s.now in
    let at = c.args.at in
    let is = c.requires.hollow told in
    let view = g.met.S.Store.working_is_view c.args.s.now told c.requires.live in
    absurd (shaped_some old.origin.request old.working at.owner at.form at.block (g.met.S.Store.is_geometry c.args.s.now) view shaped is.is_node is.linked
    (spot_some old.origin.request old.working at.form at.owner at.block view is.spot) is.none)

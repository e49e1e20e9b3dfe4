use Rattle.edge_cut.proofs.HollowLaws.{lost_is_damage}
use Rattle.edge_cut.proofs.drop.lost.Goals as goal

pub report-requires-clause-holds : goal.report-requires-clause-holds
report-requires-clause-holds g c told =
    let old = g.S.Store.state c.args.s.now in
    lost_is_damage old.origin.request old.places old.committed old.working c.args.block (c.requires.lost told)

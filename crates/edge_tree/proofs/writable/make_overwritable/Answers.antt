use Rattle.edge_tree.proofs.DoneLaws.{overwritable_of}
use Rattle.edge_tree.proofs.writable.make_overwritable.Goals as goal

pub returns-clause-made : goal.returns-clause-made
returns-clause-made g c = overwritable_of (g.S.Store.state c.args.s.now) (g.S.Store.state c.make_new.new.s) c.args.n c.args.i c.make_new.result c.make_new.ensures.made

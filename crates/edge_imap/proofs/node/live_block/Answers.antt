use Rattle.std.proofs.Common.{ap, ◌∙◌, arith}
use Rattle.edge_base.specs.layout.Places.{imap_place_of}
use Rattle.edge_imap.proofs.node.live_block.Goals as goal

pub get-requires : goal.get-requires
get-requires c = omega (arith, c.requires.node, c.requires.roots.len, c.imap_nodes.ensures.count, c.imap_nodes.ensures.fits)

pub returns-clause-place : goal.returns-clause-place
returns-clause-place c = c.imap_place.ensures.place ∙ ap (imap_place_of c.args.g.now c.args.node) c.get.ensures

pub returns-clause-in_range : goal.returns-clause-in_range
returns-clause-in_range c = omega (arith, c.imap_place.ensures.before_table, c.request-within_limits.ensures.limits.room)

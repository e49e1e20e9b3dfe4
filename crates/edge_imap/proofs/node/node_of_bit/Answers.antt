use Rattle.std.proofs.Common.{ℕ, ◌/◌, ◌<◌, subst, sym, arith}
use Rattle.edge_base.specs.layout.Places.{imap_nodes_of}
use Rattle.edge_imap.proofs.BitLaws.{node_below, long_blocks}
use Rattle.edge_imap.proofs.node.node_of_bit.Goals as goal

pub nonzero_div-result : goal.nonzero_div-result
nonzero_div-result c = let long = long_blocks c.args.g.now.block_size c.request-within_limits.ensures.limits.block_size in omega (arith, c.node_bits.ensures.count, long)

pub returns-clause-in_range : goal.returns-clause-in_range
returns-clause-in_range c = let long = long_blocks c.args.g.now.block_size c.request-within_limits.ensures.limits.block_size in
    subst (λ (n : ℕ). c.args.bit / n < imap_nodes_of c.args.g.now) (sym c.node_bits.ensures.count) (node_below c.args.g.now c.args.bit long c.requires.external c.requires.bit)

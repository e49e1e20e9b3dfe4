use Rattle.std.proofs.Common.{ap, ◌∙◌, arith}
use Rattle.edge_alloc.specs.declared.Counts.{Counts}
use Rattle.edge_imap.proofs.BitLaws.{bits_room, long_blocks}
use Rattle.edge_imap.proofs.LoadLaws.{count_window}
use Rattle.edge_imap.proofs.load.count_node.Goals as goal

pub counts_in-requires-clause-small : goal.counts_in-requires-clause-small
counts_in-requires-clause-small c = let long = long_blocks c.args.g.now.block_size c.request-within_limits.ensures.limits.block_size in omega (arith, c.window_of.ensures.ends, long.most)

pub counts_in-requires-clause-committed : goal.counts_in-requires-clause-committed
counts_in-requires-clause-committed c = bits_room _ _ c.bits_of-bits.result.now c.args.block.now c.args.g.now.block_size c.bits_of-bits.ensures c.requires.block (omega (arith, c.window_of.ensures.ends))

pub counts_in-requires-clause-working : goal.counts_in-requires-clause-working
counts_in-requires-clause-working c = bits_room _ _ c.bits_of-bits.result.now c.args.block.now c.args.g.now.block_size c.bits_of-bits.ensures c.requires.block (omega (arith, c.window_of.ensures.ends))

pub returns : goal.returns
returns c = ap (λ (x : Counts). x.free) c.counts_in.ensures ∙ count_window c.args.g.now c.args.node c.window_of.result.first c.window_of.result.len c.bits_of-bits.result.now c.args.block.now c.bits_of-bits.ensures c.window_of.ensures

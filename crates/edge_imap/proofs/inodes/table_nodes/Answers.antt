use Rattle.std.proofs.Common.{◌≡◌, ℕ, ◌+◌, ◌*◌, ◌<◌, ◌≤◌, ap, subst, sym, arith}
use Rattle.std.proofs.lemmas.Grind.{div_ceil_times}
use Rattle.edge_base.specs.declared.geometry.Request.{Request}
use Rattle.edge_base.specs.layout.Sizes.{node_bits}
use Rattle.edge_imap.specs.Bitmaps.{first_bit}
use Rattle.edge_imap.proofs.BitLaws.{long_blocks}
use Rattle.edge_imap.proofs.PairLaws.{table_few}
use Rattle.edge_imap.proofs.inodes.table_nodes.Goals as goal

pub div_ceil-requires : goal.div_ceil-requires
div_ceil-requires c = let long = long_blocks c.args.g.now.block_size c.request-first.ensures.limits.block_size in omega (arith, c.node_bits.ensures.count, long.least)

pub returns-clause-enough : goal.returns-clause-enough
returns-clause-enough c =
    let long = long_blocks c.args.g.now.block_size c.request-first.ensures.limits.block_size in
    let first = ap (λ (r : Request). 2 * r.inodes) c.request-first.ensures.same in
    let times = div_ceil_times (2 * c.request-first.result.inodes) c.node_bits.result (omega (arith, c.node_bits.ensures.count, long.least)) in
    subst (λ (n : ℕ). first_bit c.args.g.now ≤ c.div_ceil.result * n) c.node_bits.ensures.count
    (subst (λ (n : ℕ). n ≤ c.div_ceil.result * c.node_bits.result) first (subst (λ (q : ℕ). 2 * c.request-first.result.inodes ≤ q * c.node_bits.result) (sym c.div_ceil.ensures) times.0))

pub returns-clause-in_range : goal.returns-clause-in_range
returns-clause-in_range c =
    let long = long_blocks c.args.g.now.block_size c.request-first.ensures.limits.block_size in
    let first = ap (λ (r : Request). 2 * r.inodes) c.request-first.ensures.same in
    let times = div_ceil_times (2 * c.request-first.result.inodes) c.node_bits.result (omega (arith, c.node_bits.ensures.count, long.least)) in
    let few : c.div_ceil.result * c.node_bits.result < 2 * c.request-first.result.inodes + c.node_bits.result = subst (λ (q : ℕ). q * c.node_bits.result < 2 * c.request-first.result.inodes + c.node_bits.result) (sym c.div_ceil.ensures) times.1 in
    let at : c.div_ceil.result * c.node_bits.result ≡ c.div_ceil.result * node_bits c.args.g.now.block_size = ap (λ (n : ℕ). c.div_ceil.result * n) c.node_bits.ensures.count in
    table_few c.args.g.now c.div_ceil.result long c.requires.external c.request-first.ensures.limits.room (omega (arith, few, at, first, c.node_bits.ensures.count))

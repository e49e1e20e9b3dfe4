use Rattle.std.proofs.Common.{◌≡◌, ℕ, ◌*◌, ap, arith}
use Rattle.edge_base.specs.declared.geometry.Request.{Request}
use Rattle.edge_base.specs.layout.Sizes.{node_bits}
use Rattle.edge_imap.proofs.node.window_of.Goals as goal

pub returns : goal.returns
returns c =
    let start : c.args.node * c.node_bits.result ≡ c.args.node * node_bits c.args.g.now.block_size = ap (λ (n : ℕ). c.args.node * n) c.node_bits.ensures.count in
    let table = ap (λ (r : Request). 2 * r.inodes) c.request-table.ensures.same in
    record {
      begins = omega (arith, start, table, c.bits_of_node-bits.ensures, c.saturating_sub.ensures, c.min-first.ensures);
      ends = omega (arith, c.min-first.ensures, c.bits_of_node-bits.ensures);
    }

-- Each block from the inode table on has a bit in one of the imap nodes, where there are any.
use Rattle.std.proofs.Common.{◌≡◌, ℕ, ◌+◌, ◌-◌, ◌*◌, ◌/◌, ◌<◌, ◌≤◌, inl, inr, false, cond, ap, subst, sym, arith}
use Rattle.std.proofs.Math.Nat.{le-div_iff_mul-le}
use Rattle.std.proofs.lemmas.Bool.{cases_lt}
use Rattle.edge_base.specs.declared.geometry.Request.{Request}
use Rattle.edge_base.specs.layout.Places.{is_inline_of, imap_nodes_of, table_start_of}
use Rattle.edge_base.specs.layout.Sizes.{node_bits}

-- so many pairs of nodes of so many bits that each of the numbers behind them has one
enough : (bits node : ℕ) → bits ≤ (bits + node + 1) / (node + 2) * (node + 2)
enough bits node =
    let pairs = (bits + node + 1) / (node + 2) in
    elim (cases_lt (pairs * (node + 2)) bits) [
      | inl few ↦
          let more = (le-div_iff_mul-le {k = node + 2} {x = pairs + 1} {y = bits + node + 1} (omega arith)).1 (omega arith) in
          absurd (omega arith)
      | inr many ↦ many
    ]

below_pairs : (bits node i : ℕ) → 0 < node → i < bits - 2 * ((bits + node + 1) / (node + 2)) → i / node < (bits + node + 1) / (node + 2)
below_pairs bits node i some below =
    let pairs = (bits + node + 1) / (node + 2) in
    elim (cases_lt (i / node) pairs) [
      | inl less ↦ less
      | inr past ↦
          let all = (le-div_iff_mul-le {k = node} {x = pairs} {y = i} some).0 past in
          let room = enough bits node in
          absurd (omega arith)
    ]

pub node_of_bit : (g : Request) → 16 < g.block_size → is_inline_of g ≡ false → (b : ℕ) → table_start_of g ≤ b → b < g.blocks → (b - table_start_of g) / node_bits g.block_size < imap_nodes_of g
node_of_bit g long external b from below =
    let count : imap_nodes_of g ≡ (g.blocks - 3 + node_bits g.block_size + 1) / (node_bits g.block_size + 2)
    = ap (λ t. cond t 0 ((g.blocks - 3 + node_bits g.block_size + 1) / (node_bits g.block_size + 2))) external in
    subst (λ (k : ℕ). (b - table_start_of g) / node_bits g.block_size < k) (sym count)
    (below_pairs (g.blocks - 3) (node_bits g.block_size) (b - table_start_of g) (omega arith) (omega (arith, count)))

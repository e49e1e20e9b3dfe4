use Rattle.std.proofs.Common.{◌≤◌, ◌*◌, arith}
use Rattle.std.proofs.Math.Nat.{mul-le-mul}
use Rattle.edge_base.proofs.geometry.Geometry.bits_of_node.Goals as goal

pub overflow_mul-before : goal.overflow_mul-before
overflow_mul-before c =
    let few = c.imap_nodes.ensures.most in
    let product = mul-le-mul {n₁ = c.args.node} {m₁ = c.node_bits.result} {n₂ = 1057} {m₂ = 32640} (omega arith) c.node_bits.ensures.most in
    omega arith

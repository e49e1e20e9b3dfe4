use Rattle.std.proofs.Common.{◌≡◌, ◌∙◌, ℕ, ◌+◌, ◌*◌, ◌/◌, ap, arith}
use Rattle.std.proofs.Math.Nat.{mul-le-mul_right}
use Rattle.edge_base.specs.declared.geometry.Request.{Request}
use Rattle.edge_base.specs.layout.Places.{max_blocks_of}
use Rattle.edge_base.specs.tree.Slots.{slots_in_block}
use Rattle.edge_dir.proofs.change.block_end.Goals as goal

pub overflow_cast-i : goal.overflow_cast-i
overflow_cast-i c =
    let count = c.from-in_block.ensures ∙ c.slots_in_block.ensures.count in
    let same = ap (λ (n : ℕ). c.args.slot / n) count in
    omega (arith, same, c.requires.block, c.max_blocks-most.ensures)

pub returns-clause-end : goal.returns-clause-end
returns-clause-end c =
    let r = c.args.g.now in
    let count = c.from-in_block.ensures ∙ c.slots_in_block.ensures.count in
    let size = ap (λ (x : Request). x.block_size) c.request-limits.ensures.same in
    let row : c.args.slot / slots_in_block r * r.block_size + r.block_size ≡ (c.args.slot / slots_in_block r + 1) * r.block_size = grind arith in
    c.slot_number.ensures ∙ (λ t. c.args.slot / count t * size t + size t) ∙ row

pub returns-clause-most : goal.returns-clause-most
returns-clause-most c =
    let r = c.args.g.now in
    let end = returns-clause-end c in
    let most = mul-le-mul_right {m = c.args.slot / slots_in_block r + 1} {n = max_blocks_of r} r.block_size (let low = c.requires.block in omega (arith, low)) in
    omega (arith, end, most)

use Rattle.std.proofs.Common.{◌≡◌, ◌∙◌, ℕ, ◌+◌, ◌*◌, ◌/◌, ◌%◌, ◌<◌, ap, arith}
use Rattle.std.proofs.Math.Nat.{mod-lt}
use Rattle.edge_base.specs.declared.geometry.Request.{Request}
use Rattle.edge_base.specs.tree.Slots.{slots_in_block}
use Rattle.edge_dir.proofs.EndLaws.{block_most, slot_within, some_slots}
use Rattle.edge_dir.proofs.change.slot_place.Goals as goal

pub overflow_cast-i : goal.overflow_cast-i
overflow_cast-i c =
    let count = c.from-in_block.ensures ∙ c.slots_in_block.ensures.count in
    let same = ap (λ (n : ℕ). c.args.slot / n) count in
    omega (arith, same, c.requires.block, c.max_blocks-most.ensures)

pub overflow_cast-k : goal.overflow_cast-k
overflow_cast-k c =
    let count = c.from-in_block.ensures in
    let some : 0 < c.from-in_block.result = omega (arith, count, c.slots_in_block.ensures.least) in
    let low = mod-lt c.args.slot some in
    omega (arith, low, count, c.slots_in_block.ensures.most)

pub overflow_mul-at : goal.overflow_mul-at
overflow_mul-at c =
    let r = c.args.g.now in
    let limits = c.request-limits.ensures.limits in
    let count = c.from-in_block.ensures ∙ c.slots_in_block.ensures.count in
    let low = mod-lt c.args.slot (some_slots r limits) in
    let fits = slot_within r (c.args.slot % slots_in_block r) low in
    let most = block_most r limits in
    let same : c.args.slot % c.from-in_block.result * c.slot_width.result ≡ c.args.slot % slots_in_block r * (4 + r.name_max) = (λ t. c.args.slot % count t * c.slot_width.ensures.width t) in
    omega (arith, fits, most, same)

pub returns-clause-place : goal.returns-clause-place
returns-clause-place c =
    let count = c.from-in_block.ensures ∙ c.slots_in_block.ensures.count in
    let size = ap (λ (x : Request). x.block_size) c.request-limits.ensures.same in
    c.slot_number.ensures ∙ (λ t. c.args.slot / count t * size t + c.args.slot % count t * c.slot_width.ensures.width t)

pub returns-clause-end : goal.returns-clause-end
returns-clause-end c =
    let r = c.args.g.now in
    let place = returns-clause-place c in
    let low = mod-lt c.args.slot (some_slots r c.request-limits.ensures.limits) in
    let fits = slot_within r (c.args.slot % slots_in_block r) low in
    let row : (c.args.slot / slots_in_block r + 1) * r.block_size ≡ c.args.slot / slots_in_block r * r.block_size + r.block_size = grind arith in
    omega (arith, place, fits, row)

use Rattle.std.proofs.Common.{◌≡◌, ℕ, ◌%◌, refl, sym, ap, ◌∙◌, arith}
use Rattle.edge_base.specs.layout.Bitmap.{live_place}
use Rattle.edge_base.specs.layout.Bytes.{bit_in}
use Rattle.edge_cache.specs.Calls.{content_in}
use Rattle.edge_imap.specs.Bitmaps.{HoldsBit}
use Rattle.edge_imap.proofs.CallLaws.{reads_same, why_passed, why_after}
use Rattle.edge_imap.proofs.BitLaws.{bit_of_root, bit_of_node as in_node, long_blocks, root_fits, rest_inside, holds_bit}
use Rattle.edge_imap.proofs.node.bit_of.Goals as goal

pub get-requires : goal.get-requires
get-requires g c = let inline = sym c.is_inline.ensures ∙ c.if-is_inline.true in root_fits c.args.g.now c.args.bit c.args.roots.now inline c.requires.bit c.requires.roots.len

pub returns-then-is_inline-clause-bit : goal.returns-then-is_inline-clause-bit
returns-then-is_inline-clause-bit g c = λ tells. c.get.ensures ∙ sym (bit_of_root c.args.g.now c.args.roots.now (content_in g.D.Disk c.args.cache.now) c.args.bit (sym c.is_inline.ensures ∙ c.if-is_inline.true))

pub returns-then-is_inline-clause-reads : goal.returns-then-is_inline-clause-reads
returns-then-is_inline-clause-reads g c = reads_same g.D.Disk c.args.cache.now

pub returns-then-is_inline-clause-cause : goal.returns-then-is_inline-clause-cause
returns-then-is_inline-clause-cause g c = why_passed g.D.Disk (HoldsBit c.args.g.now c.args.roots.now c.args.bit) _ _ _ refl

pub node_of_bit-requires-clause-external : goal.node_of_bit-requires-clause-external
node_of_bit-requires-clause-external g c = sym c.is_inline.ensures ∙ c.if-is_inline.false

pub nonzero_rem-bit : goal.nonzero_rem-bit
nonzero_rem-bit g c = let fits = long_blocks c.args.g.now.block_size c.node_of_bit.ensures.limits.block_size in omega (arith, c.node_bits.ensures.count, fits)

pub bit_of_node-requires-clause-in_range : goal.bit_of_node-requires-clause-in_range
bit_of_node-requires-clause-in_range g c = omega (arith, c.live_block-block.ensures.in_range, c.requires.fits.blocks)

pub bit_of_node-requires-clause-inside : goal.bit_of_node-requires-clause-inside
bit_of_node-requires-clause-inside g c = let fits = long_blocks c.args.g.now.block_size c.node_of_bit.ensures.limits.block_size in
    rest_inside c.args.bit c.node_bits.result c.args.g.now.block_size _ fits c.node_bits.ensures.count c.requires.fits.size

pub returns-in_err-used-clause-cause : goal.returns-in_err-used-clause-cause
returns-in_err-used-clause-cause g c =
    let live = c.live_block-block.ensures.place in
    why_after g.D.Disk (λ k. k ≡ c.live_block-block.result) (HoldsBit c.args.g.now c.args.roots.now c.args.bit) c.args.cache.now c.args.cache.now c.bit_of_node.new.cache c.bit_of_node.result _ c.in_err-used.field-0.0
    (λ k h. holds_bit c.args.g.now c.args.roots.now c.args.bit c.node_of_bit.result k c.node_of_bit.ensures.node c.node_of_bit.ensures.in_range (h ∙ live)) (reads_same g.D.Disk c.args.cache.now) refl c.bit_of_node.ensures.cause c.in_err-used.was c.from_residual.ensures

pub returns-clause-bit : goal.returns-clause-bit
returns-clause-bit g c = λ tells.
    let external = sym c.is_inline.ensures ∙ c.if-is_inline.false in
    let place = c.live_block-block.ensures.place ∙ ap (live_place c.args.g.now c.args.roots.now) c.node_of_bit.ensures.node in
    let at = ap (λ (n : ℕ). c.args.bit % n) c.node_bits.ensures.count in
    c.in_ok-used.ensures.bit tells ∙ (λ i. bit_in 16 (content_in g.D.Disk c.args.cache.now (place i)) (at i)) ∙ sym (in_node c.args.g.now c.args.roots.now (content_in g.D.Disk c.args.cache.now) c.args.bit external)

pub returns-clause-cause : goal.returns-clause-cause
returns-clause-cause g c = why_passed g.D.Disk (HoldsBit c.args.g.now c.args.roots.now c.args.bit) _ _ _ c.in_ok-used.ensures.cause.passed

pub returns-then-is_inline-clause-inline : goal.returns-then-is_inline-clause-inline
returns-then-is_inline-clause-inline g c = λ inline. (refl, refl)

pub returns-in_err-used-clause-inline : goal.returns-in_err-used-clause-inline
returns-in_err-used-clause-inline g c = λ inline. absurd (cc (c.is_inline.ensures, c.if-is_inline.false, inline))

pub returns-clause-inline : goal.returns-clause-inline
returns-clause-inline g c = λ inline. absurd (cc (c.is_inline.ensures, c.if-is_inline.false, inline))

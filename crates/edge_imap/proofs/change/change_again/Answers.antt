use Rattle.std.proofs.Common.{◌≡◌, ℕ, ◌*◌, ◌-◌, ◌%◌, refl, ap, subst, ◌∙◌, arith}
use Rattle.edge_base.specs.layout.Bitmap.{live_place}
use Rattle.edge_base.specs.layout.Bytes.{number_at}
use Rattle.edge_base.specs.layout.Sizes.{node_bits}
use Rattle.edge_cache.specs.Calls.{content_in}
use Rattle.edge_imap.specs.Bitmaps.{HoldsBit, node_of}
use Rattle.edge_imap.specs.Reading.{OnlyWrites}
use Rattle.edge_imap.proofs.BitLaws.{long_blocks, rest_inside, holds_bit, node_changes, node_with_bit}
use Rattle.edge_imap.proofs.CallLaws.{reads_same, why_passed, why_after}
use Rattle.edge_imap.proofs.TieLaws.{on_err, bit_within, change_at}
use Rattle.edge_imap.proofs.change.change_again.Goals as goal

pub nonzero_rem-change : goal.nonzero_rem-change
nonzero_rem-change g c = let long = long_blocks c.args.g.now.block_size c.node_of_bit.ensures.limits.block_size in omega (arith, c.node_bits.ensures.count, long.least)

pub change_bit-requires-clause-in_range : goal.change_bit-requires-clause-in_range
change_bit-requires-clause-in_range g c = omega (arith, c.live_block-block.ensures.in_range, c.requires.fits.blocks)

pub change_bit-requires-clause-inside : goal.change_bit-requires-clause-inside
change_bit-requires-clause-inside g c = let long = long_blocks c.args.g.now.block_size c.node_of_bit.ensures.limits.block_size in
    rest_inside c.args.change.bit c.node_bits.result c.args.g.now.block_size _ long c.node_bits.ensures.count c.requires.fits.size

pub returns-in_err-change_bit-clause-fault : goal.returns-in_err-change_bit-clause-fault
returns-in_err-change_bit-clause-fault g c = on_err c.from_residual.result c.in_err-change_bit.ensures.fault

pub returns-in_err-change_bit-clause-cause : goal.returns-in_err-change_bit-clause-cause
returns-in_err-change_bit-clause-cause g c =
    why_after g.D.Disk (λ k. k ≡ c.live_block-block.result) (HoldsBit c.args.g.now c.args.working.now c.args.change.bit) c.args.cache.now c.args.cache.now c.change_bit.new.cache c.change_bit.result _ c.in_err-change_bit.field-0.0
    (λ k h. holds_bit c.args.g.now c.args.working.now c.args.change.bit c.node_of_bit.result k c.node_of_bit.ensures.node c.node_of_bit.ensures.in_range (h ∙ c.live_block-block.ensures.place)) (reads_same g.D.Disk c.args.cache.now) refl c.change_bit.ensures.cause c.in_err-change_bit.was c.from_residual.ensures

pub returns-clause-writes : goal.returns-clause-writes
returns-clause-writes g c =
    let place = c.live_block-block.ensures.place ∙ ap (live_place c.args.g.now c.args.working.now) c.node_of_bit.ensures.node in
    subst (λ (b : ℕ). OnlyWrites g.D.Disk b c.args.cache.now c.change_bit.new.cache) place c.in_ok-change_bit.ensures.writes

pub returns-clause-cause : goal.returns-clause-cause
returns-clause-cause g c = why_passed g.D.Disk (HoldsBit c.args.g.now c.args.working.now c.args.change.bit) _ _ _ c.in_ok-change_bit.ensures.cause.passed

pub returns-clause-bits : goal.returns-clause-bits
returns-clause-bits g c = λ tells.
    let geometry = c.args.g.now in
    let long = long_blocks geometry.block_size c.node_of_bit.ensures.limits.block_size in
    let place = c.live_block-block.ensures.place ∙ ap (live_place geometry c.args.working.now) c.node_of_bit.ensures.node in
    let old = content_in g.D.Disk c.args.cache.now in
    let new = content_in g.D.Disk c.change_bit.new.cache in
    let change = change_at _ (node_bits geometry.block_size) _ (c.args.change.bit % node_bits geometry.block_size) c.live_block-block.result _ c.live_block-block.result _ c.args.change.used old new
    (ap (λ (n : ℕ). 8 * (n - 16)) c.requires.fits.size) (ap (λ (n : ℕ). c.args.change.bit % n) c.node_bits.ensures.count) place place (c.in_ok-change_bit.ensures.bits tells) in
    node_changes geometry c.args.working.now c.args.working.now old new c.args.change.bit c.args.change.used c.requires.external (omega (arith, long.least)) (λ j far. refl)
    (λ k far. c.in_ok-change_bit.ensures.writes.contents tells k (λ e. far (e ∙ place))) change

pub returns-clause-node : goal.returns-clause-node
returns-clause-node g c = λ tells was.
    let geometry = c.args.g.now in
    let long = long_blocks geometry.block_size c.node_of_bit.ensures.limits.block_size in
    let place = c.live_block-block.ensures.place ∙ ap (live_place geometry c.args.working.now) c.node_of_bit.ensures.node in
    let old = content_in g.D.Disk c.args.cache.now in
    let new = content_in g.D.Disk c.change_bit.new.cache in
    let change = change_at _ (node_bits geometry.block_size) _ (c.args.change.bit % node_bits geometry.block_size) c.live_block-block.result _ c.live_block-block.result _ c.args.change.used old new
    (ap (λ (n : ℕ). 8 * (n - 16)) c.requires.fits.size) (ap (λ (n : ℕ). c.args.change.bit % n) c.node_bits.ensures.count) place place (c.in_ok-change_bit.ensures.bits tells) in
    node_with_bit geometry (node_of geometry c.args.change.bit) (c.args.change.bit % node_bits geometry.block_size) c.args.change.used _ _ (bit_within geometry c.args.change.bit long c.requires.bit) change was

pub returns-clause-sequence : goal.returns-clause-sequence
returns-clause-sequence g c = λ tells.
    let place = c.live_block-block.ensures.place ∙ ap (live_place c.args.g.now c.args.working.now) c.node_of_bit.ensures.node in
    subst (λ (b : ℕ). number_at 8 8 (content_in g.D.Disk c.change_bit.new.cache b) ≡ number_at 8 8 (content_in g.D.Disk c.args.cache.now b)) place (c.in_ok-change_bit.ensures.sequence tells)

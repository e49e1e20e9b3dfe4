use Rattle.std.proofs.Common.{◌≡◌, ℕ, ◌*◌, ◌-◌, ◌%◌, Bool, refl, sym, ap, subst, ◌∙◌, arith}
use Rattle.std.specs.Prelude.{not}
use Rattle.edge_base.specs.layout.Bitmap.{live_place}
use Rattle.edge_base.specs.layout.Bytes.{bit_in, number_at}
use Rattle.edge_base.specs.layout.Places.{imap_place_of}
use Rattle.edge_base.specs.layout.Sizes.{node_bits}
use Rattle.edge_cache.specs.Calls.{content_in}
use Rattle.edge_imap.specs.Bitmaps.{HoldsBit, node_of, spare_place}
use Rattle.edge_imap.specs.Reading.{OnlyWrites}
use Rattle.edge_imap.proofs.BitLaws.{long_blocks, rest_inside, holds_bit, node_changes, node_with_bit}
use Rattle.edge_imap.proofs.CallLaws.{reads_same, why_passed, why_after}
use Rattle.edge_imap.proofs.TieLaws.{on_err, bit_within, change_at, roots_changed, root_bits_external}
use Rattle.edge_imap.proofs.change.change_first.Goals as goal

pub get-second-requires : goal.get-second-requires
get-second-requires g c = omega (arith, c.node_of_bit-node.ensures.in_range, c.requires.working.len, c.node_of_bit-node.ensures.fits)

pub nonzero_rem-at : goal.nonzero_rem-at
nonzero_rem-at g c = let long = long_blocks c.args.g.now.block_size c.node_of_bit-node.ensures.limits.block_size in omega (arith, c.node_bits.ensures.count, long.least)

pub copy_bit-requires-clause-from : goal.copy_bit-requires-clause-from
copy_bit-requires-clause-from g c = omega (arith, c.imap_place-from.ensures.before_table, c.node_of_bit-node.ensures.limits.room, c.requires.fits.blocks)

pub copy_bit-requires-clause-to : goal.copy_bit-requires-clause-to
copy_bit-requires-clause-to g c = omega (arith, c.imap_place-to.ensures.before_table, c.node_of_bit-node.ensures.limits.room, c.requires.fits.blocks)

pub copy_bit-requires-clause-inside : goal.copy_bit-requires-clause-inside
copy_bit-requires-clause-inside g c = let long = long_blocks c.args.g.now.block_size c.node_of_bit-node.ensures.limits.block_size in
    rest_inside c.args.change.bit c.node_bits.result c.args.g.now.block_size _ long c.node_bits.ensures.count c.requires.fits.size

pub returns-in_err-copy_bit-clause-fault : goal.returns-in_err-copy_bit-clause-fault
returns-in_err-copy_bit-clause-fault g c = on_err c.from_residual.result c.in_err-copy_bit.ensures.fault

pub returns-in_err-copy_bit-clause-unmoved : goal.returns-in_err-copy_bit-clause-unmoved
returns-in_err-copy_bit-clause-unmoved g c = on_err c.from_residual.result refl

pub returns-in_err-copy_bit-clause-cause : goal.returns-in_err-copy_bit-clause-cause
returns-in_err-copy_bit-clause-cause g c =
    let from = c.imap_place-from.ensures.place ∙ ap (imap_place_of c.args.g.now c.node_of_bit-node.result) c.get-second.ensures in
    why_after g.D.Disk (λ k. k ≡ c.imap_place-from.result) (HoldsBit c.args.g.now c.args.working.now c.args.change.bit) c.args.cache.now c.args.cache.now c.copy_bit.new.cache c.copy_bit.result _ c.in_err-copy_bit.field-0.0
    (λ k h. holds_bit c.args.g.now c.args.working.now c.args.change.bit c.node_of_bit-node.result k c.node_of_bit-node.ensures.node c.node_of_bit-node.ensures.in_range (h ∙ from)) (reads_same g.D.Disk c.args.cache.now) refl c.copy_bit.ensures.cause c.in_err-copy_bit.was c.from_residual.ensures

pub set-requires : goal.set-requires
set-requires g c = omega (arith, c.node_of_bit-node.ensures.in_range, c.requires.working.len, c.node_of_bit-node.ensures.fits)

pub returns-clause-roots : goal.returns-clause-roots
returns-clause-roots g c =
    roots_changed c.args.g.now c.args.working.now c.set.new.bytes c.node_of_bit-node.result c.requires.working c.set.auto.bytes c.set.ensures.others
    (omega (arith, c.node_of_bit-node.ensures.in_range, root_bits_external c.args.g.now c.requires.external))

pub returns-clause-turned : goal.returns-clause-turned
returns-clause-turned g c =
    ap (bit_in 0 c.set.new.bytes) (sym c.node_of_bit-node.ensures.node) ∙ c.set.ensures.here ∙ ap not (c.get-second.ensures ∙ ap (bit_in 0 c.args.working.now) c.node_of_bit-node.ensures.node)

pub returns-clause-stays : goal.returns-clause-stays
returns-clause-stays g c = λ j far. c.set.ensures.others j (λ e. far (e ∙ c.node_of_bit-node.ensures.node))

pub returns-clause-writes : goal.returns-clause-writes
returns-clause-writes g c =
    let to = c.imap_place-to.ensures.place ∙ ap (λ (t : Bool). imap_place_of c.args.g.now c.node_of_bit-node.result (not t)) c.get-second.ensures ∙ ap (spare_place c.args.g.now c.args.working.now) c.node_of_bit-node.ensures.node in
    subst (λ (b : ℕ). OnlyWrites g.D.Disk b c.args.cache.now c.copy_bit.new.cache) to c.in_ok-copy_bit.ensures.writes

pub returns-clause-cause : goal.returns-clause-cause
returns-clause-cause g c = why_passed g.D.Disk (HoldsBit c.args.g.now c.args.working.now c.args.change.bit) _ _ _ c.in_ok-copy_bit.ensures.cause.passed

pub returns-clause-bits : goal.returns-clause-bits
returns-clause-bits g c = λ tells.
    let geometry = c.args.g.now in
    let long = long_blocks geometry.block_size c.node_of_bit-node.ensures.limits.block_size in
    let node = c.node_of_bit-node.ensures.node in
    let from = c.imap_place-from.ensures.place ∙ ap (imap_place_of geometry c.node_of_bit-node.result) c.get-second.ensures ∙ ap (live_place geometry c.args.working.now) node in
    let to = c.imap_place-to.ensures.place ∙ ap (imap_place_of geometry c.node_of_bit-node.result) (sym c.set.ensures.here) ∙ ap (live_place geometry c.set.new.bytes) node in
    let old = content_in g.D.Disk c.args.cache.now in
    let new = content_in g.D.Disk c.copy_bit.new.cache in
    let change = change_at _ (node_bits geometry.block_size) _ (c.args.change.bit % node_bits geometry.block_size) c.imap_place-from.result _ c.imap_place-to.result _ c.args.change.used old new
    (ap (λ (n : ℕ). 8 * (n - 16)) c.requires.fits.size) (ap (λ (n : ℕ). c.args.change.bit % n) c.node_bits.ensures.count) from to (c.in_ok-copy_bit.ensures.bits tells) in
    node_changes geometry c.args.working.now c.set.new.bytes old new c.args.change.bit c.args.change.used c.requires.external (omega (arith, long.least)) (λ j far. c.set.ensures.others j (λ e. far (e ∙ node)))
    (λ k far. c.in_ok-copy_bit.ensures.writes.contents tells k (λ e. far (e ∙ to))) change

pub returns-clause-node : goal.returns-clause-node
returns-clause-node g c = λ tells was.
    let geometry = c.args.g.now in
    let long = long_blocks geometry.block_size c.node_of_bit-node.ensures.limits.block_size in
    let node = c.node_of_bit-node.ensures.node in
    let from = c.imap_place-from.ensures.place ∙ ap (imap_place_of geometry c.node_of_bit-node.result) c.get-second.ensures ∙ ap (live_place geometry c.args.working.now) node in
    let to = c.imap_place-to.ensures.place ∙ ap (λ (t : Bool). imap_place_of geometry c.node_of_bit-node.result (not t)) c.get-second.ensures ∙ ap (spare_place geometry c.args.working.now) node in
    let old = content_in g.D.Disk c.args.cache.now in
    let new = content_in g.D.Disk c.copy_bit.new.cache in
    let change = change_at _ (node_bits geometry.block_size) _ (c.args.change.bit % node_bits geometry.block_size) c.imap_place-from.result _ c.imap_place-to.result _ c.args.change.used old new
    (ap (λ (n : ℕ). 8 * (n - 16)) c.requires.fits.size) (ap (λ (n : ℕ). c.args.change.bit % n) c.node_bits.ensures.count) from to (c.in_ok-copy_bit.ensures.bits tells) in
    node_with_bit geometry (node_of geometry c.args.change.bit) (c.args.change.bit % node_bits geometry.block_size) c.args.change.used _ _ (bit_within geometry c.args.change.bit long c.requires.bit) change was

pub returns-clause-sequence : goal.returns-clause-sequence
returns-clause-sequence g c = λ tells.
    let to = c.imap_place-to.ensures.place ∙ ap (λ (t : Bool). imap_place_of c.args.g.now c.node_of_bit-node.result (not t)) c.get-second.ensures ∙ ap (spare_place c.args.g.now c.args.working.now) c.node_of_bit-node.ensures.node in
    ap (λ (b : ℕ). number_at 8 8 (content_in g.D.Disk c.copy_bit.new.cache b)) (sym to) ∙ c.in_ok-copy_bit.ensures.sequence tells

use Rattle.std.proofs.Common.{◌≡◌, ◌⊎◌, ℕ, ◌+◌, ◌-◌, ◌*◌, ◌/◌, ◌<◌, max, min, inl, inr, ⊎_elim, refl, sym, ap, subst, ◌∙◌, arith}
use Rattle.std.specs.Prelude.{not, ◌&&◌}
use Rattle.edge_base.specs.layout.Bytes.{bit_in}
use Rattle.edge_base.specs.layout.Places.{imap_nodes_of}
use Rattle.edge_base.specs.layout.Sizes.{node_bits}
use Rattle.edge_bits.specs.Bits.{NonePasses}
use Rattle.edge_cache.specs.Calls.{content_in}
use Rattle.edge_imap.specs.Bitmaps.{IsLiveUnder, first_bit, bits_of, is_free_under}
use Rattle.edge_imap.specs.Search.{IsNext, is_clear_in}
use Rattle.edge_imap.proofs.BitLaws.{long_blocks, bit_in_node}
use Rattle.edge_imap.proofs.CallLaws.{reads_same, why_passed, why_after}
use Rattle.edge_imap.proofs.SearchLaws.{window_empty, window_next, window_none}
use Rattle.edge_imap.proofs.search.search_node.Goals as goal

pub nonzero_div-node : goal.nonzero_div-node
nonzero_div-node g c = let long = long_blocks c.args.g.now.block_size c.request-within_limits.ensures.limits.block_size in omega (arith, c.node_bits-per_node.ensures.count, long.least)

pub overflow_mul-start : goal.overflow_mul-start
overflow_mul-start g c =
    let p = c.node_bits-per_node.result in
    let long = long_blocks c.args.g.now.block_size c.request-within_limits.ensures.limits.block_size in
    let some : 0 < p = omega (arith, c.node_bits-per_node.ensures.count, long.least) in
    record { fits = omega (arith, some, c.ranges.from.fits) }

pub window_of-w-requires : goal.window_of-w-requires
window_of-w-requires g c = record { node = subst (λ (n : ℕ). c.args.from / n < imap_nodes_of c.args.g.now) (sym c.node_bits-per_node.ensures.count) c.requires.from }

pub returns-then-w-eq0-clause-found : goal.returns-then-w-eq0-clause-found
returns-then-w-eq0-clause-found g c = λ tells.
    let geometry = c.args.g.now in
    let j = c.args.from / c.node_bits-per_node.result in
    let free = is_free_under geometry c.args.committed.now c.args.working.now (content_in g.D.Disk c.args.cache.now) in
    subst (λ (n : ℕ). NonePasses free (max (first_bit geometry) (c.args.from / n * node_bits geometry.block_size)) (min (c.args.from / n * node_bits geometry.block_size + node_bits geometry.block_size) (bits_of geometry))) c.node_bits-per_node.ensures.count
    (window_empty geometry j c.window_of-w.result.first c.window_of-w.result.len free c.window_of-w.ensures c.if-w-eq0.true)

pub returns-then-w-eq0-clause-reads : goal.returns-then-w-eq0-clause-reads
returns-then-w-eq0-clause-reads g c = reads_same g.D.Disk c.args.cache.now

pub returns-then-w-eq0-clause-cause : goal.returns-then-w-eq0-clause-cause
returns-then-w-eq0-clause-cause g c = why_passed g.D.Disk (IsLiveUnder c.args.g.now c.args.committed.now c.args.working.now) _ _ _ refl

pub overflow_sub-from : goal.overflow_sub-from
overflow_sub-from g c =
    let p = c.node_bits-per_node.result in
    let long = long_blocks c.args.g.now.block_size c.request-within_limits.ensures.limits.block_size in
    let some : 0 < p = omega (arith, c.node_bits-per_node.ensures.count, long.least) in
    omega (arith, some)

pub next_of_pair-requires-clause-inside : goal.next_of_pair-requires-clause-inside
next_of_pair-requires-clause-inside g c = omega (arith, c.window_of-w.ensures.ends, c.requires.fits.size)

pub next_of_pair-requires-clause-most : goal.next_of_pair-requires-clause-most
next_of_pair-requires-clause-most g c = let long = long_blocks c.args.g.now.block_size c.request-within_limits.ensures.limits.block_size in omega (arith, c.requires.fits.size, long.most)

pub returns-in_err-i-clause-cause : goal.returns-in_err-i-clause-cause
returns-in_err-i-clause-cause g c =
    let node = c.args.from / c.node_bits-per_node.result in
    let low : node < imap_nodes_of c.args.g.now = subst (λ (n : ℕ). c.args.from / n < imap_nodes_of c.args.g.now) (sym c.node_bits-per_node.ensures.count) c.requires.from in
    why_after g.D.Disk (λ k. (k ≡ c.live_block-live.result) ⊎ (k ≡ c.live_block-next.result)) (IsLiveUnder c.args.g.now c.args.committed.now c.args.working.now) c.args.cache.now c.args.cache.now c.next_of_pair.new.cache c.next_of_pair.result _ c.in_err-i.field-0.0
    (λ k h. ⊎_elim (λ e. inl (node, low, e ∙ c.live_block-live.ensures.place)) (λ e. inr (node, low, e ∙ c.live_block-next.ensures.place)) h)
    (reads_same g.D.Disk c.args.cache.now) refl c.next_of_pair.ensures.cause c.in_err-i.was c.from_residual.ensures

pub overflow_add-result : goal.overflow_add-result
overflow_add-result g c =
    let p = c.node_bits-per_node.result in
    let start : c.args.from / p * node_bits c.args.g.now.block_size ≡ c.args.from / p * p = ap (λ (n : ℕ). c.args.from / p * n) (sym c.node_bits-per_node.ensures.count) in
    let bound = rw c.in-Some.is at c.in_ok-i.ensures.bound in
    record { fits = omega (arith, start, bound.1, c.window_of-w.ensures.ends, c.request-within_limits.ensures.limits.blocks) }

pub returns-in-Some-clause-bound : goal.returns-in-Some-clause-bound
returns-in-Some-clause-bound g c =
    let p = c.node_bits-per_node.result in
    let start : c.args.from / p * node_bits c.args.g.now.block_size ≡ c.args.from / p * p = ap (λ (n : ℕ). c.args.from / p * n) (sym c.node_bits-per_node.ensures.count) in
    let bound = rw c.in-Some.is at c.in_ok-i.ensures.bound in
    (omega (arith, start, bound.0, bound.1, c.window_of-w.ensures.begins, c.window_of-w.ensures.ends), omega (arith, start, bound.1, c.window_of-w.ensures.ends))

pub returns-in-Some-clause-found : goal.returns-in-Some-clause-found
returns-in-Some-clause-found g c = λ tells.
    let geometry = c.args.g.now in
    let content = content_in g.D.Disk c.args.cache.now in
    let p = c.node_bits-per_node.result in
    let j = c.args.from / p in
    let free = is_free_under geometry c.args.committed.now c.args.working.now content in
    let bits = is_clear_in (content c.live_block-live.result) (content c.live_block-next.result) in
    let same : (k : ℕ) → k < node_bits geometry.block_size → free (j * node_bits geometry.block_size + k) ≡ bits k = λ k low.
    let one = bit_in_node geometry c.args.committed.now content j k c.requires.external low ∙ ap (λ (b : ℕ). bit_in 16 (content b) k) (sym c.live_block-live.ensures.place) in
    let two = bit_in_node geometry c.args.working.now content j k c.requires.external low ∙ ap (λ (b : ℕ). bit_in 16 (content b) k) (sym c.live_block-next.ensures.place) in
    λ i. not (one i) && not (two i) in
    let start : j * p ≡ j * node_bits geometry.block_size = ap (λ (n : ℕ). j * n) c.node_bits-per_node.ensures.count in
    let found = subst (λ (s : ℕ). IsNext bits c.window_of-w.result.first (c.window_of-w.result.first + c.window_of-w.result.len) (c.args.from - s) c.in-Some.i) start (rw c.in-Some.is at (c.in_ok-i.ensures.found tells)) in
    subst (λ (n : ℕ). IsNext free (max (first_bit geometry) (c.args.from / n * node_bits geometry.block_size)) (min (c.args.from / n * node_bits geometry.block_size + node_bits geometry.block_size) (bits_of geometry)) c.args.from (j * p + c.in-Some.i)) c.node_bits-per_node.ensures.count
    (subst (λ (s : ℕ). IsNext free (max (first_bit geometry) (j * node_bits geometry.block_size)) (min (j * node_bits geometry.block_size + node_bits geometry.block_size) (bits_of geometry)) c.args.from (s + c.in-Some.i)) (sym start)
    (window_next geometry j c.window_of-w.result.first c.window_of-w.result.len free bits c.window_of-w.ensures (omega (arith, c.if-w-eq0.false)) same c.args.from c.in-Some.i found))

pub returns-in-Some-clause-cause : goal.returns-in-Some-clause-cause
returns-in-Some-clause-cause g c = why_passed g.D.Disk (IsLiveUnder c.args.g.now c.args.committed.now c.args.working.now) _ _ _ c.in_ok-i.ensures.cause.passed

pub returns-in-None-clause-found : goal.returns-in-None-clause-found
returns-in-None-clause-found g c = λ tells.
    let geometry = c.args.g.now in
    let content = content_in g.D.Disk c.args.cache.now in
    let p = c.node_bits-per_node.result in
    let j = c.args.from / p in
    let free = is_free_under geometry c.args.committed.now c.args.working.now content in
    let bits = is_clear_in (content c.live_block-live.result) (content c.live_block-next.result) in
    let same : (k : ℕ) → k < node_bits geometry.block_size → free (j * node_bits geometry.block_size + k) ≡ bits k = λ k low.
    let one = bit_in_node geometry c.args.committed.now content j k c.requires.external low ∙ ap (λ (b : ℕ). bit_in 16 (content b) k) (sym c.live_block-live.ensures.place) in
    let two = bit_in_node geometry c.args.working.now content j k c.requires.external low ∙ ap (λ (b : ℕ). bit_in 16 (content b) k) (sym c.live_block-next.ensures.place) in
    λ i. not (one i) && not (two i) in
    let found = rw c.in-None.is at (c.in_ok-i.ensures.found tells) in
    subst (λ (n : ℕ). NonePasses free (max (first_bit geometry) (c.args.from / n * node_bits geometry.block_size)) (min (c.args.from / n * node_bits geometry.block_size + node_bits geometry.block_size) (bits_of geometry))) c.node_bits-per_node.ensures.count
    (window_none geometry j c.window_of-w.result.first c.window_of-w.result.len free bits c.window_of-w.ensures (omega (arith, c.if-w-eq0.false)) same found)

pub returns-in-None-clause-cause : goal.returns-in-None-clause-cause
returns-in-None-clause-cause g c = why_passed g.D.Disk (IsLiveUnder c.args.g.now c.args.committed.now c.args.working.now) _ _ _ c.in_ok-i.ensures.cause.passed

use Rattle.std.proofs.Common.{◌≡◌, ℕ, ◌+◌, ◌*◌, ◌/◌, max, min, List, refl, sym, ap, subst, ◌∙◌, arith}
use Rattle.std.proofs.Math.Nat.{mul-le-mul_left}
use Rattle.edge_base.specs.layout.Sizes.{node_bits}
use Rattle.edge_bits.specs.Bits.{NonePasses}
use Rattle.edge_cache.specs.Calls.{content_in}
use Rattle.edge_disk.specs.Disk.{Origin}
use Rattle.edge_imap.specs.Bitmaps.{IsFit, IsLiveUnder, node_of, first_bit, bits_of, is_free_under}
use Rattle.edge_imap.specs.Search.{Finds}
use Rattle.edge_imap.proofs.BitLaws.{long_blocks, node_start}
use Rattle.edge_imap.proofs.CallLaws.{reads_same, reads_after, why_passed, why_after, shows_on}
use Rattle.edge_imap.proofs.SearchLaws.{node_found, node_passed}
use Rattle.edge_imap.proofs.search.search_nodes.Goals as goal

pub loop-node-init : goal.loop-node-init
loop-node-init g c = record { reads = reads_same g.D.Disk c.args.cache.now; passed = refl; none = λ tells k on lt. absurd (omega arith) }

pub overflow_mul-node : goal.overflow_mul-node
overflow_mul-node g c =
    let bound = mul-le-mul_left c.loop-node.node c.node_bits-per_node.ensures.most in
    record { fits = omega (arith, bound, c.loop-node-test.true, c.requires.nodes, c.imap_nodes.ensures.count, c.imap_nodes.ensures.most) }

pub search_node-requires-clause-fits : goal.search_node-requires-clause-fits
search_node-requires-clause-fits g c = subst (λ (o : Origin). IsFit c.args.g.now o) (sym c.loop-node.invariant.reads.origin) c.requires.fits

pub search_node-requires-clause-from : goal.search_node-requires-clause-from
search_node-requires-clause-from g c =
    let count = c.node_bits-per_node.ensures.count in
    let long = long_blocks c.args.g.now.block_size c.request-within_limits.ensures.limits.block_size in
    let at : c.loop-node.node * c.node_bits-per_node.result / node_bits c.args.g.now.block_size ≡ c.loop-node.node = ap (λ (n : ℕ). c.loop-node.node * n / node_bits c.args.g.now.block_size) count ∙ node_start c.loop-node.node (node_bits c.args.g.now.block_size) (omega (arith, long.least)) in
    omega (arith, at, c.loop-node-test.true, c.requires.nodes)

pub returns-in_err-found-clause-reads : goal.returns-in_err-found-clause-reads
returns-in_err-found-clause-reads g c = reads_after g.D.Disk _ _ _ c.loop-node.invariant.reads c.search_node.ensures.reads

pub returns-in_err-found-clause-cause : goal.returns-in_err-found-clause-cause
returns-in_err-found-clause-cause g c =
    let live = IsLiveUnder c.args.g.now c.args.committed.now c.args.working.now in
    why_after g.D.Disk live live c.args.cache.now c.loop-node.cache c.search_node.new.cache c.search_node.result _ c.in_err-found.field-0.0 (λ k h. h) c.loop-node.invariant.reads c.loop-node.invariant.passed
    c.search_node.ensures.cause c.in_err-found.was c.from_residual.ensures

pub returns-then-is_some-clause-found : goal.returns-then-is_some-clause-found
returns-then-is_some-clause-found g c = λ tells.
    let d = g.D.Disk in
    let geometry = c.args.g.now in
    let node = c.loop-node.node in
    let nb = node_bits geometry.block_size in
    let long = long_blocks geometry.block_size c.request-within_limits.ensures.limits.block_size in
    let count = ap (λ (n : ℕ). node * n) c.node_bits-per_node.ensures.count in
    let at : node * c.node_bits-per_node.result / node_bits geometry.block_size ≡ node = ap (λ (m : ℕ). m / node_bits geometry.block_size) count ∙ node_start node (node_bits geometry.block_size) (omega (arith, long.least)) in
    let was = c.loop-node.invariant in
    let old = content_in d c.args.cache.now in
    let same : content_in d c.loop-node.cache ≡ old = λ z k. was.reads.contents tells k z in
    let free = is_free_under geometry c.args.committed.now c.args.working.now old in
    let low = first_bit geometry in
    let found = subst (λ (n : ℕ). Finds free (max low (n * nb)) (min (n * nb + nb) (bits_of geometry)) (node * c.node_bits-per_node.result) c.in_ok-found.found) at
    (subst (λ (f : ℕ → List ℕ). Finds (is_free_under geometry c.args.committed.now c.args.working.now f) (max low (node_of geometry (node * c.node_bits-per_node.result) * nb)) (min (node_of geometry (node * c.node_bits-per_node.result) * nb + nb) (bits_of geometry)) (node * c.node_bits-per_node.result) c.in_ok-found.found) same
    (c.in_ok-found.ensures.found (shows_on d c.args.cache.now c.loop-node.cache was.reads.origin tells))) in
    node_found free low (bits_of geometry) nb c.args.nodes.start node c.loop-node.auto.node (was.none tells) c.args.nodes.end (node * c.node_bits-per_node.result) c.in_ok-found.found (omega (arith, c.loop-node-test.true)) (omega (arith, count))
    (sym c.is_some.ensures ∙ c.if-is_some.true) found

pub returns-then-is_some-clause-reads : goal.returns-then-is_some-clause-reads
returns-then-is_some-clause-reads g c = reads_after g.D.Disk _ _ _ c.loop-node.invariant.reads c.search_node.ensures.reads

pub returns-then-is_some-clause-cause : goal.returns-then-is_some-clause-cause
returns-then-is_some-clause-cause g c = why_passed g.D.Disk (IsLiveUnder c.args.g.now c.args.committed.now c.args.working.now) _ _ _ (c.in_ok-found.ensures.cause.passed ∙ c.loop-node.invariant.passed)

pub loop-node-preserved : goal.loop-node-preserved
loop-node-preserved g c = record {
  reads = reads_after g.D.Disk _ _ _ c.loop-node.invariant.reads c.search_node.ensures.reads;
  passed = c.in_ok-found.ensures.cause.passed ∙ c.loop-node.invariant.passed;
  none = λ tells.
      let d = g.D.Disk in
      let geometry = c.args.g.now in
      let node = c.loop-node.node in
      let nb = node_bits geometry.block_size in
      let long = long_blocks geometry.block_size c.request-within_limits.ensures.limits.block_size in
      let count = ap (λ (n : ℕ). node * n) c.node_bits-per_node.ensures.count in
      let at : node * c.node_bits-per_node.result / node_bits geometry.block_size ≡ node = ap (λ (m : ℕ). m / node_bits geometry.block_size) count ∙ node_start node (node_bits geometry.block_size) (omega (arith, long.least)) in
      let was = c.loop-node.invariant in
      let old = content_in d c.args.cache.now in
      let same : content_in d c.loop-node.cache ≡ old = λ z k. was.reads.contents tells k z in
      let free = is_free_under geometry c.args.committed.now c.args.working.now old in
      let low = first_bit geometry in
      let found = subst (λ (n : ℕ). Finds free (max low (n * nb)) (min (n * nb + nb) (bits_of geometry)) (node * c.node_bits-per_node.result) c.in_ok-found.found) at
      (subst (λ (f : ℕ → List ℕ). Finds (is_free_under geometry c.args.committed.now c.args.working.now f) (max low (node_of geometry (node * c.node_bits-per_node.result) * nb)) (min (node_of geometry (node * c.node_bits-per_node.result) * nb + nb) (bits_of geometry)) (node * c.node_bits-per_node.result) c.in_ok-found.found) same
      (c.in_ok-found.ensures.found (shows_on d c.args.cache.now c.loop-node.cache was.reads.origin tells))) in
      node_passed free low (bits_of geometry) nb c.args.nodes.start node c.loop-node.auto.node (was.none tells) (node * c.node_bits-per_node.result) c.in_ok-found.found (sym c.is_some.ensures ∙ c.if-is_some.false) found;
}

pub returns-clause-found : goal.returns-clause-found
returns-clause-found g c = λ tells.
    let end : c.loop-node.node ≡ c.args.nodes.end = omega (arith, c.loop-node-test.false, c.loop-node.auto.node-end) in
    subst (λ (n : ℕ). NonePasses (is_free_under c.args.g.now c.args.committed.now c.args.working.now (content_in g.D.Disk c.args.cache.now)) (max (first_bit c.args.g.now) (c.args.nodes.start * node_bits c.args.g.now.block_size)) (min (n * node_bits c.args.g.now.block_size) (bits_of c.args.g.now))) end
    (c.loop-node.invariant.none tells)

pub returns-clause-cause : goal.returns-clause-cause
returns-clause-cause g c = why_passed g.D.Disk (IsLiveUnder c.args.g.now c.args.committed.now c.args.working.now) _ _ _ c.loop-node.invariant.passed

use Rattle.std.proofs.Common.{◌≡◌, ℕ, ◌+◌, ◌*◌, ◌/◌, ◌<◌, ◌≤◌, max, min, List, refl, sym, subst, ◌∙◌, arith}
use Rattle.edge_base.specs.layout.Places.{imap_nodes_of}
use Rattle.edge_base.specs.layout.Sizes.{node_bits}
use Rattle.edge_cache.specs.Calls.{content_in}
use Rattle.edge_disk.specs.Disk.{Origin}
use Rattle.edge_imap.specs.Bitmaps.{IsFit, IsLiveUnder, first_bit, bits_of, is_free_under}
use Rattle.edge_imap.specs.Search.{Finds, FindsLeast}
use Rattle.edge_imap.proofs.BitLaws.{long_blocks}
use Rattle.edge_imap.proofs.CallLaws.{reads_same, reads_after, why_passed, why_after, shows_on}
use Rattle.edge_imap.proofs.SearchLaws.{here_found, none_here, after_found, after_none, before_found, before_none}
use Rattle.edge_imap.proofs.search.search_round.Goals as goal

pub search_node-requires-clause-from : goal.search_node-requires-clause-from
search_node-requires-clause-from g c = subst (λ (n : ℕ). n < imap_nodes_of c.args.g.now) c.node_of_bit-node.ensures.node c.node_of_bit-node.ensures.in_range

pub returns-in_err-here-clause-cause : goal.returns-in_err-here-clause-cause
returns-in_err-here-clause-cause g c =
    let live = IsLiveUnder c.args.g.now c.args.committed.now c.args.working.now in
    why_after g.D.Disk live live c.args.cache.now c.args.cache.now c.search_node.new.cache c.search_node.result _ c.in_err-here.field-0.0 (λ k h. h) (reads_same g.D.Disk c.args.cache.now) refl
    c.search_node.ensures.cause c.in_err-here.was c.from_residual.ensures

module _ (n from : ℕ) (some : 0 < n) where
  part_on : from / n * n ≤ from
  part_on = omega (arith, some)

  part_below : from < (from / n + 1) * n
  part_below = omega (arith, some)

pub returns-then-is_from-clause-found : goal.returns-then-is_from-clause-found
returns-then-is_from-clause-found g c = λ tells.
    let geometry = c.args.g.now in
    let nb = node_bits geometry.block_size in
    let long = long_blocks geometry.block_size c.node_of_bit-node.ensures.limits.block_size in
    let some : 0 < nb = omega (arith, long.least) in
    let free = is_free_under geometry c.args.committed.now c.args.working.now (content_in g.D.Disk c.args.cache.now) in
    let next : c.args.from / nb * nb + nb ≡ (c.args.from / nb + 1) * nb = omega arith in
    let here = subst (λ (e : ℕ). Finds free (max (first_bit geometry) (c.args.from / nb * nb)) (min e (bits_of geometry)) c.args.from c.in_ok-here.here) next (c.in_ok-here.ensures.found tells) in
    here_found free (first_bit geometry) (bits_of geometry) (c.args.from / nb * nb) ((c.args.from / nb + 1) * nb) c.args.from (part_on nb c.args.from some) (part_below nb c.args.from some) c.in_ok-here.here
    (sym c.is_from.ensures ∙ c.if-is_from.true) here

pub returns-then-is_from-clause-cause : goal.returns-then-is_from-clause-cause
returns-then-is_from-clause-cause g c = why_passed g.D.Disk (IsLiveUnder c.args.g.now c.args.committed.now c.args.working.now) _ _ _ c.in_ok-here.ensures.cause.passed

pub search_nodes-requires-clause-fits : goal.search_nodes-requires-clause-fits
search_nodes-requires-clause-fits g c = subst (λ (o : Origin). IsFit c.args.g.now o) (sym c.search_node.ensures.reads.origin) c.requires.fits

pub returns-in_err-after-clause-reads : goal.returns-in_err-after-clause-reads
returns-in_err-after-clause-reads g c = reads_after g.D.Disk _ _ _ c.search_node.ensures.reads c.search_nodes.ensures.reads

pub returns-in_err-after-clause-cause : goal.returns-in_err-after-clause-cause
returns-in_err-after-clause-cause g c =
    let live = IsLiveUnder c.args.g.now c.args.committed.now c.args.working.now in
    why_after g.D.Disk live live c.args.cache.now c.search_node.new.cache c.search_nodes.new.cache c.search_nodes.result _ c.in_err-after.field-0.0 (λ k h. h) c.search_node.ensures.reads c.in_ok-here.ensures.cause.passed
    c.search_nodes.ensures.cause c.in_err-after.was c.from_residual-in_err-after.ensures

pub returns-then-is_some-clause-found : goal.returns-then-is_some-clause-found
returns-then-is_some-clause-found g c = λ tells.
    let d = g.D.Disk in
    let geometry = c.args.g.now in
    let nb = node_bits geometry.block_size in
    let long = long_blocks geometry.block_size c.node_of_bit-node.ensures.limits.block_size in
    let some : 0 < nb = omega (arith, long.least) in
    let old = content_in d c.args.cache.now in
    let free = is_free_under geometry c.args.committed.now c.args.working.now old in
    let next : c.args.from / nb * nb + nb ≡ (c.args.from / nb + 1) * nb = omega arith in
    let here = subst (λ (e : ℕ). Finds free (max (first_bit geometry) (c.args.from / nb * nb)) (min e (bits_of geometry)) c.args.from c.in_ok-here.here) next (c.in_ok-here.ensures.found tells) in
    let none = none_here free (first_bit geometry) (bits_of geometry) (c.args.from / nb * nb) ((c.args.from / nb + 1) * nb) c.args.from (part_on nb c.args.from some) (part_below nb c.args.from some) c.in_ok-here.here (sym c.is_from.ensures ∙ c.if-is_from.false) here in
    let same : content_in d c.search_node.new.cache ≡ old = λ z k. c.search_node.ensures.reads.contents tells k z in
    let after = subst (λ (f : ℕ → List ℕ). FindsLeast (is_free_under geometry c.args.committed.now c.args.working.now f) (max (first_bit geometry) ((c.args.from / nb + 1) * nb)) (min (c.imap_nodes-end.result * nb) (bits_of geometry)) c.in_ok-after.after) same
    (subst (λ (n : ℕ). FindsLeast (is_free_under geometry c.args.committed.now c.args.working.now (content_in d c.search_node.new.cache)) (max (first_bit geometry) ((n + 1) * nb)) (min (c.imap_nodes-end.result * nb) (bits_of geometry)) c.in_ok-after.after) c.node_of_bit-node.ensures.node
    (c.in_ok-after.ensures.found (shows_on d c.args.cache.now c.search_node.new.cache c.search_node.ensures.reads.origin tells))) in
    after_found free (first_bit geometry) (bits_of geometry) (c.args.from / nb * nb) ((c.args.from / nb + 1) * nb) c.args.from (part_on nb c.args.from some) (part_below nb c.args.from some) (c.imap_nodes-end.result * nb) c.in_ok-after.after
    (sym c.is_some.ensures ∙ c.if-is_some.true) none after

pub returns-then-is_some-clause-reads : goal.returns-then-is_some-clause-reads
returns-then-is_some-clause-reads g c = reads_after g.D.Disk _ _ _ c.search_node.ensures.reads c.search_nodes.ensures.reads

pub returns-then-is_some-clause-cause : goal.returns-then-is_some-clause-cause
returns-then-is_some-clause-cause g c = why_passed g.D.Disk (IsLiveUnder c.args.g.now c.args.committed.now c.args.working.now) _ _ _ (c.in_ok-after.ensures.cause.passed ∙ c.in_ok-here.ensures.cause.passed)

pub search_nodes-requires-2-clause-fits : goal.search_nodes-requires-2-clause-fits
search_nodes-requires-2-clause-fits g c = subst (λ (o : Origin). IsFit c.args.g.now o) (sym (c.search_nodes.ensures.reads.origin ∙ c.search_node.ensures.reads.origin)) c.requires.fits

pub returns-in_err-before-clause-reads : goal.returns-in_err-before-clause-reads
returns-in_err-before-clause-reads g c = reads_after g.D.Disk _ _ _ (reads_after g.D.Disk _ _ _ c.search_node.ensures.reads c.search_nodes.ensures.reads) c.search_nodes-2.ensures.reads

pub returns-in_err-before-clause-cause : goal.returns-in_err-before-clause-cause
returns-in_err-before-clause-cause g c =
    let live = IsLiveUnder c.args.g.now c.args.committed.now c.args.working.now in
    why_after g.D.Disk live live c.args.cache.now c.search_nodes.new.cache c.search_nodes-2.new.cache c.search_nodes-2.result _ c.in_err-before.field-0.0 (λ k h. h) (reads_after g.D.Disk _ _ _ c.search_node.ensures.reads c.search_nodes.ensures.reads)
    (c.in_ok-after.ensures.cause.passed ∙ c.in_ok-here.ensures.cause.passed) c.search_nodes-2.ensures.cause c.in_err-before.was c.from_residual-in_err-before.ensures

pub returns-then-is_some-2-clause-reads : goal.returns-then-is_some-2-clause-reads
returns-then-is_some-2-clause-reads g c = reads_after g.D.Disk _ _ _ (reads_after g.D.Disk _ _ _ c.search_node.ensures.reads c.search_nodes.ensures.reads) c.search_nodes-2.ensures.reads

pub returns-then-is_some-2-clause-cause : goal.returns-then-is_some-2-clause-cause
returns-then-is_some-2-clause-cause g c = why_passed g.D.Disk (IsLiveUnder c.args.g.now c.args.committed.now c.args.working.now) _ _ _ (c.in_ok-before.ensures.cause.passed ∙ c.in_ok-after.ensures.cause.passed ∙ c.in_ok-here.ensures.cause.passed)

pub returns-clause-reads : goal.returns-clause-reads
returns-clause-reads g c = reads_after g.D.Disk _ _ _ (reads_after g.D.Disk _ _ _ c.search_node.ensures.reads c.search_nodes.ensures.reads) c.search_nodes-2.ensures.reads

pub returns-clause-cause : goal.returns-clause-cause
returns-clause-cause g c = why_passed g.D.Disk (IsLiveUnder c.args.g.now c.args.committed.now c.args.working.now) _ _ _ (c.in_ok-before.ensures.cause.passed ∙ c.in_ok-after.ensures.cause.passed ∙ c.in_ok-here.ensures.cause.passed)

pub returns-then-is_some-2-clause-found : goal.returns-then-is_some-2-clause-found
returns-then-is_some-2-clause-found g c = λ tells.
    let d = g.D.Disk in
    let geometry = c.args.g.now in
    let nb = node_bits geometry.block_size in
    let long = long_blocks geometry.block_size c.node_of_bit-node.ensures.limits.block_size in
    let some : 0 < nb = omega (arith, long.least) in
    let old = content_in d c.args.cache.now in
    let free = is_free_under geometry c.args.committed.now c.args.working.now old in
    let next : c.args.from / nb * nb + nb ≡ (c.args.from / nb + 1) * nb = omega arith in
    let here = subst (λ (e : ℕ). Finds free (max (first_bit geometry) (c.args.from / nb * nb)) (min e (bits_of geometry)) c.args.from c.in_ok-here.here) next (c.in_ok-here.ensures.found tells) in
    let none = none_here free (first_bit geometry) (bits_of geometry) (c.args.from / nb * nb) ((c.args.from / nb + 1) * nb) c.args.from (part_on nb c.args.from some) (part_below nb c.args.from some) c.in_ok-here.here (sym c.is_from.ensures ∙ c.if-is_from.false) here in
    let same : content_in d c.search_node.new.cache ≡ old = λ z k. c.search_node.ensures.reads.contents tells k z in
    let after = subst (λ (f : ℕ → List ℕ). FindsLeast (is_free_under geometry c.args.committed.now c.args.working.now f) (max (first_bit geometry) ((c.args.from / nb + 1) * nb)) (min (c.imap_nodes-end.result * nb) (bits_of geometry)) c.in_ok-after.after) same
    (subst (λ (n : ℕ). FindsLeast (is_free_under geometry c.args.committed.now c.args.working.now (content_in d c.search_node.new.cache)) (max (first_bit geometry) ((n + 1) * nb)) (min (c.imap_nodes-end.result * nb) (bits_of geometry)) c.in_ok-after.after) c.node_of_bit-node.ensures.node
    (c.in_ok-after.ensures.found (shows_on d c.args.cache.now c.search_node.new.cache c.search_node.ensures.reads.origin tells))) in
    let past = after_none free (first_bit geometry) (bits_of geometry) (c.args.from / nb * nb) ((c.args.from / nb + 1) * nb) c.args.from (part_on nb c.args.from some) (part_below nb c.args.from some) (c.imap_nodes-end.result * nb) c.in_ok-after.after
    (sym c.is_some.ensures ∙ c.if-is_some.false) (omega (arith, c.imap_nodes-end.ensures.enough c.requires.external, c.imap_nodes-end.ensures.count)) none after in
    let same_after : content_in d c.search_nodes.new.cache ≡ old = λ z k. (reads_after d _ _ _ c.search_node.ensures.reads c.search_nodes.ensures.reads).contents tells k z in
    let before = subst (λ (f : ℕ → List ℕ). FindsLeast (is_free_under geometry c.args.committed.now c.args.working.now f) (max (first_bit geometry) (0 * nb)) (min (c.args.from / nb * nb) (bits_of geometry)) c.in_ok-before.before) same_after
    (subst (λ (n : ℕ). FindsLeast (is_free_under geometry c.args.committed.now c.args.working.now (content_in d c.search_nodes.new.cache)) (max (first_bit geometry) (0 * nb)) (min (n * nb) (bits_of geometry)) c.in_ok-before.before) c.node_of_bit-node.ensures.node
    (c.in_ok-before.ensures.found (shows_on d c.args.cache.now c.search_nodes.new.cache (c.search_nodes.ensures.reads.origin ∙ c.search_node.ensures.reads.origin) tells))) in
    before_found free (first_bit geometry) (bits_of geometry) (c.args.from / nb * nb) ((c.args.from / nb + 1) * nb) c.args.from (part_on nb c.args.from some) (part_below nb c.args.from some) (0 * nb) c.in_ok-before.before (omega arith)
    (sym c.is_some-2.ensures ∙ c.if-is_some-2.true) past before

pub returns-clause-found : goal.returns-clause-found
returns-clause-found g c = λ tells.
    let d = g.D.Disk in
    let geometry = c.args.g.now in
    let nb = node_bits geometry.block_size in
    let long = long_blocks geometry.block_size c.node_of_bit-node.ensures.limits.block_size in
    let some : 0 < nb = omega (arith, long.least) in
    let old = content_in d c.args.cache.now in
    let free = is_free_under geometry c.args.committed.now c.args.working.now old in
    let next : c.args.from / nb * nb + nb ≡ (c.args.from / nb + 1) * nb = omega arith in
    let here = subst (λ (e : ℕ). Finds free (max (first_bit geometry) (c.args.from / nb * nb)) (min e (bits_of geometry)) c.args.from c.in_ok-here.here) next (c.in_ok-here.ensures.found tells) in
    let none = none_here free (first_bit geometry) (bits_of geometry) (c.args.from / nb * nb) ((c.args.from / nb + 1) * nb) c.args.from (part_on nb c.args.from some) (part_below nb c.args.from some) c.in_ok-here.here (sym c.is_from.ensures ∙ c.if-is_from.false) here in
    let same : content_in d c.search_node.new.cache ≡ old = λ z k. c.search_node.ensures.reads.contents tells k z in
    let after = subst (λ (f : ℕ → List ℕ). FindsLeast (is_free_under geometry c.args.committed.now c.args.working.now f) (max (first_bit geometry) ((c.args.from / nb + 1) * nb)) (min (c.imap_nodes-end.result * nb) (bits_of geometry)) c.in_ok-after.after) same
    (subst (λ (n : ℕ). FindsLeast (is_free_under geometry c.args.committed.now c.args.working.now (content_in d c.search_node.new.cache)) (max (first_bit geometry) ((n + 1) * nb)) (min (c.imap_nodes-end.result * nb) (bits_of geometry)) c.in_ok-after.after) c.node_of_bit-node.ensures.node
    (c.in_ok-after.ensures.found (shows_on d c.args.cache.now c.search_node.new.cache c.search_node.ensures.reads.origin tells))) in
    let past = after_none free (first_bit geometry) (bits_of geometry) (c.args.from / nb * nb) ((c.args.from / nb + 1) * nb) c.args.from (part_on nb c.args.from some) (part_below nb c.args.from some) (c.imap_nodes-end.result * nb) c.in_ok-after.after
    (sym c.is_some.ensures ∙ c.if-is_some.false) (omega (arith, c.imap_nodes-end.ensures.enough c.requires.external, c.imap_nodes-end.ensures.count)) none after in
    let same_after : content_in d c.search_nodes.new.cache ≡ old = λ z k. (reads_after d _ _ _ c.search_node.ensures.reads c.search_nodes.ensures.reads).contents tells k z in
    let before = subst (λ (f : ℕ → List ℕ). FindsLeast (is_free_under geometry c.args.committed.now c.args.working.now f) (max (first_bit geometry) (0 * nb)) (min (c.args.from / nb * nb) (bits_of geometry)) c.in_ok-before.before) same_after
    (subst (λ (n : ℕ). FindsLeast (is_free_under geometry c.args.committed.now c.args.working.now (content_in d c.search_nodes.new.cache)) (max (first_bit geometry) (0 * nb)) (min (n * nb) (bits_of geometry)) c.in_ok-before.before) c.node_of_bit-node.ensures.node
    (c.in_ok-before.ensures.found (shows_on d c.args.cache.now c.search_nodes.new.cache (c.search_nodes.ensures.reads.origin ∙ c.search_node.ensures.reads.origin) tells))) in
    before_none free (first_bit geometry) (bits_of geometry) (c.args.from / nb * nb) ((c.args.from / nb + 1) * nb) c.args.from (part_on nb c.args.from some) (part_below nb c.args.from some) (0 * nb) c.in_ok-before.before c.in_ok-here.here (omega arith)
    (sym c.is_some-2.ensures ∙ c.if-is_some-2.false) (sym c.is_from.ensures ∙ c.if-is_from.false) past before here

use Rattle.std.proofs.Common.{◌≡◌, ◌⊎◌, ℕ, drop, inl, inr, refl, sym, ap, ◌∙◌, arith}
use Rattle.edge_alloc.specs.Pairs.{is_free}
use Rattle.edge_cache.specs.Calls.{content_in}
use Rattle.edge_imap.specs.Search.{is_clear_in}
use Rattle.edge_imap.proofs.BitLaws.{bits_room}
use Rattle.edge_imap.proofs.CallLaws.{reads_same, reads_after, why_passed, why_after, shows_on}
use Rattle.edge_imap.proofs.SearchLaws.{finds_alike, finds_bound, clear_pair}
use Rattle.edge_imap.proofs.search.next_of_pair.Goals as goal

pub returns-in_err-read_node-clause-cause : goal.returns-in_err-read_node-clause-cause
returns-in_err-read_node-clause-cause g c =
    why_after g.D.Disk (λ k. k ≡ c.args.live) (λ k. (k ≡ c.args.live) ⊎ (k ≡ c.args.next)) c.args.cache.now c.args.cache.now c.read_node.new.cache c.read_node.result _ c.in_err-read_node.field-0.0 (λ k h. inl h) (reads_same g.D.Disk c.args.cache.now) refl
    c.read_node.ensures.cause c.in_err-read_node.was c.from_residual.ensures

pub next_in-requires-clause-committed : goal.next_in-requires-clause-committed
next_in-requires-clause-committed g c = bits_room c.args.w.first c.args.w.len _ c.read_node.new.out _ c.bits_of-bits.ensures (c.read_node.auto.out ∙ c.requires.one) c.requires.inside

pub next_in-requires-clause-working : goal.next_in-requires-clause-working
next_in-requires-clause-working g c = bits_room c.args.w.first c.args.w.len _ c.read_node.new.out _ c.bits_of-bits.ensures (c.read_node.auto.out ∙ c.requires.one) c.requires.inside

pub returns-then-next-live-clause-found : goal.returns-then-next-live-clause-found
returns-then-next-live-clause-found g c = λ tells.
    let content = content_in g.D.Disk c.args.cache.now in
    let one = c.bits_of-bits.ensures ∙ ap (drop 16) (c.in_ok-read_node.ensures.bytes tells) in
    let two = one ∙ ap (λ (b : ℕ). drop 16 (content b)) (sym c.if-next-live.true) in
    finds_alike (is_free c.bits_of-bits.result.now c.bits_of-bits.result.now) (is_clear_in (content c.args.live) (content c.args.next)) _ _ c.args.from c.next_in.result
    (λ k on lt. sym (clear_pair _ _ (content c.args.live) (content c.args.next) one two k)) c.next_in.ensures

pub returns-then-next-live-clause-bound : goal.returns-then-next-live-clause-bound
returns-then-next-live-clause-bound g c = finds_bound (is_free c.bits_of-bits.result.now c.bits_of-bits.result.now) c.args.w.first _ c.args.from c.next_in.result c.next_in.ensures

pub returns-then-next-live-clause-cause : goal.returns-then-next-live-clause-cause
returns-then-next-live-clause-cause g c = why_passed g.D.Disk (λ k. (k ≡ c.args.live) ⊎ (k ≡ c.args.next)) _ _ _ c.in_ok-read_node.ensures.cause.passed

pub read_node-requires-2-clause-in_range : goal.read_node-requires-2-clause-in_range
read_node-requires-2-clause-in_range g c = omega (arith, c.requires.next, ap (λ o. o.blocks) c.read_node.ensures.reads.origin)

pub read_node-requires-2-clause-whole : goal.read_node-requires-2-clause-whole
read_node-requires-2-clause-whole g c = c.requires.two ∙ sym (ap (λ o. o.block_size) c.read_node.ensures.reads.origin)

pub returns-in_err-read_node-2-clause-reads : goal.returns-in_err-read_node-2-clause-reads
returns-in_err-read_node-2-clause-reads g c = reads_after g.D.Disk _ _ _ c.read_node.ensures.reads c.read_node-2.ensures.reads

pub returns-in_err-read_node-2-clause-cause : goal.returns-in_err-read_node-2-clause-cause
returns-in_err-read_node-2-clause-cause g c =
    why_after g.D.Disk (λ k. k ≡ c.args.next) (λ k. (k ≡ c.args.live) ⊎ (k ≡ c.args.next)) c.args.cache.now c.read_node.new.cache c.read_node-2.new.cache c.read_node-2.result _ c.in_err-read_node-2.field-0.0 (λ k h. inr h) c.read_node.ensures.reads c.in_ok-read_node.ensures.cause.passed
    c.read_node-2.ensures.cause c.in_err-read_node-2.was c.from_residual-in_err-read_node-2.ensures

pub next_in-requires-2-clause-committed : goal.next_in-requires-2-clause-committed
next_in-requires-2-clause-committed g c = bits_room c.args.w.first c.args.w.len _ c.read_node.new.out _ c.bits_of.ensures (c.read_node.auto.out ∙ c.requires.one) c.requires.inside

pub next_in-requires-2-clause-working : goal.next_in-requires-2-clause-working
next_in-requires-2-clause-working g c = bits_room c.args.w.first c.args.w.len _ c.read_node-2.new.out _ c.bits_of-2.ensures (c.read_node-2.auto.out ∙ c.requires.two) c.requires.inside

pub returns-clause-found : goal.returns-clause-found
returns-clause-found g c = λ tells.
    let content = content_in g.D.Disk c.args.cache.now in
    let mid = c.read_node.new.cache in
    let one = c.bits_of.ensures ∙ ap (drop 16) (c.in_ok-read_node.ensures.bytes tells) in
    let two = c.bits_of-2.ensures ∙ ap (drop 16) (c.in_ok-read_node-2.ensures.bytes (shows_on g.D.Disk c.args.cache.now mid c.read_node.ensures.reads.origin tells) ∙ c.read_node.ensures.reads.contents tells c.args.next) in
    finds_alike (is_free c.bits_of.result.now c.bits_of-2.result.now) (is_clear_in (content c.args.live) (content c.args.next)) _ _ c.args.from c.next_in-2.result
    (λ k on lt. sym (clear_pair _ _ (content c.args.live) (content c.args.next) one two k)) c.next_in-2.ensures

pub returns-clause-bound : goal.returns-clause-bound
returns-clause-bound g c = finds_bound (is_free c.bits_of.result.now c.bits_of-2.result.now) c.args.w.first _ c.args.from c.next_in-2.result c.next_in-2.ensures

pub returns-clause-reads : goal.returns-clause-reads
returns-clause-reads g c = reads_after g.D.Disk _ _ _ c.read_node.ensures.reads c.read_node-2.ensures.reads

pub returns-clause-cause : goal.returns-clause-cause
returns-clause-cause g c = why_passed g.D.Disk (λ k. (k ≡ c.args.live) ⊎ (k ≡ c.args.next)) _ _ _ (c.in_ok-read_node-2.ensures.cause.passed ∙ c.in_ok-read_node.ensures.cause.passed)

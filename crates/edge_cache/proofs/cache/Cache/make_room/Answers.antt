use Rattle.std.proofs.Common.{◌≡◌, ◌∙◌, ◌<◌, ◌≤◌, ◌-◌, ℕ, false, length, take, set, sym, refl, ap, subst, arith}
use Rattle.std.proofs.lemmas.List.{get_or-set_same, take_all, length-set}
use Rattle.edge_cache.specs.declared.shelf.TheConstants.{BUFFERS}
use Rattle.edge_cache.specs.Kept.{Kept, made}
use Rattle.edge_cache.specs.Places.{nothing, kept_at, blocks_of}
use Rattle.edge_cache.specs.Given.{waiting}
use Rattle.edge_cache.specs.Cached.{Cached}
use Rattle.edge_cache.specs.Calls.{OnlyGivesUp}
use Rattle.edge_cache.proofs.GivenLaws.{length_blocks}
use Rattle.edge_cache.proofs.CacheLaws.{cache_stays, cache_written, cache_take, gives_take, blocks_take, blocks_set, keeps_taken, only_gives, only_same}
use Rattle.edge_cache.proofs.cache.Cache.make_room.Goals as goal

pub invariant_of-self : goal.invariant_of-self
invariant_of-self g c = cache_stays _ _ _ _ _ _ _ _ _ _ _ _ c.self.invariant c.write_at.ensures.origin c.write_at.ensures.size c.in_err-write_at.ensures.kept c.write_at.ensures.gives

pub invariant_of-self-then-len-eq-BUFFERS : goal.invariant_of-self-then-len-eq-BUFFERS
invariant_of-self-then-len-eq-BUFFERS g c =
    let mid = cache_written _ _ _ _ (BUFFERS - 1) _ _ _ _ _ _ _ _ c.self.invariant c.write_at.ensures.origin c.write_at.ensures.size (omega (arith, c.len.ensures.held, c.if-len-eq-BUFFERS.true)) c.in_ok-write_at.ensures.done c.write_at.ensures.gives in
    cache_take _ _ _ (length c.write_at.new.self.list - 1) _ c.write_at.new.self.list _ mid c.drop_last.ensures.size c.drop_last.ensures.list

pub returns-in_err-write_at-clause-only : goal.returns-in_err-write_at-clause-only
returns-in_err-write_at-clause-only g c =
    let d = g.D.Disk in
    let old : Cached g.row.D.Denot = record { disk = c.self.inside.disk; held = c.self.inside.shelf.list } in
    let new : Cached g.row.D.Denot = record { disk = c.write_at.new.disk; held = c.write_at.new.self.list } in
    subst (λ (v : Cached g.row.D.Denot). OnlyGivesUp d v new) c.self.view_is
    (only_gives d old new c.write_at.ensures.gives (λ k listed. ap (λ l. waiting l k) c.in_err-write_at.ensures.kept))

pub returns-in_ok-write_at-clause-only : goal.returns-in_ok-write_at-clause-only
returns-in_ok-write_at-clause-only g c =
    let d = g.D.Disk in
    let old : Cached g.row.D.Denot = record { disk = c.self.inside.disk; held = c.self.inside.shelf.list } in
    let new : Cached g.row.D.Denot = record { disk = c.write_at.new.disk; held = c.drop_last.new.self.list } in
    let list = c.self.inside.shelf.list in
    let written = c.write_at.new.self.list in
    let last = made (kept_at list (BUFFERS - 1)).block (kept_at list (BUFFERS - 1)).bytes false in
    let count : length list ≡ BUFFERS = omega (arith, c.len.ensures.held, c.if-len-eq-BUFFERS.true) in
    let there : BUFFERS - 1 < length list = omega (arith, count) in
    let done : written ≡ set list (BUFFERS - 1) last = c.in_ok-write_at.ensures.done in
    let len : length written ≡ BUFFERS = ap length done ∙ length-set list (BUFFERS - 1) last ∙ count in
    let off : (kept_at written (BUFFERS - 1)).changed ≡ false = ap (λ l. (kept_at l (BUFFERS - 1)).changed) done ∙ ap (λ (k : Kept). k.changed) (get_or-set_same list (BUFFERS - 1) last nothing there) in
    let gives = gives_take _ list written new.held (length written - 1) _ _ _ _ _ _ c.drop_last.ensures.list (λ i le lt. ap (λ (j : ℕ). (kept_at written j).changed) (omega arith) ∙ off) c.write_at.ensures.gives in
    let most : length written - 1 ≡ BUFFERS - 1 = omega (arith, len) in
    let taken : new.held ≡ take (BUFFERS - 1) (set list (BUFFERS - 1) last) = c.drop_last.ensures.list ∙ (λ i. take (most i) (done i)) in
    subst (λ (v : Cached g.row.D.Denot). OnlyGivesUp d v new) c.self.view_is
    (only_gives d old new gives (keeps_taken list new.held (BUFFERS - 1) last c.self.invariant.apart there refl taken))

pub returns-else-len-eq-BUFFERS-clause-only : goal.returns-else-len-eq-BUFFERS-clause-only
returns-else-len-eq-BUFFERS-clause-only g c = let d = g.D.Disk in only_same d c.args.self.now c.args.self.now refl (λ k. refl)

pub returns-in_ok-write_at-clause-list : goal.returns-in_ok-write_at-clause-list
returns-in_ok-write_at-clause-list g c =
    let list = c.self.inside.shelf.list in
    let count : length list ≡ BUFFERS = omega (arith, c.len.ensures.held, c.if-len-eq-BUFFERS.true) in
    let done = c.in_ok-write_at.ensures.done in
    let len : length c.write_at.new.self.list ≡ BUFFERS = ap length done ∙ length-set list (BUFFERS - 1) _ ∙ count in
    let last : length c.write_at.new.self.list - 1 ≡ (BUFFERS - 1) = omega (arith, len) in
    ap blocks_of c.drop_last.ensures.list ∙ ap (λ (n : ℕ). blocks_of (take n c.write_at.new.self.list)) last ∙ blocks_take c.write_at.new.self.list (BUFFERS - 1)
    ∙ ap (take (BUFFERS - 1)) (ap blocks_of done ∙ blocks_set list (BUFFERS - 1) _ (omega arith) refl) ∙ ap (λ v. take (BUFFERS - 1) (blocks_of v.held)) c.self.view_is

pub returns-else-len-eq-BUFFERS-clause-list : goal.returns-else-len-eq-BUFFERS-clause-list
returns-else-len-eq-BUFFERS-clause-list g c =
    let list = c.self.inside.shelf.list in
    let low : length (blocks_of list) ≤ (BUFFERS - 1) = omega (arith, c.len.ensures.held, c.len.ensures.most, c.if-len-eq-BUFFERS.false, length_blocks list) in
    let is = ap (λ v. blocks_of v.held) c.self.view_is in
    sym is ∙ sym (take_all (BUFFERS - 1) (blocks_of list) low) ∙ ap (take (BUFFERS - 1)) is

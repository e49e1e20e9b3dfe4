use Rattle.std.proofs.Common.{◌≡◌, ◌∙◌, ◌<◌, ◌+◌, ℕ, List, ◌∷◌, true, length, take, set, get_or, sym, ap, subst, arith, add-one, suc}
use Rattle.std.specs.List.{remove}
use Rattle.edge_cache.specs.declared.shelf.TheConstants.{BUFFERS}
use Rattle.edge_cache.specs.Kept.{Kept, made}
use Rattle.edge_cache.specs.Places.{kept_at, held_in, IsPlaced}
use Rattle.edge_cache.specs.Blocks.{marked, given_bytes, word_holds_in}
use Rattle.std.proofs.lemmas.List.{get_or_read}
use Rattle.std.specs.Prelude.{IfSome}
use Rattle.edge_cache.specs.Places.{nothing}
use Rattle.edge_cache.proofs.PlaceLaws.{placed_set, placed_front, placed_held, add_free, length_held}
use Rattle.edge_cache.proofs.SealLaws.{length_given}
use Rattle.edge_cache.proofs.shelf.Shelf.add_new.Goals as goal

pub invariant_of-self : goal.invariant_of-self
invariant_of-self c =
    let s = c.self.inside in
    let inv = c.self.invariant in
    let x = get_or c.deref.result.now s.held 0 in
    let ls = ap (λ v. v.list) c.self.view_is in
    let lt : s.held < BUFFERS = subst (λ (n : ℕ). n < BUFFERS) (sym (ap length ls) ∙ length_held s.buffers.items s.order.items s.held s.size inv) c.requires.room in
    let e : x ≡ get_or s.order.items s.held 0 = ap (λ l. get_or l s.held 0) c.deref.ensures.0 in
    let small : x < BUFFERS = subst (λ (n : ℕ). n < BUFFERS) (sym e) (inv.inside s.held lt) in
    let len : length c.index_mut.result.now.bytes ≡ s.size = ap (λ (k : Kept). length k.bytes) (get_or_read s.buffers.items x c.index_mut.result.now (omega (arith, inv.count)) c.index_mut.ensures.value nothing) ∙ inv.whole x small in
    let set_in = placed_set s.buffers.items s.order.items s.held s.size x c.set.new.self inv (ap (λ (k : Kept). length k.bytes) c.set.ensures.changed ∙ length_given (length c.index_mut.result.now.bytes) c.args.bytes c.args.node (omega (arith, len, inv.least)) (subst (λ (n : ℕ). IfSome c.args.bytes (λ s. length s.now ≡ n)) (sym (len ∙ ap (λ v. v.size) c.self.view_is)) c.requires.whole) ∙ len) in
    placed_held (set s.buffers.items x c.set.new.self) c.first.new.order.items s.held (s.held + 1) s.size (subst (λ (l : List ℕ). IsPlaced (set s.buffers.items x c.set.new.self) l s.held s.size) (sym c.first.ensures.items) (placed_front (set s.buffers.items x c.set.new.self) s.order.items s.held s.size s.held c.first.result set_in lt c.first.ensures.value)) (omega arith)

pub returns-clause-list : goal.returns-clause-list
returns-clause-list c =
    let s = c.self.inside in
    let inv = c.self.invariant in
    let x = get_or c.deref.result.now s.held 0 in
    let ls = ap (λ v. v.list) c.self.view_is in
    let lt : s.held < BUFFERS = subst (λ (n : ℕ). n < BUFFERS) (sym (ap length ls) ∙ length_held s.buffers.items s.order.items s.held s.size inv) c.requires.room in
    let e : x ≡ get_or s.order.items s.held 0 = ap (λ l. get_or l s.held 0) c.deref.ensures.0 in
    let small : x < BUFFERS = subst (λ (n : ℕ). n < BUFFERS) (sym e) (inv.inside s.held lt) in
    let len : length c.index_mut.result.now.bytes ≡ c.args.self.now.size = ap (λ (k : Kept). length k.bytes) (get_or_read s.buffers.items x c.index_mut.result.now (omega (arith, inv.count)) c.index_mut.ensures.value nothing) ∙ inv.whole x small ∙ ap (λ v. v.size) c.self.view_is in
    let order : take (s.held + 1) c.first.new.order.items ≡ take (suc s.held) (x ∷ remove s.order.items s.held) = ap (take (s.held + 1)) (c.first.ensures.items ∙ ap (λ (y : ℕ). y ∷ remove s.order.items s.held) (c.first.ensures.value ∙ sym e)) ∙ ap (λ (n : ℕ). take n (x ∷ remove s.order.items s.held)) (add-one s.held) in
    ap (held_in _) order ∙ add_free s.buffers.items s.order.items s.held s.size x c.set.new.self inv lt e
    ∙ ap (λ k. k ∷ held_in s.buffers.items (take s.held s.order.items)) (c.set.ensures.changed ∙ ap (λ (n : ℕ). made c.args.b (marked c.args.node (given_bytes n c.args.bytes)) true) len) ∙ ap (λ l. made c.args.b (marked c.args.node (given_bytes c.args.self.now.size c.args.bytes)) true ∷ l) ls

pub set-requires : goal.set-requires
set-requires c =
    let s = c.self.inside in
    let inv = c.self.invariant in
    let x = get_or c.deref.result.now s.held 0 in
    let ls = ap (λ v. v.list) c.self.view_is in
    let lt : s.held < BUFFERS = subst (λ (n : ℕ). n < BUFFERS) (sym (ap length ls) ∙ length_held s.buffers.items s.order.items s.held s.size inv) c.requires.room in
    let small : x < BUFFERS = subst (λ (n : ℕ). n < BUFFERS) (sym (ap (λ l. get_or l s.held 0) c.deref.ensures.0)) (inv.inside s.held lt) in
    let len : length c.index_mut.result.now.bytes ≡ c.args.self.now.size = ap (λ (k : Kept). length k.bytes) (get_or_read s.buffers.items x c.index_mut.result.now (omega (arith, inv.count)) c.index_mut.ensures.value nothing) ∙ inv.whole x small ∙ ap (λ v. v.size) c.self.view_is in
    subst (λ (n : ℕ). IfSome c.args.bytes (λ s. length s.now ≡ n)) (sym len) c.requires.whole

pub returns-clause-word : goal.returns-clause-word
returns-clause-word c =
    let s = c.self.inside in
    let inv = c.self.invariant in
    let x = get_or c.deref.result.now s.held 0 in
    let ls = ap (λ v. v.list) c.self.view_is in
    let lt : s.held < BUFFERS = subst (λ (n : ℕ). n < BUFFERS) (sym (ap length ls) ∙ length_held s.buffers.items s.order.items s.held s.size inv) c.requires.room in
    let small : x < BUFFERS = subst (λ (n : ℕ). n < BUFFERS) (sym (ap (λ l. get_or l s.held 0) c.deref.ensures.0)) (inv.inside s.held lt) in
    let len : length c.index_mut.result.now.bytes ≡ c.args.self.now.size = ap (λ (k : Kept). length k.bytes) (get_or_read s.buffers.items x c.index_mut.result.now (omega (arith, inv.count)) c.index_mut.ensures.value nothing) ∙ inv.whole x small ∙ ap (λ v. v.size) c.self.view_is in
    let is = c.set.ensures.changed ∙ ap (λ (n : ℕ). made c.args.b (marked c.args.node (given_bytes n c.args.bytes)) true) len in
    λ on. ap (λ l. word_holds_in (kept_at l 0).bytes) (returns-clause-list c) ∙ sym (ap (λ (k : Kept). word_holds_in k.bytes) is) ∙ c.set.ensures.word on

use Rattle.std.proofs.Common.{◌≡◌, ◌∙◌, ◌<◌, ◌+◌, ℕ, List, ◌∷◌, false, length, take, set, get_or, sym, ap, subst, arith, add-one, suc}
use Rattle.std.specs.List.{remove}
use Rattle.edge_cache.specs.declared.shelf.TheConstants.{BUFFERS}
use Rattle.edge_cache.specs.Kept.{Kept, made}
use Rattle.edge_cache.specs.Places.{kept_at, held_in, IsPlaced}
use Rattle.std.proofs.lemmas.List.{get_or_read}
use Rattle.edge_cache.specs.Places.{nothing}
use Rattle.edge_cache.proofs.PlaceLaws.{placed_set, placed_front, placed_held, add_free, set_free, length_held}
use Rattle.edge_cache.proofs.shelf.Shelf.add.Goals as goal

pub returns-in_err-fill-clause-kept : goal.returns-in_err-fill-clause-kept
returns-in_err-fill-clause-kept g c =
    let s = c.self.inside in
    let inv = c.self.invariant in
    let ls = ap (λ v. v.list) c.self.view_is in
    let lt : s.held < BUFFERS = subst (λ (n : ℕ). n < BUFFERS) (sym (ap length ls) ∙ length_held s.buffers.items s.order.items s.held s.size inv) c.requires.room in
    let same = set_free s.buffers.items s.order.items s.held s.size s.held _ c.fill.new.self inv (omega arith) lt (ap (λ l. get_or l s.held 0) c.deref.ensures.0) ∙ ls in
    grind (arith, same)

pub invariant_of-self-2 : goal.invariant_of-self-2
invariant_of-self-2 g c =
    let s = c.self.inside in
    let inv = c.self.invariant in
    let x = get_or c.deref.result.now s.held 0 in
    let ls = ap (λ v. v.list) c.self.view_is in
    let lt : s.held < BUFFERS = subst (λ (n : ℕ). n < BUFFERS) (sym (ap length ls) ∙ length_held s.buffers.items s.order.items s.held s.size inv) c.requires.room in
    let e : x ≡ get_or s.order.items s.held 0 = ap (λ l. get_or l s.held 0) c.deref.ensures.0 in
    let small : x < BUFFERS = subst (λ (n : ℕ). n < BUFFERS) (sym e) (inv.inside s.held lt) in
    let len : length c.index_mut.result.now.bytes ≡ s.size = ap (λ (k : Kept). length k.bytes) (get_or_read s.buffers.items x c.index_mut.result.now (omega (arith, inv.count)) c.index_mut.ensures.value nothing) ∙ inv.whole x small in
    let set_in = placed_set s.buffers.items s.order.items s.held s.size x c.fill.new.self inv (c.fill.ensures.len ∙ len) in
    placed_held (set s.buffers.items x c.fill.new.self) c.first.new.order.items s.held (s.held + 1) s.size (subst (λ (l : List ℕ). IsPlaced (set s.buffers.items x c.fill.new.self) l s.held s.size) (sym c.first.ensures.items) (placed_front (set s.buffers.items x c.fill.new.self) s.order.items s.held s.size s.held c.first.result set_in lt c.first.ensures.value)) (omega arith)

pub returns-clause-rest : goal.returns-clause-rest
returns-clause-rest g c =
    let s = c.self.inside in
    let inv = c.self.invariant in
    let x = get_or c.deref.result.now s.held 0 in
    let ls = ap (λ v. v.list) c.self.view_is in
    let lt : s.held < BUFFERS = subst (λ (n : ℕ). n < BUFFERS) (sym (ap length ls) ∙ length_held s.buffers.items s.order.items s.held s.size inv) c.requires.room in
    let e : x ≡ get_or s.order.items s.held 0 = ap (λ l. get_or l s.held 0) c.deref.ensures.0 in
    let order : take (s.held + 1) c.first.new.order.items ≡ take (suc s.held) (x ∷ remove s.order.items s.held) = ap (take (s.held + 1)) (c.first.ensures.items ∙ ap (λ (y : ℕ). y ∷ remove s.order.items s.held) (c.first.ensures.value ∙ sym e)) ∙ ap (λ (n : ℕ). take n (x ∷ remove s.order.items s.held)) (add-one s.held) in
    let whole = ap (held_in (set s.buffers.items x c.fill.new.self)) order ∙ add_free s.buffers.items s.order.items s.held s.size x c.fill.new.self inv lt e in
    let first = ap (λ l. (kept_at l 0).bytes) whole in
    whole ∙ ap (λ l. c.fill.new.self ∷ l) ls ∙ ap (λ (k : Kept). k ∷ c.args.self.now.list) (read_as c.fill.new.self c.args.b _ c.fill.ensures.block (sym first) c.fill.ensures.same)
  where
    read_as : (k : Kept) (b : ℕ) (bytes : List ℕ) → k.block ≡ b → k.bytes ≡ bytes → k.changed ≡ false → k ≡ made b bytes false
    read_as k b bytes p q r = λ i. made (p i) (q i) (r i)

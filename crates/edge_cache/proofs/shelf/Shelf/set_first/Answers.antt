use Rattle.std.proofs.Common.{◌≡◌, ◌∙◌, ℕ, true, length, set, get_or, sym, ap, subst, arith}
use Rattle.std.specs.Prelude.{IfSome}
use Rattle.std.proofs.lemmas.List.{get_or-set_same}
use Rattle.edge_cache.specs.Kept.{Kept, made}
use Rattle.edge_cache.specs.Places.{nothing, kept_at}
use Rattle.edge_cache.specs.Blocks.{marked, given_bytes, word_holds_in}
use Rattle.edge_cache.proofs.PlaceLaws.{read_place, set_list, placed_set, length_kept}
use Rattle.edge_cache.proofs.SealLaws.{length_given}
use Rattle.edge_cache.proofs.shelf.Shelf.set_first.Goals as goal

pub invariant_of-self : goal.invariant_of-self
invariant_of-self c =
    let s = c.self.inside in
    let ls = ap (λ v. v.list) c.self.view_is in
    let e = ap (λ l. get_or l 0 0) c.deref.ensures.0 in
    let is = read_place s.buffers.items s.order.items s.held s.size 0 _ c.index_mut.result.now c.args.self.now.list c.self.invariant c.requires.some e ls c.index_mut.ensures.value in
    let len : length c.index_mut.result.now.bytes ≡ s.size = ap (λ (k : Kept). length k.bytes) is ∙ length_kept s.buffers.items s.order.items s.held s.size 0 c.args.self.now.list c.self.invariant c.requires.some ls in
    placed_set s.buffers.items s.order.items s.held s.size _ c.set.new.self c.self.invariant
    (ap (λ (k : Kept). length k.bytes) c.set.ensures.changed ∙ length_given (length c.index_mut.result.now.bytes) c.args.bytes c.args.node (omega (arith, len, c.self.invariant.least)) (subst (λ (n : ℕ). IfSome c.args.bytes (λ s. length s.now ≡ n)) (sym (len ∙ ap (λ v. v.size) c.self.view_is)) c.requires.whole) ∙ len)

pub returns-clause-list : goal.returns-clause-list
returns-clause-list c =
    let s = c.self.inside in
    let ls = ap (λ v. v.list) c.self.view_is in
    let e = ap (λ l. get_or l 0 0) c.deref.ensures.0 in
    let is = read_place s.buffers.items s.order.items s.held s.size 0 _ c.index_mut.result.now c.args.self.now.list c.self.invariant c.requires.some e ls c.index_mut.ensures.value in
    let len : length c.index_mut.result.now.bytes ≡ c.args.self.now.size = ap (λ (k : Kept). length k.bytes) is ∙ length_kept s.buffers.items s.order.items s.held s.size 0 c.args.self.now.list c.self.invariant c.requires.some ls ∙ ap (λ v. v.size) c.self.view_is in
    set_list s.buffers.items s.order.items s.held s.size 0 _ c.set.new.self c.args.self.now.list c.self.invariant c.requires.some e ls
    ∙ ap (λ k. set c.args.self.now.list 0 k) (c.set.ensures.changed ∙ ap (λ (n : ℕ). made c.args.b (marked c.args.node (given_bytes n c.args.bytes)) true) len)

pub set-requires : goal.set-requires
set-requires c =
    let s = c.self.inside in
    let ls = ap (λ v. v.list) c.self.view_is in
    let e = ap (λ l. get_or l 0 0) c.deref.ensures.0 in
    let is = read_place s.buffers.items s.order.items s.held s.size 0 _ c.index_mut.result.now c.args.self.now.list c.self.invariant c.requires.some e ls c.index_mut.ensures.value in
    let len : length c.index_mut.result.now.bytes ≡ c.args.self.now.size = ap (λ (k : Kept). length k.bytes) is ∙ length_kept s.buffers.items s.order.items s.held s.size 0 c.args.self.now.list c.self.invariant c.requires.some ls ∙ ap (λ v. v.size) c.self.view_is in
    subst (λ (n : ℕ). IfSome c.args.bytes (λ s. length s.now ≡ n)) (sym len) c.requires.whole

pub returns-clause-word : goal.returns-clause-word
returns-clause-word c =
    let s = c.self.inside in
    let ls = ap (λ v. v.list) c.self.view_is in
    let e = ap (λ l. get_or l 0 0) c.deref.ensures.0 in
    let is = read_place s.buffers.items s.order.items s.held s.size 0 _ c.index_mut.result.now c.args.self.now.list c.self.invariant c.requires.some e ls c.index_mut.ensures.value in
    let len : length c.index_mut.result.now.bytes ≡ c.args.self.now.size = ap (λ (k : Kept). length k.bytes) is ∙ length_kept s.buffers.items s.order.items s.held s.size 0 c.args.self.now.list c.self.invariant c.requires.some ls ∙ ap (λ v. v.size) c.self.view_is in
    let new = made c.args.b (marked c.args.node (given_bytes c.args.self.now.size c.args.bytes)) true in
    let set_is = c.set.ensures.changed ∙ ap (λ (n : ℕ). made c.args.b (marked c.args.node (given_bytes n c.args.bytes)) true) len in
    λ on. ap (λ l. word_holds_in (kept_at l 0).bytes) (returns-clause-list c) ∙ ap (λ (k : Kept). word_holds_in k.bytes) (get_or-set_same c.args.self.now.list 0 new nothing c.requires.some ∙ sym set_is) ∙ c.set.ensures.word on

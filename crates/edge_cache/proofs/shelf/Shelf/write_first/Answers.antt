use Rattle.std.proofs.Common.{◌≡◌, ◌∙◌, true, length, set, get_or, sym, ap, arith}
use Rattle.std.proofs.lemmas.List.{get_or-set_same}
use Rattle.edge_cache.specs.Kept.{Kept, made}
use Rattle.edge_cache.specs.Places.{nothing, kept_at}
use Rattle.edge_cache.specs.Blocks.{changed_by, word_holds_in}
use Rattle.edge_cache.proofs.PlaceLaws.{read_place, set_list, placed_set, length_kept}
use Rattle.edge_cache.proofs.SealLaws.{length_changed}
use Rattle.edge_cache.proofs.shelf.Shelf.write_first.Goals as goal

pub invariant_of-self : goal.invariant_of-self
invariant_of-self c =
    let s = c.self.inside in
    let ls = ap (λ v. v.list) c.self.view_is in
    let e = ap (λ l. get_or l 0 0) c.deref.ensures.0 in
    let is = read_place s.buffers.items s.order.items s.held s.size 0 _ c.index_mut.result.now c.args.self.now.list c.self.invariant c.requires.some e ls c.index_mut.ensures.value in
    let len : length c.index_mut.result.now.bytes ≡ s.size = ap (λ (k : Kept). length k.bytes) is ∙ length_kept s.buffers.items s.order.items s.held s.size 0 c.args.self.now.list c.self.invariant c.requires.some ls in
    let size : s.size ≡ c.args.self.now.size = ap (λ v. v.size) c.self.view_is in
    placed_set s.buffers.items s.order.items s.held s.size _ c.write.new.self c.self.invariant
    (ap (λ (k : Kept). length k.bytes) c.write.ensures.changed ∙ length_changed c.args.at c.args.bytes.now c.args.node c.index_mut.result.now.bytes (omega (arith, len, c.self.invariant.least)) (omega (arith, len, size, c.requires.inside)) ∙ len)

pub returns-clause-list : goal.returns-clause-list
returns-clause-list c =
    let s = c.self.inside in
    let ls = ap (λ v. v.list) c.self.view_is in
    let e = ap (λ l. get_or l 0 0) c.deref.ensures.0 in
    let is = read_place s.buffers.items s.order.items s.held s.size 0 _ c.index_mut.result.now c.args.self.now.list c.self.invariant c.requires.some e ls c.index_mut.ensures.value in
    set_list s.buffers.items s.order.items s.held s.size 0 _ c.write.new.self c.args.self.now.list c.self.invariant c.requires.some e ls
    ∙ ap (λ k. set c.args.self.now.list 0 k) (c.write.ensures.changed ∙ ap (λ (k : Kept). made k.block (changed_by c.args.at c.args.bytes.now c.args.node k.bytes) true) is)

pub returns-clause-word : goal.returns-clause-word
returns-clause-word c =
    let s = c.self.inside in
    let ls = ap (λ v. v.list) c.self.view_is in
    let e = ap (λ l. get_or l 0 0) c.deref.ensures.0 in
    let is = read_place s.buffers.items s.order.items s.held s.size 0 _ c.index_mut.result.now c.args.self.now.list c.self.invariant c.requires.some e ls c.index_mut.ensures.value in
    let changed = λ (k : Kept). made k.block (changed_by c.args.at c.args.bytes.now c.args.node k.bytes) true in
    let write_is = c.write.ensures.changed ∙ ap changed is in
    λ on. ap (λ l. word_holds_in (kept_at l 0).bytes) (returns-clause-list c) ∙ ap (λ (k : Kept). word_holds_in k.bytes) (get_or-set_same c.args.self.now.list 0 (changed (kept_at c.args.self.now.list 0)) nothing c.requires.some ∙ sym write_is) ∙ c.write.ensures.word on

use Rattle.std.proofs.Common.{◌≡◌, ◌∙◌, ◌+◌, ◌≤◌, ℕ, List, true, length, sym, ap, arith}
use Rattle.std.proofs.lemmas.List.{with_items_is}
use Rattle.edge_cache.specs.Blocks.{put_at, sealed, word_holds_in}
use Rattle.edge_cache.specs.Kept.{Kept, made}
use Rattle.edge_cache.proofs.SealLaws.{length_as_read, sealed-read}
use Rattle.edge_cache.proofs.buffer.Buffer.write_node.Goals as goal

pub returns-clause-changed : goal.returns-clause-changed
returns-clause-changed c =
    let raw = c.self.inside.bytes.items in
    let len = length_as_read c.self.inside.word raw c.self.invariant.0 in
    let seen : c.args.self.now ≡ made c.self.inside.block _ c.self.inside.changed = sym c.self.view_is in
    let put : c.put.new.block ≡ put_at c.args.at c.args.bytes.now raw = c.put.ensures.bytes ∙ ap (put_at c.args.at c.args.bytes.now) c.deref_mut.ensures.value in
    let inside : c.args.at + length c.args.bytes.now ≤ length raw = omega (arith, c.requires, ap (λ k. length k.bytes) c.self.view_is) in
    ap (λ (l : List ℕ). made c.self.inside.block (sealed l) true) (with_items_is c.self.inside.bytes c.put.new.block (omega (arith, c.put.auto.block, c.deref_mut.ensures.len)) ∙ put)
    ∙ ap (λ (l : List ℕ). made c.self.inside.block l true) (sym (sealed-read c.self.inside.word c.args.at c.args.bytes.now raw c.self.invariant.0 inside))
    ∙ ap (λ (k : Kept). made k.block (sealed (put_at c.args.at c.args.bytes.now k.bytes)) true) c.self.view_is

pub returns-clause-word : goal.returns-clause-word
returns-clause-word c =
    let is = with_items_is c.self.inside.bytes c.put.new.block (omega (arith, c.put.auto.block, c.deref_mut.ensures.len)) in
    ap (λ (l : List ℕ). word_holds_in (sealed l)) is ∙ c.put.ensures.word (omega (arith, c.self.invariant.0, ap length c.deref_mut.ensures.value))

pub invariant_of-self : goal.invariant_of-self
invariant_of-self c =
    let is = with_items_is c.self.inside.bytes c.put.new.block (omega (arith, c.put.auto.block, c.deref_mut.ensures.len)) in
    let len = ap length is ∙ c.put.auto.block ∙ ap length c.deref_mut.ensures.value in
    (omega (arith, len, c.self.invariant.0), omega (arith, len, c.self.invariant.1), ap (λ (l : List ℕ). word_holds_in (sealed l)) is ∙ c.put.ensures.word (omega (arith, c.self.invariant.0, ap length c.deref_mut.ensures.value)))

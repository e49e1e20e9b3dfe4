use Rattle.std.proofs.Common.{◌≡◌, ◌∙◌, ℕ, true, length, sym, ap, subst, arith}
use Rattle.std.specs.Prelude.{IfSome}
use Rattle.std.proofs.lemmas.List.{with_items_is}
use Rattle.edge_cache.specs.Blocks.{marked, given_bytes, word_holds_in}
use Rattle.edge_cache.specs.Kept.{IsRemembered}
use Rattle.edge_cache.proofs.SealLaws.{kept_is, length_as_read}
use Rattle.edge_cache.proofs.buffer.Buffer.set.Goals as goal

pub put_whole-requires : goal.put_whole-requires
put_whole-requires c =
    let len : length c.deref_mut.result.now ≡ length c.args.self.now.bytes = ap length c.deref_mut.ensures.value ∙ sym (length_as_read c.self.inside.word c.self.inside.bytes.items c.self.invariant.0) ∙ ap (λ k. length k.bytes) c.self.view_is in
    subst (λ (n : ℕ). IfSome c.args.bytes (λ s. length s.now ≡ n)) (sym len) c.requires

pub returns-clause-changed : goal.returns-clause-changed
returns-clause-changed c =
    let len : length c.deref_mut.result.now ≡ length c.args.self.now.bytes = ap length c.deref_mut.ensures.value ∙ sym (length_as_read c.self.inside.word c.self.inside.bytes.items c.self.invariant.0) ∙ ap (λ k. length k.bytes) c.self.view_is in
    let is = with_items_is c.self.inside.bytes c.put_whole.new.block (omega (arith, c.put_whole.auto.block, c.deref_mut.ensures.len)) in
    kept_is c.args.block _ _ true (c.mark-self-inside.ensures.read _ ∙ ap (marked c.args.node) (is ∙ c.put_whole.ensures.bytes ∙ ap (λ (n : ℕ). given_bytes n c.args.bytes) len))

pub returns-clause-word : goal.returns-clause-word
returns-clause-word c =
    let is = with_items_is c.self.inside.bytes c.put_whole.new.block (omega (arith, c.put_whole.auto.block, c.deref_mut.ensures.len)) in
    let holds = c.put_whole.ensures.word (omega (arith, c.self.invariant.0, ap length c.deref_mut.ensures.value)) in
    λ on. ap word_holds_in (c.mark-self-inside.ensures.read _ ∙ (λ i. marked (on i) (is i))) ∙ holds

pub invariant_of-self : goal.invariant_of-self
invariant_of-self c =
    let is = with_items_is c.self.inside.bytes c.put_whole.new.block (omega (arith, c.put_whole.auto.block, c.deref_mut.ensures.len)) in
    let len = ap length is ∙ c.put_whole.auto.block ∙ ap length c.deref_mut.ensures.value in
    let holds = c.put_whole.ensures.word (omega (arith, c.self.invariant.0, ap length c.deref_mut.ensures.value)) in
    (omega (arith, len, c.self.invariant.0), omega (arith, len, c.self.invariant.1), subst (IsRemembered c.mark-self-inside.result) (sym is) (c.mark-self-inside.ensures.remembered _ holds))

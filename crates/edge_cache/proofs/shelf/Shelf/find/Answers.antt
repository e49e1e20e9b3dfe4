use Rattle.std.proofs.Common.{◌∙◌, ◌<◌, ℕ, length, get_or, sym, ap, subst, arith}
use Rattle.edge_cache.specs.Kept.{Kept}
use Rattle.edge_cache.specs.Places.{kept_at}
use Rattle.std.proofs.Common.{inl, inr}
use Rattle.std.proofs.lemmas.Bool.{cases_eq}
use Rattle.edge_cache.proofs.PlaceLaws.{read_place, length_held, length_kept}
use Rattle.edge_cache.proofs.shelf.Shelf.find.Goals as goal

pub loop-p-init : goal.loop-p-init
loop-p-init c = λ k lt. absurd (omega arith)

pub loop-p-preserved : goal.loop-p-preserved
loop-p-preserved c =
    let s = c.self.inside in
    let p = c.loop-p.p in
    let ls = ap (λ v. v.list) c.self.view_is in
    let at : p < length c.args.self.now.list = subst (λ (n : ℕ). p < n) (sym (length_held s.buffers.items s.order.items s.held s.size c.self.invariant) ∙ ap length ls) c.loop-p-test.true in
    let is = read_place s.buffers.items s.order.items s.held s.size p _ c.index.result.now c.args.self.now.list c.self.invariant at (ap (λ l. get_or l p 0) c.deref.ensures.0) ls c.index.ensures in
    λ k lt. elim (cases_eq k p) [
      | inl e ↦ λ f. c.if-block-b.false (c.block.ensures ∙ ap (λ (y : Kept). y.block) is ∙ ap (λ (i : ℕ). (kept_at c.args.self.now.list i).block) (sym e) ∙ f)
      | inr far ↦ c.loop-p.invariant k (omega arith)
    ]

pub returns-clause-absent : goal.returns-clause-absent
returns-clause-absent c =
    let s = c.self.inside in
    let ls = ap (λ v. v.list) c.self.view_is in
    λ k lt. c.loop-p.invariant k (omega (arith, ap length ls, length_held s.buffers.items s.order.items s.held s.size c.self.invariant, c.loop-p-test.false))

pub returns-clause-whole : goal.returns-clause-whole
returns-clause-whole c =
    let s = c.self.inside in
    λ i lt. length_kept s.buffers.items s.order.items s.held s.size i c.args.self.now.list c.self.invariant lt (ap (λ v. v.list) c.self.view_is) ∙ ap (λ v. v.size) c.self.view_is

pub returns-then-block-b-clause-whole : goal.returns-then-block-b-clause-whole
returns-then-block-b-clause-whole c =
    let s = c.self.inside in
    λ i lt. length_kept s.buffers.items s.order.items s.held s.size i c.args.self.now.list c.self.invariant lt (ap (λ v. v.list) c.self.view_is) ∙ ap (λ v. v.size) c.self.view_is

use Rattle.std.proofs.Common.{◌∙◌, ℕ, List, take, sym, ap, subst, arith}
use Rattle.edge_cache.specs.Places.{held_in, IsPlaced}
use Rattle.edge_cache.specs.Places.{fronted}
use Rattle.edge_cache.proofs.PlaceLaws.{placed_front, fronted_places, below_held}
use Rattle.edge_cache.proofs.shelf.Shelf.to_front.Goals as goal

pub invariant_of-self : goal.invariant_of-self
invariant_of-self c =
    let s = c.self.inside in
    let lt = below_held s.buffers.items s.order.items s.held s.size c.args.p c.args.self.now.list c.self.invariant (ap (λ v. v.list) c.self.view_is) c.requires in
    subst (λ (l : List ℕ). IsPlaced s.buffers.items l s.held s.size) (sym c.first.ensures.items)
    (placed_front s.buffers.items s.order.items s.held s.size c.args.p c.first.result c.self.invariant (omega (arith, c.self.invariant.some)) c.first.ensures.value)

pub returns-then-p-gt0-clause-list : goal.returns-then-p-gt0-clause-list
returns-then-p-gt0-clause-list c =
    let s = c.self.inside in
    let ls = ap (λ v. v.list) c.self.view_is in
    let lt = below_held s.buffers.items s.order.items s.held s.size c.args.p c.args.self.now.list c.self.invariant ls c.requires in
    ap (λ (l : List ℕ). held_in s.buffers.items (take s.held l)) c.first.ensures.items
    ∙ fronted_places s.buffers.items s.order.items s.held c.args.p c.first.result (omega (arith, c.self.invariant.full, c.self.invariant.some)) lt c.first.ensures.value
    ∙ ap (λ l. fronted l c.args.p) ls

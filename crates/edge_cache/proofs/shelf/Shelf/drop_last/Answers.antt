use Rattle.std.proofs.Common.{◌≡◌, ◌∙◌, ◌-◌, ℕ, length, take, sym, ap, arith}
use Rattle.edge_cache.specs.Places.{kept_at, held_in}
use Rattle.std.proofs.lemmas.List.{take-map, take-take}
use Rattle.edge_cache.proofs.PlaceLaws.{length_held}
use Rattle.edge_cache.proofs.shelf.Shelf.drop_last.Goals as goal

pub returns-clause-list : goal.returns-clause-list
returns-clause-list c =
    let s = c.self.inside in
    let ls = ap (λ v. v.list) c.self.view_is in
    let len : length c.args.self.now.list ≡ s.held = sym (ap length ls) ∙ length_held s.buffers.items s.order.items s.held s.size c.self.invariant in
    ap (held_in s.buffers.items) (sym (take-take (s.held - 1) s.held s.order.items (omega arith))) ∙ sym (take-map (kept_at s.buffers.items) (s.held - 1) (take s.held s.order.items))
    ∙ ap (take (s.held - 1)) ls ∙ ap (λ (n : ℕ). take (n - 1) c.args.self.now.list) (sym len)

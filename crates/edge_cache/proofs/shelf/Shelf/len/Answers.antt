use Rattle.std.proofs.Common.{◌∙◌, ap}
use Rattle.edge_cache.proofs.PlaceLaws.{length_kept}
use Rattle.edge_cache.proofs.shelf.Shelf.len.Goals as goal

pub returns-clause-whole : goal.returns-clause-whole
returns-clause-whole c =
    let s = c.self.inside in
    λ i lt. length_kept s.buffers.items s.order.items s.held s.size i c.args.self.now.list c.self.invariant lt (ap (λ v. v.list) c.self.view_is) ∙ ap (λ v. v.size) c.self.view_is

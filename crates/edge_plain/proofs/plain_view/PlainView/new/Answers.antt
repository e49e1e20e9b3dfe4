use Rattle.std.proofs.Common.{◌≡◌, ◌∙◌, ◌+◌, Some, None, replicate, refl}
use Rattle.edge_plain.specs.Kept.{view_in}
use Rattle.edge_plain.proofs.KeptLaws.{view_of_none}
use Rattle.edge_plain.proofs.plain_view.PlainView.new.Goals as goal

pub returns-clause-view : goal.returns-clause-view
returns-clause-view c =
    let g = c.args.geometry in
    let heads : c.in_ok-vec.field-0.items ≡ replicate (2 + c.request-r.result.inodes) None = c.in_ok-vec.ensures.items_if_clones_equal (elim [ None ↦ λ h. refl | Some x ↦ λ h. absurd h ]) in
    let forms : c.in_ok-vec-3.field-0.items ≡ replicate c.request-r.result.blocks None = c.in_ok-vec-3.ensures.items_if_clones_equal (elim [ None ↦ λ h. refl | Some x ↦ λ h. absurd h ]) in
    (λ i. view_in g (heads i) c.in_ok-vec-2.field-0.items (forms i) c.in_ok-vec-4.field-0.items c.in_ok-vec-5.field-0.items c.in_ok-vec-6.field-0.items)
    ∙ view_of_none g (2 + c.request-r.result.inodes) c.request-r.result.blocks c.in_ok-vec-2.field-0.items c.in_ok-vec-4.field-0.items c.in_ok-vec-5.field-0.items c.in_ok-vec-6.field-0.items

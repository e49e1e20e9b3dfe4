use Rattle.std.proofs.Common.{◌≤◌, subst, ap, sym, ◌∙◌}
use Rattle.edge_base.specs.declared.geometry.Request.{Request}
use Rattle.edge_nodes.proofs.GeometryLaws.{geometry_long}
use Rattle.edge_nodes.proofs.block.block_size.Goals as goal

pub returns-clause-least : goal.returns-clause-least
returns-clause-least c = subst (λ (r : Request). 512 ≤ r.block_size) (sym c.request.ensures.same) (geometry_long c.args.g.now c.request.ensures.geometry).least

pub returns-clause-most : goal.returns-clause-most
returns-clause-most c = subst (λ (r : Request). r.block_size ≤ 4096) (sym c.request.ensures.same) (geometry_long c.args.g.now c.request.ensures.geometry).most

pub returns-clause-whole : goal.returns-clause-whole
returns-clause-whole c = (geometry_long c.args.g.now c.request.ensures.geometry).whole ∙ ap (λ (r : Request). r.block_size) (sym c.request.ensures.same)

pub returns-clause-pointers : goal.returns-clause-pointers
returns-clause-pointers c = (geometry_long c.args.g.now c.request.ensures.geometry).pointers ∙ ap (λ (r : Request). r.block_size) (sym c.request.ensures.same)

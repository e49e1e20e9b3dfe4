use Rattle.std.proofs.Common.{◌∙◌, ap}
use Rattle.edge_base.specs.commands.Paths.{names_of}
use Rattle.edge_base.specs.declared.geometry.Request.{Request}
use Rattle.edge_walk.proofs.NameLaws.{names_are_short, spotted_by}
use Rattle.edge_walk.proofs.walk.spot_at.Goals as goal

pub returns-in-Ok-clause-spot : goal.returns-in-Ok-clause-spot
returns-in-Ok-clause-spot g c =
    let named = c.in-Ok.ensures ∙ ap (λ (r : Request). names_of r.name_max c.args.path.now) (c.request-name_max.ensures.same ∙ c.geometry.ensures) in
    spotted_by (g.S.Store.state c.args.s.now) c.args.path.now c.in-Ok.names c.locate.result named c.locate.ensures.spot

pub returns-in-Ok-clause-short : goal.returns-in-Ok-clause-short
returns-in-Ok-clause-short g c =
    let named = c.in-Ok.ensures ∙ ap (λ (r : Request). names_of r.name_max c.args.path.now) (c.request-name_max.ensures.same ∙ c.geometry.ensures) in
    c.locate.ensures.short (names_are_short (g.S.Store.state c.args.s.now).origin.request c.args.path.now c.in-Ok.names named)

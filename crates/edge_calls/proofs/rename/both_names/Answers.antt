use Rattle.std.proofs.Common.{◌≡◌, sym, subst}
use Rattle.std.specs.Prelude.{Ok}
use Rattle.edge_base.specs.commands.Paths.{two_paths}
use Rattle.edge_base.specs.declared.geometry.Request.{Request}
use Rattle.edge_walk.specs.Spots.{AreShort}
use Rattle.edge_walk.proofs.NameLaws.{two_are_short}
use Rattle.edge_calls.proofs.rename.both_names.Goals as goal

pub returns-clause-short : goal.returns-clause-short
returns-clause-short c =
    let told = c.in_ok-both.ensures in
    subst (AreShort c.args.g) (sym told.names.1)
    (two_are_short c.args.g c.args.path.now c.args.to.now
    (subst (λ (r : Request). two_paths r.name_max c.args.path.now c.args.to.now ≡ Ok tt) c.request.ensures.same told.refused)).1

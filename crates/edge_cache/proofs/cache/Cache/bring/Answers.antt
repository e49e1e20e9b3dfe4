use Rattle.std.proofs.Common.{◌∙◌, false, sym, refl, ap, subst}
use Rattle.edge_cache.specs.Kept.{made}
use Rattle.edge_cache.specs.Places.{kept_at, blocks_of, IsNew}
use Rattle.edge_cache.specs.Given.{waiting}
use Rattle.edge_cache.specs.Cached.{Cached, list_of}
use Rattle.edge_cache.proofs.CacheLaws.{waiting_added}
use Rattle.edge_cache.proofs.cache.Cache.bring.Goals as goal

pub returns-in_err-add-clause-same : goal.returns-in_err-add-clause-same
returns-in_err-add-clause-same g c = λ k. ap (λ l. waiting l k) c.in_err-add.ensures.kept ∙ ap (λ (v : Cached g.row.D.Denot). waiting v.held k) c.self.view_is

pub returns-clause-same : goal.returns-clause-same
returns-clause-same g c =
    let list = c.self.inside.shelf.list in
    let absent : IsNew c.args.b (blocks_of list) = subst (λ (v : Cached g.row.D.Denot). IsNew c.args.b (list_of v.held)) (sym c.self.view_is) c.requires.absent in
    λ k.
    ap (λ l. waiting l k) c.in_ok-add.ensures.rest
    ∙ waiting_added (made c.args.b (kept_at c.add.new.self.list 0).bytes false) list k refl absent
    ∙ ap (λ (v : Cached g.row.D.Denot). waiting v.held k) c.self.view_is

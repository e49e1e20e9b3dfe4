use Rattle.std.proofs.Common.{◌∙◌, ◌<◌, ℕ, length, sym, refl, ap, subst}
use Rattle.edge_cache.specs.Places.{blocks_of}
use Rattle.edge_cache.proofs.CacheLaws.{cache_stays, cache_written, blocks_set}
use Rattle.edge_cache.proofs.cache.Cache.write_place.Goals as goal

pub invariant_of-self : goal.invariant_of-self
invariant_of-self g c = cache_stays _ _ _ _ _ _ _ _ _ _ _ _ c.self.invariant c.write_at.ensures.origin c.write_at.ensures.size c.in_err-write_at.ensures.kept c.write_at.ensures.gives

pub invariant_of-self-2 : goal.invariant_of-self-2
invariant_of-self-2 g c =
    let lt : c.args.p < length c.self.inside.shelf.list = subst (λ (n : ℕ). c.args.p < n) (sym (ap (λ v. length v.held) c.self.view_is)) c.requires in
    cache_written _ _ _ _ c.args.p _ _ _ _ _ _ _ _ c.self.invariant c.write_at.ensures.origin c.write_at.ensures.size lt c.in_ok-write_at.ensures.done c.write_at.ensures.gives

pub returns-clause-list : goal.returns-clause-list
returns-clause-list g c =
    let list = c.self.inside.shelf.list in
    let lt : c.args.p < length list = subst (λ (n : ℕ). c.args.p < n) (sym (ap (λ v. length v.held) c.self.view_is)) c.requires in
    ap blocks_of c.in_ok-write_at.ensures.done ∙ blocks_set list c.args.p _ lt refl ∙ ap (λ v. blocks_of v.held) c.self.view_is

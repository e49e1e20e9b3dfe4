use Rattle.std.proofs.Common.{◌∙◌, ◌<◌, ℕ, length, sym, refl, ap, subst}
use Rattle.std.specs.Prelude.{IsTrue}
use Rattle.edge_cache.specs.Places.{kept_at, blocks_of}
use Rattle.edge_cache.specs.Given.{waiting}
use Rattle.edge_cache.specs.Cached.{Cached, content, list_of, used_last}
use Rattle.edge_cache.proofs.GivenLaws.{waiting_fronted}
use Rattle.edge_cache.proofs.CacheLaws.{cache_fronted, content_at, used_fronted}
use Rattle.edge_cache.proofs.cache.Cache.hit.Goals as goal

pub invariant_of-self : goal.invariant_of-self
invariant_of-self g c =
    let lt : c.args.p < length c.self.inside.shelf.list = subst (λ (n : ℕ). c.args.p < n) (sym (ap (λ v. length v.held) c.self.view_is)) c.requires in
    cache_fronted _ _ _ c.args.p _ _ _ c.self.invariant c.to_front.ensures.size lt c.to_front.ensures.list

pub returns-clause-same : goal.returns-clause-same
returns-clause-same g c =
    let list = c.self.inside.shelf.list in
    let is = ap (λ v. v.held) c.self.view_is in
    let lt : c.args.p < length list = subst (λ (n : ℕ). c.args.p < n) (sym (ap length is)) c.requires in
    λ k. ap (λ l. waiting l k) c.to_front.ensures.list ∙ waiting_fronted list c.args.p k c.self.invariant.apart lt ∙ ap (λ l. waiting l k) is

pub returns-clause-bytes : goal.returns-clause-bytes
returns-clause-bytes g c =
    let list = c.self.inside.shelf.list in
    let is = ap (λ v. v.held) c.self.view_is in
    let lt : c.args.p < length list = subst (λ (n : ℕ). c.args.p < n) (sym (ap length is)) c.requires in
    λ tells.
    ap (λ l. (kept_at l 0).bytes) c.to_front.ensures.list
    ∙ sym (content_at (g.D.Disk.origin c.self.inside.disk) c.self.inside.shelf.size (g.D.Disk.shown c.self.inside.disk) list c.args.p _ c.self.invariant (subst (λ (v : Cached g.row.D.Denot). IsTrue (g.D.Disk.origin v.disk).shows) (sym c.self.view_is) tells) lt refl)
    ∙ ap (λ (v : Cached g.row.D.Denot). content v.held (g.D.Disk.shown v.disk) (kept_at v.held c.args.p).block) c.self.view_is

pub returns-clause-list : goal.returns-clause-list
returns-clause-list g c =
    let list = c.self.inside.shelf.list in
    let is = ap (λ v. v.held) c.self.view_is in
    let lt : c.args.p < length list = subst (λ (n : ℕ). c.args.p < n) (sym (ap length is)) c.requires in
    ap blocks_of c.to_front.ensures.list ∙ used_fronted list c.args.p _ c.self.invariant.apart c.self.invariant.few lt refl ∙ ap (λ l. used_last (kept_at l c.args.p).block (list_of l)) is

use Rattle.std.proofs.Common.{◌≡◌, ◌∙◌, ℕ, List, true, set, sym, ap}
use Rattle.std.specs.Prelude.{Option}
use Rattle.std.proofs.lemmas.List.{get_or-set_same}
use Rattle.edge_cache.specs.Blocks.{marked, given_bytes, word_holds_in}
use Rattle.edge_cache.specs.Kept.{Kept, made}
use Rattle.edge_cache.specs.Places.{nothing, kept_at}
use Rattle.edge_cache.specs.Given.{waiting}
use Rattle.edge_cache.specs.Cached.{Cached}
use Rattle.edge_cache.specs.Given.{or_shown}
use Rattle.edge_cache.proofs.CacheLaws.{set_first_block, set_first_other}
use Rattle.edge_cache.proofs.cache.Cache.put_held.Goals as goal

pub returns-clause-bytes : goal.returns-clause-bytes
returns-clause-bytes g c =
    let d = g.D.Disk in
    let mid = c.hit.new.self in
    let size : c.self.inside.shelf.size ≡ (d.origin c.args.self.now.disk).block_size = c.self.invariant.size_is ∙ ap (λ (v : Cached g.row.D.Denot). (d.origin v.disk).block_size) c.self.view_is ∙ ap (λ x. (d.origin x).block_size) c.hit.ensures.disk in
    let new = made c.args.b (marked c.args.node (given_bytes (d.origin c.args.self.now.disk).block_size c.args.bytes)) true in
    let out : c.set_first.new.self.list ≡ set mid.held 0 new
    = c.set_first.ensures.list ∙ ap (λ (n : ℕ). set c.self.inside.shelf.list 0 (made c.args.b (marked c.args.node (given_bytes n c.args.bytes)) true)) size
    ∙ ap (λ (v : Cached g.row.D.Denot). set v.held 0 new) c.self.view_is in
    ap (λ l. waiting l c.args.b) out ∙ set_first_block mid.held new c.hit.ensures.some

pub returns-clause-word : goal.returns-clause-word
returns-clause-word g c =
    let d = g.D.Disk in
    let mid = c.hit.new.self in
    let size : c.self.inside.shelf.size ≡ (d.origin c.args.self.now.disk).block_size = c.self.invariant.size_is ∙ ap (λ (v : Cached g.row.D.Denot). (d.origin v.disk).block_size) c.self.view_is ∙ ap (λ x. (d.origin x).block_size) c.hit.ensures.disk in
    let new = made c.args.b (marked c.args.node (given_bytes (d.origin c.args.self.now.disk).block_size c.args.bytes)) true in
    let out : c.set_first.new.self.list ≡ set mid.held 0 new
    = c.set_first.ensures.list ∙ ap (λ (n : ℕ). set c.self.inside.shelf.list 0 (made c.args.b (marked c.args.node (given_bytes n c.args.bytes)) true)) size
    ∙ ap (λ (v : Cached g.row.D.Denot). set v.held 0 new) c.self.view_is in
    let first : kept_at c.set_first.new.self.list 0 ≡ new = ap (λ l. kept_at l 0) out ∙ get_or-set_same mid.held 0 new nothing c.hit.ensures.some in
    λ on. ap (λ (w : Option (List ℕ)). word_holds_in (or_shown w (d.shown c.self.inside.disk c.args.b))) (returns-clause-bytes g c) ∙ sym (ap (λ (k : Kept). word_holds_in k.bytes) first) ∙ c.set_first.ensures.word on

pub returns-clause-others : goal.returns-clause-others
returns-clause-others g c =
    let d = g.D.Disk in
    let mid = c.hit.new.self in
    let size : c.self.inside.shelf.size ≡ (d.origin c.args.self.now.disk).block_size = c.self.invariant.size_is ∙ ap (λ (v : Cached g.row.D.Denot). (d.origin v.disk).block_size) c.self.view_is ∙ ap (λ x. (d.origin x).block_size) c.hit.ensures.disk in
    let new = made c.args.b (marked c.args.node (given_bytes (d.origin c.args.self.now.disk).block_size c.args.bytes)) true in
    let out : c.set_first.new.self.list ≡ set mid.held 0 new
    = c.set_first.ensures.list ∙ ap (λ (n : ℕ). set c.self.inside.shelf.list 0 (made c.args.b (marked c.args.node (given_bytes n c.args.bytes)) true)) size
    ∙ ap (λ (v : Cached g.row.D.Denot). set v.held 0 new) c.self.view_is in
    λ k far. ap (λ l. waiting l k) out ∙ set_first_other mid.held new k (sym (c.hit.ensures.block ∙ c.requires.block)) far ∙ c.hit.ensures.same k

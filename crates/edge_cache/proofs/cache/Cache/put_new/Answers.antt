use Rattle.std.proofs.Common.{◌≡◌, ◌∙◌, ℕ, List, true, sym, refl, ap}
use Rattle.std.specs.Prelude.{Option, Some}
use Rattle.edge_cache.specs.Blocks.{marked, given_bytes, word_holds_in}
use Rattle.edge_cache.specs.Kept.{made}
use Rattle.edge_cache.specs.Places.{kept_at}
use Rattle.edge_cache.specs.Given.{waiting}
use Rattle.edge_cache.specs.Cached.{Cached}
use Rattle.edge_cache.proofs.GivenLaws.{waiting_here, waiting_next}
use Rattle.edge_cache.specs.Given.{or_shown}
use Rattle.edge_cache.proofs.cache.Cache.put_new.Goals as goal

pub returns-clause-bytes : goal.returns-clause-bytes
returns-clause-bytes g c =
    let d = g.D.Disk in
    let list = c.self.inside.shelf.list in
    let size : c.self.inside.shelf.size ≡ (d.origin c.args.self.now.disk).block_size = c.self.invariant.size_is ∙ ap (λ (v : Cached g.row.D.Denot). (d.origin v.disk).block_size) c.self.view_is in
    ap (λ l. waiting l c.args.b) c.add_new.ensures.list
    ∙ waiting_here (made c.args.b (marked c.args.node (given_bytes c.self.inside.shelf.size c.args.bytes)) true) list c.args.b refl
    ∙ ap (λ (n : ℕ). Some (marked c.args.node (given_bytes n c.args.bytes))) size

pub returns-clause-word : goal.returns-clause-word
returns-clause-word g c =
    let list = c.self.inside.shelf.list in
    let new = made c.args.b (marked c.args.node (given_bytes c.self.inside.shelf.size c.args.bytes)) true in
    let waits : waiting c.add_new.new.self.list c.args.b ≡ Some new.bytes = ap (λ l. waiting l c.args.b) c.add_new.ensures.list ∙ waiting_here new list c.args.b refl in
    λ on. ap (λ (w : Option (List ℕ)). word_holds_in (or_shown w (g.D.Disk.shown c.self.inside.disk c.args.b))) waits ∙ sym (ap (λ l. word_holds_in (kept_at l 0).bytes) c.add_new.ensures.list) ∙ c.add_new.ensures.word on

pub returns-clause-others : goal.returns-clause-others
returns-clause-others g c =
    let list = c.self.inside.shelf.list in
    let new = made c.args.b (marked c.args.node (given_bytes c.self.inside.shelf.size c.args.bytes)) true in
    λ k far.
    ap (λ l. waiting l k) c.add_new.ensures.list ∙ waiting_next new list k (λ e. far (sym e)) ∙ ap (λ (v : Cached g.row.D.Denot). waiting v.held k) c.self.view_is

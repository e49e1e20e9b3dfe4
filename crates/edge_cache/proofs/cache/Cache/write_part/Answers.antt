use Rattle.std.proofs.Common.{◌≡◌, ◌∙◌, ◌<◌, ℕ, List, true, length, sym, refl, ap, subst}
use Rattle.std.specs.Prelude.{Option, Some, Contains}
use Rattle.std.proofs.lemmas.List.{get_or-set_same}
use Rattle.edge_cache.specs.Blocks.{changed_by, word_holds_in}
use Rattle.edge_cache.specs.Kept.{Kept, made}
use Rattle.edge_cache.specs.Places.{nothing, kept_at, blocks_of}
use Rattle.edge_cache.specs.Given.{waiting}
use Rattle.edge_cache.specs.Cached.{Cached, list_of}
use Rattle.edge_cache.specs.Calls.{content_in}
use Rattle.edge_cache.specs.Given.{or_shown}
use Rattle.edge_cache.proofs.CacheLaws.{blocks_set, listed_first, set_first_block, set_first_other, only_changes}
use Rattle.edge_cache.proofs.cache.Cache.write_part.Goals as goal

pub returns-clause-bytes : goal.returns-clause-bytes
returns-clause-bytes g c =
    let d = g.D.Disk in
    let mid = c.reach.new.self in
    let list = c.self.inside.shelf.list in
    let new = made (kept_at list 0).block (changed_by c.args.at c.args.bytes.now c.args.node (kept_at list 0).bytes) true in
    let is = ap (λ (v : Cached g.row.D.Denot). v.held) c.self.view_is in
    let some : 0 < length list = subst (λ (n : ℕ). 0 < n) (sym (ap length is)) c.in_ok-reach.ensures.some in
    let block : (kept_at list 0).block ≡ c.args.b = ap (λ l. (kept_at l 0).block) is ∙ c.in_ok-reach.ensures.block in
    let changed = changed_by c.args.at c.args.bytes.now c.args.node in
    λ tells.
    let was : (kept_at list 0).bytes ≡ content_in d c.args.self.now c.args.b = ap (λ l. (kept_at l 0).bytes) is ∙ c.in_ok-reach.ensures.bytes tells in
    ap (waiting c.write_first.new.self.list) (sym block) ∙ ap (λ l. waiting l new.block) c.write_first.ensures.list ∙ set_first_block list new some ∙ ap (λ (x : List ℕ). Some (changed x)) was

pub returns-clause-word : goal.returns-clause-word
returns-clause-word g c =
    let d = g.D.Disk in
    let mid = c.reach.new.self in
    let list = c.self.inside.shelf.list in
    let new = made (kept_at list 0).block (changed_by c.args.at c.args.bytes.now c.args.node (kept_at list 0).bytes) true in
    let is = ap (λ (v : Cached g.row.D.Denot). v.held) c.self.view_is in
    let some : 0 < length list = subst (λ (n : ℕ). 0 < n) (sym (ap length is)) c.in_ok-reach.ensures.some in
    let block : (kept_at list 0).block ≡ c.args.b = ap (λ l. (kept_at l 0).block) is ∙ c.in_ok-reach.ensures.block in
    let waits : waiting c.write_first.new.self.list c.args.b ≡ Some new.bytes = ap (waiting c.write_first.new.self.list) (sym block) ∙ ap (λ l. waiting l new.block) c.write_first.ensures.list ∙ set_first_block list new some in
    let first : kept_at c.write_first.new.self.list 0 ≡ new = ap (λ l. kept_at l 0) c.write_first.ensures.list ∙ get_or-set_same list 0 new nothing some in
    λ on. ap (λ (w : Option (List ℕ)). word_holds_in (or_shown w (d.shown c.self.inside.disk c.args.b))) waits ∙ sym (ap (λ (k : Kept). word_holds_in k.bytes) first) ∙ c.write_first.ensures.word on

pub returns-clause-changes : goal.returns-clause-changes
returns-clause-changes g c =
    let d = g.D.Disk in
    let mid = c.reach.new.self in
    let list = c.self.inside.shelf.list in
    let new = made (kept_at list 0).block (changed_by c.args.at c.args.bytes.now c.args.node (kept_at list 0).bytes) true in
    let is = ap (λ (v : Cached g.row.D.Denot). v.held) c.self.view_is in
    let some : 0 < length list = subst (λ (n : ℕ). 0 < n) (sym (ap length is)) c.in_ok-reach.ensures.some in
    let block : (kept_at list 0).block ≡ c.args.b = ap (λ l. (kept_at l 0).block) is ∙ c.in_ok-reach.ensures.block in
    let out : Cached g.row.D.Denot = record { disk = c.self.inside.disk; held = c.write_first.new.self.list } in
    let blocks : list_of out.held ≡ list_of mid.held = ap blocks_of c.write_first.ensures.list ∙ blocks_set list 0 new some refl ∙ ap blocks_of is in
    only_changes d c.args.self.now mid out c.args.b c.reach.ensures.only
    (c.reach.ensures.only.buffers c.args.b (listed_first mid.held c.args.b c.in_ok-reach.ensures.some c.in_ok-reach.ensures.block))
    (ap (λ (v : Cached g.row.D.Denot). v.disk) c.self.view_is)
    (λ k far. ap (λ l. waiting l k) c.write_first.ensures.list ∙ set_first_other list new k refl (λ e. far (e ∙ block)) ∙ ap (λ l. waiting l k) is)
    (λ k far on. subst (λ (l : List ℕ). Contains l k) blocks on)

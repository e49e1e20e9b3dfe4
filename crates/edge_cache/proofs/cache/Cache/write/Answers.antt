use Rattle.std.proofs.Common.{◌≡◌, ◌∙◌, ℕ, List, length, sym, ap, arith}
use Rattle.std.specs.Prelude.{Some}
use Rattle.edge_cache.specs.Blocks.{marked}
use Rattle.edge_cache.specs.Cached.{Cached}
use Rattle.edge_cache.specs.Calls.{content_in}
use Rattle.edge_cache.specs.Blocks.{put_at}
use Rattle.edge_cache.proofs.SealLaws.{put_at-whole}
use Rattle.edge_cache.proofs.CacheLaws.{on_ok}
use Rattle.edge_cache.proofs.cache.Cache.write.Goals as goal

pub returns-then-bytes-block_size-clause-bytes : goal.returns-then-bytes-block_size-clause-bytes
returns-then-bytes-block_size-clause-bytes g c = λ tells.
    let d = g.D.Disk in
    let was = content_in d c.args.self.now c.args.b in
    let whole : length was ≡ (d.origin c.args.self.now.disk).block_size = c.put.ensures.whole tells c.args.b c.requires.in_range in
    let all : length c.args.bytes.now ≡ length was = c.if-bytes-block_size.true ∙ c.block_size.ensures ∙ ap (λ (v : Cached g.row.D.Denot). (d.origin v.disk).block_size) c.self.view_is ∙ sym whole in
    let none : c.args.at ≡ 0 = omega (arith, all, whole, c.requires.inside) in
    let put : put_at c.args.at c.args.bytes.now was ≡ c.args.bytes.now = ap (λ (n : ℕ). put_at n c.args.bytes.now was) none ∙ put_at-whole c.args.bytes.now was all in
    on_ok c.put.result (λ waits. waits ∙ ap (λ (l : List ℕ). Some (marked c.args.node l)) (sym put)) c.put.ensures.bytes

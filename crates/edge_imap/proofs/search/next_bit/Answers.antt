use Rattle.std.proofs.Common.{refl, sym, ◌∙◌}
use Rattle.std.specs.Prelude.{not, ◌&&◌}
use Rattle.edge_alloc.specs.Pairs.{is_free}
use Rattle.edge_cache.specs.Calls.{content_in}
use Rattle.edge_imap.specs.Bitmaps.{IsLiveUnder, first_bit, bits_of, is_free_under}
use Rattle.edge_imap.proofs.BitLaws.{bit_of_root}
use Rattle.edge_imap.proofs.CallLaws.{reads_same, why_passed}
use Rattle.edge_imap.proofs.SearchLaws.{finds_alike, finds_bound}
use Rattle.edge_imap.proofs.search.next_bit.Goals as goal

pub returns-clause-found : goal.returns-clause-found
returns-clause-found g c = λ tells.
    let geometry = c.args.g.now in
    let content = content_in g.D.Disk c.args.cache.now in
    let inline = sym c.is_inline.ensures ∙ c.if-not-is_inline.false in
    finds_alike (is_free c.args.committed.now c.args.working.now) (is_free_under geometry c.args.committed.now c.args.working.now content) (first_bit geometry) (bits_of geometry) c.args.from c.next_of_roots.result
    (λ k on lt.
    let one = bit_of_root geometry c.args.committed.now content k inline in
    let two = bit_of_root geometry c.args.working.now content k inline in
    λ i. not (one i) && not (two i)) c.next_of_roots.ensures

pub returns-clause-reads : goal.returns-clause-reads
returns-clause-reads g c = reads_same g.D.Disk c.args.cache.now

pub returns-clause-cause : goal.returns-clause-cause
returns-clause-cause g c = why_passed g.D.Disk (IsLiveUnder c.args.g.now c.args.committed.now c.args.working.now) _ _ _ refl

pub returns-clause-bound : goal.returns-clause-bound
returns-clause-bound g c = finds_bound (is_free c.args.committed.now c.args.working.now) (first_bit c.args.g.now) (bits_of c.args.g.now) c.args.from c.next_of_roots.result c.next_of_roots.ensures

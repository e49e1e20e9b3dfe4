use Rattle.std.proofs.Common.{◌*◌, refl, sym, ap, ◌∙◌}
use Rattle.edge_base.specs.declared.geometry.Request.{Request}
use Rattle.edge_cache.specs.Calls.{content_in}
use Rattle.edge_imap.specs.Bitmaps.{IsLive, first_bit}
use Rattle.edge_imap.specs.Inodes.{is_clear_pair, is_pair_under}
use Rattle.edge_imap.proofs.CallLaws.{reads_same, why_passed}
use Rattle.edge_imap.proofs.PairLaws.{finds_pair, pair_below, table_of_root}
use Rattle.edge_imap.proofs.inodes.first_pair.Goals as goal

pub returns-clause-found : goal.returns-clause-found
returns-clause-found g c = λ tells.
    let geometry = c.args.g.now in
    let content = content_in g.D.Disk c.args.cache.now in
    let inline = sym c.is_inline.ensures ∙ c.if-not-is_inline.false in
    finds_pair (is_clear_pair c.args.roots.now) (is_pair_under geometry c.args.roots.now content) _ (first_bit geometry) c.first_clear_pair.result (ap (λ (r : Request). 2 * r.inodes) c.request.ensures.same)
    (λ k. sym (table_of_root geometry c.args.roots.now content inline k)) c.first_clear_pair.ensures.found c.first_clear_pair.ensures.none

pub returns-clause-bound : goal.returns-clause-bound
returns-clause-bound g c = pair_below (is_clear_pair c.args.roots.now) _ (first_bit c.args.g.now) c.first_clear_pair.result (ap (λ (r : Request). 2 * r.inodes) c.request.ensures.same) c.first_clear_pair.ensures.found

pub returns-clause-reads : goal.returns-clause-reads
returns-clause-reads g c = reads_same g.D.Disk c.args.cache.now

pub returns-clause-cause : goal.returns-clause-cause
returns-clause-cause g c = why_passed g.D.Disk (IsLive c.args.g.now c.args.roots.now) _ _ _ refl

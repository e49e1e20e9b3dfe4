use Rattle.std.proofs.Common.{◌*◌, refl, sym, ap, ◌∙◌}
use Rattle.edge_cache.specs.Calls.{content_in}
use Rattle.edge_imap.specs.Bitmaps.{count_clear}
use Rattle.edge_imap.specs.Inodes.{is_clear_pair, is_pair_under}
use Rattle.edge_imap.proofs.BitLaws.{bit_of_root}
use Rattle.edge_imap.proofs.CountLaws.{count-alike}
use Rattle.edge_imap.proofs.PairLaws.{number_count, table_of_root}
use Rattle.edge_imap.proofs.CallLaws.{reads_same}
use Rattle.edge_imap.proofs.TieLaws.{no_nodes_needed}
use Rattle.edge_imap.proofs.LoadLaws.{tells_passed}
use Rattle.edge_imap.proofs.load.load_roots.Goals as goal

pub returns-clause-nodes : goal.returns-clause-nodes
returns-clause-nodes g c = λ tells. no_nodes_needed c.args.g.now c.args.roots.now (content_in g.D.Disk c.args.cache.now) (sym c.is_inline.ensures ∙ c.if-not-is_inline.false)

pub returns-clause-count : goal.returns-clause-count
returns-clause-count g c = λ tells.
    c.count_roots.ensures.blocks ∙ ap (count_clear c.args.g.now) (λ z i. sym (bit_of_root c.args.g.now c.args.roots.now (content_in g.D.Disk c.args.cache.now) i (sym c.is_inline.ensures ∙ c.if-not-is_inline.false)) z)

pub returns-clause-numbers : goal.returns-clause-numbers
returns-clause-numbers g c = λ tells.
    let geometry = c.args.g.now in
    let content = content_in g.D.Disk c.args.cache.now in
    let inline = sym c.is_inline.ensures ∙ c.if-not-is_inline.false in
    c.count_roots.ensures.pairs ∙ sym (count-alike (is_clear_pair c.args.roots.now) (is_pair_under geometry c.args.roots.now content) 0 (2 * geometry.inodes) (λ k on lt. sym (table_of_root geometry c.args.roots.now content inline k)))
    ∙ number_count geometry c.args.roots.now content geometry.inodes

pub returns-clause-reads : goal.returns-clause-reads
returns-clause-reads g c = reads_same g.D.Disk c.args.cache.now

pub returns-clause-cause : goal.returns-clause-cause
returns-clause-cause g c = tells_passed g.D.Disk c.args.g.now c.args.roots.now _ _ _ refl

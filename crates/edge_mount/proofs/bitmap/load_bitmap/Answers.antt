use Rattle.std.proofs.Common.{◌≡◌, ◌≤◌, ◌<◌, ◌^◌, sym, ap, ◌∙◌, refl, subst, arith}
use Rattle.edge_alloc.specs.declared.Counts.{Counts}
use Rattle.edge_base.specs.layout.Bitmap.{used_under}
use Rattle.edge_cache.specs.Calls.{content_in}
use Rattle.edge_image.specs.Image.{free_blocks_of}
use Rattle.edge_imap.specs.Bitmaps.{IsTied}
use Rattle.edge_imap.proofs.CallLaws.{reads_same}
use Rattle.edge_mount.proofs.NodeLaws.{free_of_loaded, nodes_are_good, nodes_of_loaded}
use Rattle.edge_mount.proofs.ReasonLaws.{by_counts, has_counts, late}
use Rattle.edge_mount.proofs.TellsLaws.{content_same, tells_load, tells_passed, tells_reason}
use Rattle.edge_mount.proofs.bitmap.load_bitmap.Goals as goal

pub returns-then-root-clause-reads : goal.returns-then-root-clause-reads
returns-then-root-clause-reads g c = reads_same g.D.Disk c.args.cache.now

pub returns-then-root-clause-cause : goal.returns-then-root-clause-cause
returns-then-root-clause-cause g c = tells_reason g.D.Disk _ c.args.cache.now c.args.cache.now 5 refl (λ shows.
    let after : 2 ^ 63 < c.args.root.now.sequence = omega arith in
    late c.args.g c.args.root.now c.args.bits.now (content_in g.D.Disk c.args.cache.now) after)

pub returns-in_err-loaded-clause-cause : goal.returns-in_err-loaded-clause-cause
returns-in_err-loaded-clause-cause g c =
    let before : c.args.root.now.sequence ≤ 2 ^ 63 = omega arith in
    tells_load g.D.Disk c.args.g c.args.root.now c.args.bits.now c.args.cache.now c.load_in.new.cache c.load_in.result _ c.in_err-loaded.field-0.0 before
    c.load_in.ensures.cause c.load_in.ensures.memory c.in_err-loaded.was c.from_residual.ensures

pub returns-in-Some-clause-cause : goal.returns-in-Some-clause-cause
returns-in-Some-clause-cause g c = tells_reason g.D.Disk _ c.args.cache.now c.load_in.new.cache c.in-Some.reason c.in_ok-loaded.ensures.cause.passed (λ shows.
    let before : c.args.root.now.sequence ≤ 2 ^ 63 = omega arith in
    let r = c.args.g in
    let bits = c.args.bits.now in
    let m = c.in_ok-loaded.loaded.imap in
    let content = content_in g.D.Disk c.args.cache.now in
    let was = c.in_ok-loaded.ensures in
    let tied : IsTied m content = subst (λ s. IsTied m s) (content_same g.D.Disk c.args.cache.now c.load_in.new.cache c.load_in.ensures.reads shows) (was.tied shows) in
    let free : c.counts.result.free ≡ free_blocks_of r (used_under r bits content)
    = ap (λ (x : Counts). x.free) c.counts.ensures ∙ free_of_loaded m r bits content was.geometry was.working was.committed tied in
    by_counts r c.args.root.now bits content before (nodes_are_good r bits content (nodes_of_loaded m r bits content was.geometry was.working tied))
    ∙ sym (c.in-Some.ensures r (used_under r bits content) free (was.numbers shows)))

pub returns-in-None-clause-nodes : goal.returns-in-None-clause-nodes
returns-in-None-clause-nodes g c = λ shows.
    let r = c.args.g in
    let bits = c.args.bits.now in
    let m = c.in_ok-loaded.loaded.imap in
    let content = content_in g.D.Disk c.args.cache.now in
    let was = c.in_ok-loaded.ensures in
    let tied : IsTied m content = subst (λ s. IsTied m s) (content_same g.D.Disk c.args.cache.now c.load_in.new.cache c.load_in.ensures.reads shows) (was.tied shows) in
    nodes_are_good r bits content (nodes_of_loaded m r bits content was.geometry was.working tied)

pub returns-in-None-clause-counts : goal.returns-in-None-clause-counts
returns-in-None-clause-counts g c = λ shows.
    let r = c.args.g in
    let bits = c.args.bits.now in
    let m = c.in_ok-loaded.loaded.imap in
    let content = content_in g.D.Disk c.args.cache.now in
    let was = c.in_ok-loaded.ensures in
    let tied : IsTied m content = subst (λ s. IsTied m s) (content_same g.D.Disk c.args.cache.now c.load_in.new.cache c.load_in.ensures.reads shows) (was.tied shows) in
    let free : c.counts.result.free ≡ free_blocks_of r (used_under r bits content)
    = ap (λ (x : Counts). x.free) c.counts.ensures ∙ free_of_loaded m r bits content was.geometry was.working was.committed tied in
    has_counts r c.args.root.now (used_under r bits content) (sym (c.in-None.ensures r (used_under r bits content) free (was.numbers shows)))

pub returns-in-None-clause-cause : goal.returns-in-None-clause-cause
returns-in-None-clause-cause g c = tells_passed g.D.Disk _ c.args.cache.now c.load_in.new.cache _ c.in_ok-loaded.ensures.cause.passed

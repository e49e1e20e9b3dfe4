use Rattle.std.proofs.Common.{◌≡◌, refl, ap, ◌∙◌, arith}
use Rattle.edge_cache.specs.Calls.{content_in}
use Rattle.edge_imap.specs.Bitmaps.{IsLive}
use Rattle.edge_imap.proofs.CallLaws.{reads_same, why_passed, why_after}
use Rattle.edge_imap.proofs.PairLaws.{table_read}
use Rattle.edge_imap.proofs.inodes.read_table.Goals as goal

pub read_node-requires-clause-in_range : goal.read_node-requires-clause-in_range
read_node-requires-clause-in_range g c = omega (arith, c.live_block-place.ensures.in_range, c.requires.fits.blocks)

pub returns-in_err-read_node-clause-cause : goal.returns-in_err-read_node-clause-cause
returns-in_err-read_node-clause-cause g c =
    why_after g.D.Disk (λ k. k ≡ c.live_block-place.result) (IsLive c.args.g.now c.args.roots.now) c.args.cache.now c.args.cache.now c.read_node.new.cache c.read_node.result _ c.in_err-read_node.field-0.0
    (λ k h. (c.args.node, c.requires.node, h ∙ c.live_block-place.ensures.place)) (reads_same g.D.Disk c.args.cache.now) refl c.read_node.ensures.cause c.in_err-read_node.was c.from_residual.ensures

pub returns-clause-pairs : goal.returns-clause-pairs
returns-clause-pairs g c = λ tells.
    table_read c.args.g.now c.args.roots.now (content_in g.D.Disk c.args.cache.now) c.args.node c.read_node.new.out c.requires.external
    (c.in_ok-read_node.ensures.bytes tells ∙ ap (content_in g.D.Disk c.args.cache.now) c.live_block-place.ensures.place)

pub returns-clause-cause : goal.returns-clause-cause
returns-clause-cause g c = why_passed g.D.Disk (IsLive c.args.g.now c.args.roots.now) _ _ _ c.in_ok-read_node.ensures.cause.passed

pub returns-clause-bits : goal.returns-clause-bits
returns-clause-bits g c = omega (arith, c.window_of.ensures.begins, c.request-within_limits.ensures.limits.room)

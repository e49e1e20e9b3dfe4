use Rattle.std.proofs.Common.{◌≡◌, ◌∙◌, sym, ap}
use Rattle.edge_base.specs.declared.geometry.Request.{Request}
use Rattle.edge_base.specs.tree.Slots.{pieces}
use Rattle.edge_space.proofs.AnswerLaws.{behind_inside, behind_whole}
use Rattle.edge_space.proofs.size.fresh_behind.Goals as goal

pub returns-in-Some-clause-need : goal.returns-in-Some-clause-need
returns-in-Some-clause-need g c = behind_inside (g.S.Store.state c.args.s.now) c.args.n c.args.size c.in-Some.fresh
    (λ told. sym c.in-Some.is ∙ c.in_ok-fresh.ensures.fresh told)

pub returns-in-None-clause-need : goal.returns-in-None-clause-need
returns-in-None-clause-need g c =
    let old = g.S.Store.state c.args.s.now in
    let first = c.in_ok-fresh.ensures in
    let count : c.blocks_of-blocks.result ≡ pieces old.origin.request.block_size c.args.size =
    c.blocks_of-blocks.ensures.count ∙ ap (λ (q : Request). pieces q.block_size c.args.size) c.geometry.ensures in
    behind_whole old c.args.n c.args.size (g.S.Store.state c.fresh_inside.new.s) c.blocks_of-blocks.result c.cut_cost.result
    first.called.origin first.point.committed first.reads.working count (λ told. sym c.in-None.is ∙ first.fresh told) c.cut_cost.ensures.cost

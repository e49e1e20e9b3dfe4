use Rattle.std.proofs.Common.{◌∙◌, sym}
use Rattle.edge_space.proofs.AnswerLaws.{size_shorter, size_longer}
use Rattle.edge_space.proofs.size.fresh_of_size.Goals as goal

pub returns-then-longer-clause-need : goal.returns-then-longer-clause-need
returns-then-longer-clause-need g c =
    let first = c.in_ok-longer.ensures in
    size_shorter (g.S.Store.state c.args.s.now) c.args.n c.args.size (g.S.Store.state c.is_longer.new.s) c.fresh_behind.result
    first.called.origin first.point.committed first.reads.working (λ told. sym (first.longer told) ∙ c.if-longer.true) c.fresh_behind.ensures.need

pub returns-else-longer-clause-need : goal.returns-else-longer-clause-need
returns-else-longer-clause-need g c =
    size_longer (g.S.Store.state c.args.s.now) c.args.n c.args.size (λ told. sym (c.in_ok-longer.ensures.longer told) ∙ c.if-longer.false)

use Rattle.std.proofs.Common.{◌≡◌, ◌≤◌, ◌∙◌, ◌+◌, ◌-◌, ◌/◌, ap, subst}
use Rattle.edge_base.specs.declared.geometry.Request.{Request}
use Rattle.edge_base.specs.layout.Places.{max_blocks_of}
use Rattle.edge_space.proofs.AnswerLaws.{bytes_answer}
use Rattle.edge_space.proofs.run.fresh_of_bytes.Goals as goal

pub returns-clause-need : goal.returns-clause-need
returns-clause-need g c =
    let r = (g.S.Store.state c.args.s.now).origin.request in
    let same : c.geometry.result ≡ r = c.geometry.ensures in
    let run = c.run_under-run.result in
    let first : run.first ≡ c.args.at / r.block_size = c.run_under-run.ensures.first ∙ ap (λ (q : Request). c.args.at / q.block_size) same in
    let end : run.first + run.count ≡ (c.args.at + c.args.len - 1) / r.block_size + 1 = c.run_under-run.ensures.end ∙ ap (λ (q : Request). (c.args.at + c.args.len - 1) / q.block_size + 1) same in
    let low : run.first + run.count ≤ max_blocks_of r = subst (λ (q : Request). run.first + run.count ≤ max_blocks_of q) same c.run_under-run.ensures.most in
    bytes_answer (g.S.Store.state c.args.s.now) c.args.n c.args.at c.args.len run.first run.count c.fresh_of_run.result (g.met.S.Store.is_geometry c.args.s.now) c.requires.some c.requires.end first end low c.fresh_of_run.ensures.fresh

use Rattle.std.proofs.Common.{◌≡◌, ◌+◌, ◌<◌, ◌^◌, sym, ap, ◌∙◌, subst, arith}
use Rattle.edge_alloc.specs.declared.Counts.{Counts}
use Rattle.edge_point.proofs.RoomLaws.{after_free, now_free}
use Rattle.edge_point.proofs.TransactLaws.{few_free}
use Rattle.edge_point.proofs.room.free.Goals as goal

pub returns-clause-now : goal.returns-clause-now
returns-clause-now g c = λ told live. ap (λ (x : Counts). x.free) c.counts-counts.ensures ∙ now_free g.D.Disk c.args.p.now c.requires.stands live told

pub returns-clause-after : goal.returns-clause-after
returns-clause-after g c = λ told live.
    let p = c.args.p.now in
    let few = few_free g.D.Disk p c.requires.stands live told in
    let small : c.counts-counts.result.free + c.counts-counts.result.almost < 2 ^ 32
    = subst (λ (x : Counts). x.free + x.almost < 2 ^ 32) (sym c.counts-counts.ensures) few in
    let whole : c.saturating_add.result ≡ c.counts-counts.result.free + c.counts-counts.result.almost = omega arith in
    whole ∙ ap (λ (x : Counts). x.free + x.almost) c.counts-counts.ensures ∙ after_free g.D.Disk p c.requires.stands live told

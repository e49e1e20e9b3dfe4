use Rattle.std.proofs.Common.{◌∙◌, ◌&&◌, nat_lt, sym, ap}
use Rattle.edge_room.proofs.JudgeLaws.{gains_told}
use Rattle.edge_room.proofs.judge.gains.Goals as goal

pub returns-then-full : goal.returns-then-full
returns-then-full g c z stands is_full =
    let free = c.free-free.result in
    ap (λ b. b && nat_lt free.now free.after) (sym c.if-full.true)
    ∙ gains_told (g.S.Store.state c.args.s.now) c.args.full free.now free.after z (c.free-free.ensures.now stands.told c.requires.live) (c.free-free.ensures.after stands.told c.requires.live) stands is_full

use Rattle.std.proofs.Common.{refl, sym}
use Rattle.edge_mask.specs.Mask.{mask_of}
use Rattle.edge_calls.specs.State.{volume_of}
use Rattle.edge_calls.proofs.SessionLaws.{mask_refused, mask_set}
use Rattle.edge_calls.proofs.volume.Volume.set_mask.Goals as goal

pub returns-in_default-clause-did : goal.returns-in_default-clause-did
returns-in_default-clause-did g c out = mask_refused c.args.events (volume_of g.S.Store c.args.self.now) out c.requires.live (c.in_default.ensures.above.0 refl)

pub returns-clause-did : goal.returns-clause-did
returns-clause-did g c out =
    let known = c.in-Some.ensures in
    mask_set c.args.events (volume_of g.S.Store c.args.self.now) out c.requires.live (mask_of c.in-Some.mask) known.mask (λ past. sym (known.above.1 past))

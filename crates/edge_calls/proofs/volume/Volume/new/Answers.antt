use Rattle.std.proofs.Common.{sym, ap, subst}
use Rattle.edge_base.specs.commands.Descriptors.{Descriptors}
use Rattle.edge_model.specs.State.{first_state}
use Rattle.edge_volume.specs.Volume.{VolumeState, VolumeStands}
use Rattle.edge_calls.specs.State.{made_over}
use Rattle.edge_calls.proofs.MadeLaws.{made_stands}
use Rattle.edge_calls.proofs.volume.Volume.new.Goals as goal

pub returns-clause-stands : goal.returns-clause-stands
returns-clause-stands g c t told room is =
    let st = g.S.Store.state c.args.store in
    subst (λ (v : VolumeState). VolumeStands v (first_state t))
    (sym (ap (λ (ds : Descriptors). record (made_over st) { descriptors = ds }) c.new.ensures))
    (made_stands st t (g.met.S.Store.live_is_whole c.args.store c.requires.live) c.requires.unchanged told (g.met.S.Store.committed_is_view c.args.store told) room is)

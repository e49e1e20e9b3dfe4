use Rattle.std.proofs.Common.{◌∙◌, ℕ, sym, subst}
use Rattle.std.specs.Prelude.{Ok}
use Rattle.edge_model.specs.declared.command.Answer.TheVariants as a
use Rattle.edge_model.specs.Asked as command
use Rattle.edge_volume.specs.Did.{Did}
use Rattle.edge_calls.specs.State.{volume_of}
use Rattle.edge_calls.proofs.SessionLaws.{mask_told}
use Rattle.edge_calls.proofs.volume.Volume.tell_mask.Goals as goal

pub returns : goal.returns
returns g c = record {
  did = λ out.
      let v = volume_of g.S.Store c.args.self.now in
      subst (λ (m : ℕ). Did command.mask (Ok (a.Number m)) v v out) (sym (c.from.ensures ∙ c.number.ensures)) (mask_told v out c.requires.live);
}

-- The file of a descriptor that is to get a size.
use Rattle.std.proofs.Common.{◌≡◌, ◌∙◌, ℕ, nat_le, nat_lt, true, false, cond, refl, sym, ap, Some}
use Rattle.std.specs.Prelude.{Ok, Err}
use Rattle.edge_base.specs.commands.Descriptors.{Descriptor, descriptor_at}
use Rattle.edge_base.specs.declared.geometry.Request.{Request}
use Rattle.edge_base.specs.declared.node.Head.{Head}
use Rattle.edge_base.specs.declared.refusal.Refusal.TheVariants as refusal
use Rattle.edge_base.specs.layout.Places.{max_size_of}
use Rattle.edge_model.specs.Files.{cut}
use Rattle.edge_model.specs.Open.{writable_at}
use Rattle.edge_model.specs.State.{State}
use Rattle.edge_steps.specs.Session.{IsSession}
use Rattle.edge_volume.specs.Nodes.{head_at}
use Rattle.edge_calls.specs.Sizes.{Sized, sizing_of}
use Rattle.edge_calls.proofs.PlaceLaws.{size_is}

module _ (g : Request) (z : State) (h size : ℕ) (d : Descriptor) (is : Ok d ≡ writable_at z h) where
  sizing_past : nat_lt (max_size_of g) size ≡ true → sizing_of g z h size ≡ Err refusal.TooBig
  sizing_past past = rw (sym is, past) refl

  sizing_is : nat_lt (max_size_of g) size ≡ false → sizing_of g z h size ≡ Ok (record { by = d; reserve = (cut g z.tree d.number size).reserve })
  sizing_is within = rw (sym is, within) refl

  module _ (most : ℕ) (greatest : most ≡ max_size_of g) where
    pub found_great : nat_lt most size ≡ true → Err refusal.TooBig ≡ sizing_of g z h size
    found_great past = sym (sizing_past (sym (ap (λ (m : ℕ). nat_lt m size) greatest) ∙ past))

    pub found_sizing : (reserve : ℕ) (head : Head) → IsSession g z → descriptor_at z.descriptors h ≡ Some d → d.directory ≡ false → Some head ≡ head_at g z.tree d.number
        → reserve ≡ cond (nat_le size head.size) 0 3 → nat_lt most size ≡ false → Ok (record { by = d; reserve = reserve }) ≡ sizing_of g z h size
    found_sizing reserve head session is_open kind told leaves within =
        let same : reserve ≡ (cut g z.tree d.number size).reserve = leaves ∙ ap (λ (k : ℕ). cond (nat_le size k) 0 3) (size_is g z h d session is_open kind head told) in
        ap (λ (k : ℕ). Ok (let x : Sized = record { by = d; reserve = k } in x)) same ∙ sym (sizing_is (sym (ap (λ (m : ℕ). nat_lt m size) greatest) ∙ within))

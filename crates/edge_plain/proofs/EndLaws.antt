-- A store that has ended with the damage that a call has met.
use Rattle.std.proofs.Common.{◌≡◌, ◌∙◌, ℕ, false, sym, ap, Option, Some}
use Rattle.std.specs.Prelude.{Result, Err}
use Rattle.edge_base.specs.declared.damage.Damage.{Damage}
use Rattle.edge_base.specs.layout.Places.{inode_place_of}
use Rattle.edge_plain.specs.declared.plain.PlainStore.{PlainStore}
use Rattle.edge_plain.specs.declared.plain_view.PlainView.{PlainView}
use Rattle.edge_plain.specs.KeptView.{view_of}
use Rattle.edge_plain.specs.Plain.{state_of}
use Rattle.edge_store.specs.declared.fault.StoreFault.{StoreFault}
use Rattle.edge_store.specs.declared.fault.StoreFault.TheVariants.{Damaged}
use Rattle.edge_store.specs.Calls.{Meets}

one_damage : {T : Type 0} (result : StoreFault) (damage other : Damage) → result ≡ Damaged damage → ◌≡◌ {A = Result T StoreFault} (Err result) (Err (Damaged other)) → damage ≡ other
one_damage result damage other is e = let f : result ≡ Damaged other = cc in let g : Damaged damage ≡ Damaged other = sym is ∙ f in cc

pub ended_with : {T : Type 0} (old new : PlainStore) (met : Option Damage) (damage : Damage) (result : StoreFault) → met ≡ Some damage → result ≡ Damaged damage
    → new.working ≡ old.working → Meets {T = T} met (state_of old) (state_of new) (Err result)
ended_with {T} old new met damage result is told same = record {
  none = tt;
  that = λ other e. is ∙ ap Some (one_damage {T = T} result damage other told e);
  keeps = λ other e. let at : PlainView → ℕ → ℕ = λ v n. inode_place_of v.geometry n false in record { working = ap view_of same; places = ap at same };
}

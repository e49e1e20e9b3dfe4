use Rattle.std.proofs.Common.{◌≡◌, ◌∙◌, refl, sym, ap, subst, Some}
use Rattle.std.specs.Prelude.{Result, Ok, Err}
use Rattle.edge_base.specs.layout.Places.{IsGeometry}
use Rattle.edge_base.specs.outside.Faults.{Because}
use Rattle.edge_store.specs.declared.fault.StoreFault.{StoreFault}
use Rattle.edge_store.specs.declared.fault.StoreFault.TheVariants as store
use Rattle.edge_store.specs.State.{StoreState}
use Rattle.edge_base.specs.declared.damage.Damage.{Damage}
use Rattle.edge_base.specs.outside.Below.{Origin}
use Rattle.edge_model.specs.declared.ask.AskFault.{AskFault}
use Rattle.edge_model.specs.declared.ask.AskFault.TheVariants as ask
use Rattle.edge_model.specs.declared.command.Answer.{Answer}
use Rattle.edge_model.specs.Asked.{asked}
use Rattle.edge_model.specs.Asking.{damage_of}
use Rattle.edge_model.specs.Bytes.{IsOfBytes}
use Rattle.edge_volume.specs.Parts.{CauseOf}
use Rattle.edge_calls.specs.State.{volume_of, as_ask}
use Rattle.edge_calls.proofs.AskLaws.{did_stand, did_trees, no_damage_told}
use Rattle.edge_calls.proofs.ask.VolumeAsk.ask.Goals as goal

same_fault : (x f : AskFault) → ◌≡◌ {A = Result Answer AskFault} (Err x) (Err f) → x ≡ f
same_fault x f e = cc

no_fault : (answer : Answer) (fault : AskFault) → ◌≡◌ {A = Result Answer AskFault} (Ok answer) (Err fault) → ⊥
no_fault answer fault e = cc

-- the damage that is told
damaged_of : (fault : StoreFault) (d : Damage) → as_ask fault ≡ ask.Damaged d → fault ≡ store.Damaged d
damaged_of store.Device d is = absurd (cc)
damaged_of (store.Damaged x) d is = cc

cause_told : (fault : StoreFault) (f : AskFault) (old new : StoreState) → as_ask fault ≡ f → CauseOf (Some fault) old new
    → Because old.faults new.faults old.damage new.damage (damage_of f)
cause_told store.Device f old new is cause = subst (λ (x : AskFault). Because old.faults new.faults old.damage new.damage (damage_of x)) is cause
cause_told (store.Damaged d) f old new is cause = subst (λ (x : AskFault). Because old.faults new.faults old.damage new.damage (damage_of x)) is cause

pub returns-in-Ok : goal.returns-in-Ok
returns-in-Ok g c =
    let old = volume_of g.S.Store c.args.self.now in
    let new = volume_of g.S.Store c.answer.new.self in
    let told = c.in-Ok.ensures in
    let did = told.did in
    let bytes = c.are_bytes.ensures in
    let is = g.met.S.Store.is_geometry c.args.self.now.store in
    record {
      origin = did.ends.origin;
      live = did.ends.live;
      cause = record { later = did.ends.later; passed = did.ends.cause; failed = λ fault e. absurd (no_fault _ _ e) };
      undamaged = λ s stands d e. no_fault _ _ e;
      there = λ d e. absurd (no_fault _ _ e);
      never_falls = did.points.never_falls;
      two_points = did.points.at_most;
      guarded = did.ends.guarded;
      mask = did.mask.after refl;
      mask_told = did.mask.told;
      mask_stays = did.mask.stays;
      opens = did.opens.after;
      opens_stay = did.opens.stays;
      told = did.buffer;
      whole_buffer = told.whole_buffer;
      answer = λ s stands. (did.meets bytes c.requires.limits s stands).answer;
      come = λ s stands. record {
        to_state = did_stand (asked c.args.c) _ old new c.answer.new.out did is bytes c.requires.limits s stands refl;
        by_points = (did.meets bytes c.requires.limits s stands).comes.by_points refl;
      };
      trees = λ s stands. did_trees (asked c.args.c) _ old new c.answer.new.out did is bytes c.requires.limits s stands;
      quiet = λ clean quiet. (told.below quiet).candidates clean;
      clean = λ clean quiet. (told.below quiet).clean clean refl;
    }

pub returns-in-Err-Refused : goal.returns-in-Err-Refused
returns-in-Err-Refused g c =
    let old = volume_of g.S.Store c.args.self.now in
    let new = volume_of g.S.Store c.answer.new.self in
    let told = rw c.in-Err-Refused.field-0-is at c.in-Err-Refused.ensures in
    let did = told.did in
    let bytes = c.are_bytes.ensures in
    let is = g.met.S.Store.is_geometry c.args.self.now.store in
    record {
      origin = did.ends.origin;
      live = did.ends.live;
      cause = record { later = did.ends.later; passed = did.ends.cause; failed = λ fault e. absurd (no_fault _ _ e) };
      undamaged = λ s stands d e. no_fault _ _ e;
      there = λ d e. absurd (no_fault _ _ e);
      never_falls = did.points.never_falls;
      two_points = did.points.at_most;
      guarded = did.ends.guarded;
      mask = did.mask.after refl;
      mask_told = did.mask.told;
      mask_stays = did.mask.stays;
      opens = did.opens.after;
      opens_stay = did.opens.stays;
      told = did.buffer;
      whole_buffer = told.whole_buffer;
      answer = λ s stands. (did.meets bytes c.requires.limits s stands).answer;
      come = λ s stands. record {
        to_state = did_stand (asked c.args.c) _ old new c.answer.new.out did is bytes c.requires.limits s stands refl;
        by_points = (did.meets bytes c.requires.limits s stands).comes.by_points refl;
      };
      trees = λ s stands. did_trees (asked c.args.c) _ old new c.answer.new.out did is bytes c.requires.limits s stands;
      quiet = λ clean quiet. (told.below quiet).candidates clean;
      clean = λ clean quiet. (told.below quiet).clean clean refl;
    }

pub returns-in-Err-Fault : goal.returns-in-Err-Fault
returns-in-Err-Fault g c =
    let old = volume_of g.S.Store c.args.self.now in
    let new = volume_of g.S.Store c.answer.new.self in
    let told = rw c.in-Err-Fault.field-0-is at c.in-Err-Fault.ensures in
    let did = told.did in
    let bytes = c.are_bytes.ensures in
    let is = g.met.S.Store.is_geometry c.args.self.now.store in
    let fault = c.in-Err-Fault.fault in
    record {
      origin = did.ends.origin;
      live = did.ends.live;
      cause = record {
        later = did.ends.later;
        passed = tt;
        failed = λ f e. cause_told fault f old.store new.store (sym c.as_ask.ensures ∙ same_fault _ f e) did.ends.cause;
      };
      undamaged = λ s stands d e. no_damage_told fault d (did.meets bytes c.requires.limits s stands).comes.undamaged (sym c.as_ask.ensures ∙ same_fault _ _ e);
      there = λ d e told. did.ends.there d (ap Some (damaged_of fault d (sym c.as_ask.ensures ∙ same_fault _ _ e))) (ap (λ (o : Origin). o.tells) (sym did.ends.origin) ∙ told);
      never_falls = did.points.never_falls;
      two_points = did.points.at_most;
      guarded = did.ends.guarded;
      mask = tt;
      mask_told = tt;
      mask_stays = did.mask.stays;
      opens = tt;
      opens_stay = did.opens.stays;
      told = tt;
      whole_buffer = told.whole_buffer;
      answer = tt;
      come = λ s stands. record { to_state = tt; by_points = tt };
      trees = λ s stands. did_trees (asked c.args.c) _ old new c.answer.new.out did is bytes c.requires.limits s stands;
      quiet = λ clean quiet. (told.below quiet).candidates clean;
      clean = λ clean quiet. tt;
    }

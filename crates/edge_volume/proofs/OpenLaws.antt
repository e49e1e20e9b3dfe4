-- Which descriptors are open after a place of the table is set.
use Rattle.std.proofs.Common.{◌≡◌, ◌≢◌, ◌∙◌, ℕ, zero, suc, ◌==◌, Bool, true, false, cond, [], ◌∷◌, slice_set, is_some, refl, sym, ap, eqb-true, Option, Some, None}
use Rattle.std.specs.Prelude.{slice_get}
use Rattle.std.proofs.lemmas.Bool.{eqb-false}
use Rattle.edge_base.specs.commands.Descriptors.{Descriptor, Descriptors, descriptor_at}
use Rattle.edge_model.specs.Asking.{with_open}
use Rattle.edge_model.specs.Open.{moved}
use Rattle.edge_volume.specs.Volume.{VolumeState, opens_of}

set_other : (table : Descriptors) (h : ℕ) (new : Option Descriptor) (k : ℕ) → k ≢ h → descriptor_at (slice_set table h new) k ≡ descriptor_at table k
set_other [] h new k other = refl
set_other (x ∷ xs) zero new zero other = absurd (other refl)
set_other (x ∷ xs) zero new (suc k) other = refl
set_other (x ∷ xs) (suc h) new zero other = refl
set_other (x ∷ xs) (suc h) new (suc k) other = set_other xs h new k (λ e. other (ap suc e))

-- a descriptor that is closed
pub set_none : (table : Descriptors) (h : ℕ) → descriptor_at (slice_set table h None) h ≡ None
set_none [] h = refl
set_none (x ∷ xs) zero = refl
set_none (x ∷ xs) (suc h) = set_none xs h

-- a place that the table has
pub set_here : (table : Descriptors) (h : ℕ) (old new : Option Descriptor) → slice_get table h ≡ Some old → descriptor_at (slice_set table h new) h ≡ new
set_here [] h old new is = absurd (cc)
set_here (x ∷ xs) zero old new is = refl
set_here (x ∷ xs) (suc h) old new is = set_here xs h old new is

-- a descriptor that is open
pub set_over : (table : Descriptors) (h : ℕ) (d : Descriptor) (new : Option Descriptor) → descriptor_at table h ≡ Some d → descriptor_at (slice_set table h new) h ≡ new
set_over [] h d new is = absurd (cc)
set_over (x ∷ xs) zero d new is = refl
set_over (x ∷ xs) (suc h) d new is = set_over xs h d new is

module _ (old new : VolumeState) (h : ℕ) (slot : Option Descriptor) (are : new.descriptors ≡ slice_set old.descriptors h slot)
    (here : descriptor_at (slice_set old.descriptors h slot) h ≡ slot) where
  -- one descriptor is open or closed, and the others stay as they were
  pub set_opens : opens_of new ≡ with_open (opens_of old) h (is_some slot)
  set_opens = λ i k. by k (k == h) refl i
    where
      by : (k : ℕ) (same : Bool) → (k == h) ≡ same → is_some (descriptor_at new.descriptors k) ≡ cond same (is_some slot) (is_some (descriptor_at old.descriptors k))
      by k true e = ap (λ (ds : Descriptors). is_some (descriptor_at ds k)) are ∙ ap (λ (x : ℕ). is_some (descriptor_at (slice_set old.descriptors h slot) x)) (eqb-true k h e) ∙ ap is_some here
      by k false e = ap (λ (ds : Descriptors). is_some (descriptor_at ds k)) are ∙ ap is_some (set_other old.descriptors h slot k (eqb-false k h e))

open_again : (f : ℕ → Bool) (h : ℕ) (b : Bool) → f h ≡ b → with_open f h b ≡ f
open_again f h b is = λ i k. by k (k == h) refl i
  where
    by : (k : ℕ) (same : Bool) → (k == h) ≡ same → cond same b (f k) ≡ f k
    by k true e = sym is ∙ ap f (sym (eqb-true k h e))
    by k false e = refl

-- moving a descriptor opens and closes none
pub moved_opens : (old new : VolumeState) (h : ℕ) (d : Descriptor) (at : ℕ) → descriptor_at old.descriptors h ≡ Some d → new.descriptors ≡ moved old.descriptors h d at
    → opens_of new ≡ opens_of old
moved_opens old new h d at is are =
    set_opens old new h (Some (record d { at = at })) are (set_over old.descriptors h d (Some (record d { at = at })) is)
    ∙ open_again (opens_of old) h true (ap is_some is)

pub same_opens : (old new : VolumeState) → new.descriptors ≡ old.descriptors → opens_of new ≡ opens_of old
same_opens old new are = λ i h. is_some (descriptor_at (are i) h)

-- Slots of which one is emptied, and empty ones at the end are cut off.
use Rattle.std.proofs.Common.{◌≡◌, ◌≢◌, ◌∙◌, ℕ, zero, suc, [], ◌∷◌, Option, Some, None, refl, ap}
use Rattle.edge_base.specs.tree.Slots.{Entry, Slots, trimmed}
use Rattle.edge_dir.specs.Directory.{slot_of}
use Rattle.edge_dir.specs.Written.{IsSetTo}
use Rattle.edge_dir.proofs.SlotLaws.{put, trimmed_put, trimmed_rest}

put_slot : (slot : Option Entry) (rest : Slots) (j : ℕ) → slot_of (put slot rest) j ≡ slot_of (slot ∷ rest) j
put_slot None [] zero = refl
put_slot None [] (suc j) = refl
put_slot None (next ∷ rest) j = refl
put_slot (Some e) rest j = refl

put_trimmed : (slot : Option Entry) (rest : Slots) → trimmed rest ≡ rest → trimmed (put slot rest) ≡ put slot rest
put_trimmed None [] trim = refl
put_trimmed None (next ∷ rest) trim = trimmed_put None (next ∷ rest) ∙ ap (put None) trim
put_trimmed (Some e) rest trim = ap (λ (l : Slots). Some e ∷ l) trim

-- The slots are these when slot k is emptied.
pub record IsEmptied (slots : Slots) (k : ℕ) : Type 0 where
  pub after : Slots
  pub trim : trimmed after ≡ after
  pub is_set : IsSetTo slots after k None

pub emptied : (slots : Slots) (k : ℕ) → trimmed slots ≡ slots → IsEmptied slots k
emptied [] k trim = record { after = []; trim = refl; is_set = (refl, λ j apart. refl) }
emptied (slot ∷ slots) zero trim = record {
  after = put None slots;
  trim = put_trimmed None slots (trimmed_rest slot slots trim);
  is_set = (put_slot None slots zero, others);
}
  where
    others : (j : ℕ) → j ≢ zero → slot_of (put None slots) j ≡ slot_of (slot ∷ slots) j
    others zero apart = absurd (apart refl)
    others (suc j) apart = put_slot None slots (suc j)
emptied (slot ∷ slots) (suc k) trim =
    let rest = emptied slots k (trimmed_rest slot slots trim) in
    record {
      after = put slot rest.after;
      trim = put_trimmed slot rest.after rest.trim;
      is_set = (put_slot slot rest.after (suc k) ∙ rest.is_set.0, others slot slots k rest.after rest.is_set.1);
    }
  where
    others : (slot : Option Entry) (slots : Slots) (k : ℕ) (after : Slots) → ((j : ℕ) → j ≢ k → slot_of after j ≡ slot_of slots j)
        → (j : ℕ) → j ≢ suc k → slot_of (put slot after) j ≡ slot_of (slot ∷ slots) j
    others slot slots k after same zero apart = put_slot slot after zero
    others slot slots k after same (suc j) apart = put_slot slot after (suc j) ∙ same j (λ is. apart (ap suc is))

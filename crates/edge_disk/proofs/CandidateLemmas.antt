-- The candidates after a write: the shown bytes x and the further candidates xs, and what a write of y makes of them.
use Rattle.std.proofs.Common.{◌≡◌, ◌≢◌, ◌⊎◌, inl, inr, ⊎_elim, ℕ, List, [], ◌∷◌, ◌++◌, Ok, Err, refl, sym, ◌∙◌, ap, subst}
use Rattle.std.specs.Prelude.{Contains}
use Rattle.std.proofs.lemmas.List.Elements.{Contains-append_left, Contains-append_right, Contains-append_cases, Contains-push, Contains-push_cases}
use Rattle.edge_disk.specs.CandidateLaws.{shown_is_candidate, only_shown}
use Rattle.edge_disk.specs.Disk.{Origin, MayAfterWrite}

-- y is shown, and x is kept
from_shown : (x y c : List ℕ) (xs : List (List ℕ)) → Contains (y ∷ (xs ++ x ∷ [])) c → Contains (x ∷ xs) c ⊎ (c ≡ y)
from_shown x y c xs there = ⊎_elim
    (λ here. inr (only_shown y [] c refl here))
    (λ kept. ⊎_elim (λ h. inl (Contains-append_right (x ∷ []) xs c h)) (λ e. inl (subst (Contains (x ∷ xs)) e (shown_is_candidate x xs))) (Contains-push_cases xs x c kept))
    (Contains-append_cases (y ∷ []) (xs ++ x ∷ []) c there)

to_shown : (x y c : List ℕ) (xs : List (List ℕ)) → Contains (x ∷ xs) c → Contains (y ∷ (xs ++ x ∷ [])) c
to_shown x y c xs there = Contains-append_right (y ∷ []) (xs ++ x ∷ []) c (⊎_elim
    (λ here. subst (Contains (xs ++ x ∷ [])) (sym (only_shown x [] c refl here)) (Contains-push xs x))
    (λ h. Contains-append_left xs (x ∷ []) c h)
    (Contains-append_cases (x ∷ []) xs c there))

-- x stays shown, and y is one candidate more
from_kept : (x y c : List ℕ) (xs : List (List ℕ)) → Contains (x ∷ (xs ++ y ∷ [])) c → Contains (x ∷ xs) c ⊎ (c ≡ y)
from_kept x y c xs there = ⊎_elim (λ h. inl h) (λ e. inr (sym e)) (Contains-push_cases (x ∷ xs) y c there)

to_kept : (x y c : List ℕ) (xs : List (List ℕ)) → Contains (x ∷ xs) c → Contains (x ∷ (xs ++ y ∷ [])) c
to_kept x y c xs there = Contains-append_left (x ∷ xs) (y ∷ []) c there

abbrev pub MayHold : (ℕ → List ℕ) → (ℕ → List (List ℕ)) → ℕ → List ℕ → Type 0
MayHold shown extra b = Contains (shown b ∷ extra b)

same : (shown next : ℕ → List ℕ) (extra more : ℕ → List (List ℕ)) (k : ℕ) (c : List ℕ) → next k ≡ shown k → more k ≡ extra k → MayHold shown extra k c → MayHold next more k c
same shown next extra more k c is_shown is_extra there =
    subst (λ (l : List (List ℕ)). Contains l c) (ap (λ (x : List ℕ). x ∷ extra k) (sym is_shown) ∙ ap (λ (l : List (List ℕ)). next k ∷ l) (sym is_extra)) there

module _ {T E : Type 0} (origin : Origin) (b : ℕ) (bytes : List ℕ) (faults : ℕ) (shown next : ℕ → List ℕ) (extra more : ℕ → List (List ℕ)) where
  pub may_after_ok : (v : T) → next b ≡ bytes → more b ≡ extra b ++ shown b ∷ [] → ((k : ℕ) → k ≢ b → next k ≡ shown k) → ((k : ℕ) → k ≢ b → more k ≡ extra k)
      → MayAfterWrite {E = E} origin b bytes (Ok v) faults (MayHold shown extra) (MayHold next more)
  may_after_ok v is_next is_more others others_more =
      let now : next b ∷ more b ≡ bytes ∷ (extra b ++ shown b ∷ []) = ap (λ (x : List ℕ). x ∷ more b) is_next ∙ ap (λ (l : List (List ℕ)). bytes ∷ l) is_more in
      record {
        there = λ _. subst (λ (l : List (List ℕ)). Contains l bytes) (sym now) (shown_is_candidate bytes (extra b ++ shown b ∷ []));
        adds = λ c h. from_shown (shown b) bytes c (extra b) (subst (λ (l : List (List ℕ)). Contains l c) now h);
        failed = tt;
        after_fault = λ _ c h. subst (λ (l : List (List ℕ)). Contains l c) (sym now) (to_shown (shown b) bytes c (extra b) h);
        others = λ k c far h. same next shown more extra k c (sym (others k far)) (sym (others_more k far)) h;
        others_stay = λ k c far h. same shown next extra more k c (others k far) (others_more k far) h;
      }

  pub may_after_err : (e : E) → next ≡ shown → more b ≡ extra b ++ bytes ∷ [] → ((k : ℕ) → k ≢ b → more k ≡ extra k)
      → MayAfterWrite {T = T} origin b bytes (Err e) faults (MayHold shown extra) (MayHold next more)
  may_after_err e is_next is_more others_more =
      let at : (k : ℕ) → next k ≡ shown k = λ k. ap (λ (f : ℕ → List ℕ). f k) is_next in
      let now : next b ∷ more b ≡ shown b ∷ (extra b ++ bytes ∷ []) = ap (λ (x : List ℕ). x ∷ more b) (at b) ∙ ap (λ (l : List (List ℕ)). shown b ∷ l) is_more in
      let stays = λ (c : List ℕ) (h : MayHold shown extra b c). subst (λ (l : List (List ℕ)). Contains l c) (sym now) (to_kept (shown b) bytes c (extra b) h) in
      record {
        there = λ _. tt;
        adds = λ c h. from_kept (shown b) bytes c (extra b) (subst (λ (l : List (List ℕ)). Contains l c) now h);
        failed = stays;
        after_fault = λ _. stays;
        others = λ k c far h. same next shown more extra k c (sym (at k)) (sym (others_more k far)) h;
        others_stay = λ k c far h. same shown next extra more k c (at k) (others_more k far) h;
      }

-- Lists of keys as sets: which keys a list has, and how many.
use Rattle.std.proofs.Common.{◌≡◌, ℕ, ◌+◌, ◌≤◌, ◌&&◌, ◌||◌, not, Bool, true, false, cond, List, [], ◌∷◌, ◌++◌, length, map, refl, sym, ap, ◌∙◌, arith}
use Rattle.std.specs.List.{filter, flat_map, list_any, IsDistinct, AllByRecursion}
use Rattle.std.specs.Set.{is_member, unique_keys, distinct_count}
use Rattle.std.specs.Cmp.{IsEquivalence}
use Rattle.std.proofs.lemmas.Bool.{cond-true, cond-false, or_parts, or_left, or_right, or_from, not_from_true, not_from_false}
use Rattle.std.proofs.lemmas.List.Folds.{list_any-append}
use Rattle.std.proofs.lemmas.Map.Made.{length-le_from_is_member, is_member-filter}
use Rattle.std.proofs.lemmas.Map.Steps.{list_any_congr}

-- ---- one key more

pub is_member-flat_map : {K X : Type 0} (eq : K → K → Bool) (f : X → List K) (xs : List X) (q : K) → is_member eq (flat_map f xs) q ≡ list_any (λ x. is_member eq (f x) q) xs
is_member-flat_map eq f [] q = refl
is_member-flat_map eq f (x ∷ xs) q = list_any-append (eq q) (f x) (flat_map f xs) ∙ ap (λ b. is_member eq (f x) q || b) (is_member-flat_map eq f xs q)

pub distinct_count-old : {K : Type 0} (eq : K → K → Bool) (x : K) (xs : List K) → is_member eq xs x ≡ true → distinct_count eq (x ∷ xs) ≡ distinct_count eq xs
distinct_count-old eq x xs old = ap length (cond-true (is_member eq xs x) (unique_keys eq xs) (x ∷ unique_keys eq xs) old)

pub distinct_count-new : {K : Type 0} (eq : K → K → Bool) (x : K) (xs : List K) → is_member eq xs x ≡ false → distinct_count eq (x ∷ xs) ≡ distinct_count eq xs + 1
distinct_count-new eq x xs new = ap length (cond-false (is_member eq xs x) (unique_keys eq xs) (x ∷ unique_keys eq xs) new) ∙ omega arith

filter-kept : {K : Type 0} (test : K → Bool) (x : K) (xs : List K) → test x ≡ true → filter test (x ∷ xs) ≡ x ∷ filter test xs
filter-kept test x xs e = cond-true (test x) (x ∷ filter test xs) (filter test xs) e

filter-cut : {K : Type 0} (test : K → Bool) (x : K) (xs : List K) → test x ≡ false → filter test (x ∷ xs) ≡ filter test xs
filter-cut test x xs e = cond-false (test x) (x ∷ filter test xs) (filter test xs) e

-- ---- members and counts

pub none_equal : {K : Type 0} (eq : K → K → Bool) (x : K) (xs : List K) → is_member eq xs x ≡ false → AllByRecursion (λ y. eq x y ≡ false) xs
none_equal eq x [] out = tt
none_equal eq x (y ∷ ys) out = let parts = or_parts (eq x y) (is_member eq ys x) out in (parts.0, none_equal eq x ys parts.1)

-- a map that keeps apart what is apart keeps the count
pub distinct_count-map : {K L : Type 0} (eq : K → K → Bool) (same : L → L → Bool) (f : K → L) (xs : List K) → ((x y : K) → is_member eq xs x ≡ true → is_member eq xs y ≡ true → same (f x) (f y) ≡ eq x y)
    → ((x : K) → eq x x ≡ true) → distinct_count same (map f xs) ≡ distinct_count eq xs
distinct_count-map eq same f [] apart itself = refl
distinct_count-map eq same f (x ∷ xs) apart itself =
    by (is_member eq xs x) refl (distinct_count-map eq same f xs (λ y z hy hz. apart y z (or_right (eq y x) _ hy) (or_right (eq z x) _ hz)) itself)
  where
    here : (ys : List _) → ((y : _) → is_member eq ys y ≡ true → is_member eq (x ∷ xs) y ≡ true) → is_member same (map f ys) (f x) ≡ is_member eq ys x
    here [] within = refl
    here (y ∷ ys) within = λ i. apart x y (or_left (eq x x) (is_member eq xs x) (itself x)) (within y (or_left (eq y y) (is_member eq ys y) (itself y))) i || here ys (λ z hz. within z (or_right (eq z y) _ hz)) i

    by : (b : Bool) → is_member eq xs x ≡ b → distinct_count same (map f xs) ≡ distinct_count eq xs → distinct_count same (map f (x ∷ xs)) ≡ distinct_count eq (x ∷ xs)
    by true old rest = distinct_count-old same (f x) (map f xs) (here xs (λ y h. or_right (eq y x) _ h) ∙ old) ∙ rest ∙ sym (distinct_count-old eq x xs old)
    by false new rest = distinct_count-new same (f x) (map f xs) (here xs (λ y h. or_right (eq y x) _ h) ∙ new) ∙ ap (λ (n : ℕ). n + 1) rest ∙ sym (distinct_count-new eq x xs new)

module _ {K : Type 0} {eq : K → K → Bool} (laws : IsEquivalence eq) where
  pub is_member-unique_keys : (xs : List K) (q : K) → is_member eq (unique_keys eq xs) q ≡ is_member eq xs q
  is_member-unique_keys [] q = refl
  is_member-unique_keys (x ∷ xs) q = by (is_member eq xs x) (eq q x) refl refl (is_member-unique_keys xs q)
    where
      by : (old tie : Bool) → is_member eq xs x ≡ old → eq q x ≡ tie → is_member eq (unique_keys eq xs) q ≡ is_member eq xs q → is_member eq (cond old (unique_keys eq xs) (x ∷ unique_keys eq xs)) q ≡ (tie || is_member eq xs q)
      by true true old tie rest = rest ∙ list_any_congr laws q x xs tie ∙ old
      by true false old tie rest = rest
      by false tie new e rest = λ i. e i || rest i

  pub IsDistinct-unique_keys : (xs : List K) → IsDistinct eq (unique_keys eq xs)
  unfolding IsDistinct
  IsDistinct-unique_keys [] = tt
  IsDistinct-unique_keys (x ∷ xs) = by (is_member eq xs x) refl (IsDistinct-unique_keys xs)
    where
      by : (old : Bool) → is_member eq xs x ≡ old → IsDistinct eq (unique_keys eq xs) → IsDistinct eq (cond old (unique_keys eq xs) (x ∷ unique_keys eq xs))
      by true old rest = rest
      by false new rest = (none_equal eq x (unique_keys eq xs) (is_member-unique_keys xs x ∙ new), rest)

  -- a list whose members are members of another has no more
  pub distinct_count-le_from_members : (xs ys : List K) → ((q : K) → is_member eq xs q ≡ true → is_member eq ys q ≡ true) → distinct_count eq xs ≤ distinct_count eq ys
  distinct_count-le_from_members xs ys within =
      length-le_from_is_member laws (unique_keys eq xs) (unique_keys eq ys) (IsDistinct-unique_keys xs) (λ q h. is_member-unique_keys ys q ∙ within q (sym (is_member-unique_keys xs q) ∙ h))

  -- lists with the same members have as many
  pub distinct_count-from_members : (xs ys : List K) → ((q : K) → is_member eq xs q ≡ is_member eq ys q) → distinct_count eq xs ≡ distinct_count eq ys
  distinct_count-from_members xs ys same =
      let up = distinct_count-le_from_members xs ys (λ q h. sym (same q) ∙ h) in
      let down = distinct_count-le_from_members ys xs (λ q h. same q ∙ h) in
      omega arith

  -- two lists have together what the second has, and what the first has that is new
  pub distinct_count-append : (xs ys : List K) → distinct_count eq (xs ++ ys) ≡ distinct_count eq (filter (λ x. not (is_member eq ys x)) xs) + distinct_count eq ys
  distinct_count-append [] ys = omega arith
  distinct_count-append (x ∷ xs) ys = by (is_member eq ys x) (is_member eq xs x) refl refl (distinct_count-append xs ys)
    where
      new : K → Bool
      new y = not (is_member eq ys y)

      in_new : is_member eq (filter new xs) x ≡ (is_member eq xs x && new x)
      in_new = is_member-filter laws new x (λ y e. ap not (list_any_congr laws x y ys e)) xs

      by : (in_ys in_xs : Bool) → is_member eq ys x ≡ in_ys → is_member eq xs x ≡ in_xs → distinct_count eq (xs ++ ys) ≡ distinct_count eq (filter new xs) + distinct_count eq ys
          → distinct_count eq ((x ∷ xs) ++ ys) ≡ distinct_count eq (filter new (x ∷ xs)) + distinct_count eq ys
      by true in_xs there e rest =
          distinct_count-old eq x (xs ++ ys) (list_any-append (eq x) xs ys ∙ or_right (is_member eq xs x) _ there) ∙ rest
          ∙ ap (λ zs. distinct_count eq zs + distinct_count eq ys) (sym (filter-cut new x xs (not_from_true _ there)))
      by false true absent there rest =
          distinct_count-old eq x (xs ++ ys) (list_any-append (eq x) xs ys ∙ or_left _ (is_member eq ys x) there) ∙ rest
          ∙ ap (λ (n : ℕ). n + distinct_count eq ys) (sym (distinct_count-old eq x (filter new xs) (in_new ∙ (λ i. there i && not_from_false _ absent i))))
          ∙ ap (λ zs. distinct_count eq zs + distinct_count eq ys) (sym (filter-kept new x xs (not_from_false _ absent)))
      by false false absent e rest =
          let more = distinct_count-new eq x (xs ++ ys) (list_any-append (eq x) xs ys ∙ or_from _ _ e absent) in
          let kept = distinct_count-new eq x (filter new xs) (in_new ∙ ap (λ b. b && new x) e) in
          let all = ap (λ zs. distinct_count eq zs) (filter-kept new x xs (not_from_false _ absent)) in
          omega arith

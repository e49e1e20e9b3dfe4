-- What stands in a list, and what a list of positions has.
use Rattle.std.proofs.Common.{◌≡◌, ℕ, ◌+◌, ◌<◌, ◌≤◌, ◌==◌, ◌&&◌, Bool, true, false, cond, List, [], ◌∷◌, ◌++◌, map, filter, flat_map, ◌⊎◌, inl, inr, ⊎_elim, refl, sym, ap, ◌∙◌, subst, arith, zero, suc, eqb-true, eq-eqb}
use Rattle.std.specs.List.{range_with_len}
use Rattle.std.proofs.lemmas.Bool.{false≢true, or_cases, or_left, or_right}
use Rattle.edge_base.specs.declared.form.Form.{Form}
use Rattle.edge_base.specs.declared.form.Form.TheVariants.{Plain, Indirect, Double}
use Rattle.edge_base.specs.tree.Positions.{Position, same_form, same_position, has}

abbrev pub IsAmong : {A : Type 0} → List A → A → Type 0
IsAmong [] q = ⊥
IsAmong (x ∷ xs) q = (q ≡ x) ⊎ IsAmong xs q

pub among_append : {A : Type 0} (xs ys : List A) (q : A) → IsAmong (xs ++ ys) q → IsAmong xs q ⊎ IsAmong ys q
among_append [] ys q h = inr h
among_append (x ∷ xs) ys q (inl e) = inl (inl e)
among_append (x ∷ xs) ys q (inr h) = ⊎_elim (λ k. inl (inr k)) (λ k. inr k) (among_append xs ys q h)

pub among_left : {A : Type 0} (xs ys : List A) (q : A) → IsAmong xs q → IsAmong (xs ++ ys) q
among_left [] ys q h = elim h [ ]
among_left (x ∷ xs) ys q (inl e) = inl e
among_left (x ∷ xs) ys q (inr h) = inr (among_left xs ys q h)

pub among_right : {A : Type 0} (xs ys : List A) (q : A) → IsAmong ys q → IsAmong (xs ++ ys) q
among_right [] ys q h = h
among_right (x ∷ xs) ys q h = inr (among_right xs ys q h)

pub among_map : {A B : Type 0} (f : A → B) (xs : List A) (x : A) → IsAmong xs x → IsAmong (map f xs) (f x)
among_map f [] x h = elim h [ ]
among_map f (y ∷ ys) x (inl e) = inl (ap f e)
among_map f (y ∷ ys) x (inr h) = inr (among_map f ys x h)

pub among_flat_map : {A B : Type 0} (f : A → List B) (xs : List A) (x : A) (q : B) → IsAmong xs x → IsAmong (f x) q → IsAmong (flat_map f xs) q
among_flat_map f [] x q k h = elim k [ ]
among_flat_map f (y ∷ ys) x q (inl e) h = among_left (f y) (flat_map f ys) q (subst (λ z. IsAmong (f z) q) e h)
among_flat_map f (y ∷ ys) x q (inr k) h = among_right (f y) (flat_map f ys) q (among_flat_map f ys x q k h)

pub from_flat_map : {A B : Type 0} (f : A → List B) (xs : List A) (q : B) → IsAmong (flat_map f xs) q → (x : A) × IsAmong xs x × IsAmong (f x) q
from_flat_map f [] q h = elim h [ ]
from_flat_map f (y ∷ ys) q h = ⊎_elim
    (λ k. (y, inl refl, k))
    (λ k. let r = from_flat_map f ys q k in (r.0, inr r.1, r.2))
    (among_append (f y) (flat_map f ys) q h)

kept_first : {A : Type 0} (b : Bool) (x : A) (xs : List A) → b ≡ true → IsAmong (cond b (x ∷ xs) xs) x
kept_first true x xs e = inl refl
kept_first false x xs e = absurd (false≢true e)

kept_later : {A : Type 0} (b : Bool) (x q : A) (xs : List A) → IsAmong xs q → IsAmong (cond b (x ∷ xs) xs) q
kept_later true x q xs h = inr h
kept_later false x q xs h = h

kept_cases : {A : Type 0} (b : Bool) (x q : A) (xs : List A) → IsAmong (cond b (x ∷ xs) xs) q → ((b ≡ true) × (q ≡ x)) ⊎ IsAmong xs q
kept_cases true x q xs (inl e) = inl (refl, e)
kept_cases true x q xs (inr h) = inr h
kept_cases false x q xs h = inr h

pub among_filter : {A : Type 0} (test : A → Bool) (xs : List A) (q : A) → IsAmong xs q → test q ≡ true → IsAmong (filter test xs) q
among_filter test [] q h t = elim h [ ]
among_filter test (x ∷ xs) q (inl e) t = subst (λ y. IsAmong (cond (test x) (x ∷ filter test xs) (filter test xs)) y) (sym e) (kept_first (test x) x (filter test xs) (ap test (sym e) ∙ t))
among_filter test (x ∷ xs) q (inr h) t = kept_later (test x) x q (filter test xs) (among_filter test xs q h t)

pub from_filter : {A : Type 0} (test : A → Bool) (xs : List A) (q : A) → IsAmong (filter test xs) q → IsAmong xs q × (test q ≡ true)
from_filter test [] q h = elim h [ ]
from_filter test (x ∷ xs) q h = ⊎_elim
    (λ k. (inl k.1, ap test k.1 ∙ k.0))
    (λ k. let r = from_filter test xs q k in (inr r.0, r.1))
    (kept_cases (test x) x q (filter test xs) h)

pub among_range : (a n i : ℕ) → a ≤ i → i < a + n → IsAmong (range_with_len a n) i
among_range a zero i low high = absurd (omega arith)
among_range a (suc n) i low high = ⊎_elim
    (λ e. inl e)
    (λ ne. inr (among_range (a + 1) n i (omega arith) (omega arith)))
    (equal_or_above a i low)
  where
    equal_or_above : (a i : ℕ) → a ≤ i → (i ≡ a) ⊎ (a < i)
    equal_or_above a i low = grind arith

pub from_range : (a n i : ℕ) → IsAmong (range_with_len a n) i → (a ≤ i) × (i < a + n)
from_range a zero i h = elim h [ ]
from_range a (suc n) i (inl e) = (omega arith, omega arith)
from_range a (suc n) i (inr h) = let r = from_range (a + 1) n i h in (omega arith, omega arith)

-- ---- positions

form_decides : (a b : Form) → same_form a b ≡ true → a ≡ b
form_decides Plain Plain e = refl
form_decides Plain Indirect e = absurd (false≢true e)
form_decides Plain Double e = absurd (false≢true e)
form_decides Indirect Plain e = absurd (false≢true e)
form_decides Indirect Indirect e = refl
form_decides Indirect Double e = absurd (false≢true e)
form_decides Double Plain e = absurd (false≢true e)
form_decides Double Indirect e = absurd (false≢true e)
form_decides Double Double e = refl

form_itself : (a : Form) → same_form a a ≡ true
form_itself Plain = refl
form_itself Indirect = refl
form_itself Double = refl

parts : (a b c : Bool) → (a && b && c) ≡ true → (a ≡ true) × (b ≡ true) × (c ≡ true)
parts true true true e = (refl, refl, refl)
parts true true false e = absurd (false≢true e)
parts true false c e = absurd (false≢true e)
parts false b c e = absurd (false≢true e)

pub position_decides : (p q : Position) → same_position p q ≡ true → p ≡ q
position_decides p q e =
    let t = parts (p.number == q.number) (same_form p.form q.form) (p.index == q.index) e in
    λ i. record { number = eqb-true p.number q.number t.0 i; form = form_decides p.form q.form t.1 i; index = eqb-true p.index q.index t.2 i }

pub position_itself : (p : Position) → same_position p p ≡ true
position_itself p = λ i. eq-eqb p.number p.number refl i && form_itself p.form i && eq-eqb p.index p.index refl i

pub among : (ps : List Position) (q : Position) → has ps q ≡ true → IsAmong ps q
among [] q h = absurd (false≢true h)
among (p ∷ ps) q h = ⊎_elim (λ e. inl (position_decides q p e)) (λ k. inr (among ps q k)) (or_cases (same_position q p) (has ps q) h)

pub is_had : (ps : List Position) (q : Position) → IsAmong ps q → has ps q ≡ true
is_had [] q h = elim h [ ]
is_had (p ∷ ps) q (inl e) = or_left (same_position q p) (has ps q) (subst (λ r. same_position q r ≡ true) e (position_itself q))
is_had (p ∷ ps) q (inr h) = or_right (same_position q p) (has ps q) (is_had ps q h)

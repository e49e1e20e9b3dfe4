-- How many slots of a tree name a number, after one slot is changed.
use Rattle.std.proofs.Common.{◌≡◌, ℕ, zero, suc, ◌+◌, ◌<◌, ◌≤◌, ◌==◌, Bool, true, false, cond, slice_get, [], ◌∷◌, ⊎_elim, Option, Some, None, refl, sym, ap, ◌∙◌, arith, eqb-true, eq-eqb}
use Rattle.std.specs.List.{sum_by, count_by, range_with_len}
use Rattle.std.proofs.lemmas.Bool.{cases_eq}
use Rattle.std.proofs.lemmas.List.Sums.{sum_by-cons}
use Rattle.edge_base.specs.declared.geometry.Request.{Request}
use Rattle.edge_base.specs.tree.Slots.{Entry, Slots}
use Rattle.edge_model.specs.Tree.{Tree, slots_at, names_it, names_of_number}
use Rattle.edge_model.specs.Rules.{Names}
use Rattle.edge_steps.proofs.SlotLaws.{slot_in, none_some, some_same}

-- ---- in one directory

-- 1 where the slot names the number
abbrev pub ones : ℕ → Option Entry → ℕ
ones n slot = cond (names_it n slot) 1 0

rest : Slots → Slots
rest [] = []
rest (x ∷ xs) = xs

rest_slot : (slots : Slots) (j : ℕ) → slot_in (rest slots) j ≡ slot_in slots (suc j)
unfolding rest
rest_slot [] j = refl
rest_slot (x ∷ xs) j = refl

count_first : (n : ℕ) (slots : Slots) → count_by (names_it n) slots ≡ ones n (slot_in slots zero) + count_by (names_it n) (rest slots)
unfolding rest
count_first n [] = refl
count_first n (x ∷ xs) = sum_by-cons (ones n) x xs

count_none : (n : ℕ) (slots : Slots) → ((j : ℕ) → slot_in slots j ≡ None) → count_by (names_it n) slots ≡ 0
count_none n [] none = refl
count_none n (x ∷ xs) none =
    let here : ones n x ≡ 0 = ap (ones n) (none zero) in
    let later = count_none n xs (λ j. none (suc j)) in
    let whole = sum_by-cons (ones n) x xs in
    omega arith

count_same : (n : ℕ) (xs ys : Slots) → ((j : ℕ) → slot_in xs j ≡ slot_in ys j) → count_by (names_it n) xs ≡ count_by (names_it n) ys
count_same n [] ys same = sym (count_none n ys (λ j. sym (same j)))
count_same n (x ∷ xs) [] same = count_none n (x ∷ xs) same
count_same n (x ∷ xs) (y ∷ ys) same =
    let here : ones n x ≡ ones n y = ap (ones n) (same zero) in
    let later = count_same n xs ys (λ j. same (suc j)) in
    let one = sum_by-cons (ones n) x xs in
    let two = sum_by-cons (ones n) y ys in
    omega arith

pub count_changed : (n : ℕ) (xs ys : Slots) (i : ℕ) → ((j : ℕ) → (j ≡ i → ⊥) → slot_in ys j ≡ slot_in xs j) → count_by (names_it n) ys + ones n (slot_in xs i) ≡ count_by (names_it n) xs + ones n (slot_in ys i)
count_changed n xs ys zero same =
    let one = count_first n xs in
    let two = count_first n ys in
    let later = count_same n (rest ys) (rest xs) (λ j. rest_slot ys j ∙ same (suc j) (λ h. absurd (omega arith)) ∙ sym (rest_slot xs j)) in
    omega arith
count_changed n xs ys (suc i) same =
    let one = count_first n xs in
    let two = count_first n ys in
    let here : ones n (slot_in ys zero) ≡ ones n (slot_in xs zero) = ap (ones n) (same zero (λ h. absurd (omega arith))) in
    let later = count_changed n (rest xs) (rest ys) i (λ j other. rest_slot ys j ∙ same (suc j) (λ h. other (omega arith)) ∙ sym (rest_slot xs j)) in
    let at_x : ones n (slot_in (rest xs) i) ≡ ones n (slot_in xs (suc i)) = ap (ones n) (rest_slot xs i) in
    let at_y : ones n (slot_in (rest ys) i) ≡ ones n (slot_in ys (suc i)) = ap (ones n) (rest_slot ys i) in
    omega arith

pub ones_itself : (e : Entry) → ones e.number (Some e) ≡ 1
ones_itself e = ap (λ b. cond b 1 0) (eq-eqb e.number e.number refl)

pub ones_named : (n : ℕ) (e : Entry) → e.number ≡ n → ones n (Some e) ≡ 1
ones_named n e h = ap (λ b. cond b 1 0) (eq-eqb e.number n h)

other_test : (b : Bool) → (b ≡ true → ⊥) → cond b (suc zero) zero ≡ zero
other_test true h = absurd (h refl)
other_test false h = refl

pub ones_other : (n : ℕ) (e : Entry) → (e.number ≡ n → ⊥) → ones n (Some e) ≡ 0
ones_other n e h = other_test (e.number == n) (λ t. h (eqb-true e.number n t))

is_positive : (b : Bool) → 1 ≤ cond b 1 0 → b ≡ true
is_positive true h = refl
is_positive false h = absurd (omega arith)

pub ones_positive : (n : ℕ) (slot : Option Entry) → 1 ≤ ones n slot → (e : Entry) × (slot ≡ Some e) × (e.number ≡ n)
ones_positive n None h = absurd (omega arith)
ones_positive n (Some e) h = (e, refl, eqb-true e.number n (is_positive (e.number == n) h))

-- a slot that names the number
pub count_some : (n : ℕ) (slots : Slots) → 1 ≤ count_by (names_it n) slots → (i : ℕ) × (1 ≤ ones n (slot_in slots i))
count_some n [] h = absurd (omega arith)
count_some n (x ∷ xs) h =
    let whole = sum_by-cons (ones n) x xs in
    ⊎_elim
    (λ (none : ones n x ≡ 0). let r = count_some n xs (omega arith) in (suc r.0, r.1))
    (λ (some : ones n x ≡ 0 → ⊥). (zero, omega arith))
    (cases_eq (ones n x) 0)

pub count_at : (n : ℕ) (slots : Slots) (i : ℕ) → ones n (slot_in slots i) ≤ count_by (names_it n) slots
count_at n [] i = omega arith
count_at n (x ∷ xs) zero = let whole = sum_by-cons (ones n) x xs in omega arith
count_at n (x ∷ xs) (suc i) = let whole = sum_by-cons (ones n) x xs in let later = count_at n xs i in omega arith

-- ---- in all directories

sum_same : (f h : ℕ → ℕ) (a k : ℕ) → ((x : ℕ) → a ≤ x → f x ≡ h x) → sum_by f (range_with_len a k) ≡ sum_by h (range_with_len a k)
sum_same f h a zero same = refl
sum_same f h a (suc k) same =
    let one = sum_by-cons f a (range_with_len (a + 1) k) in
    let two = sum_by-cons h a (range_with_len (a + 1) k) in
    let here = same a (omega arith) in
    let later = sum_same f h (a + 1) k (λ x low. same x (omega arith)) in
    omega arith

sum_changed : (f h : ℕ → ℕ) (d a k : ℕ) → ((x : ℕ) → (x ≡ d → ⊥) → f x ≡ h x) → a ≤ d → d < a + k → sum_by f (range_with_len a k) + h d ≡ sum_by h (range_with_len a k) + f d
sum_changed f h d a zero same low high = absurd (omega arith)
sum_changed f h d a (suc k) same low high =
    let one = sum_by-cons f a (range_with_len (a + 1) k) in
    let two = sum_by-cons h a (range_with_len (a + 1) k) in
    ⊎_elim
    (λ (first : a ≡ d).
    let later = sum_same f h (a + 1) k (λ x above. same x (λ (e : x ≡ d). absurd (omega arith))) in
    let fa : f a ≡ f d = ap f first in
    let ha : h a ≡ h d = ap h first in
    omega arith)
    (λ (other : a ≡ d → ⊥).
    let here = same a other in
    let later = sum_changed f h d (a + 1) k same (let differs : a ≡ d → ⊥ = other in omega arith) (omega arith) in
    omega arith)
    (cases_eq a d)

sum_some : (f : ℕ → ℕ) (a k : ℕ) → 1 ≤ sum_by f (range_with_len a k) → (x : ℕ) × (a ≤ x) × (x < a + k) × (1 ≤ f x)
sum_some f a zero h = absurd (omega arith)
sum_some f a (suc k) h =
    let whole = sum_by-cons f a (range_with_len (a + 1) k) in
    ⊎_elim
    (λ (none : f a ≡ 0). let r = sum_some f (a + 1) k (omega arith) in (r.0, omega arith, omega arith, r.3))
    (λ (some : f a ≡ 0 → ⊥). (a, omega arith, omega arith, omega arith))
    (cases_eq (f a) 0)

sum_at : (f : ℕ → ℕ) (a k x : ℕ) → a ≤ x → x < a + k → f x ≤ sum_by f (range_with_len a k)
sum_at f a zero x low high = absurd (omega arith)
sum_at f a (suc k) x low high =
    let whole = sum_by-cons f a (range_with_len (a + 1) k) in
    ⊎_elim
    (λ (first : a ≡ x). let same : f a ≡ f x = ap f first in omega arith)
    (λ (other : a ≡ x → ⊥). let later = sum_at f (a + 1) k x (omega arith) (omega arith) in omega arith)
    (cases_eq a x)

-- ---- in trees, slot by slot

-- slot i of directory d
abbrev pub slot_at : Tree → ℕ → ℕ → Option Entry
slot_at t d i = slot_in (slots_at t d) i

-- the slots of two trees are the same
pub record SameSlots (t u : Tree) : Type 0 where
  pub same : (x j : ℕ) → slot_at u x j ≡ slot_at t x j

-- and but for slot i of directory d
pub record SlotSet (t u : Tree) (d i : ℕ) (new : Option Entry) : Type 0 where
  pub here : slot_at u d i ≡ new
  pub others : (x j : ℕ) → (x ≡ d → j ≡ i → ⊥) → slot_at u x j ≡ slot_at t x j

pub same_names : (g : Request) (t u : Tree) (n : ℕ) → SameSlots t u → names_of_number g u n ≡ names_of_number g t n
same_names g t u n same = sum_same _ _ 2 g.inodes (λ x low. count_same n (slots_at u x) (slots_at t x) (same.same x))

pub names_changed : (g : Request) (t u : Tree) (d i : ℕ) (new : Option Entry) (n : ℕ) → SlotSet t u d i new → 2 ≤ d → d < 2 + g.inodes → names_of_number g u n + ones n (slot_at t d i) ≡ names_of_number g t n + ones n new
names_changed g t u d i new n set low high =
    let f = λ (x : ℕ). count_by (names_it n) (slots_at u x) in
    let h = λ (x : ℕ). count_by (names_it n) (slots_at t x) in
    let all = sum_changed f h d 2 g.inodes (λ x other. count_same n (slots_at u x) (slots_at t x) (λ j. set.others x j (λ e _. other e))) low high in
    let one = count_changed n (slots_at t d) (slots_at u d) i (λ j other. set.others d j (λ _ e. other e)) in
    let is : ones n (slot_at u d i) ≡ ones n new = ap (ones n) set.here in
    omega arith

-- a number that has names has one in some directory
pub some_slot : (g : Request) (t : Tree) (n : ℕ) → 1 ≤ names_of_number g t n → (d : ℕ) × (i : ℕ) × (e : Entry) × (2 ≤ d) × (d < 2 + g.inodes) × (slot_at t d i ≡ Some e) × (e.number ≡ n)
some_slot g t n h =
    let r = sum_some (λ x. count_by (names_it n) (slots_at t x)) 2 g.inodes h in
    let q = count_some n (slots_at t r.0) r.3 in
    let e = ones_positive n (slot_at t r.0 q.0) q.1 in
    (r.0, q.0, e.0, r.1, r.2, e.1, e.2)

-- a slot that names a number is counted
pub slot_counted : (g : Request) (t : Tree) (d i : ℕ) (e : Entry) → 2 ≤ d → d < 2 + g.inodes → slot_at t d i ≡ Some e → 1 ≤ names_of_number g t e.number
slot_counted g t d i e low high h =
    let all = sum_at (λ x. count_by (names_it e.number) (slots_at t x)) 2 g.inodes d low high in
    let one = count_at e.number (slots_at t d) i in
    let is : ones e.number (slot_at t d i) ≡ 1 = ap (ones e.number) h ∙ ones_itself e in
    omega arith

pub then_same : (t v u : Tree) (d i : ℕ) (new : Option Entry) → SlotSet t v d i new → SameSlots v u → SlotSet t u d i new
then_same t v u d i new set same = record { here = same.same d i ∙ set.here; others = λ x j other. same.same x j ∙ set.others x j other }

-- ---- names, slot by slot

get_slot : (slots : Slots) (i : ℕ) (e : Entry) → slice_get slots i ≡ Some (Some e) → slot_in slots i ≡ Some e
get_slot [] i e h = absurd (none_some (Some e) h)
get_slot (x ∷ xs) zero e h = some_same x (Some e) h
get_slot (x ∷ xs) (suc i) e h = get_slot xs i e h

slot_get : (slots : Slots) (i : ℕ) (e : Entry) → slot_in slots i ≡ Some e → slice_get slots i ≡ Some (Some e)
slot_get [] i e h = absurd (none_some e h)
slot_get (x ∷ xs) zero e h = ap Some h
slot_get (x ∷ xs) (suc i) e h = slot_get xs i e h

-- the slot of a name
pub named_slot : (t : Tree) (d n : ℕ) (names : Names t d n) → slot_at t d names.slot ≡ Some names.entry
named_slot t d n names = get_slot (slots_at t d) names.slot names.entry names.is_there

pub slot_names : (t : Tree) (d i n : ℕ) (e : Entry) → slot_at t d i ≡ Some e → e.number ≡ n → Names t d n
slot_names t d i n e h is = record { slot = i; entry = e; is_there = slot_get (slots_at t d) i e h; number_is = is }

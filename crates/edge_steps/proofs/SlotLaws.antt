-- Slots one by one: what each holds after a name is placed or cleared, and the rules of a directory slot by slot.
use Rattle.std.proofs.Common.{◌≡◌, ℕ, zero, suc, ◌+◌, ◌/◌, ◌<◌, ◌≤◌, Bool, true, false, List, [], ◌∷◌, length, get_or, set, ◌⊎◌, inl, inr, ⊎_elim, Option, Some, None, refl, sym, ap, ◌∙◌, subst, arith}
use Rattle.std.specs.List.{All, AllByRecursion, IsDistinct}
use Rattle.std.specs.Str.{bytes_eq}
use Rattle.std.proofs.lemmas.Bool.{false≢true, cases_eq, cases_lt}
use Rattle.std.proofs.lemmas.Slice.Eq.{bytes_eq-Decides}
use Rattle.std.proofs.lemmas.List.Elements.{All-head, All-tail, All-cons, All-nil}
use Rattle.edge_base.specs.declared.geometry.Request.{Request}
use Rattle.edge_base.specs.layout.Places.{max_blocks_of}
use Rattle.edge_base.specs.tree.Slots.{Entry, Slots, slots_in_block, slot_blocks, trimmed}
use Rattle.edge_base.specs.tree.NodeRules.{IsEntry, IsDirectory, entries_of_slots}
use Rattle.edge_model.specs.Named.{with_slot, without_slot}
use Rattle.edge_model.proofs.SlotLaws.{placed_blocks, cleared_blocks}

-- what slot i holds
abbrev pub slot_in : Slots → ℕ → Option Entry
slot_in slots i = get_or slots i None

pub none_some : {A : Type 0} (x : A) → None ≡ Some x → ⊥
none_some x h = cc

pub some_same : {A : Type 0} (x y : A) → Some x ≡ Some y → x ≡ y
some_same x y h = cc

-- ---- a name placed

-- slot i filled, by recursion
abbrev fill : Slots → ℕ → Entry → Slots
fill [] i e = Some e ∷ []
fill (x ∷ xs) zero e = Some e ∷ xs
fill (x ∷ xs) (suc i) e = x ∷ fill xs i e

filled : (slots : Slots) (i : ℕ) (e : Entry) → i ≤ length slots → with_slot slots i e ≡ fill slots i e
filled [] zero e h = refl
filled [] (suc i) e h = absurd (omega arith)
filled (x ∷ xs) zero e h = refl
filled (x ∷ xs) (suc i) e h = let rest = filled xs i e (omega arith) in let next : suc i + 1 ≡ suc (i + 1) = omega arith in rw next (ap (λ (r : Slots). x ∷ r) rest)

fill_here : (slots : Slots) (i : ℕ) (e : Entry) → i ≤ length slots → slot_in (fill slots i e) i ≡ Some e
fill_here [] zero e h = refl
fill_here [] (suc i) e h = absurd (omega arith)
fill_here (x ∷ xs) zero e h = refl
fill_here (x ∷ xs) (suc i) e h = fill_here xs i e (omega arith)

fill_others : (slots : Slots) (i : ℕ) (e : Entry) (j : ℕ) → i ≤ length slots → (j ≡ i → ⊥) → slot_in (fill slots i e) j ≡ slot_in slots j
fill_others [] zero e zero h other = absurd (other refl)
fill_others [] zero e (suc j) h other = refl
fill_others [] (suc i) e j h other = absurd (omega arith)
fill_others (x ∷ xs) zero e zero h other = absurd (other refl)
fill_others (x ∷ xs) zero e (suc j) h other = refl
fill_others (x ∷ xs) (suc i) e zero h other = refl
fill_others (x ∷ xs) (suc i) e (suc j) h other = fill_others xs i e j (omega arith) (λ same. other (ap suc same))

pub placed_here : (slots : Slots) (i : ℕ) (e : Entry) → i ≤ length slots → slot_in (with_slot slots i e) i ≡ Some e
placed_here slots i e h = ap (λ (r : Slots). slot_in r i) (filled slots i e h) ∙ fill_here slots i e h

pub placed_elsewhere : (slots : Slots) (i : ℕ) (e : Entry) (j : ℕ) → i ≤ length slots → (j ≡ i → ⊥) → slot_in (with_slot slots i e) j ≡ slot_in slots j
placed_elsewhere slots i e j h other = ap (λ (r : Slots). slot_in r j) (filled slots i e h) ∙ fill_others slots i e j h other

-- ---- empty slots at the end

abbrev put : Option Entry → Slots → Slots
put None [] = []
put None (next ∷ rest) = None ∷ next ∷ rest
put (Some e) rest = Some e ∷ rest

trimmed_put : (slot : Option Entry) (slots : Slots) → trimmed (slot ∷ slots) ≡ put slot (trimmed slots)
trimmed_put None slots = refl
trimmed_put (Some e) slots = refl

put_slot : (slot : Option Entry) (rest : Slots) (j : ℕ) → slot_in (put slot rest) j ≡ slot_in (slot ∷ rest) j
put_slot None [] zero = refl
put_slot None [] (suc j) = refl
put_slot None (next ∷ rest) j = refl
put_slot (Some e) rest j = refl

trimmed_slot : (slots : Slots) (j : ℕ) → slot_in (trimmed slots) j ≡ slot_in slots j
trimmed_slot [] j = refl
trimmed_slot (x ∷ xs) zero = ap (λ (r : Slots). slot_in r zero) (trimmed_put x xs) ∙ put_slot x (trimmed xs) zero
trimmed_slot (x ∷ xs) (suc j) = ap (λ (r : Slots). slot_in r (suc j)) (trimmed_put x xs) ∙ put_slot x (trimmed xs) (suc j) ∙ trimmed_slot xs j

put_twice : (slot : Option Entry) (rest : Slots) → trimmed rest ≡ rest → trimmed (put slot rest) ≡ put slot rest
put_twice None [] h = refl
put_twice None (next ∷ rest) h = trimmed_put None (next ∷ rest) ∙ ap (put None) h
put_twice (Some e) rest h = trimmed_put (Some e) rest ∙ ap (put (Some e)) h

pub trimmed_twice : (slots : Slots) → trimmed (trimmed slots) ≡ trimmed slots
trimmed_twice [] = refl
trimmed_twice (x ∷ xs) = ap trimmed (trimmed_put x xs) ∙ put_twice x (trimmed xs) (trimmed_twice xs) ∙ sym (trimmed_put x xs)

-- of trimmed slots the rest are trimmed
put_tail : (x : Option Entry) (xs ys : Slots) → put x ys ≡ x ∷ xs → ys ≡ xs
put_tail None xs [] h = absurd (let wrong : [] ≡ None ∷ xs = h in cc)
put_tail None xs (y ∷ ys) h = let both : None ∷ y ∷ ys ≡ None ∷ xs = h in cc
put_tail (Some e) xs ys h = let both : Some e ∷ ys ≡ Some e ∷ xs = h in cc

pub trimmed_tail : (x : Option Entry) (xs : Slots) → trimmed (x ∷ xs) ≡ x ∷ xs → trimmed xs ≡ xs
trimmed_tail x xs h = put_tail x xs (trimmed xs) (sym (trimmed_put x xs) ∙ h)

-- a filled list is not empty
put_front : (x : Option Entry) (xs : Slots) (i : ℕ) (e : Entry) → put x (fill xs i e) ≡ x ∷ fill xs i e
put_front None [] i e = refl
put_front None (y ∷ ys) zero e = refl
put_front None (y ∷ ys) (suc i) e = refl
put_front (Some f) xs i e = refl

fill_trimmed : (slots : Slots) (i : ℕ) (e : Entry) → trimmed slots ≡ slots → trimmed (fill slots i e) ≡ fill slots i e
fill_trimmed [] i e h = refl
fill_trimmed (x ∷ xs) zero e h = trimmed_put (Some e) xs ∙ ap (put (Some e)) (trimmed_tail x xs h)
fill_trimmed (x ∷ xs) (suc i) e h = trimmed_put x (fill xs i e) ∙ ap (put x) (fill_trimmed xs i e (trimmed_tail x xs h)) ∙ put_front x xs i e

pub placed_trimmed : (slots : Slots) (i : ℕ) (e : Entry) → i ≤ length slots → trimmed slots ≡ slots → trimmed (with_slot slots i e) ≡ with_slot slots i e
placed_trimmed slots i e h t = ap trimmed (filled slots i e h) ∙ fill_trimmed slots i e t ∙ sym (filled slots i e h)

-- ---- a name cleared

set_here : (slots : Slots) (i : ℕ) → slot_in (set slots i None) i ≡ None
set_here [] i = refl
set_here (x ∷ xs) zero = refl
set_here (x ∷ xs) (suc i) = set_here xs i

set_others : (slots : Slots) (i j : ℕ) → (j ≡ i → ⊥) → slot_in (set slots i None) j ≡ slot_in slots j
set_others [] i j other = refl
set_others (x ∷ xs) zero zero other = absurd (other refl)
set_others (x ∷ xs) zero (suc j) other = refl
set_others (x ∷ xs) (suc i) zero other = refl
set_others (x ∷ xs) (suc i) (suc j) other = set_others xs i j (λ same. other (ap suc same))

pub cleared_here : (slots : Slots) (i : ℕ) → slot_in (without_slot slots i) i ≡ None
cleared_here slots i = trimmed_slot (set slots i None) i ∙ set_here slots i

pub cleared_elsewhere : (slots : Slots) (i j : ℕ) → (j ≡ i → ⊥) → slot_in (without_slot slots i) j ≡ slot_in slots j
cleared_elsewhere slots i j other = trimmed_slot (set slots i None) j ∙ set_others slots i j other

-- a slot of the rest was one before
pub cleared_was : (slots : Slots) (i j : ℕ) (e : Entry) → slot_in (without_slot slots i) j ≡ Some e → (slot_in slots j ≡ Some e) × (j ≡ i → ⊥)
cleared_was slots i j e h =
    let other = λ (same : j ≡ i). absurd {A = ⊥} (none_some e (sym (cleared_here slots i) ∙ ap (slot_in (without_slot slots i)) (sym same) ∙ h)) in
    (sym (cleared_elsewhere slots i j other) ∙ h, other)

-- ---- the rules of a directory, slot by slot

-- no two slots have one name
abbrev pub Apart : Slots → Type 0
Apart slots = (i j : ℕ) (a b : Entry) → slot_in slots i ≡ Some a → slot_in slots j ≡ Some b → bytes_eq a.name b.name ≡ true → i ≡ j

pub record IsSlotwise (g : Request) (slots : Slots) : Type 0 where
  pub entries : (i : ℕ) (e : Entry) → slot_in slots i ≡ Some e → IsEntry g e
  pub apart : Apart slots
  pub last_filled : trimmed slots ≡ slots
  pub size : slot_blocks g slots ≤ max_blocks_of g

all_slots : (P : Entry → Type 0) (slots : Slots) → All P (entries_of_slots slots) → (i : ℕ) (e : Entry) → slot_in slots i ≡ Some e → P e
all_slots P [] all i e h = absurd (none_some e h)
all_slots P (None ∷ xs) all zero e h = absurd (none_some e h)
all_slots P (None ∷ xs) all (suc i) e h = all_slots P xs all i e h
all_slots P (Some x ∷ xs) all zero e h = subst P (some_same x e h) (All-head P x (entries_of_slots xs) all)
all_slots P (Some x ∷ xs) all (suc i) e h = all_slots P xs (All-tail P x (entries_of_slots xs) all) i e h

slots_all : (P : Entry → Type 0) (slots : Slots) → ((i : ℕ) (e : Entry) → slot_in slots i ≡ Some e → P e) → All P (entries_of_slots slots)
slots_all P [] each = All-nil P
slots_all P (None ∷ xs) each = slots_all P xs (λ i. each (suc i))
slots_all P (Some x ∷ xs) each = All-cons P x (entries_of_slots xs) (each zero x refl) (slots_all P xs (λ i. each (suc i)))

each_slot : (P : Entry → Type 0) (slots : Slots) → AllByRecursion P (entries_of_slots slots) → (i : ℕ) (e : Entry) → slot_in slots i ≡ Some e → P e
each_slot P [] all i e h = absurd (none_some e h)
each_slot P (None ∷ xs) all zero e h = absurd (none_some e h)
each_slot P (None ∷ xs) all (suc i) e h = each_slot P xs all i e h
each_slot P (Some x ∷ xs) all zero e h = subst P (some_same x e h) all.0
each_slot P (Some x ∷ xs) all (suc i) e h = each_slot P xs all.1 i e h

slots_each : (P : Entry → Type 0) (slots : Slots) → ((i : ℕ) (e : Entry) → slot_in slots i ≡ Some e → P e) → AllByRecursion P (entries_of_slots slots)
slots_each P [] each = tt
slots_each P (None ∷ xs) each = slots_each P xs (λ i. each (suc i))
slots_each P (Some x ∷ xs) each = (each zero x refl, slots_each P xs (λ i. each (suc i)))

pub is_eq : (xs ys : List ℕ) → bytes_eq xs ys ≡ true → xs ≡ ys
is_eq xs ys h = (bytes_eq-Decides xs ys).0 h

pub eq_is : (xs ys : List ℕ) → xs ≡ ys → bytes_eq xs ys ≡ true
eq_is xs ys h = (bytes_eq-Decides xs ys).1 h

-- equal bytes are equal either way round
turned : (xs ys : List ℕ) → bytes_eq xs ys ≡ true → bytes_eq ys xs ≡ true
turned xs ys h = eq_is ys xs (sym (is_eq xs ys h))

distinct_apart : (slots : Slots) → IsDistinct (λ a b. bytes_eq a.name b.name) (entries_of_slots slots) → Apart slots
unfolding IsDistinct
distinct_apart [] d i j a b one two same = absurd (none_some a one)
distinct_apart (None ∷ xs) d zero j a b one two same = absurd (none_some a one)
distinct_apart (None ∷ xs) d (suc i) zero a b one two same = absurd (none_some b two)
distinct_apart (None ∷ xs) d (suc i) (suc j) a b one two same = ap suc (distinct_apart xs d i j a b one two same)
distinct_apart (Some x ∷ xs) d zero zero a b one two same = refl
distinct_apart (Some x ∷ xs) d zero (suc j) a b one two same =
    let differs = each_slot (λ y. bytes_eq x.name y.name ≡ false) xs d.0 j b two in
    let is : x ≡ a = some_same x a one in
    absurd (false≢true (sym differs ∙ ap (λ (y : Entry). bytes_eq y.name b.name) is ∙ same))
distinct_apart (Some x ∷ xs) d (suc i) zero a b one two same =
    let differs = each_slot (λ y. bytes_eq x.name y.name ≡ false) xs d.0 i a one in
    let is : x ≡ b = some_same x b two in
    absurd (false≢true (sym differs ∙ ap (λ (y : Entry). bytes_eq y.name a.name) is ∙ turned a.name b.name same))
distinct_apart (Some x ∷ xs) d (suc i) (suc j) a b one two same = ap suc (distinct_apart xs d.1 i j a b one two same)

zero_suc : (i : ℕ) → zero ≡ suc i → ⊥
zero_suc i h = omega arith

suc_same : (i j : ℕ) → suc i ≡ suc j → i ≡ j
suc_same i j h = omega arith

is_false : (b : Bool) → (b ≡ true → ⊥) → b ≡ false
is_false true h = absurd (h refl)
is_false false h = refl

apart_distinct : (slots : Slots) → Apart slots → IsDistinct (λ a b. bytes_eq a.name b.name) (entries_of_slots slots)
unfolding IsDistinct
apart_distinct [] apart = tt
apart_distinct (None ∷ xs) apart = apart_distinct xs (λ i j a b one two same. suc_same i j (apart (suc i) (suc j) a b one two same))
apart_distinct (Some x ∷ xs) apart = (
  slots_each (λ y. bytes_eq x.name y.name ≡ false) xs (λ i y h. is_false (bytes_eq x.name y.name) (λ same. zero_suc i (apart zero (suc i) x y refl h same))),
  apart_distinct xs (λ i j a b one two same. suc_same i j (apart (suc i) (suc j) a b one two same)),
)

pub to_slotwise : (g : Request) (slots : Slots) → IsDirectory g slots → IsSlotwise g slots
to_slotwise g slots d = record { entries = all_slots (IsEntry g) slots d.entries; apart = distinct_apart slots d.apart; last_filled = d.last_filled; size = d.size }

pub from_slotwise : (g : Request) (slots : Slots) → IsSlotwise g slots → IsDirectory g slots
from_slotwise g slots d = record { entries = slots_all (IsEntry g) slots d.entries; apart = apart_distinct slots d.apart; last_filled = d.last_filled; size = d.size }

-- ---- a directory after a name is placed or cleared

abbrev pub IsNewIn : Slots → List ℕ → ℕ → Type 0
IsNewIn slots name i = (j : ℕ) (a : Entry) → slot_in slots j ≡ Some a → bytes_eq a.name name ≡ true → j ≡ i

-- a slot of the list with a name placed
placed_was : (slots : Slots) (i : ℕ) (e : Entry) (j : ℕ) (a : Entry) → i ≤ length slots → slot_in (with_slot slots i e) j ≡ Some a → ((j ≡ i) × (a ≡ e)) ⊎ ((j ≡ i → ⊥) × (slot_in slots j ≡ Some a))
placed_was slots i e j a h is = ⊎_elim
    (λ (same : j ≡ i). inl (same, some_same a e (sym is ∙ ap (slot_in (with_slot slots i e)) same ∙ placed_here slots i e h)))
    (λ (other : j ≡ i → ⊥). inr (other, sym (placed_elsewhere slots i e j h other) ∙ is))
    (cases_eq j i)

placed_size : (g : Request) (slots : Slots) (i : ℕ) (e : Entry) → i ≤ length slots → slot_blocks g slots ≤ max_blocks_of g → i / slots_in_block g < max_blocks_of g → slot_blocks g (with_slot slots i e) ≤ max_blocks_of g
placed_size g slots i e within size room = ⊎_elim
    (λ (more : max_blocks_of g < slot_blocks g (with_slot slots i e)). ⊎_elim
    (λ (old : max_blocks_of g < slot_blocks g slots). absurd (omega arith))
    (λ (new : max_blocks_of g ≡ i / slots_in_block g). absurd (omega arith))
    (placed_blocks g slots i e (max_blocks_of g) within more))
    (λ h. h)
    (cases_lt (max_blocks_of g) (slot_blocks g (with_slot slots i e)))

-- the name is in no other slot
pub placed_slotwise : (g : Request) (slots : Slots) (i : ℕ) (e : Entry) → IsSlotwise g slots → i ≤ length slots → IsEntry g e → IsNewIn slots e.name i → i / slots_in_block g < max_blocks_of g → IsSlotwise g (with_slot slots i e)
placed_slotwise g slots i e d within good new room = record {
  entries = λ j a is. ⊎_elim (λ (k : (j ≡ i) × (a ≡ e)). subst (IsEntry g) (sym k.1) good) (λ (k : (j ≡ i → ⊥) × (slot_in slots j ≡ Some a)). d.entries j a k.1) (placed_was slots i e j a within is);
  apart = λ j k a b one two same. ⊎_elim
      (λ (p : (j ≡ i) × (a ≡ e)). ⊎_elim
      (λ (q : (k ≡ i) × (b ≡ e)). p.0 ∙ sym q.0)
      (λ (q : (k ≡ i → ⊥) × (slot_in slots k ≡ Some b)). absurd (q.0 (new k b q.1 (turned e.name b.name (ap (λ (x : Entry). bytes_eq x.name b.name) (sym p.1) ∙ same)))))
      (placed_was slots i e k b within two))
      (λ (p : (j ≡ i → ⊥) × (slot_in slots j ≡ Some a)). ⊎_elim
      (λ (q : (k ≡ i) × (b ≡ e)). absurd (p.0 (new j a p.1 (ap (λ (x : Entry). bytes_eq a.name x.name) (sym q.1) ∙ same))))
      (λ (q : (k ≡ i → ⊥) × (slot_in slots k ≡ Some b)). d.apart j k a b p.1 q.1 same)
      (placed_was slots i e k b within two))
      (placed_was slots i e j a within one);
  last_filled = placed_trimmed slots i e within d.last_filled;
  size = placed_size g slots i e within d.size room;
}

cleared_size : (g : Request) (slots : Slots) (i : ℕ) → slot_blocks g (without_slot slots i) ≤ slot_blocks g slots
cleared_size g slots i = ⊎_elim
    (λ (more : slot_blocks g slots < slot_blocks g (without_slot slots i)). absurd (let less = cleared_blocks g slots i (slot_blocks g slots) more in omega arith))
    (λ h. h)
    (cases_lt (slot_blocks g slots) (slot_blocks g (without_slot slots i)))

pub cleared_slotwise : (g : Request) (slots : Slots) (i : ℕ) → IsSlotwise g slots → IsSlotwise g (without_slot slots i)
cleared_slotwise g slots i d = record {
  entries = λ j a is. d.entries j a (cleared_was slots i j a is).0;
  apart = λ j k a b one two same. d.apart j k a b (cleared_was slots i j a one).0 (cleared_was slots i k b two).0 same;
  last_filled = trimmed_twice (set slots i None);
  size = let less = cleared_size g slots i in let size = d.size in omega arith;
}

-- ---- the last slot

last_from : (x : Option Entry) (xs : Slots) → trimmed (x ∷ xs) ≡ x ∷ xs → (e : Entry) × (slot_in (x ∷ xs) (length xs) ≡ Some e)
last_from None [] h = absurd (let wrong : [] ≡ None ∷ [] = h in cc)
last_from (Some e) [] h = (e, refl)
last_from x (y ∷ ys) h = last_from y ys (trimmed_tail x (y ∷ ys) h)

pub slot_inside : (slots : Slots) (i : ℕ) (e : Entry) → slot_in slots i ≡ Some e → i < length slots
slot_inside [] i e h = absurd (none_some e h)
slot_inside (x ∷ xs) zero e h = omega arith
slot_inside (x ∷ xs) (suc i) e h = let rest = slot_inside xs i e h in omega arith

-- clearing another slot than the last one leaves as many
pub cleared_length : (slots : Slots) (i : ℕ) → trimmed slots ≡ slots → i < length slots → (length slots ≡ i + 1) ⊎ (length slots ≤ length (without_slot slots i))
cleared_length [] i h low = absurd (omega arith)
cleared_length (x ∷ xs) i h low =
    let last = last_from x xs h in
    ⊎_elim
    (λ (same : length xs ≡ i). inl (omega arith))
    (λ (other : length xs ≡ i → ⊥).
    let more = slot_inside (without_slot (x ∷ xs) i) (length xs) last.0 (cleared_elsewhere (x ∷ xs) i (length xs) other ∙ last.1) in
    inr (omega arith))
    (cases_eq (length xs) i)

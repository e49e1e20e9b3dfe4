-- The bytes of a slot determine it.
use Rattle.std.proofs.Common.{◌≡◌, ℕ, zero, suc, ◌+◌, ◌-◌, ◌*◌, ◌^◌, ◌<◌, ◌≤◌, ◌==◌, ◌&&◌, ◌||◌, not, true, false, List, [], ◌∷◌, ◌++◌, length, get_or, drop, replicate, Option, Some, None, refl, sym, ap, ◌∙◌, subst, arith, append_assoc}
use Rattle.std.specs.List.{All, list_any, flat_map}
use Rattle.std.specs.Str.{bytes_eq}
use Rattle.std.proofs.lemmas.Bool.{and_parts, or_parts, not-true, leb-true}
use Rattle.std.proofs.lemmas.List.{length-append, length-replicate, get_or_append_left, get_or-append-add, ext_get_or}
use Rattle.std.proofs.lemmas.List.Elements.{All-head, All-tail}
use Rattle.byteorder.specs.Endian.{little_from}
use Rattle.byteorder.specs.Numbers.{little_number-reads_back}
use Rattle.edge_base.specs.declared.geometry.Request.{Request}
use Rattle.edge_base.specs.tree.Slots.{Entry, Slots, is_bad_name, is_name, slot_bytes, trimmed}
use Rattle.edge_base.specs.tree.NodeRules.{IsEntry, entries_of_slots}

-- ---- filled slots

-- what holds of the entries of slots holds of each filled slot
pub filled : (P : Entry → Type 0) (slots : Slots) → All P (entries_of_slots slots) → (k : ℕ) (e : Entry) → get_or slots k None ≡ Some e → P e
filled P [] all k e is = absurd (let wrong : None ≡ Some e = is in cc)
filled P (None ∷ slots) all zero e is = absurd (let wrong : None ≡ Some e = is in cc)
filled P (None ∷ slots) all (suc k) e is = filled P slots all k e is
filled P (Some x ∷ slots) all zero e is = let same : x ≡ e = cc in subst P same (All-head P x (entries_of_slots slots) all)
filled P (Some x ∷ slots) all (suc k) e is = filled P slots (All-tail P x (entries_of_slots slots) all) k e is

-- an empty slot, or one with an entry that may be there
abbrev pub IsSlot : Request → Option Entry → Type 0
IsSlot g slot = (e : Entry) → slot ≡ Some e → IsEntry g e

-- each slot of a list is one
abbrev pub AreSlots : Request → Slots → Type 0
AreSlots g slots = (k : ℕ) → IsSlot g (get_or slots k None)

-- ---- names

-- what a test of a name says of it
pub record IsShortName (g : Request) (name : List ℕ) : Type 0 where
  pub no_zero : list_any (λ b. b == 0) name ≡ false
  pub short : length name ≤ g.name_max

pub short_name : (g : Request) (name : List ℕ) → is_name g name ≡ true → IsShortName g name
short_name g name e =
    let outer = and_parts (not (is_bad_name name) && not (list_any (λ b. b == 47) name)) _ e in
    let good = not-true (is_bad_name name) (and_parts (not (is_bad_name name)) (not (list_any (λ b. b == 47) name)) outer.0).0 in
    record {
      no_zero = (or_parts (bytes_eq name [] || bytes_eq name (46 ∷ []) || bytes_eq name (46 ∷ 46 ∷ [])) (list_any (λ b. b == 0) name) good).1;
      short = leb-true (length name) g.name_max outer.1;
    }

no_zero_head : (b : ℕ) (name : List ℕ) → list_any (λ x. x == 0) (b ∷ name) ≡ false → 0 ≡ b → ⊥
no_zero_head b name e zero_is = let wrong : true ≡ false = ap (λ (x : ℕ). (x == 0) || list_any (λ y. y == 0) name) zero_is ∙ e in cc

-- names without zeros, padded with zeros
pub names_same : (xs ys : List ℕ) (m n : ℕ) → list_any (λ x. x == 0) xs ≡ false → list_any (λ x. x == 0) ys ≡ false → xs ++ replicate m 0 ≡ ys ++ replicate n 0 → xs ≡ ys
names_same [] [] m n p q e = refl
names_same [] (y ∷ ys) zero n p q e = absurd (let wrong : [] ≡ y ∷ (ys ++ replicate n 0) = e in cc)
names_same [] (y ∷ ys) (suc m) n p q e = absurd (no_zero_head y ys q (let wrong : 0 ∷ replicate m 0 ≡ y ∷ (ys ++ replicate n 0) = e in cc))
names_same (x ∷ xs) [] m zero p q e = absurd (let wrong : x ∷ (xs ++ replicate m 0) ≡ [] = e in cc)
names_same (x ∷ xs) [] m (suc n) p q e = absurd (no_zero_head x xs p (let wrong : x ∷ (xs ++ replicate m 0) ≡ 0 ∷ replicate n 0 = e in cc))
names_same (x ∷ xs) (y ∷ ys) m n p q e =
    let both : x ∷ (xs ++ replicate m 0) ≡ y ∷ (ys ++ replicate n 0) = e in
    let head : x ≡ y = cc in
    let tail : xs ++ replicate m 0 ≡ ys ++ replicate n 0 = cc in
    let rest = names_same xs ys m n (or_parts (x == 0) _ p).1 (or_parts (y == 0) _ q).1 tail in
    λ i. head i ∷ rest i

-- ---- one slot

slot_length : (g : Request) (slot : Option Entry) → IsSlot g slot → length (slot_bytes g slot) ≡ 4 + g.name_max
slot_length g None good = length-replicate {A = ℕ} (4 + g.name_max) 0
slot_length g (Some e) good =
    let short = (short_name g e.name (good e refl).name).short in
    let inner = length-append e.name (replicate (g.name_max - length e.name) 0) in
    let rest = length-replicate {A = ℕ} (g.name_max - length e.name) 0 in
    let long : length (e.name ++ replicate {A = ℕ} (g.name_max - length e.name) 0) ≡ g.name_max = omega arith in
    ap (λ (n : ℕ). suc (suc (suc (suc n)))) long ∙ omega arith

pub zeros_read : (n k : ℕ) → get_or {A = ℕ} (replicate {A = ℕ} n 0) k 0 ≡ 0
zeros_read zero k = refl
zeros_read (suc n) zero = refl
zeros_read (suc n) (suc k) = zeros_read n k

number_of_zeros : (n : ℕ) → little_from 0 4 (replicate n 0) ≡ 0
number_of_zeros n = let a = zeros_read n 0 in let b = zeros_read n 1 in let c = zeros_read n 2 in let d = zeros_read n 3 in omega arith

number_of_slot : (g : Request) (e : Entry) → e.number < 256 ^ 4 → little_from 0 4 (slot_bytes g (Some e)) ≡ e.number
number_of_slot g e below = little_number-reads_back 4 e.number (e.name ++ replicate (g.name_max - length e.name) 0) below

name_in_slot : (g : Request) (e : Entry) → drop 4 (slot_bytes g (Some e)) ≡ e.name ++ replicate (g.name_max - length e.name) 0
name_in_slot g e = refl

-- a number of a geometry has four bytes
small_number : (g : Request) (n : ℕ) → g.inodes ≤ 65536 → n < 2 + g.inodes → n < 256 ^ 4
small_number g n few below = omega arith

same_slot : (g : Request) (one two : Option Entry) → g.inodes ≤ 65536 → IsSlot g one → IsSlot g two → slot_bytes g one ≡ slot_bytes g two → one ≡ two
same_slot g None None few p q e = refl
same_slot g None (Some b) few p q e =
    let number = sym (number_of_zeros (4 + g.name_max)) ∙ ap (little_from 0 4) e ∙ number_of_slot g b (small_number g b.number few (q b refl).below) in
    let from = (q b refl).from in
    absurd (omega arith)
same_slot g (Some a) None few p q e =
    let number = sym (number_of_slot g a (small_number g a.number few (p a refl).below)) ∙ ap (little_from 0 4) e ∙ number_of_zeros (4 + g.name_max) in
    let from = (p a refl).from in
    absurd (omega arith)
same_slot g (Some a) (Some b) few p q e =
    let number = sym (number_of_slot g a (small_number g a.number few (p a refl).below)) ∙ ap (little_from 0 4) e ∙ number_of_slot g b (small_number g b.number few (q b refl).below) in
    let name = names_same a.name b.name (g.name_max - length a.name) (g.name_max - length b.name) (short_name g a.name (p a refl).name).no_zero (short_name g b.name (q b refl).name).no_zero (ap (drop 4) e) in
    λ i. Some (record { name = name i; number = number i })

-- ---- slots one after another

-- byte c of slot k, in slots that zeros follow
byte_of_slot : (g : Request) (slots : Slots) (n : ℕ) → AreSlots g slots → (k c : ℕ) → c < 4 + g.name_max
    → get_or (flat_map (slot_bytes g) slots ++ replicate n 0) (k * (4 + g.name_max) + c) 0 ≡ get_or (slot_bytes g (get_or slots k None)) c 0
byte_of_slot g [] n good k c inside = zeros_read n (k * (4 + g.name_max) + c) ∙ sym (zeros_read (4 + g.name_max) c)
byte_of_slot g (slot ∷ slots) n good zero c inside =
    let long = slot_length g slot (good 0) in
    let here : 0 * (4 + g.name_max) + c ≡ c = omega arith in
    ap (λ (k : ℕ). get_or ((slot_bytes g slot ++ flat_map (slot_bytes g) slots) ++ replicate n 0) k 0) here
    ∙ ap (λ l. get_or l c 0) (append_assoc (slot_bytes g slot) (flat_map (slot_bytes g) slots) (replicate n 0))
    ∙ get_or_append_left (slot_bytes g slot) (flat_map (slot_bytes g) slots ++ replicate n 0) 0 c (omega arith)
byte_of_slot g (slot ∷ slots) n good (suc k) c inside =
    let long = slot_length g slot (good 0) in
    let here : suc k * (4 + g.name_max) + c ≡ length (slot_bytes g slot) + (k * (4 + g.name_max) + c) = omega arith in
    ap (λ (j : ℕ). get_or ((slot_bytes g slot ++ flat_map (slot_bytes g) slots) ++ replicate n 0) j 0) here
    ∙ ap (λ l. get_or l (length (slot_bytes g slot) + (k * (4 + g.name_max) + c)) 0) (append_assoc (slot_bytes g slot) (flat_map (slot_bytes g) slots) (replicate n 0))
    ∙ get_or-append-add (slot_bytes g slot) (flat_map (slot_bytes g) slots ++ replicate n 0) (k * (4 + g.name_max) + c) 0
    ∙ byte_of_slot g slots n (λ j. good (suc j)) k c inside

-- slots whose bytes are equal, zeros behind them aside
pub same_slots : (g : Request) (one two : Slots) (m n : ℕ) → g.inodes ≤ 65536 → AreSlots g one → AreSlots g two
    → flat_map (slot_bytes g) one ++ replicate m 0 ≡ flat_map (slot_bytes g) two ++ replicate n 0 → (k : ℕ) → get_or one k None ≡ get_or two k None
same_slots g one two m n few p q e k =
    let long_one = slot_length g (get_or one k None) (p k) in
    let long_two = slot_length g (get_or two k None) (q k) in
    same_slot g (get_or one k None) (get_or two k None) few (p k) (q k)
    (ext_get_or 0 (slot_bytes g (get_or one k None)) (slot_bytes g (get_or two k None)) (omega arith) (λ c inside.
    let within : c < 4 + g.name_max = omega arith in
    sym (byte_of_slot g one m p k c within) ∙ ap (λ l. get_or l (k * (4 + g.name_max) + c) 0) e ∙ byte_of_slot g two n q k c within))

-- ---- lists of slots, empty ones at the end aside

-- a slot in front of slots that are trimmed
abbrev put : Option Entry → Slots → Slots
put None [] = []
put None (next ∷ rest) = None ∷ next ∷ rest
put (Some e) rest = Some e ∷ rest

trimmed_put : (slot : Option Entry) (slots : Slots) → trimmed (slot ∷ slots) ≡ put slot (trimmed slots)
trimmed_put None slots = refl
trimmed_put (Some e) slots = refl

-- empty slots leave nothing
trimmed_empty : (slots : Slots) → ((k : ℕ) → get_or slots k None ≡ None) → trimmed slots ≡ []
trimmed_empty [] none = refl
trimmed_empty (None ∷ slots) none = trimmed_put None slots ∙ ap (put None) (trimmed_empty slots (λ k. none (suc k)))
trimmed_empty (Some e ∷ slots) none = absurd (let wrong : Some e ≡ None = none 0 in cc)

pub same_trimmed : (one two : Slots) → ((k : ℕ) → get_or one k None ≡ get_or two k None) → trimmed one ≡ trimmed two
same_trimmed [] two same = sym (trimmed_empty two (λ k. sym (same k)))
same_trimmed (x ∷ one) [] same = trimmed_empty (x ∷ one) same
same_trimmed (x ∷ one) (y ∷ two) same =
    let head : x ≡ y = same 0 in
    let rest = same_trimmed one two (λ k. same (suc k)) in
    trimmed_put x one ∙ (λ i. put (head i) (rest i)) ∙ sym (trimmed_put y two)

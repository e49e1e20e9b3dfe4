-- Of the slots of a block one is read behind the other.
use Rattle.std.proofs.Common.{◌≡◌, ◌≢◌, ◌∙◌, ℕ, ◌+◌, ◌-◌, ◌^◌, ◌<◌, true, false, inl, inr, List, [], ◌++◌, length, take, drop, Option, Some, None, refl, sym, ap, arith, below_more}
use Rattle.std.specs.Prelude.{replicate, is_some}
use Rattle.std.specs.Str.{bytes_eq}
use Rattle.std.proofs.lemmas.Bool.{false≢true}
use Rattle.std.proofs.lemmas.Slice.Eq.{bytes_eq-Decides}
use Rattle.std.proofs.lemmas.List.{take_at, drop_at, replicate-append-replicate}
use Rattle.byteorder.specs.Endian.{little_bytes, little_from}
use Rattle.byteorder.specs.Numbers.{length-bytes_low_first, little_number-reads_back}
use Rattle.edge_base.specs.declared.geometry.Request.{Request}
use Rattle.edge_base.specs.layout.Places.{IsWithinLimits}
use Rattle.edge_base.specs.tree.Slots.{is_name}
use Rattle.edge_store.specs.Damages.{slot_in}
use Rattle.edge_slots.specs.Slot.{HasEntry, IsEmpty}
use Rattle.edge_slots.specs.Block.{Lacks, IsFilled, IsFilledBefore, IsOther}
use Rattle.edge_slots.proofs.SlotLaws.{any_zero, first_zero, behind_name, bare_name}

-- ---- one slot

-- the bytes before the first zero behind the number
abbrev name_in : List ℕ → List ℕ
name_in bytes = take (first_zero (drop 4 bytes)) (drop 4 bytes)

name_read : (bytes : List ℕ) (n : ℕ) (text : List ℕ) (pad : ℕ) → any_zero text ≡ false → bytes ≡ little_bytes 4 n ++ (text ++ replicate pad 0) → name_in bytes ≡ text
name_read bytes n text pad bare e =
    let back : drop 4 bytes ≡ text ++ replicate pad 0 = ap (drop 4) e ∙ drop_at (little_bytes 4 n) (text ++ replicate pad 0) 4 (length-bytes_low_first 0 4 n) in
    let at : first_zero (drop 4 bytes) ≡ length text = ap first_zero back ∙ behind_name text pad bare in
    (λ i. take (at i) (back i)) ∙ take_at text (replicate pad 0) (length text) refl

entry_name : (g : Request) (bytes name : List ℕ) (number : ℕ) → HasEntry g bytes name number → name_in bytes ≡ name
entry_name g bytes name number has = name_read bytes number name (g.name_max - length name) (bare_name g name has.allowed.name) has.spelled

empty_name : (g : Request) (bytes : List ℕ) → IsEmpty g bytes → name_in bytes ≡ []
empty_name g bytes e = name_read bytes 0 [] g.name_max refl (e ∙ sym (replicate-append-replicate 4 g.name_max 0))

-- a slot has one name
pub one_name : (g : Request) (bytes a b : List ℕ) (m n : ℕ) → HasEntry g bytes a m → HasEntry g bytes b n → a ≡ b
one_name g bytes a b m n one two = sym (entry_name g bytes a m one) ∙ entry_name g bytes b n two

-- and one number
pub one_number : (g : Request) (bytes a b : List ℕ) (m n : ℕ) → IsWithinLimits g → HasEntry g bytes a m → HasEntry g bytes b n → m ≡ n
one_number g bytes a b m n limits one two =
    let top = limits.inodes in
    let low_m : m < 2 ^ 32 = (let below = one.allowed.below in omega arith) in
    let low_n : n < 2 ^ 32 = (let below = two.allowed.below in omega arith) in
    sym (little_number-reads_back 4 m (a ++ replicate (g.name_max - length a) 0) low_m)
    ∙ ap (little_from 0 4) (sym one.spelled ∙ two.spelled)
    ∙ little_number-reads_back 4 n (b ++ replicate (g.name_max - length b) 0) low_n

no_name : (g : Request) (name : List ℕ) → name ≡ [] → is_name g name ≡ true → ⊥
no_name g name e is = false≢true (sym (ap (is_name g) e) ∙ is)

-- a filled slot is not empty
pub filled_or_empty : (g : Request) (bytes name : List ℕ) (number : ℕ) → HasEntry g bytes name number → IsEmpty g bytes → ⊥
filled_or_empty g bytes name number has empty = no_name g name (sym (entry_name g bytes name number has) ∙ empty_name g bytes empty) has.allowed.name

-- ---- one slot behind the other

-- the first empty slot of the first so many, or that there is none
abbrev pub IsFreeAmong : Request → List ℕ → ℕ → Option ℕ → Type 0
IsFreeAmong g block count (Some k) = (k < count) × IsEmpty g (slot_in g block k) × IsFilledBefore g block k
IsFreeAmong g block count None = IsFilledBefore g block count

pub lacks_entry : (g : Request) (block : List ℕ) (k : ℕ) (name other : List ℕ) (number : ℕ) → Lacks g block k name → HasEntry g (slot_in g block k) other number → other ≢ name → Lacks g block (k + 1) name
lacks_entry g block k name other number before has differs = below_more (λ (j : ℕ). IsOther g name (slot_in g block j)) k before (inr (other, number, has, differs))

pub lacks_empty : (g : Request) (block : List ℕ) (k : ℕ) (name : List ℕ) → Lacks g block k name → IsEmpty g (slot_in g block k) → Lacks g block (k + 1) name
lacks_empty g block k name before empty = below_more (λ (j : ℕ). IsOther g name (slot_in g block j)) k before (inl empty)

pub free_filled : (g : Request) (block : List ℕ) (k : ℕ) (free : Option ℕ) (name : List ℕ) (number : ℕ) → IsFreeAmong g block k free → HasEntry g (slot_in g block k) name number → IsFreeAmong g block (k + 1) free
free_filled g block k (Some f) name number (low, empty, before) has = ((omega arith), empty, before)
free_filled g block k None name number before has = below_more (λ (j : ℕ). IsFilled g (slot_in g block j)) k before (name, number, has)

pub free_again : (g : Request) (block : List ℕ) (k : ℕ) (free : Option ℕ) → IsFreeAmong g block k free → (free ≡ None → ⊥) → IsFreeAmong g block (k + 1) free
free_again g block k (Some f) (low, empty, before) some = ((omega arith), empty, before)
free_again g block k None before some = absurd (some refl)

pub free_here : (g : Request) (block : List ℕ) (k : ℕ) (free : Option ℕ) → IsFreeAmong g block k free → free ≡ None → IsEmpty g (slot_in g block k) → IsFreeAmong g block (k + 1) (Some k)
free_here g block k (Some f) among none empty = absurd (cc)
free_here g block k None before none empty = ((omega arith), empty, before)

pub is_none_of : (o : Option ℕ) → is_some o ≡ false → o ≡ None
is_none_of None e = refl
is_none_of (Some k) e = absurd (cc)

pub same_names : (a b : List ℕ) → a ≡ b → bytes_eq a b ≡ true
same_names a b e = (bytes_eq-Decides a b).1 e

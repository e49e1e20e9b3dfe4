-- The slots of a directory as a list: the first empty one, the last filled one, and what is in its blocks.
use Rattle.std.proofs.Common.{◌≡◌, ◌∙◌, ℕ, zero, suc, ◌+◌, ◌-◌, ◌*◌, ◌<◌, ◌≤◌, inl, inr, List, [], ◌∷◌, length, Option, Some, None, refl, sym, ap, subst, arith}
use Rattle.std.specs.Prelude.{All}
use Rattle.std.proofs.lemmas.Bool.{cases_lt}
use Rattle.std.proofs.lemmas.List.{get_or_past}
use Rattle.std.proofs.lemmas.Nat.{div-add-mod'}
use Rattle.std.proofs.Math.Nat.{mod-lt}
use Rattle.std.proofs.lemmas.List.Elements.{All-head, All-tail}
use Rattle.edge_base.specs.commands.Descriptors.{first_empty, first_empty_from}
use Rattle.edge_base.specs.declared.geometry.Request.{Request}
use Rattle.edge_base.specs.tree.NodeRules.{IsEntry, entries_of_slots}
use Rattle.edge_base.specs.tree.Slots.{Entry, Slots, slot_bytes, pieces, slots_in_block, trimmed}
use Rattle.edge_store.specs.Damages.{slot_in}
use Rattle.edge_slots.specs.Block.{HasWrong}
use Rattle.edge_dir.specs.Directory.{slot_of}

-- ---- the list

-- an entry in a slot is one of the entries
pub entry_allowed : (g : Request) (slots : Slots) (k : ℕ) (e : Entry) → All (IsEntry g) (entries_of_slots slots) → slot_of slots k ≡ Some e → IsEntry g e
entry_allowed g [] k e all is = absurd (cc)
entry_allowed g (None ∷ slots) zero e all is = absurd (cc)
entry_allowed g (None ∷ slots) (suc k) e all is = entry_allowed g slots k e all is
entry_allowed g (Some x ∷ slots) zero e all is = subst (IsEntry g) (let same : x ≡ e = cc in same) (All-head (IsEntry g) x (entries_of_slots slots) all)
entry_allowed g (Some x ∷ slots) (suc k) e all is = entry_allowed g slots k e (All-tail (IsEntry g) x (entries_of_slots slots) all) is

-- no slot before k is empty
abbrev pub AreFilledBefore : Slots → ℕ → Type 0
AreFilledBefore slots k = (j : ℕ) → j < k → slot_of slots j ≡ None → ⊥

first_from : (i : ℕ) (slots : Slots) (k : ℕ) → AreFilledBefore slots k → slot_of slots k ≡ None → first_empty_from i slots ≡ i + k
first_from i [] zero before here = omega arith
first_from i [] (suc k) before here = absurd (before 0 (omega arith) refl)
first_from i (None ∷ slots) zero before here = omega arith
first_from i (None ∷ slots) (suc k) before here = absurd (before 0 (omega arith) refl)
first_from i (Some x ∷ slots) zero before here = absurd (cc)
first_from i (Some x ∷ slots) (suc k) before here =
    let rest : first_empty_from (i + 1) slots ≡ i + 1 + k = first_from (i + 1) slots k (λ j low none. before (suc j) (omega arith) none) here in
    omega arith

pub first_empty_is : (slots : Slots) (k : ℕ) → AreFilledBefore slots k → slot_of slots k ≡ None → k ≡ first_empty slots
first_empty_is slots k before here = let e = first_from 0 slots k before here in omega arith

-- a slot past the last is empty
pub past_last : (slots : Slots) (k : ℕ) → length slots ≤ k → slot_of slots k ≡ None
past_last slots k past = get_or_past slots k None past

pub before_end : (slots : Slots) (k : ℕ) → (slot_of slots k ≡ None → ⊥) → k < length slots
before_end slots k filled = elim (cases_lt k (length slots)) [
  | inl low ↦ low
  | inr past ↦ absurd (filled (past_last slots k past))
]

-- of trimmed slots the rest are trimmed
abbrev pub put : Option Entry → Slots → Slots
put None [] = []
put None (next ∷ rest) = None ∷ next ∷ rest
put (Some e) rest = Some e ∷ rest

pub trimmed_put : (slot : Option Entry) (slots : Slots) → trimmed (slot ∷ slots) ≡ put slot (trimmed slots)
trimmed_put None slots = refl
trimmed_put (Some e) slots = refl

put_rest : (slot : Option Entry) (slots rest : Slots) → put slot rest ≡ slot ∷ slots → rest ≡ slots
put_rest None slots [] h = absurd (let wrong : [] ≡ None ∷ slots = h in cc)
put_rest None slots (next ∷ rest) h = let both : None ∷ next ∷ rest ≡ None ∷ slots = h in cc
put_rest (Some e) slots rest h = let both : Some e ∷ rest ≡ Some e ∷ slots = h in cc

pub trimmed_rest : (slot : Option Entry) (slots : Slots) → trimmed (slot ∷ slots) ≡ slot ∷ slots → trimmed slots ≡ slots
trimmed_rest slot slots h = put_rest slot slots (trimmed slots) (sym (trimmed_put slot slots) ∙ h)

-- the last slot is filled
pub last_is_filled : (slots : Slots) (k : ℕ) → trimmed slots ≡ slots → length slots ≡ k + 1 → slot_of slots k ≡ None → ⊥
last_is_filled [] k trim len none = absurd (omega arith)
last_is_filled (None ∷ []) k trim len none = let e : [] ≡ None ∷ [] = trim in absurd (cc)
last_is_filled (Some x ∷ []) zero trim len none = absurd (cc)
last_is_filled (Some x ∷ []) (suc k) trim len none = absurd (omega arith)
last_is_filled (slot ∷ next ∷ slots) zero trim len none = absurd (omega arith)
last_is_filled (slot ∷ next ∷ slots) (suc k) trim len none = last_is_filled (next ∷ slots) k (trimmed_rest slot (next ∷ slots) trim) (omega arith) none

-- a slot that is filled, behind which none is, is the last
pub last_behind : (slots : Slots) (k end : ℕ) → trimmed slots ≡ slots → length slots ≤ end → (slot_of slots k ≡ None → ⊥) → ((j : ℕ) → k < j → j < end → slot_of slots j ≡ None) → length slots ≡ k + 1
last_behind slots k end trim short filled behind =
    let low = before_end slots k filled in
    elim (cases_lt (k + 1) (length slots)) [
      | inl more ↦ absurd (last_is_filled slots (length slots - 1) trim (omega arith) (behind (length slots - 1) (omega arith) (omega arith)))
      | inr end ↦ omega arith
    ]

-- blocks hold all slots
pub blocks_hold : (n count : ℕ) → 0 < n → count ≤ pieces n count * n
blocks_hold n count some = let full = div-add-mod' (count + (n - 1)) n in let low = mod-lt (count + (n - 1)) some in omega arith

-- ---- the slots of a block

-- The slots of a directory whose entries are allowed, and the bytes of its block i.
module _ (g : Request) (slots : Slots) (i : ℕ) (list : List ℕ) (entries : All (IsEntry g) (entries_of_slots slots))
    (is : (j : ℕ) → j < slots_in_block g → slot_in g list j ≡ slot_bytes g (slot_of slots (i * slots_in_block g + j))) where
  abbrev at : ℕ → ℕ
  at j = i * slots_in_block g + j

  -- none of them is wrong
  pub none_wrong : HasWrong g list → ⊥
  none_wrong bad = by (slot_of slots (at bad.slot)) refl
    where
      by : (o : Option Entry) → slot_of slots (at bad.slot) ≡ o → ⊥
      by None there = bad.wrong.not_empty (is bad.slot bad.in_range ∙ ap (slot_bytes g) there)
      by (Some e) there = bad.wrong.no_entry e (entry_allowed g slots (at bad.slot) e entries there) (is bad.slot bad.in_range ∙ ap (slot_bytes g) there)

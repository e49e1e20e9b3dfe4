-- The table as the code keeps it, and the table that it means.
use Rattle.std.proofs.Common.{◌≡◌, inl, inr, not, ◌∙◌, ℕ, zero, suc, ◌+◌, ◌<◌, ◌≤◌, sym, Bool, cond, List, [], ◌∷◌, length, set, refl, ap, arith, Option, Some, None}
use Rattle.std.specs.Prelude.{position, is_none, unwrap_or, slice_get, ◌||◌}
use Rattle.std.specs.Option.{option_map}
use Rattle.std.specs.List.{list_any, position_or_len}
use Rattle.std.proofs.lemmas.Bool.{cases_lt, lt-ltb, le-ltb}
use Rattle.std.proofs.lemmas.List.{map-set, length-map}
use Rattle.std.proofs.lemmas.List.Sums.{prefix_len-le-length}
use Rattle.edge_base.specs.commands.Descriptors.{Descriptors, first_empty, first_empty_from, is_for, is_open}
use Rattle.edge_handles.specs.declared.Slot.{Slot}
use Rattle.edge_handles.specs.Table.{descriptor_of, descriptors_of}

first_from : (i : ℕ) (slots : List (Option Slot)) → first_empty_from i (descriptors_of slots) ≡ i + position_or_len is_none slots
first_from i [] = omega arith
first_from i (None ∷ slots) = omega arith
first_from i (Some s ∷ slots) = omega (arith, first_from (i + 1) slots)

pub first_is : (slots : List (Option Slot)) → unwrap_or (position is_none slots) (length slots) ≡ first_empty (descriptors_of slots)
first_is slots = elim (cases_lt (position_or_len is_none slots) (length slots)) [
  | inl found ↦ ap (λ (b : Bool). unwrap_or (cond b (Some (position_or_len is_none slots)) None) (length slots)) (lt-ltb _ _ found) ∙ omega (arith, first_from 0 slots)
  | inr none ↦ ap (λ (b : Bool). unwrap_or (cond b (Some (position_or_len is_none slots)) None) (length slots)) (le-ltb _ _ none) ∙ omega (arith, first_from 0 slots, prefix_len-le-length (λ x. not (is_none x)) slots)
]

pub any-descriptors : (number : ℕ) (slots : List (Option Slot)) → list_any (λ slot. is_for number (option_map descriptor_of slot)) slots ≡ is_open (descriptors_of slots) number
any-descriptors number [] = refl
any-descriptors number (slot ∷ slots) = ap (λ (b : Bool). is_for number (option_map descriptor_of slot) || b) (any-descriptors number slots)

-- an empty or filled slot put into place h
pub put-slot : (slots : List (Option Slot)) (table : Descriptors) (h : ℕ) (slot : Option Slot) → descriptors_of slots ≡ table
    → descriptors_of (set slots h slot) ≡ set table h (option_map descriptor_of slot)
put-slot slots table h slot is = map-set (option_map descriptor_of) slots h slot ∙ ap (λ (t : Descriptors). set t h (option_map descriptor_of slot)) is

from_on : {A : Type 0} (i : ℕ) (places : List (Option A)) → i ≤ first_empty_from i places
from_on i [] = omega arith
from_on i (None ∷ places) = omega arith
from_on i (Some x ∷ places) = omega (arith, from_on (i + 1) places)

empty_at : {A : Type 0} (places : List (Option A)) (i n : ℕ) → first_empty_from i places ≡ i + n → n < length places → slice_get places n ≡ Some None
empty_at [] i n e lt = absurd (omega arith)
empty_at (None ∷ places) i zero e lt = refl
empty_at (None ∷ places) i (suc n) e lt = absurd (omega arith)
empty_at (Some x ∷ places) i zero e lt = absurd (omega (arith, from_on (i + 1) places))
empty_at (Some x ∷ places) i (suc n) e lt = empty_at places (i + 1) n (omega arith) (omega arith)

-- the first empty place, where the table has it, is there and empty
pub first-is-empty : (slots : List (Option Slot)) (table : Descriptors) (h : ℕ) → descriptors_of slots ≡ table → h ≡ first_empty (descriptors_of slots) → h < length slots
    → slice_get table h ≡ Some None
first-is-empty slots table h is at lt =
    ap (λ (t : Descriptors). slice_get t h) (sym is) ∙ empty_at (descriptors_of slots) 0 h (omega arith) (omega (arith, length-map slots (option_map descriptor_of)))

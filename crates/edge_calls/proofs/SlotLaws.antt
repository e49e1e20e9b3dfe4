-- The first filled slot of a directory, slot by slot.
use Rattle.std.proofs.Common.{◌≡◌, ◌∙◌, ℕ, ◌+◌, ◌<◌, ◌≤◌, ◌∷◌, length, drop, sym, ap, Option, Some, None}
use Rattle.std.proofs.Math.ListN.{drop_of_length-le}
use Rattle.std.proofs.lemmas.List.{drop_more}
use Rattle.edge_base.specs.tree.Slots.{Entry, Slots}
use Rattle.edge_dir.specs.Directory.{slot_of}
use Rattle.edge_dir.proofs.SlotLaws.{before_end}
use Rattle.edge_model.specs.Open.{first_filled}

module _ (slots : Slots) (k : ℕ) where
  at_slot : k < length slots → (slot : Option Entry) → slot_of slots k ≡ slot → first_filled k (drop k slots) ≡ first_filled k (slot ∷ drop (k + 1) slots)
  at_slot low slot is = ap (first_filled k) (drop_more slots k None low) ∙ ap (λ (x : Option Entry). first_filled k (x ∷ drop (k + 1) slots)) is

  pub filled_here : (e : Entry) → slot_of slots k ≡ Some e → first_filled k (drop k slots) ≡ Some (record { slot = k; entry = e })
  filled_here e is = at_slot (before_end slots k (λ none. let f : None ≡ Some e = sym none ∙ is in absurd (cc))) (Some e) is

  pub empty_here : k < length slots → slot_of slots k ≡ None → first_filled k (drop k slots) ≡ first_filled (k + 1) (drop (k + 1) slots)
  empty_here low none = at_slot low None none

  pub none_behind : length slots ≤ k → first_filled k (drop k slots) ≡ None
  none_behind past = ap (first_filled k) (drop_of_length-le slots past)

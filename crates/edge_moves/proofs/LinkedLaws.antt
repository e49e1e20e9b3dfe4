-- Each block of a sound node is at the end of a link.
use Rattle.std.proofs.Common.{◌≡◌, ◌≢◌, ℕ, ◌+◌, ◌-◌, ◌*◌, ◌/◌, ◌%◌, ◌<◌, ◌≤◌, inl, inr, sym, ap, ◌∙◌, subst, arith}
use Rattle.std.proofs.lemmas.Bool.{cases_lt}
use Rattle.std.proofs.lemmas.Nat.{mod_below}
use Rattle.edge_base.specs.declared.form.Form.{Form}
use Rattle.edge_base.specs.declared.form.Form.TheVariants.{Plain, Indirect, Double}
use Rattle.edge_base.specs.declared.geometry.Request.{Request}
use Rattle.edge_base.specs.layout.Places.{entries_of, pointers_of}
use Rattle.edge_base.specs.tree.Positions.{positions_of_form}
use Rattle.edge_store.specs.Damages.{form_of_entry, form_under, IsLinked, by_entry, by_place}
use Rattle.edge_store.specs.Placed.{pointer_at, block_at}
use Rattle.edge_store.specs.View.{View}
use Rattle.edge_store.proofs.DigitLaws.{table_below, indirect_below, some_pointers}
use Rattle.edge_moves.specs.Sound.{numbered, IsSound}
use Rattle.edge_moves.specs.Relinks.{number_of_entry, number_under}
use Rattle.edge_moves.proofs.SlotLaws.{direct_form, direct_number, single_form, single_number, double_form, double_number}
use Rattle.edge_moves.proofs.SelfLaws.{self_relinks}
use Rattle.edge_moves.proofs.RelinkLaws.{div_mod, no_rows}

module _ (g : Request) (v : View) (n : ℕ) (fits : g.direct + g.indirect ≤ entries_of g) (sound : IsSound g v n) where
  abbrev at : Form → ℕ → ℕ
  at form k = block_at g v (numbered n form k)

  linked_entry : (e m : ℕ) (form : Form) → e < entries_of g → form_of_entry g e ≡ form → number_of_entry g e ≡ m → IsLinked g v n form (at form m)
  linked_entry e m form low is number =
      let here : IsLinked g v n (form_of_entry g e) (at (form_of_entry g e) (number_of_entry g e)) = subst (λ (x : ℕ). IsLinked g v n (form_of_entry g e) x) ((self_relinks g v n).entries e low) (by_entry e low) in
      subst (λ (x : ℕ). IsLinked g v n form (at form x)) number (subst (λ (f : Form). IsLinked g v n f (at f (number_of_entry g e))) is here)

  linked_under : (form : Form) (m s b : ℕ) → form ≢ Plain → m < positions_of_form g form → s < pointers_of g → number_under g form m s ≡ b
      → (at form m ≢ 0 → IsLinked g v n form (at form m)) → at (form_under form) b ≢ 0 → IsLinked g v n (form_under form) (at (form_under form) b)
  linked_under form m s b node low place number linked there =
      let leads = (self_relinks g v n).pointers form m s node low place in
      let some : at form m ≢ 0 = λ none. there (sym (ap (at (form_under form)) number) ∙ sym leads ∙ ap (λ (x : ℕ). pointer_at v form x s) none) in
      subst (λ (x : ℕ). IsLinked g v n (form_under form) (at (form_under form) x)) number
      (subst (λ (x : ℕ). IsLinked g v n (form_under form) x) leads (by_place form (at form m) s node (linked some) (sound form m low some) place))

  linked_double : (d : ℕ) → d < positions_of_form g Double → IsLinked g v n Double (at Double d)
  linked_double d h =
      let number : g.direct + g.indirect + d - g.direct - g.indirect ≡ d = omega arith in
      linked_entry (g.direct + g.indirect + d) d Double (omega arith) (double_form g (g.direct + g.indirect + d) (omega arith)) (double_number g (g.direct + g.indirect + d) (omega arith) ∙ number)

  linked_indirect : (j : ℕ) → j < positions_of_form g Indirect → at Indirect j ≢ 0 → IsLinked g v n Indirect (at Indirect j)
  linked_indirect j h there = elim (cases_lt j g.indirect) [
    | inl low ↦
        let number : g.direct + j - g.direct ≡ j = omega arith in
        linked_entry (g.direct + j) j Indirect (omega arith) (single_form g (g.direct + j) (omega arith) (omega arith)) (single_number g (g.direct + j) (omega arith) (omega arith) ∙ number)
    | inr past ↦
        let k = pointers_of g in
        let some = no_rows g.indirect (entries_of g - g.direct - g.indirect) k j h past in
        let low = table_below g.indirect (entries_of g - g.direct - g.indirect) k j h past in
        let whole = div_mod (j - g.indirect) k some in
        let number : g.indirect + ((j - g.indirect) / k * k + (j - g.indirect) % k) ≡ j = omega arith in
        linked_under Double ((j - g.indirect) / k) ((j - g.indirect) % k) j (λ (e : Double ≡ Plain). cc) low (mod_below (j - g.indirect) k some) number (λ top. linked_double ((j - g.indirect) / k) low) there
  ]

  linked_data : (i : ℕ) → i < positions_of_form g Plain → at Plain i ≢ 0 → IsLinked g v n Plain (at Plain i)
  linked_data i h there = elim (cases_lt i g.direct) [
    | inl low ↦ linked_entry i i Plain (omega arith) (direct_form g i low) (direct_number g i low)
    | inr past ↦
        let k = pointers_of g in
        let some = some_pointers g.direct g.indirect (entries_of g - g.direct - g.indirect) k i h past in
        let low = indirect_below g.direct g.indirect (entries_of g - g.direct - g.indirect) k i h past in
        let whole = div_mod (i - g.direct) k some in
        let number : g.direct + ((i - g.direct) / k * k + (i - g.direct) % k) ≡ i = omega arith in
        linked_under Indirect ((i - g.direct) / k) ((i - g.direct) % k) i (λ (e : Indirect ≡ Plain). cc) low (mod_below (i - g.direct) k some) number (linked_indirect ((i - g.direct) / k) low) there
  ]

  pub linked_at : (form : Form) (k : ℕ) → k < positions_of_form g form → at form k ≢ 0 → IsLinked g v n form (at form k)
  linked_at Plain i h there = linked_data i h there
  linked_at Indirect j h there = linked_indirect j h there
  linked_at Double d h there = linked_double d h

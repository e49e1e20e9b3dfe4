-- The blocks of a node are where its pointers lead.
use Rattle.std.proofs.Common.{◌≡◌, ◌≢◌, ℕ, ◌+◌, ◌-◌, ◌*◌, ◌/◌, ◌%◌, ◌<◌, ◌≤◌, ltb, refl, sym, ap, ◌∙◌, arith}
use Rattle.std.proofs.lemmas.Bool.{lt-ltb, le-ltb, cond-true, cond-false}
use Rattle.std.proofs.lemmas.Nat.{div-mul-add, mod-mul-add}
use Rattle.edge_base.specs.declared.form.Form.{Form}
use Rattle.edge_base.specs.declared.form.Form.TheVariants.{Plain, Indirect, Double}
use Rattle.edge_base.specs.declared.geometry.Request.{Request}
use Rattle.edge_base.specs.layout.Places.{pointers_of}
use Rattle.edge_store.specs.Damages.{form_of_entry, form_under}
use Rattle.edge_store.specs.Placed.{entry_at, pointer_at, double_block, indirect_block, data_block, block_at}
use Rattle.edge_store.specs.View.{View}
use Rattle.edge_moves.specs.Sound.{numbered}
use Rattle.edge_moves.specs.Relinks.{number_of_entry, number_under, Relinks}
use Rattle.edge_moves.proofs.SlotLaws.{Kind, is_direct, is_single, is_double, kind_of}

module _ (g : Request) (v : View) (n : ℕ) where
  -- the block of each position
  abbrev at : Form → ℕ → ℕ
  at form m = block_at g v (numbered n form m)

  at_direct : (e : ℕ) → e < g.direct → entry_at v n e ≡ at Plain e
  unfolding data_block
  at_direct e low = sym (cond-true (ltb e g.direct) _ _ (lt-ltb e g.direct low))

  at_single : (e : ℕ) → g.direct ≤ e → e < g.direct + g.indirect → entry_at v n e ≡ at Indirect (e - g.direct)
  unfolding indirect_block
  at_single e from low =
      let same : e ≡ g.direct + (e - g.direct) = omega arith in
      ap (entry_at v n) same ∙ sym (cond-true (ltb (e - g.direct) g.indirect) _ _ (lt-ltb (e - g.direct) g.indirect (omega arith)))

  at_double : (e : ℕ) → g.direct + g.indirect ≤ e → entry_at v n e ≡ at Double (e - g.direct - g.indirect)
  unfolding double_block
  at_double e from =
      let same : e ≡ g.direct + g.indirect + (e - g.direct - g.indirect) = omega arith in
      ap (entry_at v n) same

  at_entry : (e : ℕ) → entry_at v n e ≡ at (form_of_entry g e) (number_of_entry g e)
  at_entry e = by (kind_of g e)
    where
      by : Kind g e → entry_at v n e ≡ at (form_of_entry g e) (number_of_entry g e)
      by (is_direct low form number) = at_direct e low ∙ sym (λ i. at (form i) (number i))
      by (is_single from low form number) = at_single e from low ∙ sym (λ i. at (form i) (number i))
      by (is_double from form number) = at_double e from ∙ sym (λ i. at (form i) (number i))

  at_indirect : (j s : ℕ) → s < pointers_of g → pointer_at v Indirect (at Indirect j) s ≡ at Plain (g.direct + (j * pointers_of g + s))
  unfolding data_block
  at_indirect j s place =
      let k = pointers_of g in
      let rest : g.direct + (j * k + s) - g.direct ≡ j * k + s = omega arith in
      let row : (g.direct + (j * k + s) - g.direct) / k ≡ j = ap (λ (m : ℕ). m / k) rest ∙ div-mul-add j k s place in
      let column : (g.direct + (j * k + s) - g.direct) % k ≡ s = ap (λ (m : ℕ). m % k) rest ∙ mod-mul-add j k s place in
      sym (cond-false (ltb (g.direct + (j * k + s)) g.direct) _ _ (le-ltb (g.direct + (j * k + s)) g.direct (omega arith)) ∙ (λ t. pointer_at v Indirect (indirect_block g v n (row t)) (column t)))

  at_outer : (d s : ℕ) → s < pointers_of g → pointer_at v Double (at Double d) s ≡ at Indirect (g.indirect + (d * pointers_of g + s))
  unfolding indirect_block
  at_outer d s place =
      let k = pointers_of g in
      let rest : g.indirect + (d * k + s) - g.indirect ≡ d * k + s = omega arith in
      let row : (g.indirect + (d * k + s) - g.indirect) / k ≡ d = ap (λ (m : ℕ). m / k) rest ∙ div-mul-add d k s place in
      let column : (g.indirect + (d * k + s) - g.indirect) % k ≡ s = ap (λ (m : ℕ). m % k) rest ∙ mod-mul-add d k s place in
      sym (cond-false (ltb (g.indirect + (d * k + s)) g.indirect) _ _ (le-ltb (g.indirect + (d * k + s)) g.indirect (omega arith)) ∙ (λ t. pointer_at v Double (double_block g v n (row t)) (column t)))

  at_under : (form : Form) (m s : ℕ) → form ≢ Plain → s < pointers_of g → pointer_at v form (at form m) s ≡ at (form_under form) (number_under g form m s)
  at_under Plain m s node place = absurd (node refl)
  at_under Indirect m s node place = at_indirect m s place
  at_under Double m s node place = at_outer m s place

  pub self_relinks : Relinks g v n (λ form m. block_at g v (numbered n form m))
  self_relinks = record {
    entries = λ e low. at_entry e;
    pointers = λ form m s node low place. at_under form m s node place;
  }

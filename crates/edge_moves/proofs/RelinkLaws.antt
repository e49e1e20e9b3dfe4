-- Where the pointers of a node lead, there its blocks are.
use Rattle.std.proofs.Common.{◌≡◌, ℕ, ◌+◌, ◌-◌, ◌*◌, ◌/◌, ◌%◌, ◌<◌, ◌≤◌, ltb, inl, inr, ap, ◌∙◌, subst, arith}
use Rattle.std.proofs.lemmas.Bool.{cases_lt, lt-ltb, le-ltb, cond-true, cond-false}
use Rattle.std.proofs.lemmas.Nat.{mod_below}
use Rattle.edge_base.specs.declared.form.Form.{Form}
use Rattle.edge_base.specs.declared.form.Form.TheVariants.{Plain, Indirect, Double}
use Rattle.edge_base.specs.declared.geometry.Request.{Request}
use Rattle.edge_base.specs.layout.Places.{entries_of, pointers_of}
use Rattle.edge_base.specs.tree.Positions.{positions_of_form}
use Rattle.edge_store.specs.Damages.{form_of_entry}
use Rattle.edge_store.specs.Placed.{entry_at, pointer_at, double_block, indirect_block, data_block, block_at}
use Rattle.edge_store.specs.View.{View}
use Rattle.edge_store.proofs.DigitLaws.{table_below, indirect_below, some_pointers}
use Rattle.edge_moves.specs.Sound.{numbered}
use Rattle.edge_moves.specs.Relinks.{number_of_entry, Relinks}
use Rattle.edge_moves.proofs.SlotLaws.{direct_form, direct_number, single_form, single_number, double_form, double_number}

pub div_mod : (m x : ℕ) → 0 < x → m / x * x + m % x ≡ m
div_mod m x h = omega arith

pub no_rows : (b c k j : ℕ) → j < b + c * k → b ≤ j → 0 < k
no_rows b c k j h from = elim (cases_lt 0 k) [
  | inl some ↦ some
  | inr none ↦
      let zero_k : k ≡ 0 = omega arith in
      let below : j < b + c * 0 = subst (λ (m : ℕ). j < b + c * m) zero_k h in
      absurd (omega arith)
]

module _ (g : Request) (w : View) (n : ℕ) (to : Form → ℕ → ℕ) (fits : g.direct + g.indirect ≤ entries_of g) (links : Relinks g w n to) where
  -- an entry that leads to a number of a form
  by_entry : (e m : ℕ) (form : Form) → e < entries_of g → form_of_entry g e ≡ form → number_of_entry g e ≡ m → entry_at w n e ≡ to form m
  by_entry e m form low is number = links.entries e low ∙ (λ i. to (is i) (number i))

  double_is : (d : ℕ) → d < positions_of_form g Double → double_block g w n d ≡ to Double d
  unfolding double_block
  double_is d h =
      let number : g.direct + g.indirect + d - g.direct - g.indirect ≡ d = omega arith in
      by_entry (g.direct + g.indirect + d) d Double (omega arith) (double_form g (g.direct + g.indirect + d) (omega arith)) (double_number g (g.direct + g.indirect + d) (omega arith) ∙ number)

  indirect_is : (j : ℕ) → j < positions_of_form g Indirect → indirect_block g w n j ≡ to Indirect j
  unfolding indirect_block
  indirect_is j h = elim (cases_lt j g.indirect) [
    | inl low ↦
        let number : g.direct + j - g.direct ≡ j = omega arith in
        cond-true (ltb j g.indirect) _ _ (lt-ltb j g.indirect low)
        ∙ by_entry (g.direct + j) j Indirect (omega arith) (single_form g (g.direct + j) (omega arith) (omega arith)) (single_number g (g.direct + j) (omega arith) (omega arith) ∙ number)
    | inr past ↦
        let k = pointers_of g in
        let some = no_rows g.indirect (entries_of g - g.direct - g.indirect) k j h past in
        let d : ℕ = (j - g.indirect) / k in
        let s : ℕ = (j - g.indirect) % k in
        let low = table_below g.indirect (entries_of g - g.direct - g.indirect) k j h past in
        let whole = div_mod (j - g.indirect) k some in
        let number : g.indirect + (d * k + s) ≡ j = omega arith in
        cond-false (ltb j g.indirect) _ _ (le-ltb j g.indirect past)
        ∙ ap (λ (b : ℕ). pointer_at w Double b s) (double_is d low)
        ∙ links.pointers Double d s (λ (e : Double ≡ Plain). cc) low (mod_below (j - g.indirect) k some)
        ∙ ap (to Indirect) number
  ]

  data_is : (i : ℕ) → i < positions_of_form g Plain → data_block g w n i ≡ to Plain i
  unfolding data_block
  data_is i h = elim (cases_lt i g.direct) [
    | inl low ↦
        cond-true (ltb i g.direct) _ _ (lt-ltb i g.direct low)
        ∙ by_entry i i Plain (omega arith) (direct_form g i low) (direct_number g i low)
    | inr past ↦
        let k = pointers_of g in
        let some = some_pointers g.direct g.indirect (entries_of g - g.direct - g.indirect) k i h past in
        let j : ℕ = (i - g.direct) / k in
        let s : ℕ = (i - g.direct) % k in
        let low = indirect_below g.direct g.indirect (entries_of g - g.direct - g.indirect) k i h past in
        let whole = div_mod (i - g.direct) k some in
        let number : g.direct + (j * k + s) ≡ i = omega arith in
        cond-false (ltb i g.direct) _ _ (le-ltb i g.direct past)
        ∙ ap (λ (b : ℕ). pointer_at w Indirect b s) (indirect_is j low)
        ∙ links.pointers Indirect j s (λ (e : Indirect ≡ Plain). cc) low (mod_below (i - g.direct) k some)
        ∙ ap (to Plain) number
  ]

  pub blocks_are : (form : Form) (m : ℕ) → m < positions_of_form g form → block_at g w (numbered n form m) ≡ to form m
  blocks_are Plain i h = data_is i h
  blocks_are Indirect j h = indirect_is j h
  blocks_are Double d h = double_is d h

-- Where a link leads: to a position of the node. In a node of a proper shape each link leads to a block of its form and owner.
use Rattle.std.proofs.Common.{◌≡◌, ◌≢◌, ℕ, ◌+◌, ◌-◌, ◌*◌, ◌/◌, ◌%◌, ◌<◌, ◌≤◌, Bool, inl, inr, cond, eqb, ltb, true, false, List, None, refl, sym, ap, ◌∙◌, subst, arith}
use Rattle.std.specs.Prelude.{slice_index, ◌||◌}
use Rattle.std.proofs.lemmas.Bool.{eqb-false, lt-ltb, le-ltb, cond-true, cond-false, cases_lt}
use Rattle.std.proofs.lemmas.Nat.{div-mul-add, mod-mul-add}
use Rattle.std.proofs.Math.Nat.{mul-le-mul_right}
use Rattle.edge_base.specs.declared.form.Form.{Form}
use Rattle.edge_base.specs.declared.form.Form.TheVariants.{Plain, Indirect, Double}
use Rattle.edge_base.specs.declared.geometry.Request.{Request}
use Rattle.edge_base.specs.layout.Places.{entries_of, pointers_of}
use Rattle.edge_base.specs.tree.Positions.{Position, has, positions_of, positions_of_form}
use Rattle.edge_store.specs.View.{View, IsView, is_spot, is_link, is_allocable, entries_of_inode}
use Rattle.edge_store.specs.Placed.{entry_at, pointer_at, double_block, indirect_block, data_block, block_at, HasPlaces}
use Rattle.edge_store.specs.Damages.{damage_at, form_of_entry, form_under, IsLinked, by_entry, by_place}
use Rattle.edge_store.proofs.ViewLaws.{used_of, no_damage_of}

test_below : {A : Type 0} (a b : ℕ) (x y : A) → a < b → cond (ltb a b) x y ≡ x
test_below a b x y h = cond-true (ltb a b) x y (lt-ltb a b h)

test_from : {A : Type 0} (a b : ℕ) (x y : A) → b ≤ a → cond (ltb a b) x y ≡ y
test_from a b x y h = cond-false (ltb a b) x y (le-ltb a b h)

-- place i of row j, of r rows of k
within : (r k j i : ℕ) → j < r → i < k → j * k + i < r * k
within r k j i row place =
    let next : (j + 1) * k ≤ r * k = mul-le-mul_right k (omega arith) in
    let split : (j + 1) * k ≡ j * k + k = grind arith in
    omega arith

module _ (g : Request) (v : View) (n : ℕ) where
  abbrev k : ℕ
  k = pointers_of g

  abbrev at : Form → ℕ → Position
  at form i = record { number = n; form = form; index = i }

  -- a position of a form, and the block there
  abbrev Lies : Form → ℕ → Type 0
  Lies form b = (i : ℕ) × (i < positions_of_form g form) × (block_at g v (at form i) ≡ b)

  direct_entry : (e : ℕ) → e < g.direct → Lies Plain (entry_at v n e)
  unfolding data_block
  direct_entry e h = (e, omega arith, test_below e g.direct _ _ h)

  single_entry : (e : ℕ) → g.direct ≤ e → e < g.direct + g.indirect → Lies Indirect (entry_at v n e)
  unfolding indirect_block
  single_entry e from h =
      let same : g.direct + (e - g.direct) ≡ e = omega arith in
      (e - g.direct, omega arith, test_below (e - g.direct) g.indirect _ _ (omega arith) ∙ ap (slice_index (entries_of_inode (v.inodes n))) same)

  double_entry : (e : ℕ) → g.direct + g.indirect ≤ e → e < entries_of g → Lies Double (entry_at v n e)
  unfolding double_block
  double_entry e from h =
      let same : g.direct + g.indirect + (e - g.direct - g.indirect) ≡ e = omega arith in
      (e - g.direct - g.indirect, omega arith, ap (slice_index (entries_of_inode (v.inodes n))) same)

  of_entry : (e : ℕ) → e < entries_of g → Lies (form_of_entry g e) (entry_at v n e)
  of_entry e h = elim (cases_lt e g.direct) [
    | inl low ↦ subst (λ f. Lies f (entry_at v n e)) (sym (test_below e g.direct _ _ low)) (direct_entry e low)
    | inr from ↦ elim (cases_lt e (g.direct + g.indirect)) [
      | inl low ↦ subst (λ f. Lies f (entry_at v n e)) (sym (test_from e g.direct _ _ from ∙ test_below e (g.direct + g.indirect) _ _ low)) (single_entry e from low)
      | inr past ↦ subst (λ f. Lies f (entry_at v n e)) (sym (test_from e g.direct _ _ from ∙ test_from e (g.direct + g.indirect) _ _ past)) (double_entry e past h)
    ]
  ]

  under_indirect : (j i : ℕ) → j < positions_of_form g Indirect → i < k → Lies Plain (pointer_at v Indirect (indirect_block g v n j) i)
  unfolding data_block
  under_indirect j i h place =
      let rest : g.direct + (j * k + i) - g.direct ≡ j * k + i = omega arith in
      let row : (g.direct + (j * k + i) - g.direct) / k ≡ j = ap (λ (m : ℕ). m / k) rest ∙ div-mul-add j k i place in
      let column : (g.direct + (j * k + i) - g.direct) % k ≡ i = ap (λ (m : ℕ). m % k) rest ∙ mod-mul-add j k i place in
      let fits = within (positions_of_form g Indirect) k j i h place in
      let rows : (g.indirect + (entries_of g - g.direct - g.indirect) * k) * k ≡ g.indirect * k + (entries_of g - g.direct - g.indirect) * (k * k) = grind arith in (
        g.direct + (j * k + i),
        omega arith,
        test_from (g.direct + (j * k + i)) g.direct _ _ (omega arith) ∙ (λ t. pointer_at v Indirect (indirect_block g v n (row t)) (column t)),
      )

  under_double : (d i : ℕ) → d < positions_of_form g Double → i < k → Lies Indirect (pointer_at v Double (double_block g v n d) i)
  unfolding indirect_block
  under_double d i h place =
      let rest : g.indirect + (d * k + i) - g.indirect ≡ d * k + i = omega arith in
      let row : (g.indirect + (d * k + i) - g.indirect) / k ≡ d = ap (λ (m : ℕ). m / k) rest ∙ div-mul-add d k i place in
      let column : (g.indirect + (d * k + i) - g.indirect) % k ≡ i = ap (λ (m : ℕ). m % k) rest ∙ mod-mul-add d k i place in
      let fits = within (positions_of_form g Double) k d i h place in (
        g.indirect + (d * k + i),
        omega arith,
        test_from (g.indirect + (d * k + i)) g.indirect _ _ (omega arith) ∙ (λ t. pointer_at v Double (double_block g v n (row t)) (column t)),
      )

  under : (form : Form) (b i : ℕ) → form ≢ Plain → Lies form b → i < k → Lies (form_under form) (pointer_at v form b i)
  under Plain b i node lies place = absurd (node refl)
  under Indirect b i node lies place = subst (λ (x : ℕ). Lies Plain (pointer_at v Indirect x i)) lies.2 (under_indirect lies.0 i lies.1 place)
  under Double b i node lies place = subst (λ (x : ℕ). Lies Indirect (pointer_at v Double x i)) lies.2 (under_double lies.0 i lies.1 place)

  -- a link leads to the block at a position
  pub lies_at : (form : Form) (b : ℕ) → IsLinked g v n form b → Lies form b
  lies_at form b (by_entry e h) = of_entry e h
  lies_at form b (by_place above x i node linked spot place) = under above x i node (lies_at above x linked) place

  -- in a node of a proper shape to one of its form and owner
  pub linked_is_spot : (indices : List ℕ) → HasPlaces g v n indices → (form : Form) (b : ℕ) → IsLinked g v n form b → b ≢ 0 → is_spot v form n b ≡ true
  linked_is_spot indices places form b linked some =
      let l = lies_at form b linked in
      let there : has (positions_of g n indices) (at form l.0) ≡ true = (places.places (at form l.0) (λ t. n) l.1).0 (λ none. some (sym l.2 ∙ none)) in
      subst (λ (x : ℕ). is_spot v form n x ≡ true) l.2 (places.spots (at form l.0) there)

  -- so a block of it is misread nowhere
  pub misread_nowhere : (indices : List ℕ) → HasPlaces g v n indices → IsView g v → (form : Form) (b : ℕ) → IsLinked g v n form b → b ≢ 0 → damage_at v form n b ≡ None
  misread_nowhere indices places view form b linked some = no_damage_of v form n b (linked_is_spot indices places form b linked some)

  -- and each link is absent or leads to an allocable block
  pub link_is_good : (indices : List ℕ) → HasPlaces g v n indices → IsView g v → (form : Form) (b : ℕ) → IsLinked g v n form b → is_link g b ≡ true
  link_is_good indices places view form b linked = by (eqb b 0) refl
    where
      by : (none : Bool) → eqb b 0 ≡ none → (none || is_allocable g b) ≡ true
      by true e = refl
      by false e = view.allocable b (used_of form (v.blocks b) n (linked_is_spot indices places form b linked (eqb-false b 0 e)))

-- Each position of a node is that of an entry, or of a place of one of its pointer nodes, and of one only.
use Rattle.std.proofs.Common.{◌≡◌, ◌≢◌, ℕ, ◌+◌, ◌-◌, ◌*◌, ◌/◌, ◌%◌, ◌<◌, ◌≤◌, ◌==◌, ◌||◌, not, Bool, true, false, cond, ltb, inl, inr, Option, None, Some, refl, sym, ap, ◌∙◌, arith}
use Rattle.std.proofs.lemmas.Bool.{cases_lt, lt-ltb, le-ltb, ltb-false, or_parts, cond-true, cond-false}
use Rattle.std.proofs.lemmas.Bool.Decides.{nat_tests}
use Rattle.std.proofs.lemmas.Nat.{div-mul-add, mod-mul-add}
use Rattle.std.proofs.Math.Nat.{mul-le-mul_right}
use Rattle.edge_base.specs.declared.form.Form.{Form}
use Rattle.edge_base.specs.declared.form.Form.TheVariants.{Plain, Indirect, Double}
use Rattle.edge_base.specs.declared.geometry.Request.{Request}
use Rattle.edge_base.specs.declared.geometry.BadGeometry.{BadGeometry}
use Rattle.edge_base.specs.declared.geometry.BadGeometry.TheVariants.{BlockSize, Blocks, Inodes, NameMax, Pointers, Room}
use Rattle.edge_base.specs.layout.Places.{IsGeometry, bad_geometry, entries_of, pointers_of, allocable_of}
use Rattle.edge_base.specs.layout.Sizes.{is_block_size}
use Rattle.edge_base.specs.tree.Positions.{positions_of_form}
use Rattle.edge_store.specs.Damages.{form_of_entry, form_under}
use Rattle.edge_moves.specs.Relinks.{number_of_entry, number_under}

-- ---- the limits that are needed

fifth : (a b c d e f : Bool) → cond a (Some BlockSize) (cond b (Some Blocks) (cond c (Some Inodes) (cond d (Some NameMax) (cond e (Some Pointers) (cond f (Some Room) None))))) ≡ None → e ≡ false
fifth true b c d e f h = absurd (cc)
fifth false true c d e f h = absurd (cc)
fifth false false true d e f h = absurd (cc)
fifth false false false true e f h = absurd (cc)
fifth false false false false true f h = absurd (cc)
fifth false false false false false f h = refl

-- the entries for data blocks and for indirect nodes are entries of an inode
pub entries_fit : (g : Request) → IsGeometry g → g.direct + g.indirect ≤ entries_of g
unfolding bad_geometry
entries_fit g h =
    let e : ((g.direct == 0) || ltb (entries_of g) (g.direct + g.indirect)) ≡ false =
    fifth (not (is_block_size g.block_size)) (ltb 4194304 g.blocks) ((g.inodes == 0) || ltb 65536 g.inodes) (ltb g.name_max 12 || ltb 252 g.name_max || not (g.name_max % 4 == 0))
    ((g.direct == 0) || ltb (entries_of g) (g.direct + g.indirect)) (ltb (allocable_of g) 3) h in
    ltb-false (entries_of g) (g.direct + g.indirect) (or_parts (g.direct == 0) (ltb (entries_of g) (g.direct + g.indirect)) e).1

first : (a : Bool) (y : Option BadGeometry) → cond a (Some BlockSize) y ≡ None → a ≡ false
first true y h = absurd (cc)
first false y h = refl

-- a pointer node has pointers
pub some_pointers_fit : (g : Request) → IsGeometry g → 0 < pointers_of g
unfolding bad_geometry
some_pointers_fit g h = by (is_block_size g.block_size) refl (first (not (is_block_size g.block_size)) _ h)
  where
    sized : (n : ℕ) → is_block_size n ≡ true → 0 < (n - 20) / 4
    sized n e = large (n - 20) (enough n e)
      where
        enough : (n : ℕ) → is_block_size n ≡ true → 4 ≤ n - 20
        enough n e = grind (arith, nat_tests)

        large : (m : ℕ) → 4 ≤ m → 0 < m / 4
        large m h = omega arith

    by : (t : Bool) → is_block_size g.block_size ≡ t → not t ≡ false → 0 < pointers_of g
    by true e h = sized g.block_size e
    by false e h = absurd (let f : true ≡ false = h in cc)

-- ---- tests of an entry

below : {A : Type 0} (a b : ℕ) (x y : A) → a < b → cond (ltb a b) x y ≡ x
below a b x y h = cond-true (ltb a b) x y (lt-ltb a b h)

from_on : {A : Type 0} (a b : ℕ) (x y : A) → b ≤ a → cond (ltb a b) x y ≡ y
from_on a b x y h = cond-false (ltb a b) x y (le-ltb a b h)

module _ (g : Request) where
  pub direct_form : (e : ℕ) → e < g.direct → form_of_entry g e ≡ Plain
  direct_form e h = below e g.direct _ _ h

  pub direct_number : (e : ℕ) → e < g.direct → number_of_entry g e ≡ e
  direct_number e h = below e g.direct _ _ h

  pub single_form : (e : ℕ) → g.direct ≤ e → e < g.direct + g.indirect → form_of_entry g e ≡ Indirect
  single_form e from h = from_on e g.direct _ _ from ∙ below e (g.direct + g.indirect) _ _ h

  pub single_number : (e : ℕ) → g.direct ≤ e → e < g.direct + g.indirect → number_of_entry g e ≡ e - g.direct
  single_number e from h = from_on e g.direct _ _ from ∙ below e (g.direct + g.indirect) _ _ h

  pub double_form : (e : ℕ) → g.direct + g.indirect ≤ e → form_of_entry g e ≡ Double
  double_form e h = from_on e g.direct _ _ (omega arith) ∙ from_on e (g.direct + g.indirect) _ _ h

  pub double_number : (e : ℕ) → g.direct + g.indirect ≤ e → number_of_entry g e ≡ e - g.direct - g.indirect
  double_number e h = from_on e g.direct _ _ (omega arith) ∙ from_on e (g.direct + g.indirect) _ _ h

  -- which kind of an entry it is, with its form and its number
  pub data Kind (e : ℕ) : Type 0 where
    is_direct : e < g.direct → form_of_entry g e ≡ Plain → number_of_entry g e ≡ e → Kind e
    is_single : g.direct ≤ e → e < g.direct + g.indirect → form_of_entry g e ≡ Indirect → number_of_entry g e ≡ e - g.direct → Kind e
    is_double : g.direct + g.indirect ≤ e → form_of_entry g e ≡ Double → number_of_entry g e ≡ e - g.direct - g.indirect → Kind e

  pub kind_of : (e : ℕ) → Kind e
  kind_of e = elim (cases_lt e g.direct) [
    | inl low ↦ is_direct low (direct_form e low) (direct_number e low)
    | inr from ↦ elim (cases_lt e (g.direct + g.indirect)) [
      | inl low ↦ is_single from low (single_form e from low) (single_number e from low)
      | inr high ↦ is_double high (double_form e high) (double_number e high)
    ]
  ]

  -- ---- one position, one entry or one place

  pub same_entry : (e f : ℕ) → form_of_entry g e ≡ form_of_entry g f → number_of_entry g e ≡ number_of_entry g f → e ≡ f
  same_entry e f form number = by (kind_of e) (kind_of f)
    where
      by : Kind e → Kind f → e ≡ f
      by (is_direct low form_e number_e) (is_direct low_f form_f number_f) = sym number_e ∙ number ∙ number_f
      by (is_direct low form_e number_e) (is_single from high form_f number_f) = absurd (let h : Plain ≡ Indirect = sym form_e ∙ form ∙ form_f in cc)
      by (is_direct low form_e number_e) (is_double from form_f number_f) = absurd (let h : Plain ≡ Double = sym form_e ∙ form ∙ form_f in cc)
      by (is_single from high form_e number_e) (is_direct low form_f number_f) = absurd (let h : Indirect ≡ Plain = sym form_e ∙ form ∙ form_f in cc)
      by (is_single from high form_e number_e) (is_single from_f high_f form_f number_f) = let h : e - g.direct ≡ f - g.direct = sym number_e ∙ number ∙ number_f in omega arith
      by (is_single from high form_e number_e) (is_double from_f form_f number_f) = absurd (let h : Indirect ≡ Double = sym form_e ∙ form ∙ form_f in cc)
      by (is_double from form_e number_e) (is_direct low form_f number_f) = absurd (let h : Double ≡ Plain = sym form_e ∙ form ∙ form_f in cc)
      by (is_double from form_e number_e) (is_single from_f high form_f number_f) = absurd (let h : Double ≡ Indirect = sym form_e ∙ form ∙ form_f in cc)
      by (is_double from form_e number_e) (is_double from_f form_f number_f) = let h : e - g.direct - g.indirect ≡ f - g.direct - g.indirect = sym number_e ∙ number ∙ number_f in omega arith

  pub entry_not_under : (e : ℕ) (form : Form) (m s : ℕ) → form ≢ Plain → form_of_entry g e ≡ form_under form → number_of_entry g e ≡ number_under g form m s → ⊥
  entry_not_under e Plain m s node same number = node refl
  entry_not_under e Indirect m s node same number = by (kind_of e)
    where
      by : Kind e → ⊥
      by (is_direct low form_e number_e) = let h : e ≡ g.direct + (m * pointers_of g + s) = sym number_e ∙ number in absurd (omega arith)
      by (is_single from high form_e number_e) = absurd (let h : Indirect ≡ Plain = sym form_e ∙ same in cc)
      by (is_double from form_e number_e) = absurd (let h : Double ≡ Plain = sym form_e ∙ same in cc)
  entry_not_under e Double m s node same number = by (kind_of e)
    where
      by : Kind e → ⊥
      by (is_direct low form_e number_e) = absurd (let h : Plain ≡ Indirect = sym form_e ∙ same in cc)
      by (is_single from high form_e number_e) = let h : e - g.direct ≡ g.indirect + (m * pointers_of g + s) = sym number_e ∙ number in absurd (omega arith)
      by (is_double from form_e number_e) = absurd (let h : Double ≡ Indirect = sym form_e ∙ same in cc)

  same_row : (m s o t : ℕ) → s < pointers_of g → t < pointers_of g → m * pointers_of g + s ≡ o * pointers_of g + t → (m ≡ o) × (s ≡ t)
  same_row m s o t low_s low_t e = (
    sym (div-mul-add m (pointers_of g) s low_s) ∙ ap (λ (x : ℕ). x / pointers_of g) e ∙ div-mul-add o (pointers_of g) t low_t,
    sym (mod-mul-add m (pointers_of g) s low_s) ∙ ap (λ (x : ℕ). x % pointers_of g) e ∙ mod-mul-add o (pointers_of g) t low_t,
  )

  same_under_one : (a m s o t : ℕ) → s < pointers_of g → t < pointers_of g → a + (m * pointers_of g + s) ≡ a + (o * pointers_of g + t) → (m ≡ o) × (s ≡ t)
  same_under_one a m s o t low_s low_t e = same_row m s o t low_s low_t (omega arith)

  pub same_under : (form other : Form) (m s o t : ℕ) → form ≢ Plain → other ≢ Plain → s < pointers_of g → t < pointers_of g → form_under form ≡ form_under other
      → number_under g form m s ≡ number_under g other o t → (form ≡ other) × (m ≡ o) × (s ≡ t)
  same_under Plain other m s o t node node_o low_s low_t same number = absurd (node refl)
  same_under Indirect Plain m s o t node node_o low_s low_t same number = absurd (node_o refl)
  same_under Double Plain m s o t node node_o low_s low_t same number = absurd (node_o refl)
  same_under Indirect Double m s o t node node_o low_s low_t same number = absurd (let h : Plain ≡ Indirect = same in cc)
  same_under Double Indirect m s o t node node_o low_s low_t same number = absurd (let h : Indirect ≡ Plain = same in cc)
  same_under Indirect Indirect m s o t node node_o low_s low_t same number = let r = same_under_one g.direct m s o t low_s low_t number in (refl, r.0, r.1)
  same_under Double Double m s o t node node_o low_s low_t same number = let r = same_under_one g.indirect m s o t low_s low_t number in (refl, r.0, r.1)

  -- ---- numbers in range

  pub entry_in_range : (e : ℕ) → e < entries_of g → number_of_entry g e < positions_of_form g (form_of_entry g e)
  entry_in_range e low = by (kind_of e)
    where
      bounded : (form : Form) (k : ℕ) → form_of_entry g e ≡ form → number_of_entry g e ≡ k → k < positions_of_form g form → number_of_entry g e < positions_of_form g (form_of_entry g e)
      bounded form k is number h = rw (is, number) h

      by : Kind e → number_of_entry g e < positions_of_form g (form_of_entry g e)
      by (is_direct h form number) = bounded Plain e form number (omega arith)
      by (is_single from h form number) = bounded Indirect (e - g.direct) form number (omega arith)
      by (is_double from form number) = bounded Double (e - g.direct - g.indirect) form number (omega arith)

  -- place s of row j, of r rows of k
  within : (r k j s : ℕ) → j < r → s < k → j * k + s < r * k
  within r k j s row place =
      let next : (j + 1) * k ≤ r * k = mul-le-mul_right k (omega arith) in
      let split : (j + 1) * k ≡ j * k + k = grind arith in
      omega arith

  pub under_in_range : (form : Form) (m s : ℕ) → form ≢ Plain → m < positions_of_form g form → s < pointers_of g → number_under g form m s < positions_of_form g (form_under form)
  under_in_range Plain m s node low place = absurd (node refl)
  under_in_range Double m s node low place = let h = within (positions_of_form g Double) (pointers_of g) m s low place in omega arith
  under_in_range Indirect m s node low place =
      let h = within (positions_of_form g Indirect) (pointers_of g) m s low place in
      let rows : (g.indirect + (entries_of g - g.direct - g.indirect) * pointers_of g) * pointers_of g ≡ g.indirect * pointers_of g + (entries_of g - g.direct - g.indirect) * (pointers_of g * pointers_of g) = grind arith in
      omega arith

-- A node keeps its shape where the places of one of its indirect nodes are cut.
use Rattle.std.proofs.Common.{◌≡◌, ◌≢◌, ℕ, ◌+◌, ◌*◌, ◌<◌, ◌≤◌, ◌==◌, ◌&&◌, ◌||◌, Bool, true, false, cond, ltb, leb, List, refl, sym, ap, ◌∙◌, subst, arith, inl, inr}
use Rattle.std.specs.Prelude.{slice_index}
use Rattle.std.proofs.lemmas.Bool.{cases_eq, eqb-true, eq-eqb}
use Rattle.std.proofs.lemmas.Bool.Decides.{nat_tests}
use Rattle.edge_base.specs.declared.form.Form.{Form}
use Rattle.edge_base.specs.declared.form.Form.TheVariants.{Plain, Indirect, Double}
use Rattle.edge_base.specs.declared.geometry.Request.{Request}
use Rattle.edge_base.specs.layout.Places.{pointers_of}
use Rattle.edge_base.specs.tree.Positions.{Position}
use Rattle.edge_store.specs.View.{View, is_spot, is_whole, is_owned_by, entries_in, entries_of_inode, IsView}
use Rattle.edge_store.specs.Placed.{double_block, indirect_block, data_block, block_at}
use Rattle.edge_moves.specs.Relinks.{number_under}
use Rattle.edge_moves.specs.Sound.{numbered}
use Rattle.edge_shape.specs.Shape.{HasShape, entries_at}
use Rattle.edge_shape.specs.Cutting.{CutPlaces}
use Rattle.edge_shape.specs.Gone.{Pointers, gone_indirect, gone_data, left, Unlinks, Leaves, KeepsSpots, indirect_places}
use Rattle.edge_shape.proofs.ListLaws.{is_false, true_false, apart_false}
use Rattle.edge_shape.proofs.SpotLaws.{content-same}
use Rattle.edge_shape.proofs.ShapeLaws.{spot_at, one_place, data_pointer, some_below, some_node_below}
use Rattle.edge_shape.proofs.LeaveLaws.{shape_left, gone_data-down}

pub form_of : (n m l : ℕ) (form other : Form) → numbered n form m ≡ numbered n other l → form ≡ other
form_of n m l form other e = ap (λ (r : Position). r.form) e

pub index_of : (n m l : ℕ) (form other : Form) → numbered n form m ≡ numbered n other l → m ≡ l
index_of n m l form other e = ap (λ (r : Position). r.index) e

-- ---- an indirect node

module _ (g : Request) (v w : View) (n : ℕ) (indices : List ℕ) (shape : HasShape g v n indices) (j from : ℕ) (there : indirect_block g v n j ≢ 0)
    (cut : CutPlaces v w Indirect n (indirect_block g v n j) from (pointers_of g))
    (kept : (p : ℕ) × (p < from) × (p < pointers_of g) × (slice_index (entries_at v Indirect (indirect_block g v n j)) p ≢ 0)) (view : IsView g w) where
  abbrev k : ℕ
  k = pointers_of g

  abbrev b : ℕ
  b = indirect_block g v n j

  abbrev taken : Pointers
  taken = indirect_places j from k

  no_indirect : (l : ℕ) → gone_indirect g taken l ≡ false
  no_indirect l = by (ltb l g.indirect)
    where
      by : (t : Bool) → cond t false (false || false) ≡ false
      by true = refl
      by false = refl

  -- other blocks of the node are as they were
  untouched : (form : Form) (m : ℕ) → block_at g v (numbered n form m) ≢ 0 → block_at g v (numbered n form m) ≢ b
      → ((p : ℕ) → from ≤ p → p < k → numbered n form m ≡ numbered n Plain (number_under g Indirect j p) → ⊥) → w.blocks (block_at g v (numbered n form m)) ≡ v.blocks (block_at g v (numbered n form m))
  untouched form m some apart other = cut.kept (block_at g v (numbered n form m)) apart
      (λ p low high there_p. is_false (block_at g v (numbered n form m) == slice_index (entries_at v Indirect b) p)
      (λ is. other p low high (one_place g v n indices shape form Plain m (number_under g Indirect j p) some (eqb-true _ _ is ∙ data_pointer g v n indices shape j there p high))))

  apart_form : (form other : Form) (m l : ℕ) → form ≢ other → block_at g v (numbered n form m) ≢ 0 → block_at g v (numbered n form m) ≢ block_at g v (numbered n other l)
  apart_form form other m l far some same = far (form_of n m l form other (one_place g v n indices shape form other m l some same))

  pub indirect_unlinks : Unlinks g v w n taken
  indirect_unlinks = record {
    entries = λ e. ap (λ (inodes : ℕ → _). slice_index (entries_of_inode (inodes n)) e) cut.inodes;
    outer = λ d s lost some. ap (λ c. slice_index (entries_in c) s)
        (content-same v w Double (double_block g v n d) (untouched Double d some (apart_form Double Indirect d j (λ (e : Double ≡ Indirect). cc) some)
        (λ p low high e. double_plain (form_of n d (number_under g Indirect j p) Double Plain e))));
    inner = λ l p lost some. elim (cases_eq l j) [
      | inl is ↦ subst (λ (x : ℕ). slice_index (entries_at w Indirect (indirect_block g v n x)) p ≡ cond ((x == j) && (leb from p && ltb p k)) 0 (slice_index (entries_at v Indirect (indirect_block g v n x)) p)) (sym is)
          (cut.pointer p ∙ ap (λ t. cond (t && (leb from p && ltb p k)) 0 (slice_index (entries_at v Indirect b) p)) (sym (eq-eqb j j refl)))
      | inr away ↦
          ap (λ c. slice_index (entries_in c) p)
          (content-same v w Indirect (indirect_block g v n l) (untouched Indirect l some (λ same. away (index_of n l j Indirect Indirect (one_place g v n indices shape Indirect Indirect l j some same)))
          (λ q low high e. indirect_plain (form_of n l (number_under g Indirect j q) Indirect Plain e))))
          ∙ ap (λ t. cond (t && (leb from p && ltb p k)) 0 (slice_index (entries_at v Indirect (indirect_block g v n l)) p)) (sym (apart_false l j away))
    ];
  }
    where
      double_plain : Double ≢ Plain
      double_plain e = cc

      indirect_plain : Indirect ≢ Plain
      indirect_plain e = cc

  below_from : (p : ℕ) → p < from → ((j == j) && (leb from p && ltb p k)) ≡ false
  below_from p low = grind (arith, nat_tests)

  pub indirect_leaves : Leaves g v n taken
  indirect_leaves = record {
    inner = λ l lost some. elim (cases_eq l j) [
      | inl is ↦
          let before : kept.0 < from = kept.1 in
          subst (λ (x : ℕ). (p : ℕ) × (p < k) × (data_block g v n (g.direct + (x * k + p)) ≢ 0) × (((x == j) && (leb from p && ltb p k)) ≡ false)) (sym is)
          (kept.0, kept.2, (λ none. kept.3 (data_pointer g v n indices shape j there kept.0 kept.2 ∙ none)), below_from kept.0 kept.1)
      | inr away ↦ let r = some_below g v n indices shape l some in (r.0, r.1, r.2, far l r.0 away)
    ];
    outer = λ d lost some. let r = some_double d some in (r.0, r.1, r.2, refl);
  }
    where
      far : (x p : ℕ) → x ≢ j → ((x == j) && (leb from p && ltb p k)) ≡ false
      far x p h = grind (arith, nat_tests)

      some_double : (d : ℕ) → double_block g v n d ≢ 0 → (s : ℕ) × (s < k) × (indirect_block g v n (g.indirect + (d * k + s)) ≢ 0)
      some_double d some = some_node_below g v n indices shape d some

  pub indirect_spots : KeepsSpots g v w n taken
  indirect_spots Double m lost some = ap (is_owned_by n) (content-same v w Double _ (untouched Double m some (apart_form Double Indirect m j (λ (e : Double ≡ Indirect). cc) some) (λ p low high e. no (form_of n m (number_under g Indirect j p) Double Plain e)))) ∙ spot_at g v n indices shape Double m some
    where
      no : Double ≢ Plain
      no e = cc
  indirect_spots Indirect m lost some = elim (cases_eq m j) [
    | inl is ↦ subst (λ (x : ℕ). is_spot w Indirect n (indirect_block g v n x) ≡ true) (sym is) cut.spot
    | inr away ↦ ap (is_owned_by n) (content-same v w Indirect _ (untouched Indirect m some (λ same. away (index_of n m j Indirect Indirect (one_place g v n indices shape Indirect Indirect m j some same))) (λ p low high e. no (form_of n m (number_under g Indirect j p) Indirect Plain e)))) ∙ spot_at g v n indices shape Indirect m some
  ]
    where
      no : Indirect ≢ Plain
      no e = cc
  indirect_spots Plain m lost some =
      ap (is_owned_by n) (content-same v w Plain _ (untouched Plain m some (apart_form Plain Indirect m j (λ (e : Plain ≡ Indirect). cc) some)
      (λ p low high e. not_gone p low high (sym (ap (gone_data g taken) (index_of n m (number_under g Indirect j p) Plain Plain e)) ∙ lost)))) ∙ spot_at g v n indices shape Plain m some
    where
      not_gone : (p : ℕ) → from ≤ p → p < k → gone_data g taken (number_under g Indirect j p) ≡ false → ⊥
      not_gone p low high e = true_false (sym (gone_data-down g taken j p high ∙ (λ i. no_indirect j i || here p low high i)) ∙ e)
        where
          here : (p : ℕ) → from ≤ p → p < k → ((j == j) && (leb from p && ltb p k)) ≡ true
          here p low high = grind (arith, nat_tests)

  -- the node after the cut
  pub indirect_cut : is_whole (w.inodes n) ≡ true → HasShape g w n (left g taken indices)
  indirect_cut inode = shape_left g v w n indices shape taken indirect_unlinks indirect_leaves view inode indirect_spots

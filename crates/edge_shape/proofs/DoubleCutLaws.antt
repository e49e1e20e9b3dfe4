-- What hangs under a position that is gone is gone. A node keeps its shape where the places of one of its double-indirect nodes are cut.
use Rattle.std.proofs.Common.{◌≡◌, ◌≢◌, ℕ, ◌+◌, ◌*◌, ◌<◌, ◌≤◌, ◌==◌, ◌&&◌, ◌||◌, true, false, cond, ltb, leb, List, length, refl, sym, ap, ◌∙◌, subst, arith, inl, inr}
use Rattle.std.specs.Prelude.{slice_index}
use Rattle.std.specs.List.{list_any}
use Rattle.std.proofs.lemmas.Bool.{cases_eq, eqb-true, eq-eqb, or_left, or_cases}
use Rattle.std.proofs.lemmas.Bool.Decides.{nat_tests}
use Rattle.edge_base.specs.declared.form.Form.{Form}
use Rattle.edge_base.specs.declared.form.Form.TheVariants.{Plain, Indirect, Double}
use Rattle.edge_base.specs.declared.geometry.Request.{Request}
use Rattle.edge_base.specs.layout.Places.{pointers_of}
use Rattle.edge_base.specs.tree.Positions.{Position}
use Rattle.edge_store.specs.View.{View, is_spot, is_whole, is_owned_by, entries_in, entries_of_inode, IsView}
use Rattle.edge_store.specs.Placed.{double_block, indirect_block, block_at}
use Rattle.edge_store.proofs.ViewLaws.{unused_zero}
use Rattle.edge_moves.specs.Relinks.{number_under}
use Rattle.edge_moves.specs.Sound.{numbered}
use Rattle.edge_shape.specs.Shape.{HasShape, entries_at}
use Rattle.edge_shape.specs.Trees.{in_tree, in_indirect}
use Rattle.edge_shape.specs.Cutting.{CutPlaces}
use Rattle.edge_shape.specs.Gone.{Pointers, gone_double, gone_indirect, gone_data, gone, left, Unlinks, Leaves, KeepsSpots, double_places}
use Rattle.edge_shape.proofs.ListLaws.{list_found, is_false, true_false, apart_false}
use Rattle.edge_shape.proofs.SpotLaws.{content-same, tree_of_zero}
use Rattle.edge_shape.proofs.ShapeLaws.{spot_at, one_place, indirect_pointer, long_double, some_below, some_node_below, under_indirect, under_pointer}
use Rattle.edge_shape.proofs.LeaveLaws.{shape_left, gone_data-down, gone_indirect-down}
use Rattle.edge_shape.proofs.IndirectCutLaws.{form_of, index_of}

-- ---- what hangs under a position that is gone

module _ (g : Request) (v : View) (n : ℕ) (indices : List ℕ) (shape : HasShape g v n indices) (taken : Pointers) where
  same_gone : (form other : Form) (m l : ℕ) → numbered n form m ≡ numbered n other l → gone g taken form m ≡ gone g taken other l
  same_gone form other m l e = ap (λ (r : Position). gone g taken r.form r.index) e

  data_gone : (j p : ℕ) → p < pointers_of g → gone_indirect g taken j ≡ true → gone_data g taken (number_under g Indirect j p) ≡ true
  data_gone j p low lost = gone_data-down g taken j p low ∙ or_left (gone_indirect g taken j) (taken.inner j p) lost

  pub under_gone : (form other : Form) (m l : ℕ) → gone g taken form m ≡ true → block_at g v (numbered n form m) ≢ 0 → block_at g v (numbered n other l) ≢ 0
      → in_tree v form (block_at g v (numbered n form m)) (block_at g v (numbered n other l)) ≡ true → gone g taken other l ≡ true
  under_gone Plain other m l lost some there h = same_gone other Plain l m (one_place g v n indices shape other Plain l m there (eqb-true _ _ h)) ∙ lost
  under_gone Indirect other m l lost some there h = elim (under_indirect g v n indices shape m some (block_at g v (numbered n other l)) h) [
    | inl is ↦ same_gone other Indirect l m (one_place g v n indices shape other Indirect l m there is) ∙ lost
    | inr r ↦ same_gone other Plain l (number_under g Indirect m r.0) (one_place g v n indices shape other Plain l (number_under g Indirect m r.0) there (sym r.2)) ∙ data_gone m r.0 r.1 lost
  ]
  under_gone Double other m l lost some there h = elim (or_cases (block_at g v (numbered n other l) == double_block g v n m) (list_any (λ c. in_indirect v c (block_at g v (numbered n other l))) (entries_at v Double (double_block g v n m))) h) [
    | inl is ↦ same_gone other Double l m (one_place g v n indices shape other Double l m there (eqb-true _ _ is)) ∙ lost
    | inr rest ↦
        let f = list_found (λ c. in_indirect v c (block_at g v (numbered n other l))) (entries_at v Double (double_block g v n m)) rest in
        let low : f.0 < pointers_of g = let before : f.0 < length (entries_at v Double (double_block g v n m)) = f.1 in let all = long_double g v n indices shape m some in omega arith in
        elim (cases_eq (slice_index (entries_at v Double (double_block g v n m)) f.0) 0) [
          | inl none ↦ absurd (there (eqb-true (block_at g v (numbered n other l)) 0 (sym (tree_of_zero v Indirect (block_at g v (numbered n other l)) (unused_zero g v shape.view) (λ (e : Indirect ≡ Double). cc)) ∙ sym (ap (λ (c : ℕ). in_indirect v c (block_at g v (numbered n other l))) none) ∙ f.2)))
          | inr there_s ↦
              let lost_s : gone_indirect g taken (number_under g Double m f.0) ≡ true = gone_indirect-down g taken m f.0 low ∙ or_left (gone_double g taken m) (taken.outer m f.0) lost in
              elim (under_pointer g v n indices shape m some f.0 (block_at g v (numbered n other l)) low there_s f.2) [
                | inl is ↦ same_gone other Indirect l (number_under g Double m f.0) (one_place g v n indices shape other Indirect l (number_under g Double m f.0) there is) ∙ lost_s
                | inr r ↦ same_gone other Plain l (number_under g Indirect (number_under g Double m f.0) r.0)
                    (one_place g v n indices shape other Plain l (number_under g Indirect (number_under g Double m f.0) r.0) there (sym r.2)) ∙ data_gone (number_under g Double m f.0) r.0 r.1 lost_s
              ]
        ]
  ]

-- ---- a double-indirect node

module _ (g : Request) (v w : View) (n : ℕ) (indices : List ℕ) (shape : HasShape g v n indices) (d from : ℕ) (there : double_block g v n d ≢ 0)
    (cut : CutPlaces v w Double n (double_block g v n d) from (pointers_of g))
    (kept : (s : ℕ) × (s < from) × (s < pointers_of g) × (slice_index (entries_at v Double (double_block g v n d)) s ≢ 0)) (view : IsView g w) where
  abbrev k : ℕ
  k = pointers_of g

  abbrev t : ℕ
  t = double_block g v n d

  abbrev taken : Pointers
  taken = double_places d from k

  gone_here : (s : ℕ) → from ≤ s → s < k → gone_indirect g taken (number_under g Double d s) ≡ true
  gone_here s low high = gone_indirect-down g taken d s high ∙ (λ i. false || here s low high i)
    where
      here : (s : ℕ) → from ≤ s → s < k → ((d == d) && (leb from s && ltb s k)) ≡ true
      here s low high = grind (arith, nat_tests)

  -- blocks of the node that are not gone are as they were
  pub double_untouched : (form : Form) (m : ℕ) → gone g taken form m ≡ false → block_at g v (numbered n form m) ≢ 0 → block_at g v (numbered n form m) ≢ t → w.blocks (block_at g v (numbered n form m)) ≡ v.blocks (block_at g v (numbered n form m))
  double_untouched form m lost some apart = cut.kept (block_at g v (numbered n form m)) apart
      (λ s low high there_s. is_false (in_indirect v (slice_index (entries_at v Double t) s) (block_at g v (numbered n form m)))
      (λ under.
      let is = indirect_pointer g v n indices shape d there s high in
      true_false (sym (under_gone g v n indices shape taken Indirect form (number_under g Double d s) m (gone_here s low high) (λ none. there_s (is ∙ none)) some
      (subst (λ (c : ℕ). in_indirect v c (block_at g v (numbered n form m)) ≡ true) is under)) ∙ lost)))

  apart_form : (form other : Form) (m l : ℕ) → form ≢ other → block_at g v (numbered n form m) ≢ 0 → block_at g v (numbered n form m) ≢ block_at g v (numbered n other l)
  apart_form form other m l far some same = far (form_of n m l form other (one_place g v n indices shape form other m l some same))

  other_double : (c : ℕ) → c ≢ d → double_block g v n c ≢ 0 → double_block g v n c ≢ t
  other_double c away some same = away (index_of n c d Double Double (one_place g v n indices shape Double Double c d some same))

  pub double_unlinks : Unlinks g v w n taken
  double_unlinks = record {
    entries = λ e. ap (λ (inodes : ℕ → _). slice_index (entries_of_inode (inodes n)) e) cut.inodes;
    outer = λ c s lost some. elim (cases_eq c d) [
      | inl is ↦ subst (λ (x : ℕ). slice_index (entries_at w Double (double_block g v n x)) s ≡ cond ((x == d) && (leb from s && ltb s k)) 0 (slice_index (entries_at v Double (double_block g v n x)) s)) (sym is)
          (cut.pointer s ∙ ap (λ b. cond (b && (leb from s && ltb s k)) 0 (slice_index (entries_at v Double t) s)) (sym (eq-eqb d d refl)))
      | inr away ↦
          ap (λ c. slice_index (entries_in c) s) (content-same v w Double (double_block g v n c) (double_untouched Double c lost some (other_double c away some)))
          ∙ ap (λ b. cond (b && (leb from s && ltb s k)) 0 (slice_index (entries_at v Double (double_block g v n c)) s)) (sym (apart_false c d away))
    ];
    inner = λ l p lost some. ap (λ c. slice_index (entries_in c) p) (content-same v w Indirect (indirect_block g v n l) (double_untouched Indirect l lost some (apart_form Indirect Double l d (λ (e : Indirect ≡ Double). cc) some)));
  }

  pub double_leaves : Leaves g v n taken
  double_leaves = record {
    inner = λ l lost some. let r = some_below g v n indices shape l some in (r.0, r.1, r.2, refl);
    outer = λ c lost some. elim (cases_eq c d) [
      | inl is ↦
          subst (λ (x : ℕ). (s : ℕ) × (s < k) × (indirect_block g v n (g.indirect + (x * k + s)) ≢ 0) × (((x == d) && (leb from s && ltb s k)) ≡ false)) (sym is)
          (kept.0, kept.2, (λ none. kept.3 (indirect_pointer g v n indices shape d there kept.0 kept.2 ∙ none)), below_from kept.0 kept.1)
      | inr away ↦ let r = some_node_below g v n indices shape c some in (r.0, r.1, r.2, far c r.0 away)
    ];
  }
    where
      below_from : (s : ℕ) → s < from → ((d == d) && (leb from s && ltb s k)) ≡ false
      below_from s low = grind (arith, nat_tests)

      far : (x s : ℕ) → x ≢ d → ((x == d) && (leb from s && ltb s k)) ≡ false
      far x s h = grind (arith, nat_tests)

  pub double_spots : KeepsSpots g v w n taken
  double_spots Double m lost some = elim (cases_eq m d) [
    | inl is ↦ subst (λ (x : ℕ). is_spot w Double n (double_block g v n x) ≡ true) (sym is) cut.spot
    | inr away ↦ ap (is_owned_by n) (content-same v w Double _ (double_untouched Double m lost some (other_double m away some))) ∙ spot_at g v n indices shape Double m some
  ]
  double_spots Indirect m lost some = ap (is_owned_by n) (content-same v w Indirect _ (double_untouched Indirect m lost some (apart_form Indirect Double m d (λ (e : Indirect ≡ Double). cc) some))) ∙ spot_at g v n indices shape Indirect m some
  double_spots Plain m lost some = ap (is_owned_by n) (content-same v w Plain _ (double_untouched Plain m lost some (apart_form Plain Double m d (λ (e : Plain ≡ Double). cc) some))) ∙ spot_at g v n indices shape Plain m some

  pub double_cut : is_whole (w.inodes n) ≡ true → HasShape g w n (left g taken indices)
  double_cut inode = shape_left g v w n indices shape taken double_unlinks double_leaves view inode double_spots

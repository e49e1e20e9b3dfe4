-- A node keeps its shape where its entries are cut.
use Rattle.std.proofs.Common.{◌≡◌, ◌≢◌, ℕ, ◌+◌, ◌-◌, ◌/◌, ◌<◌, ◌≤◌, ◌==◌, ◌&&◌, ◌||◌, Bool, true, false, cond, ltb, leb, List, length, refl, sym, ap, ◌∙◌, subst, arith, inl, inr}
use Rattle.std.specs.Prelude.{slice_index}
use Rattle.std.specs.List.{list_any}
use Rattle.std.proofs.lemmas.Bool.{cases_eq, eqb-true, eq-eqb, or_cases}
use Rattle.std.proofs.lemmas.Bool.Decides.{nat_tests}
use Rattle.edge_base.specs.declared.form.Form.{Form}
use Rattle.edge_base.specs.declared.form.Form.TheVariants.{Plain, Indirect, Double}
use Rattle.edge_base.specs.declared.geometry.Request.{Request}
use Rattle.edge_base.specs.layout.Places.{pointers_of, entries_of}
use Rattle.edge_store.specs.View.{View, is_link, is_owned_by, entries_in, IsView}
use Rattle.edge_store.specs.Placed.{entry_at, double_block, indirect_block, data_block, block_at}
use Rattle.edge_store.proofs.ViewLaws.{unused_zero}
use Rattle.edge_moves.specs.Relinks.{number_under}
use Rattle.edge_moves.specs.Sound.{numbered}
use Rattle.edge_store.specs.Damages.{form_of_entry}
use Rattle.edge_shape.specs.Shape.{HasShape, entries_at}
use Rattle.edge_shape.specs.Trees.{in_tree, in_indirect, IsSoundTree, IsSoundInode}
use Rattle.edge_shape.specs.Cutting.{CutEntries}
use Rattle.edge_shape.specs.Gone.{Pointers, gone, left, Unlinks, Leaves, KeepsSpots, entry_places}
use Rattle.edge_shape.proofs.ListLaws.{list_found, is_false, true_false}
use Rattle.edge_shape.proofs.SpotLaws.{content-same, tree_of_zero}
use Rattle.edge_shape.proofs.ShapeLaws.{spot_at, link_at, indirect_pointer, long_double, some_below, some_node_below, under_indirect, under_pointer, sound_indirect, sound_double}
use Rattle.edge_shape.proofs.LeaveLaws.{shape_left}
use Rattle.edge_shape.proofs.DoubleCutLaws.{under_gone}
use Rattle.edge_shape.proofs.EntryLaws.{entry_position}

-- the entry alone
abbrev only : ℕ → Pointers
only e = record { entry = λ d. d == e; outer = λ d s. false; inner = λ j p. false }

module _ (g : Request) (v : View) (n : ℕ) (indices : List ℕ) (shape : HasShape g v n indices) where
  -- what hangs under an entry is gone where the entry is
  pub under_entry : (taken : Pointers) (e : ℕ) (form : Form) (m : ℕ) → taken.entry e ≡ true → entry_at v n e ≢ 0 → block_at g v (numbered n form m) ≢ 0
      → in_tree v (form_of_entry g e) (entry_at v n e) (block_at g v (numbered n form m)) ≡ true → gone g taken form m ≡ true
  under_entry taken e form m lost some there h =
      let p = entry_position g v n e in
      under_gone g v n indices shape taken p.form form p.index m (p.gone_as taken ∙ lost) (λ none. some (p.block ∙ none)) there
      (subst (λ (b : ℕ). in_tree v p.form b (block_at g v (numbered n form m)) ≡ true) p.block (subst (λ (f : Form). in_tree v f (entry_at v n e) (block_at g v (numbered n form m)) ≡ true) p.is_form h))

  pub sound_at : (form : Form) (m : ℕ) → block_at g v (numbered n form m) ≢ 0 → IsSoundTree g v form n (block_at g v (numbered n form m))
  sound_at Plain m there = spot_at g v n indices shape Plain m there
  sound_at Indirect m there = let r = some_below g v n indices shape m there in sound_indirect g v n indices shape m there r.0 r.1 r.2
  sound_at Double m there = let r = some_node_below g v n indices shape m there in sound_double g v n indices shape m there r.0 r.1 (λ none. r.2 (sym (indirect_pointer g v n indices shape m there r.0 r.1) ∙ none))

  entry_sound : (e : ℕ) → entry_at v n e ≢ 0 → IsSoundTree g v (form_of_entry g e) n (entry_at v n e)
  entry_sound e some =
      let p = entry_position g v n e in
      subst (λ (f : Form). IsSoundTree g v f n (entry_at v n e)) (sym p.is_form) (subst (λ (b : ℕ). IsSoundTree g v p.form n b) (sym p.block) (sound_at p.form p.index (λ none. some (p.block ∙ none))))

  entry_link : (e : ℕ) → is_link g (entry_at v n e) ≡ true
  entry_link e = let p = entry_position g v n e in ap (is_link g) p.block ∙ link_at g v n indices shape p.form p.index

  -- what hangs under a position has one
  pub under_is : (form : Form) (m x : ℕ) → block_at g v (numbered n form m) ≢ 0 → x ≢ 0 → in_tree v form (block_at g v (numbered n form m)) x ≡ true → (other : Form) × (l : ℕ) × (block_at g v (numbered n other l) ≡ x)
  under_is Plain m x some far h = (Plain, m, sym (eqb-true x (data_block g v n m) h))
  under_is Indirect m x some far h = elim (under_indirect g v n indices shape m some x h) [
    | inl is ↦ (Indirect, m, sym is)
    | inr r ↦ (Plain, number_under g Indirect m r.0, r.2)
  ]
  under_is Double m x some far h = elim (or_cases (x == double_block g v n m) (list_any (λ c. in_indirect v c x) (entries_at v Double (double_block g v n m))) h) [
    | inl is ↦ (Double, m, sym (eqb-true x (double_block g v n m) is))
    | inr rest ↦
        let f = list_found (λ c. in_indirect v c x) (entries_at v Double (double_block g v n m)) rest in
        let low : f.0 < pointers_of g = let before : f.0 < length (entries_at v Double (double_block g v n m)) = f.1 in let all = long_double g v n indices shape m some in omega arith in
        elim (cases_eq (slice_index (entries_at v Double (double_block g v n m)) f.0) 0) [
          | inl none ↦ absurd (far (eqb-true x 0 (sym (tree_of_zero v Indirect x (unused_zero g v shape.view) (λ (e : Indirect ≡ Double). cc)) ∙ sym (ap (λ (c : ℕ). in_indirect v c x) none) ∙ f.2)))
          | inr there_s ↦ elim (under_pointer g v n indices shape m some f.0 x low there_s f.2) [
            | inl is ↦ (Indirect, number_under g Double m f.0, sym is)
            | inr r ↦ (Plain, number_under g Indirect (number_under g Double m f.0) r.0, r.2)
          ]
        ]
  ]

  root : Form → ℕ → ℕ
  root Double c = g.direct + g.indirect + c
  root Indirect j = cond (ltb j g.indirect) (g.direct + j) (g.direct + g.indirect + (j - g.indirect) / pointers_of g)
  root Plain i = cond (ltb i g.direct) i (cond (ltb ((i - g.direct) / pointers_of g) g.indirect) (g.direct + (i - g.direct) / pointers_of g) (g.direct + g.indirect + ((i - g.direct) / pointers_of g - g.indirect) / pointers_of g))

  only_root : (d : ℕ) (form : Form) (m : ℕ) → gone g (only d) form m ≡ (root form m == d)
  unfolding root
  only_root d Double m = refl
  only_root d Indirect j = by (ltb j g.indirect)
    where
      or_false : (t : Bool) → (t || false) ≡ t
      or_false true = refl
      or_false false = refl

      by : (t : Bool) → cond t (g.direct + j == d) ((g.direct + g.indirect + (j - g.indirect) / pointers_of g == d) || false) ≡ (cond t (g.direct + j) (g.direct + g.indirect + (j - g.indirect) / pointers_of g) == d)
      by true = refl
      by false = or_false _
  only_root d Plain i = by (ltb i g.direct) (ltb ((i - g.direct) / pointers_of g) g.indirect)
    where
      or_false : (t : Bool) → (t || false) ≡ t
      or_false true = refl
      or_false false = refl

      by : (t u : Bool) → cond t (i == d) (cond u (g.direct + (i - g.direct) / pointers_of g == d) ((g.direct + g.indirect + ((i - g.direct) / pointers_of g - g.indirect) / pointers_of g == d) || false) || false)
          ≡ (cond t i (cond u (g.direct + (i - g.direct) / pointers_of g) (g.direct + g.indirect + ((i - g.direct) / pointers_of g - g.indirect) / pointers_of g)) == d)
      by true u = refl
      by false true = or_false (g.direct + (i - g.direct) / pointers_of g == d)
      by false false = or_false ((g.direct + g.indirect + ((i - g.direct) / pointers_of g - g.indirect) / pointers_of g == d) || false) ∙ or_false (g.direct + g.indirect + ((i - g.direct) / pointers_of g - g.indirect) / pointers_of g == d)

  pub sound_inode : (from : ℕ) → IsSoundInode g v n from
  sound_inode from = record {
    inode = shape.inode;
    link = λ e low high. entry_link e;
    children = λ e low high some. entry_sound e some;
    apart = λ d e low before high some_d some_e x far under. is_false (in_tree v (form_of_entry g d) (entry_at v n d) x) (λ under_d.
        let p = entry_position g v n e in
        let found_x = under_is p.form p.index x (λ none. some_e (p.block ∙ none)) far
        (subst (λ (b : ℕ). in_tree v p.form b x ≡ true) p.block (subst (λ (f : Form). in_tree v f (entry_at v n e) x ≡ true) p.is_form under)) in
        let there : block_at g v (numbered n found_x.0 found_x.1) ≢ 0 = λ none. far (sym found_x.2 ∙ none) in
        let one = under_entry (only e) e found_x.0 found_x.1 (eq-eqb e e refl) some_e there (subst (λ (y : ℕ). in_tree v (form_of_entry g e) (entry_at v n e) y ≡ true) (sym found_x.2) under) in
        let two = under_entry (only d) d found_x.0 found_x.1 (eq-eqb d d refl) some_d there (subst (λ (y : ℕ). in_tree v (form_of_entry g d) (entry_at v n d) y ≡ true) (sym found_x.2) under_d) in
        let even : e ≡ d = sym (eqb-true (root found_x.0 found_x.1) e (sym (only_root e found_x.0 found_x.1) ∙ one)) ∙ eqb-true (root found_x.0 found_x.1) d (sym (only_root d found_x.0 found_x.1) ∙ two) in
        omega arith);
  }

-- ---- the entries cut

module _ (g : Request) (v w : View) (n : ℕ) (indices : List ℕ) (shape : HasShape g v n indices) (from : ℕ) (cut : CutEntries g v w n from (entries_of g)) (view : IsView g w) where
  abbrev taken : Pointers
  taken = entry_places from (entries_of g)

  within : (e : ℕ) → from ≤ e → e < entries_of g → (leb from e && ltb e (entries_of g)) ≡ true
  within e low high = grind (arith, nat_tests)

  pub entries_untouched : (form : Form) (m : ℕ) → gone g taken form m ≡ false → block_at g v (numbered n form m) ≢ 0 → w.blocks (block_at g v (numbered n form m)) ≡ v.blocks (block_at g v (numbered n form m))
  entries_untouched form m lost some = cut.kept (block_at g v (numbered n form m))
      (λ e low high there_e. is_false (in_tree v (form_of_entry g e) (entry_at v n e) (block_at g v (numbered n form m)))
      (λ under. true_false (sym (under_entry g v n indices shape taken e form m (within e low high) there_e some under) ∙ lost)))

  pub entries_unlink : Unlinks g v w n taken
  entries_unlink = record {
    entries = cut.entry;
    outer = λ c s lost some. ap (λ c. slice_index (entries_in c) s) (content-same v w Double (double_block g v n c) (entries_untouched Double c lost some));
    inner = λ l p lost some. ap (λ c. slice_index (entries_in c) p) (content-same v w Indirect (indirect_block g v n l) (entries_untouched Indirect l lost some));
  }

  pub entries_leave : Leaves g v n taken
  entries_leave = record {
    inner = λ l lost some. let r = some_below g v n indices shape l some in (r.0, r.1, r.2, refl);
    outer = λ c lost some. let r = some_node_below g v n indices shape c some in (r.0, r.1, r.2, refl);
  }

  pub entries_spots : KeepsSpots g v w n taken
  entries_spots form m lost some = ap (is_owned_by n) (content-same v w form _ (entries_untouched form m lost some)) ∙ spot_at g v n indices shape form m some

  pub entries_cut : HasShape g w n (left g taken indices)
  entries_cut = shape_left g v w n indices shape taken entries_unlink entries_leave view cut.inode entries_spots

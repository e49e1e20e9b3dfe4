-- What becomes of the blocks of a node that is cut.
use Rattle.std.proofs.Common.{◌≡◌, ◌≢◌, ℕ, ◌+◌, ◌-◌, ◌*◌, ◌/◌, ◌%◌, ◌<◌, ◌≤◌, ◌==◌, ◌&&◌, ◌||◌, not, Bool, true, false, cond, ltb, leb, List, refl, sym, ap, ◌∙◌, subst, arith, inl, inr, Option, None}
use Rattle.std.specs.Prelude.{slice_index, is_some}
use Rattle.std.specs.List.{list_any, filter}
use Rattle.std.proofs.lemmas.Bool.{cases_eq, cases_lt, cases_Bool, eqb-true, eq-eqb, and_parts, and_from, le-leb, ltb-false, or_left, or_right, lt-ltb, le-ltb, ltb-true, leb-true, cond-true, cond-false}
use Rattle.std.proofs.lemmas.Nat.{mod_below}
use Rattle.edge_base.specs.declared.form.Form.{Form}
use Rattle.edge_base.specs.declared.form.Form.TheVariants.{Plain, Indirect, Double}
use Rattle.edge_base.specs.declared.geometry.Request.{Request}
use Rattle.edge_base.specs.layout.Places.{entries_of, pointers_of}
use Rattle.edge_base.specs.tree.Positions.{Position, has, positions_of}
use Rattle.edge_store.specs.View.{View, Block, IsView, is_used, is_whole, head_of_inode}
use Rattle.edge_store.specs.Placed.{entry_at, double_block, indirect_block, data_block, block_at}
use Rattle.edge_store.proofs.ViewLaws.{unused_zero}
use Rattle.edge_moves.specs.Relinks.{number_under}
use Rattle.edge_moves.specs.Sound.{numbered}
use Rattle.edge_store.specs.Damages.{form_of_entry}
use Rattle.edge_shape.specs.Shape.{HasShape, entries_at, before, outside, HasBetween}
use Rattle.edge_shape.specs.Trees.{in_tree, in_indirect}
use Rattle.edge_shape.specs.Cutting.{CutPlaces, CutEntries}
use Rattle.edge_shape.specs.Gone.{Pointers, gone, gone_data, gone_indirect, left, indirect_places, double_places, entry_places}
use Rattle.edge_shape.specs.Trimmed.{Trims}
use Rattle.edge_shape.specs.Where.{first_in_entry}
use Rattle.edge_shape.proofs.ListLaws.{list_there, is_false, true_false}
use Rattle.edge_moves.proofs.SlotLaws.{some_pointers_fit}
use Rattle.edge_shape.proofs.SpotLaws.{used_spot, pointer_there}
use Rattle.edge_shape.proofs.ShapeLaws.{listed, indirect_down, spot_at, one_place, data_above, data_pointer, indirect_pointer, long_indirect, long_double, under_pointer}
use Rattle.edge_shape.proofs.LeaveLaws.{position_of, position_there, index_listed, block_stays, kept_where, gone_where}
use Rattle.edge_shape.proofs.EntryLaws.{entry_position}
use Rattle.edge_shape.proofs.EntryCutLaws.{under_is, entries_untouched, entries_unlink, entries_leave, entries_spots, entries_cut}
use Rattle.edge_shape.proofs.RangeLaws.{gone-entry_places, gone-indirect_places, gone-double_places, gone_indirect-double_places}
use Rattle.edge_shape.proofs.LeftLaws.{in_node, in_double, left-entry_places}
use Rattle.edge_shape.proofs.IndirectCutLaws.{indirect_unlinks, indirect_leaves, indirect_spots, indirect_cut}
use Rattle.edge_shape.proofs.DoubleCutLaws.{double_untouched, double_unlinks, double_leaves, double_spots, double_cut}
use Rattle.edge_shape.proofs.OwnLaws.{single_entry, double_entry}

-- ---- two steps

-- What is left is left twice.
pub trims_twice : (g : Request) (v u w : View) (n : ℕ) (indices middle rest : List ℕ) → HasShape g v n indices → Trims g v u n indices middle → Trims g u w n middle rest → Trims g v w n indices rest
trims_twice g v u w n indices middle rest shape one two = record {
  shape = two.shape;
  head = two.head ∙ one.head;
  inodes = λ m away. two.inodes m away ∙ one.inodes m away;
  stays = λ form m h. two.stays form m h ∙ one.stays form m (still form m h);
  bytes = λ i member.
      let here = position_of g w n rest two.shape Plain i i member (eq-eqb i i refl) in
      let is = one.stays Plain i (still Plain i here) in
      ap w.blocks (sym is) ∙ two.bytes i member ∙ ap u.blocks is ∙ one.bytes i (member_of i (still Plain i here));
  dropped = λ form m h none. elim (cases_Bool (has (positions_of g n middle) (numbered n form m))) [
    | inl kept ↦ ap w.blocks (sym (one.stays form m kept)) ∙ two.dropped form m kept none
    | inr lost ↦
        let unused = one.dropped form m h lost in
        two.others (block_at g v (numbered n form m)) (λ other l there same. used_none (u.blocks (block_at g v (numbered n form m))) (ap (is_used u) (sym same) ∙ used_spot u other n (block_at g u (numbered n other l)) (spot_at g u n middle one.shape other l there)) unused) ∙ unused
  ];
  others = λ b far. two.others b (λ form m there same.
      let is = one.stays form m (listed g u n middle one.shape form m there) in
      far form m (λ none. there (is ∙ none)) (sym is ∙ same)) ∙ one.others b far;
}
  where
    -- a position of what is left was there before
    still : (form : Form) (m : ℕ) → has (positions_of g n rest) (numbered n form m) ≡ true → has (positions_of g n middle) (numbered n form m) ≡ true
    still form m h = listed g u n middle one.shape form m (λ none. position_there g w n rest two.shape form m h (two.stays form m h ∙ none))

    member_of : (i : ℕ) → has (positions_of g n middle) (numbered n Plain i) ≡ true → list_any (λ k. k == i) middle ≡ true
    member_of i h = index_listed g u n middle one.shape i (position_there g u n middle one.shape Plain i h)

    used_none : (o : Option Block) → is_some o ≡ true → o ≡ None → ⊥
    used_none o used none = let e : false ≡ true = ap is_some (sym none) ∙ used in cc

-- ---- blocks in trees

module _ (g : Request) (v : View) (n : ℕ) (indices : List ℕ) (shape : HasShape g v n indices) where
  abbrev k : ℕ
  k = pointers_of g

  tree_self : (form : Form) (b : ℕ) → in_tree v form b b ≡ true
  tree_self Plain b = eq-eqb b b refl
  tree_self Indirect b = or_left (b == b) (list_any (λ c. b == c) (entries_at v Indirect b)) (eq-eqb b b refl)
  tree_self Double b = or_left (b == b) (list_any (λ c. in_indirect v c b) (entries_at v Double b)) (eq-eqb b b refl)

  tree_data : (j q : ℕ) → q < k → indirect_block g v n j ≢ 0 → in_indirect v (indirect_block g v n j) (data_block g v n (number_under g Indirect j q)) ≡ true
  tree_data j q low there = or_right (data_block g v n (number_under g Indirect j q) == indirect_block g v n j) _
      (list_there (λ c. data_block g v n (number_under g Indirect j q) == c) (entries_at v Indirect (indirect_block g v n j)) q (let all = long_indirect g v n indices shape j there in omega arith)
      (eq-eqb _ _ (sym (data_pointer g v n indices shape j there q low))))

  -- what hangs under a place of a double-indirect node
  tree_under : (d s x : ℕ) → s < k → double_block g v n d ≢ 0 → in_indirect v (indirect_block g v n (number_under g Double d s)) x ≡ true → in_tree v Double (double_block g v n d) x ≡ true
  tree_under d s x low there under = or_right (x == double_block g v n d) _
      (list_there (λ c. in_indirect v c x) (entries_at v Double (double_block g v n d)) s (let all = long_double g v n indices shape d there in omega arith)
      (ap (λ (c : ℕ). in_indirect v c x) (indirect_pointer g v n indices shape d there s low) ∙ under))

  double_above : (d s : ℕ) → s < k → indirect_block g v n (number_under g Double d s) ≢ 0 → double_block g v n d ≢ 0
  double_above d s low there = pointer_there v Double (double_block g v n d) s (λ none. there (indirect_down g v n indices shape d s low ∙ none))

  div_mod : (a r w : ℕ) → 0 < w → a ≤ r → a + ((r - a) / w * w + (r - a) % w) ≡ r
  div_mod a r w some past = omega arith

  positive : 0 < k
  positive = some_pointers_fit g shape.geometry

  -- the entry above a position
  abbrev root : Form → ℕ → ℕ
  root Double c = g.direct + g.indirect + c
  root Indirect j = cond (ltb j g.indirect) (g.direct + j) (g.direct + g.indirect + (j - g.indirect) / k)
  root Plain i = cond (ltb i g.direct) i (cond (ltb ((i - g.direct) / k) g.indirect) (g.direct + (i - g.direct) / k) (g.direct + g.indirect + ((i - g.direct) / k - g.indirect) / k))

  -- the block is in the tree of that entry
  abbrev InRoot : ℕ → ℕ → Type 0
  InRoot e x = (entry_at v n e ≢ 0) × (in_tree v (form_of_entry g e) (entry_at v n e) x ≡ true)

  in_single : (j x : ℕ) → j < g.indirect → indirect_block g v n j ≢ 0 → in_indirect v (indirect_block g v n j) x ≡ true → InRoot (g.direct + j) x
  in_single j x low there under =
      let e = single_entry g v n (g.direct + j) (omega arith) (omega arith) in
      let is : indirect_block g v n j ≡ entry_at v n (g.direct + j) = ap (indirect_block g v n) (let less : j ≡ g.direct + j - g.direct = omega arith in less) ∙ e.1 in
      ((λ none. there (is ∙ none)), (λ t. in_tree v (e.0 t) (sym is t) x) ∙ under)

  in_double_entry : (d x : ℕ) → double_block g v n d ≢ 0 → in_tree v Double (double_block g v n d) x ≡ true → InRoot (g.direct + g.indirect + d) x
  in_double_entry d x there under =
      let e = double_entry g v n (g.direct + g.indirect + d) (omega arith) in
      let is : double_block g v n d ≡ entry_at v n (g.direct + g.indirect + d) = ap (double_block g v n) (let less : d ≡ g.direct + g.indirect + d - g.direct - g.indirect = omega arith in less) ∙ e.1 in
      ((λ none. there (is ∙ none)), (λ t. in_tree v (e.0 t) (sym is t) x) ∙ under)

  in_table : (j x : ℕ) → g.indirect ≤ j → indirect_block g v n j ≢ 0 → in_indirect v (indirect_block g v n j) x ≡ true → InRoot (g.direct + g.indirect + (j - g.indirect) / k) x
  in_table j x past there under =
      let d : ℕ = (j - g.indirect) / k in
      let s : ℕ = (j - g.indirect) % k in
      let low = mod_below (j - g.indirect) k positive in
      let is : number_under g Double d s ≡ j = div_mod g.indirect j k positive past in
      let there_s : indirect_block g v n (number_under g Double d s) ≢ 0 = subst (λ (m : ℕ). indirect_block g v n m ≢ 0) (sym is) there in
      let top = double_above d s low there_s in
      in_double_entry d x top (tree_under d s x low top (ap (λ (m : ℕ). in_indirect v (indirect_block g v n m) x) is ∙ under))

  in_root : (form : Form) (m : ℕ) → block_at g v (numbered n form m) ≢ 0 → InRoot (root form m) (block_at g v (numbered n form m))
  unfolding data_block
  in_root Double c there = in_double_entry c (double_block g v n c) there (tree_self Double (double_block g v n c))
  in_root Indirect j there = elim (cases_lt j g.indirect) [
    | inl low ↦ subst (λ (e : ℕ). InRoot e (indirect_block g v n j)) (sym (cond-true (ltb j g.indirect) _ _ (lt-ltb j g.indirect low))) (in_single j (indirect_block g v n j) low there (tree_self Indirect (indirect_block g v n j)))
    | inr past ↦ subst (λ (e : ℕ). InRoot e (indirect_block g v n j)) (sym (cond-false (ltb j g.indirect) _ _ (le-ltb j g.indirect past))) (in_table j (indirect_block g v n j) past there (tree_self Indirect (indirect_block g v n j)))
  ]
  in_root Plain i there = elim (cases_lt i g.direct) [
    | inl low ↦ subst (λ (e : ℕ). InRoot e (data_block g v n i)) (sym (cond-true (ltb i g.direct) _ _ (lt-ltb i g.direct low))) (direct low)
    | inr past ↦
        let row : ℕ = (i - g.direct) / k in
        let node = data_above g v n indices shape i past there in
        let is : number_under g Indirect row ((i - g.direct) % k) ≡ i = div_mod g.direct i k positive past in
        let under : in_indirect v (indirect_block g v n row) (data_block g v n i) ≡ true =
        ap (λ (m : ℕ). in_indirect v (indirect_block g v n row) (data_block g v n m)) (sym is) ∙ tree_data row ((i - g.direct) % k) (mod_below (i - g.direct) k positive) node in
        subst (λ (e : ℕ). InRoot e (data_block g v n i)) (sym (cond-false (ltb i g.direct) _ _ (le-ltb i g.direct past))) (elim (cases_lt row g.indirect) [
          | inl low ↦ subst (λ (e : ℕ). InRoot e (data_block g v n i)) (sym (cond-true (ltb row g.indirect) _ _ (lt-ltb row g.indirect low))) (in_single row (data_block g v n i) low node under)
          | inr behind ↦ subst (λ (e : ℕ). InRoot e (data_block g v n i)) (sym (cond-false (ltb row g.indirect) _ _ (le-ltb row g.indirect behind))) (in_table row (data_block g v n i) behind node under)
        ])
  ]
    where
      direct : i < g.direct → InRoot i (data_block g v n i)
      direct low =
          let is : data_block g v n i ≡ entry_at v n i = cond-true (ltb i g.direct) _ _ (lt-ltb i g.direct low) in
          let form : form_of_entry g i ≡ Plain = cond-true (ltb i g.direct) _ _ (lt-ltb i g.direct low) in
          ((λ none. there (is ∙ none)), (λ t. in_tree v (form t) (sym is t) (data_block g v n i)) ∙ tree_self Plain (data_block g v n i))

  gone_root : (from upto : ℕ) (form : Form) (m : ℕ) → gone g (entry_places from upto) form m ≡ (leb from (root form m) && ltb (root form m) upto)
  gone_root from upto Double c = refl
  gone_root from upto Indirect j = by (ltb j g.indirect)
    where
      or_false : (t : Bool) → (t || false) ≡ t
      or_false true = refl
      or_false false = refl

      by : (u : Bool) → cond u (leb from (g.direct + j) && ltb (g.direct + j) upto) ((leb from (g.direct + g.indirect + (j - g.indirect) / k) && ltb (g.direct + g.indirect + (j - g.indirect) / k) upto) || false)
          ≡ (leb from (cond u (g.direct + j) (g.direct + g.indirect + (j - g.indirect) / k)) && ltb (cond u (g.direct + j) (g.direct + g.indirect + (j - g.indirect) / k)) upto)
      by true = refl
      by false = or_false _
  gone_root from upto Plain i = gone-entry_places g positive from upto i

-- ---- the entries

module _ (g : Request) (v w : View) (n : ℕ) (indices : List ℕ) (shape : HasShape g v n indices) (view : IsView g w) where
  same_head : w.inodes ≡ v.inodes → head_of_inode (w.inodes n) ≡ head_of_inode (v.inodes n)
  same_head same = ap (λ (o : ℕ → _). head_of_inode (o n)) same

  module _ (from : ℕ) (cut : CutEntries g v w n from (entries_of g)) where
    abbrev taken : Pointers
    taken = entry_places from (entries_of g)

    abbrev rest : List ℕ
    rest = left g taken indices

    entries_keep : (form : Form) (m : ℕ) → has (positions_of g n rest) (numbered n form m) ≡ true → gone g taken form m ≡ false
    entries_keep form m h = kept_where g v w n indices shape taken (entries_unlink g v w n indices shape from cut view) (entries_leave g v w n indices shape from cut view) view cut.inode (entries_spots g v w n indices shape from cut view) form m h

    -- a block that is none of the node's hangs under no entry
    no_tree : (b : ℕ) → b ≢ 0 → ((form : Form) (m : ℕ) → block_at g v (numbered n form m) ≢ 0 → block_at g v (numbered n form m) ≢ b) → (e : ℕ) → entry_at v n e ≢ 0 → in_tree v (form_of_entry g e) (entry_at v n e) b ≡ false
    no_tree b some far e there = is_false _ (λ under.
        let p = entry_position g v n e in
        let r = under_is g v n indices shape p.form p.index b (λ none. there (p.block ∙ none)) some (subst (λ (x : ℕ). in_tree v p.form x b ≡ true) p.block (subst (λ (f : Form). in_tree v f (entry_at v n e) b ≡ true) p.is_form under)) in
        far r.0 r.1 (λ none. some (sym r.2 ∙ none)) r.2)

    entries_trim : Trims g v w n indices rest
    entries_trim = record {
      shape = entries_cut g v w n indices shape from cut view;
      head = cut.head;
      inodes = cut.others;
      stays = λ form m h. block_stays g v w n indices shape taken (entries_unlink g v w n indices shape from cut view) (entries_leave g v w n indices shape from cut view) view cut.inode (entries_spots g v w n indices shape from cut view) form m h;
      bytes = λ i member. bytes_stay i member;
      dropped = λ form m h none.
          let lost = gone_where g v w n indices shape taken (entries_unlink g v w n indices shape from cut view) (entries_leave g v w n indices shape from cut view) view cut.inode (entries_spots g v w n indices shape from cut view) form m h none in
          let within = and_parts (leb from (root g v n indices shape form m)) (ltb (root g v n indices shape form m) (entries_of g)) (sym (gone_root g v n indices shape from (entries_of g) form m) ∙ lost) in
          let r = in_root g v n indices shape form m (position_there g v n indices shape form m h) in
          cut.dropped (root g v n indices shape form m) (block_at g v (numbered n form m)) (leb-true from _ within.0) (ltb-true _ (entries_of g) within.1) r.0 r.1;
      others = λ b far. elim (cases_eq b 0) [
        | inl none ↦ ap w.blocks none ∙ unused_zero g w view ∙ sym (ap v.blocks none ∙ unused_zero g v shape.view)
        | inr some ↦ cut.kept b (λ e low high there. no_tree b some far e there)
      ];
    }
      where
        bytes_stay : (i : ℕ) → list_any (λ y. y == i) rest ≡ true → w.blocks (data_block g v n i) ≡ v.blocks (data_block g v n i)
        bytes_stay i member =
            let h = position_of g w n rest (entries_cut g v w n indices shape from cut view) Plain i i member (eq-eqb i i refl) in
            let there = position_there g w n rest (entries_cut g v w n indices shape from cut view) Plain i h in
            entries_untouched g v w n indices shape from cut view Plain i (entries_keep Plain i h)
            (λ none. there (block_stays g v w n indices shape taken (entries_unlink g v w n indices shape from cut view) (entries_leave g v w n indices shape from cut view) view cut.inode (entries_spots g v w n indices shape from cut view) Plain i h ∙ none))

  -- ---- an indirect node

  module _ (j from : ℕ) (most : from ≤ pointers_of g) (stay : HasBetween indices (number_under g Indirect j 0) (number_under g Indirect j from)) (cut : CutPlaces v w Indirect n (indirect_block g v n j) from (pointers_of g)) where
    abbrev node_taken : Pointers
    node_taken = indirect_places j from (pointers_of g)

    abbrev node_rest : List ℕ
    node_rest = left g node_taken indices

    some_k : 0 < pointers_of g
    some_k = some_pointers_fit g shape.geometry

    node : indirect_block g v n j ≢ 0
    node = (in_node g v n indices shape j 0 from most stay).3

    abbrev Stays : Type 0
    Stays = (p : ℕ) × (p < from) × (p < pointers_of g) × (slice_index (entries_at v Indirect (indirect_block g v n j)) p ≢ 0)

    stays_there : Stays
    stays_there = let r = in_node g v n indices shape j 0 from most stay in (r.0, r.2, (let low : r.0 < from = r.2 in let e : r.0 < pointers_of g = omega arith in e), r.4)

    whole : is_whole (w.inodes n) ≡ true
    whole = ap is_whole (ap (λ (o : ℕ → _). o n) cut.inodes) ∙ shape.inode

    node_shape : HasShape g w n node_rest
    node_shape = indirect_cut g v w n indices shape j from node cut stays_there view whole

    node_stays : (form : Form) (m : ℕ) → has (positions_of g n node_rest) (numbered n form m) ≡ true → block_at g w (numbered n form m) ≡ block_at g v (numbered n form m)
    node_stays form m h = block_stays g v w n indices shape node_taken (indirect_unlinks g v w n indices shape j from node cut stays_there view) (indirect_leaves g v w n indices shape j from node cut stays_there view) view whole (indirect_spots g v w n indices shape j from node cut stays_there view) form m h

    node_kept : (form : Form) (m : ℕ) → has (positions_of g n node_rest) (numbered n form m) ≡ true → gone g node_taken form m ≡ false
    node_kept form m h = kept_where g v w n indices shape node_taken (indirect_unlinks g v w n indices shape j from node cut stays_there view) (indirect_leaves g v w n indices shape j from node cut stays_there view) view whole (indirect_spots g v w n indices shape j from node cut stays_there view) form m h

    node_gone : (form : Form) (m : ℕ) → has (positions_of g n indices) (numbered n form m) ≡ true → has (positions_of g n node_rest) (numbered n form m) ≡ false → gone g node_taken form m ≡ true
    node_gone form m h none = gone_where g v w n indices shape node_taken (indirect_unlinks g v w n indices shape j from node cut stays_there view) (indirect_leaves g v w n indices shape j from node cut stays_there view) view whole (indirect_spots g v w n indices shape j from node cut stays_there view) form m h none

    at_place : (q : ℕ) → q < pointers_of g → slice_index (entries_at v Indirect (indirect_block g v n j)) q ≡ data_block g v n (number_under g Indirect j q)
    at_place q low = data_pointer g v n indices shape j node q low

    node_dropped : (form : Form) (m : ℕ) → block_at g v (numbered n form m) ≢ 0 → gone g node_taken form m ≡ true → w.blocks (block_at g v (numbered n form m)) ≡ None
    node_dropped Double m there lost = absurd (let e : false ≡ true = lost in cc)
    node_dropped Indirect m there lost = absurd (true_false (sym lost ∙ by (ltb m g.indirect)))
      where
        by : (t : Bool) → cond t false (false || false) ≡ false
        by true = refl
        by false = refl
    node_dropped Plain x there lost =
        let within = and_parts (leb (number_under g Indirect j from) x) (ltb x (number_under g Indirect j (pointers_of g))) (sym (gone-indirect_places g some_k j from (pointers_of g) x (omega arith)) ∙ lost) in
        let low : number_under g Indirect j from ≤ x = leb-true (number_under g Indirect j from) x within.0 in
        let high : x < number_under g Indirect j (pointers_of g) = ltb-true x (number_under g Indirect j (pointers_of g)) within.1 in
        let q : ℕ = x - number_under g Indirect j 0 in
        let is : number_under g Indirect j q ≡ x = omega arith in
        let q_low : q < pointers_of g = omega arith in
        let pointer : slice_index (entries_at v Indirect (indirect_block g v n j)) q ≡ data_block g v n x = at_place q q_low ∙ ap (data_block g v n) is in
        cut.dropped q (data_block g v n x) (omega arith) q_low (λ none. there (sym pointer ∙ none)) (eq-eqb _ _ (sym pointer))

    node_trim : Trims g v w n indices node_rest
    node_trim = record {
      shape = node_shape;
      head = same_head cut.inodes;
      inodes = λ m away. ap (λ (o : ℕ → _). o m) cut.inodes;
      stays = node_stays;
      bytes = λ i member.
          let h = position_of g w n node_rest node_shape Plain i i member (eq-eqb i i refl) in
          let there : data_block g v n i ≢ 0 = λ none. position_there g w n node_rest node_shape Plain i h (node_stays Plain i h ∙ none) in
          cut.kept (data_block g v n i) (λ same. apart_forms Plain Indirect i j (λ (e : Plain ≡ Indirect). cc) there same)
          (λ p low high there_p. is_false (data_block g v n i == slice_index (entries_at v Indirect (indirect_block g v n j)) p) (λ is.
          let index : i ≡ number_under g Indirect j p = ap (λ (r : Position). r.index) (one_place g v n indices shape Plain Plain i (number_under g Indirect j p) there (eqb-true _ _ is ∙ at_place p high)) in
          true_false (sym (goes p low high) ∙ ap (gone_data g node_taken) (sym index) ∙ node_kept Plain i h)));
      dropped = λ form m h none. node_dropped form m (position_there g v n indices shape form m h) (node_gone form m h none);
      others = λ b far. cut.kept b (λ same. far Indirect j node (sym same))
          (λ p low high there_p. is_false (b == slice_index (entries_at v Indirect (indirect_block g v n j)) p) (λ is.
          let same : data_block g v n (number_under g Indirect j p) ≡ b = sym (eqb-true _ _ is ∙ at_place p high) in
          far Plain (number_under g Indirect j p) (λ none. there_p (at_place p high ∙ none)) same));
    }
      where
        apart_forms : (form other : Form) (m l : ℕ) → form ≢ other → block_at g v (numbered n form m) ≢ 0 → block_at g v (numbered n form m) ≡ block_at g v (numbered n other l) → ⊥
        apart_forms form other m l far there same = far (ap (λ (r : Position). r.form) (one_place g v n indices shape form other m l there same))

        goes : (p : ℕ) → from ≤ p → p < pointers_of g → gone_data g node_taken (number_under g Indirect j p) ≡ true
        goes p low high = gone-indirect_places g some_k j from (pointers_of g) (number_under g Indirect j p) (omega arith) ∙ and_from _ _ (le-leb (number_under g Indirect j from) (number_under g Indirect j p) (omega arith)) (lt-ltb (number_under g Indirect j p) (number_under g Indirect j (pointers_of g)) (omega arith))

  -- ---- a double-indirect node

  module _ (d from : ℕ) (most : from ≤ pointers_of g) (stay : HasBetween indices (number_under g Indirect (number_under g Double d 0) 0) (number_under g Indirect (number_under g Double d from) 0)) (cut : CutPlaces v w Double n (double_block g v n d) from (pointers_of g)) where
    abbrev top_taken : Pointers
    top_taken = double_places d from (pointers_of g)

    abbrev top_rest : List ℕ
    top_rest = left g top_taken indices

    positive_k : 0 < pointers_of g
    positive_k = some_pointers_fit g shape.geometry

    top : double_block g v n d ≢ 0
    top = (in_double g v n indices shape d 0 from most stay).3

    abbrev TopStays : Type 0
    TopStays = (s : ℕ) × (s < from) × (s < pointers_of g) × (slice_index (entries_at v Double (double_block g v n d)) s ≢ 0)

    top_stays_there : TopStays
    top_stays_there = let r = in_double g v n indices shape d 0 from most stay in (r.0, r.2, (let low : r.0 < from = r.2 in let e : r.0 < pointers_of g = omega arith in e), r.4)

    top_whole : is_whole (w.inodes n) ≡ true
    top_whole = ap is_whole (ap (λ (o : ℕ → _). o n) cut.inodes) ∙ shape.inode

    top_shape : HasShape g w n top_rest
    top_shape = double_cut g v w n indices shape d from top cut top_stays_there view top_whole

    top_stays : (form : Form) (m : ℕ) → has (positions_of g n top_rest) (numbered n form m) ≡ true → block_at g w (numbered n form m) ≡ block_at g v (numbered n form m)
    top_stays form m h = block_stays g v w n indices shape top_taken (double_unlinks g v w n indices shape d from top cut top_stays_there view) (double_leaves g v w n indices shape d from top cut top_stays_there view) view top_whole (double_spots g v w n indices shape d from top cut top_stays_there view) form m h

    top_kept : (form : Form) (m : ℕ) → has (positions_of g n top_rest) (numbered n form m) ≡ true → gone g top_taken form m ≡ false
    top_kept form m h = kept_where g v w n indices shape top_taken (double_unlinks g v w n indices shape d from top cut top_stays_there view) (double_leaves g v w n indices shape d from top cut top_stays_there view) view top_whole (double_spots g v w n indices shape d from top cut top_stays_there view) form m h

    top_gone : (form : Form) (m : ℕ) → has (positions_of g n indices) (numbered n form m) ≡ true → has (positions_of g n top_rest) (numbered n form m) ≡ false → gone g top_taken form m ≡ true
    top_gone form m h none = gone_where g v w n indices shape top_taken (double_unlinks g v w n indices shape d from top cut top_stays_there view) (double_leaves g v w n indices shape d from top cut top_stays_there view) view top_whole (double_spots g v w n indices shape d from top cut top_stays_there view) form m h none

    at_top : (s : ℕ) → s < pointers_of g → slice_index (entries_at v Double (double_block g v n d)) s ≡ indirect_block g v n (number_under g Double d s)
    at_top s low = indirect_pointer g v n indices shape d top s low

    -- an indirect node that is gone, with what hangs under it
    inner_dropped : (l x : ℕ) → gone_indirect g top_taken l ≡ true → indirect_block g v n l ≢ 0 → in_indirect v (indirect_block g v n l) x ≡ true → w.blocks x ≡ None
    inner_dropped l x lost there under =
        let within = and_parts (leb (number_under g Double d from) l) (ltb l (number_under g Double d (pointers_of g))) (sym (gone_indirect-double_places g positive_k d from (pointers_of g) l (omega arith)) ∙ lost) in
        let low : number_under g Double d from ≤ l = leb-true (number_under g Double d from) l within.0 in
        let high : l < number_under g Double d (pointers_of g) = ltb-true l (number_under g Double d (pointers_of g)) within.1 in
        let s : ℕ = l - number_under g Double d 0 in
        let is : number_under g Double d s ≡ l = omega arith in
        let s_low : s < pointers_of g = omega arith in
        let pointer : slice_index (entries_at v Double (double_block g v n d)) s ≡ indirect_block g v n l = at_top s s_low ∙ ap (indirect_block g v n) is in
        cut.dropped s x (omega arith) s_low (λ none. there (sym pointer ∙ none)) (ap (λ (c : ℕ). in_indirect v c x) pointer ∙ under)

    top_dropped : (form : Form) (m : ℕ) → block_at g v (numbered n form m) ≢ 0 → gone g top_taken form m ≡ true → w.blocks (block_at g v (numbered n form m)) ≡ None
    top_dropped Double m there lost = absurd (let e : false ≡ true = lost in cc)
    top_dropped Indirect l there lost = inner_dropped l (indirect_block g v n l) lost there (tree_self g v n indices shape Indirect (indirect_block g v n l))
    top_dropped Plain x there lost = by (ltb x g.direct) refl lost
      where
        or_false : (t : Bool) → (t || false) ≡ true → t ≡ true
        or_false true h = refl
        or_false false h = h

        by : (t : Bool) → ltb x g.direct ≡ t → cond t false (gone_indirect g top_taken ((x - g.direct) / pointers_of g) || false) ≡ true → w.blocks (data_block g v n x) ≡ None
        by true e h = absurd (let f : false ≡ true = h in cc)
        by false e h =
            let past : g.direct ≤ x = ltb-false x g.direct e in
            let row : ℕ = (x - g.direct) / pointers_of g in
            let place : ℕ = (x - g.direct) % pointers_of g in
            let above = data_above g v n indices shape x past there in
            let is : number_under g Indirect row place ≡ x = div_mod g v n indices shape g.direct x (pointers_of g) positive_k past in
            inner_dropped row (data_block g v n x) (or_false _ h) above
            (ap (λ (m : ℕ). in_indirect v (indirect_block g v n row) (data_block g v n m)) (sym is) ∙ tree_data g v n indices shape row place (mod_below (x - g.direct) (pointers_of g) positive_k) above)

    top_trim : Trims g v w n indices top_rest
    top_trim = record {
      shape = top_shape;
      head = same_head cut.inodes;
      inodes = λ m away. ap (λ (o : ℕ → _). o m) cut.inodes;
      stays = top_stays;
      bytes = λ i member.
          let h = position_of g w n top_rest top_shape Plain i i member (eq-eqb i i refl) in
          let there : data_block g v n i ≢ 0 = λ none. position_there g w n top_rest top_shape Plain i h (top_stays Plain i h ∙ none) in
          double_untouched g v w n indices shape d from top cut top_stays_there view Plain i (top_kept Plain i h) there
          (λ same. plain_double (ap (λ (r : Position). r.form) (one_place g v n indices shape Plain Double i d there same)));
      dropped = λ form m h none. top_dropped form m (position_there g v n indices shape form m h) (top_gone form m h none);
      others = λ b far. elim (cases_eq b 0) [
        | inl none ↦ ap w.blocks none ∙ unused_zero g w view ∙ sym (ap v.blocks none ∙ unused_zero g v shape.view)
        | inr some_b ↦ cut.kept b (λ same. far Double d top (sym same)) (λ s low high there_s. is_false (in_indirect v (slice_index (entries_at v Double (double_block g v n d)) s) b) (λ under.
            elim (under_pointer g v n indices shape d top s b high there_s under) [
              | inl is ↦ far Indirect (number_under g Double d s) (λ none. some_b (is ∙ none)) (sym is)
              | inr r ↦ far Plain (number_under g Indirect (number_under g Double d s) r.0) (λ none. some_b (sym r.2 ∙ none)) r.2
            ]))
      ];
    }
      where
        plain_double : Plain ≢ Double
        plain_double e = cc

  -- ---- by ranges

  pub entries_trims : (from : ℕ) → CutEntries g v w n from (entries_of g) → Trims g v w n indices (before (first_in_entry g from) indices)
  entries_trims from cut = subst (Trims g v w n indices) (left-entry_places g v n indices shape from) (entries_trim from cut)

  pub node_trims : (j from : ℕ) → from ≤ pointers_of g → HasBetween indices (number_under g Indirect j 0) (number_under g Indirect j from) → CutPlaces v w Indirect n (indirect_block g v n j) from (pointers_of g)
      → Trims g v w n indices (outside (number_under g Indirect j from) (number_under g Indirect j (pointers_of g)) indices)
  node_trims j from most stay cut = subst (Trims g v w n indices)
      (λ i. filter (λ x. not (gone-indirect_places g (some_pointers_fit g shape.geometry) j from (pointers_of g) x (omega arith) i)) indices) (node_trim j from most stay cut)

  pub top_trims : (d from : ℕ) → from ≤ pointers_of g → HasBetween indices (number_under g Indirect (number_under g Double d 0) 0) (number_under g Indirect (number_under g Double d from) 0) → CutPlaces v w Double n (double_block g v n d) from (pointers_of g)
      → Trims g v w n indices (outside (number_under g Indirect (number_under g Double d from) 0) (number_under g Indirect (number_under g Double d (pointers_of g)) 0) indices)
  top_trims d from most stay cut = subst (Trims g v w n indices)
      (λ i. filter (λ x. not (gone-double_places g (some_pointers_fit g shape.geometry) d from (pointers_of g) x (omega arith) i)) indices) (top_trim d from most stay cut)

-- Files of a tree that get another size.
use Rattle.std.proofs.Common.{◌≡◌, ◌≢◌, ℕ, ◌+◌, ◌-◌, ◌*◌, ◌/◌, ◌%◌, ◌<◌, ◌≤◌, ◌==◌, ◌&&◌, ◌||◌, not, nat_le, nat_lt, Bool, true, false, cond, List, [], ◌∷◌, length, map, filter, ⊎_elim, inl, inr, refl, sym, ap, ◌∙◌, subst, arith, Some}
use Rattle.std.proofs.lemmas.Bool.{cases_lt, and_parts, and_from, and_left, cond-false, lt-ltb, le-ltb, le-leb, lt-leb, not-true, not_from_false, ne_eqb, eqb-false}
use Rattle.std.proofs.Math.Nat.{div-lt_iff_lt-mul, le-div_iff_mul-le}
use Rattle.edge_base.specs.declared.geometry.Request.{Request}
use Rattle.edge_base.specs.declared.node.Head.{Head}
use Rattle.edge_base.specs.layout.Places.{IsGeometry, max_blocks_of, max_size_of}
use Rattle.edge_base.specs.tree.Nodes.{file, indices_of}
use Rattle.edge_base.specs.tree.NodeRules.{IsFile}
use Rattle.edge_base.specs.tree.Positions.{data_at}
use Rattle.edge_base.specs.tree.Slots.{pieces}
use Rattle.edge_store.specs.Changed.{has_index, NodeChanged, NodeDirtied}
use Rattle.edge_store.specs.Effects.{HeadSet}
use Rattle.edge_store.specs.Placed.{data_block, HasPlaces, IsOnce, HoldsNode}
use Rattle.edge_store.specs.View.{View, IsView, head_of_inode, is_whole}
use Rattle.edge_store.proofs.ChangedLaws.{same_truth, changed_same, dirtied_same, data_there}
use Rattle.edge_store.proofs.NodeEffects.{index_of, head_stays, stays_changed, stays_dirty}
use Rattle.edge_moves.proofs.SlotLaws.{entries_fit, some_pointers_fit}
use Rattle.edge_shape.specs.Shape.{HasShape, before}
use Rattle.edge_file.specs.Bytes.{size_in, size_at}
use Rattle.edge_file.specs.Shortened.{has_rest, block_of_rest, IsShortened}
use Rattle.edge_file.specs.Writing.{SameBlocks, sized}
use Rattle.edge_file.proofs.FileLaws.{file_shortened, file_lengthened}
use Rattle.edge_file.proofs.StepLaws.{some_bytes}
use Rattle.edge_file.proofs.TrimChangeLaws.{trimmed_changed, trimmed_dirtied}
use Rattle.edge_model.specs.Files.{is_marked, flags_for, resized, cut_block, past_end, cut}
use Rattle.edge_model.specs.Rules.{IsTree}
use Rattle.edge_model.specs.Tree.{Tree, links_of, with_node}
use Rattle.edge_model.proofs.Members.{IsAmong, among_filter, from_filter}
use Rattle.edge_model.proofs.SlotLaws.{more_pieces, is_in_marked, is_marked_in}
use Rattle.edge_image.specs.Opens.{StandsFor, HasHead, head_of_node}
use Rattle.edge_steps.specs.Listed.{IsListed}
use Rattle.edge_steps.proofs.ShrinkLaws.{in_test}
use Rattle.edge_stands.specs.Dirtied.{TreeDirtied}
use Rattle.edge_stands.specs.Stands.{head_with}
use Rattle.edge_stands.proofs.NodeLaws.{with_links_of, listed}
use Rattle.edge_stands.proofs.StandingLaws.{each_shape}
use Rattle.edge_changes.specs.Edited.{IsEdited, HasHeadOf}
use Rattle.edge_changes.proofs.ByteLaws.{resized_bytes, resized_length, longer_bytes, absent_zeros}
use Rattle.edge_changes.proofs.EditLaws.{text_of, flags_of, file_of, had_by, file_stands, file_dirtied, file_lists}
use Rattle.edge_changes.proofs.FileLaws.{told_head}
use Rattle.edge_changes.proofs.MemberLaws.{among_index}

-- ---- lists

index_filter : (test : ℕ → Bool) (xs : List ℕ) (i : ℕ) → has_index (filter test xs) i ≡ (has_index xs i && test i)
index_filter test xs i = same_truth (has_index (filter test xs) i) (has_index xs i && test i)
    (λ h. let k = from_filter test xs i (listed (filter test xs) i h) in and_from (has_index xs i) (test i) (among_index xs i k.0) k.1)
    (λ h. let k = and_parts (has_index xs i) (test i) h in among_index (filter test xs) i (among_filter test xs i (listed xs i k.0) k.1))

filter_none : (test : ℕ → Bool) (xs : List ℕ) → ((i : ℕ) → IsAmong xs i → test i ≡ false) → filter test xs ≡ []
filter_none test [] none = refl
filter_none test (x ∷ xs) none = cond-false (test x) (x ∷ filter test xs) (filter test xs) (none x (inl refl)) ∙ filter_none test xs (λ i h. none i (inr h))

-- what is left of a file's data blocks: x whether it had one, w whether it is written, p whether it is past the end
left_by : (w x p q : Bool) → (w ≡ true → (x ≡ true) × (q ≡ true)) → p ≡ not q → (w || (x && not (x && p))) ≡ (x && q)
left_by true x p q was is = let k = was refl in sym (and_from x q k.0 k.1)
left_by false true p true was is = ap not is
left_by false true p false was is = ap not is
left_by false false p q was is = refl

-- ---- what a new size writes and removes

module _ (g : Request) (v : View) (t : Tree) (n size : ℕ) (geometry : IsGeometry g) (stands : StandsFor g v t) (there : t n ≡ Some (file_of t n)) (rules : IsFile g (text_of t n) (flags_of t n)) where
  abbrev text : List ℕ
  text = text_of t n

  abbrev flags : List Bool
  flags = flags_of t n

  abbrev had : List ℕ
  had = had_by g t n

  abbrev ends : ℕ
  ends = pieces g.block_size size

  places : HasPlaces g v n had
  places = (stands.nodes n (file_of t n) there).places

  pub size_was : size_at v n ≡ length text
  size_was = ap (λ o. size_in (head_of_inode o)) (stands.heads n (file_of t n) there).inode

  some_size : 0 < g.block_size
  some_size = some_bytes g (some_pointers_fit g geometry)

  -- a data block that is marked is there
  cut_index : (i : ℕ) → i < max_blocks_of g → is_marked flags i ≡ not (data_block g v n i == 0)
  cut_index i in_range = same_truth (is_marked flags i) (not (data_block g v n i == 0))
      (λ set.
      let some = (places.places (data_at n i) refl in_range).1 (data_there g n had i (among_index had i (is_in_marked flags i set))) in
      not_from_false (data_block g v n i == 0) (ne_eqb (data_block g v n i) 0 some))
      (λ h.
      let some : data_block g v n i ≢ 0 = λ none. eqb-false (data_block g v n i) 0 (not-true (data_block g v n i == 0) h) none in
      (is_marked_in flags i (listed had i (index_of g n had i ((places.places (data_at n i) refl in_range).0 some)))).1)

  rest_index : size < length text → size / g.block_size < max_blocks_of g
  rest_index low = (div-lt_iff_lt-mul some_size).1 (let fits = rules.size in let e : size < max_blocks_of g * g.block_size = omega arith in e)

  -- shorter, the block that is cut in two is written
  pub same_rest : size < length text → cut_block g text flags size ≡ block_of_rest g v n size
  same_rest low = λ i. cond (tested i) (size / g.block_size ∷ []) []
    where
      tested : (nat_lt size (length text) && not (size % g.block_size == 0) && is_marked flags (size / g.block_size)) ≡ has_rest g v n size
      tested = λ i. lt-ltb size (length text) low i && not (size % g.block_size == 0) && cut_index (size / g.block_size) (rest_index low) i

  -- no shorter, nothing is written or removed
  pub none_cut : length text ≤ size → cut_block g text flags size ≡ []
  none_cut long = cond-false (nat_lt size (length text) && not (size % g.block_size == 0) && is_marked flags (size / g.block_size)) (size / g.block_size ∷ []) []
      (and_left (nat_lt size (length text) && not (size % g.block_size == 0)) (is_marked flags (size / g.block_size))
      (and_left (nat_lt size (length text)) (not (size % g.block_size == 0)) (le-ltb size (length text) long)))

  pub none_past : length text ≤ size → past_end g flags size ≡ []
  none_past long = filter_none (λ i. nat_le ends i) had (λ i h.
      let low = (is_marked_in flags i h).0 in
      let many = rules.flags in
      lt-leb ends i (more_pieces g.block_size (length text) size i long (omega arith)))

-- ---- a file that gets a size

module _ (g : Request) (c v w : View) (t : Tree) (n size : ℕ) (geometry : IsGeometry g) (view : IsView g v) (stands : StandsFor g v t) (tree : IsTree g t)
    (there : t n ≡ Some (file_of t n)) (rules : IsFile g (text_of t n) (flags_of t n)) (after : IsTree g (cut g t n size).tree)
    (most : size ≤ max_size_of g) (listed_so : IsListed g t (cut g t n size)) (has_head : HasHeadOf v w n (λ head. sized head size)) where
  abbrev now_text : List ℕ
  now_text = resized (text_of t n) size

  abbrev now_flags : List Bool
  now_flags = flags_for g size (is_marked (flags_of t n))

  abbrev has_now : List ℕ
  has_now = indices_of g (file now_text now_flags)

  whole : is_whole (v.inodes n) ≡ true
  whole = ap is_whole (stands.heads n (file_of t n) there).inode

  head_now : HasHead w n (head_with g (links_of g t n) (file now_text now_flags))
  head_now = told_head g v w t n size (λ head. sized head size) now_text now_flags stands there (resized_length (text_of t n) size) refl has_head

  lists_now : (i : ℕ) → has_index has_now i ≡ (has_index (cut_block g (text_of t n) (flags_of t n) size) i || (has_index (had_by g t n) i && not (has_index (past_end g (flags_of t n) size) i)))
  lists_now = file_lists g t n now_text now_flags (cut_block g (text_of t n) (flags_of t n) size) (past_end g (flags_of t n) size) (cut g t n size).reserve tree after there listed_so

  -- ---- shorter

  module _ (low : size < length (text_of t n)) (short : IsShortened g c v w n size (had_by g t n)) where
    -- the data block that is written is left
    written_left : (i : ℕ) → has_index (cut_block g (text_of t n) (flags_of t n) size) i ≡ true → (has_index (had_by g t n) i ≡ true) × (nat_lt i (pieces g.block_size size) ≡ true)
    written_left i h =
        let r = in_test (nat_lt size (length (text_of t n)) && not (size % g.block_size == 0) && is_marked (flags_of t n) (size / g.block_size)) (size / g.block_size) i (listed (cut_block g (text_of t n) (flags_of t n) size) i h) in
        let two = and_parts (nat_lt size (length (text_of t n)) && not (size % g.block_size == 0)) (is_marked (flags_of t n) (size / g.block_size)) r.0 in
        let uneven = eqb-false (size % g.block_size) 0 (not-true (size % g.block_size == 0) (and_parts (nat_lt size (length (text_of t n))) (not (size % g.block_size == 0)) two.0).1) in
        let inside : size / g.block_size + 1 ≤ (size + (g.block_size - 1)) / g.block_size = (le-div_iff_mul-le (some_size g v t n size geometry stands there rules)).1 (let odd : size % g.block_size ≡ 0 → ⊥ = uneven in omega arith) in
        let index = r.1 in
        (among_index (had_by g t n) i (is_in_marked (flags_of t n) i (ap (is_marked (flags_of t n)) index ∙ two.1)), lt-ltb i (pieces g.block_size size) (omega arith))

    past_or_left : (i : ℕ) → nat_le (pieces g.block_size size) i ≡ not (nat_lt i (pieces g.block_size size))
    past_or_left i = ⊎_elim
        (λ (below : i < (pieces g.block_size size)). lt-leb (pieces g.block_size size) i below ∙ ap not (sym (lt-ltb i (pieces g.block_size size) below)))
        (λ (past : (pieces g.block_size size) ≤ i). le-leb (pieces g.block_size size) i past ∙ ap not (sym (le-ltb i (pieces g.block_size size) past)))
        (cases_lt i (pieces g.block_size size))

    same_left : (i : ℕ) → has_index (before (pieces g.block_size size) (had_by g t n)) i ≡ has_index has_now i
    same_left i =
        index_filter (λ x. nat_lt x (pieces g.block_size size)) (had_by g t n) i
        ∙ sym (left_by (has_index (cut_block g (text_of t n) (flags_of t n) size) i) (has_index (had_by g t n) i) (nat_le (pieces g.block_size size) i) (nat_lt i (pieces g.block_size size)) (written_left i) (past_or_left i))
        ∙ (λ k. has_index (cut_block g (text_of t n) (flags_of t n) size) i || (has_index (had_by g t n) i && not (sym (index_filter (λ x. nat_le (pieces g.block_size size) x) (had_by g t n) i) k)))
        ∙ sym (lists_now i)

    holds_short : HoldsNode g w n (file now_text now_flags)
    holds_short =
        file_shortened g v n (text_of t n) (flags_of t n) (entries_fit g geometry) (some_pointers_fit g geometry) (some_size g v t n size geometry stands there rules) view whole (stands.nodes n (file_of t n) there)
        (absent_zeros g (text_of t n) (flags_of t n) rules) c w size short now_text now_flags (resized_bytes (text_of t n) size) same_left

    shape : HasShape g v n (had_by g t n)
    shape = each_shape g v t (links_of g t) view ((with_links_of g v t).0 stands) n (file_of t n) there geometry

    changed_short : NodeChanged g v w n (had_by g t n) has_now
    changed_short = changed_same g v w n (had_by g t n) (before (pieces g.block_size size) (had_by g t n)) (had_by g t n) has_now (λ i. refl) same_left (trimmed_changed g c v w n (pieces g.block_size size) (block_of_rest g v n size) (had_by g t n) shape short.trimmed)

    dirtied_short : NodeDirtied g c v w n (had_by g t n) has_now (block_of_rest g v n size) (past_end g (flags_of t n) size)
    dirtied_short = dirtied_same g c v w n (had_by g t n) (before (pieces g.block_size size) (had_by g t n)) (block_of_rest g v n size) (past_end g (flags_of t n) size) (had_by g t n) has_now (block_of_rest g v n size) (past_end g (flags_of t n) size)
        (λ i. refl) same_left (λ i. refl) (λ i. refl) (trimmed_dirtied g c v w n (pieces g.block_size size) (block_of_rest g v n size) (had_by g t n) shape short.trimmed)

    shorter : IsEdited g c v w t (cut g t n size)
    shorter = record {
      stands = file_stands g c v w t n now_text now_flags (block_of_rest g v n size) (past_end g (flags_of t n) size) view stands there (record { head = head_now; holds = holds_short }) changed_short dirtied_short;
      dirtied = subst (λ (ws : List ℕ). TreeDirtied g c v w t (with_node t n (Some (file now_text now_flags))) (map (data_at n) ws) (map (data_at n) (past_end g (flags_of t n) size))) (sym (same_rest g v t n size geometry stands there rules low))
          (file_dirtied g c v w t n now_text now_flags (block_of_rest g v n size) (past_end g (flags_of t n) size) view stands there (record { head = head_now; holds = holds_short }) changed_short dirtied_short);
    }

  -- ---- no shorter

  module _ (long : length (text_of t n) ≤ size) (same : SameBlocks v w n) (set : HeadSet v w n (record (head_of_node g t n (file_of t n)) { size = size })) where
    same_now : (i : ℕ) → has_index (had_by g t n) i ≡ has_index has_now i
    same_now i = sym (lists_now i ∙ (λ k. has_index (none_cut g v t n size geometry stands there rules long k) i || (has_index (had_by g t n) i && not (has_index (none_past g v t n size geometry stands there rules long k) i))) ∙ and_true (has_index (had_by g t n) i))
      where
        and_true : (b : Bool) → (b && true) ≡ b
        and_true true = refl
        and_true false = refl

    once : IsOnce g v n (had_by g t n)
    once = (each_shape g v t (links_of g t) view ((with_links_of g v t).0 stands) n (file_of t n) there geometry).once

    changed_long : NodeChanged g v w n (had_by g t n) has_now
    changed_long = changed_same g v w n (had_by g t n) (had_by g t n) (had_by g t n) has_now (λ i. refl) same_now (stays_changed g v w n (had_by g t n) (head_stays g v w n _ (had_by g t n) (places g v t n size geometry stands there rules) once set))

    dirtied_long : NodeDirtied g c v w n (had_by g t n) has_now [] []
    dirtied_long = dirtied_same g c v w n (had_by g t n) (had_by g t n) [] [] (had_by g t n) has_now [] [] (λ i. refl) same_now (λ i. refl) (λ i. refl) (stays_dirty g v w n (had_by g t n) (head_stays g v w n _ (had_by g t n) (places g v t n size geometry stands there rules) once set) c)

    holds_long : HoldsNode g w n (file now_text now_flags)
    holds_long = file_lengthened g c v w n (text_of t n) now_text (flags_of t n) now_flags (stands.nodes n (file_of t n) there) same (longer_bytes (text_of t n) size long) same_now

    longer : IsEdited g c v w t (cut g t n size)
    longer = record {
      stands = file_stands g c v w t n now_text now_flags [] [] view stands there (record { head = head_now; holds = holds_long }) changed_long dirtied_long;
      dirtied =
          subst (λ (rs : List ℕ). TreeDirtied g c v w t (with_node t n (Some (file now_text now_flags))) (map (data_at n) (cut_block g (text_of t n) (flags_of t n) size)) (map (data_at n) rs)) (sym (none_past g v t n size geometry stands there rules long))
          (subst (λ (ws : List ℕ). TreeDirtied g c v w t (with_node t n (Some (file now_text now_flags))) (map (data_at n) ws) []) (sym (none_cut g v t n size geometry stands there rules long))
          (file_dirtied g c v w t n now_text now_flags [] [] view stands there (record { head = head_now; holds = holds_long }) changed_long dirtied_long));
    }

  pub sized_edited : (size < size_at v n → IsShortened g c v w n size (had_by g t n)) → (size_at v n ≤ size → SameBlocks v w n)
      → ((head : Head) → head_of_inode (v.inodes n) ≡ Some head → head.size ≤ size → HeadSet v w n (record head { size = size })) → IsEdited g c v w t (cut g t n size)
  sized_edited short same set = ⊎_elim
      (λ (low : size < length (text_of t n)). shorter low (short (subst (λ (k : ℕ). size < k) (sym (size_was g v t n size geometry stands there rules)) low)))
      (λ (long : length (text_of t n) ≤ size).
      longer long (same (subst (λ (k : ℕ). k ≤ size) (sym (size_was g v t n size geometry stands there rules)) long)) (set (head_of_node g t n (file_of t n)) (ap head_of_inode (stands.heads n (file_of t n) there).inode) long))
      (cases_lt size (length (text_of t n)))

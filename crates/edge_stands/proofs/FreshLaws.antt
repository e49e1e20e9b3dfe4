-- The fresh positions that are counted over two views are those of the state that they stand for.
use Rattle.std.proofs.Common.{◌≡◌, ◌↔◌, ℕ, ◌+◌, ◌-◌, ◌*◌, ◌<◌, ◌≤◌, ◌==◌, ◌&&◌, ◌||◌, not, Bool, true, false, cond, List, [], ◌∷◌, length, filter, is_some, inl, inr, ⊎_elim, Option, Some, None, Ok, refl, sym, ap, ◌∙◌, subst, arith, eq-eqb}
use Rattle.std.specs.List.{range_with_len}
use Rattle.std.proofs.lemmas.Bool.{false≢true, cases_eq, cases_lt, ne_eqb}
use Rattle.edge_base.specs.declared.geometry.Request.{Request}
use Rattle.edge_base.specs.layout.Places.{IsGeometry, entries_of, pointers_of, max_blocks_of}
use Rattle.edge_base.specs.tree.Positions.{Position, data_at, has, count_of, chain, positions_of, positions_of_form, touched}
use Rattle.edge_base.specs.tree.Slots.{pieces, slot_blocks}
use Rattle.edge_base.specs.tree.Nodes.{Node, file, directory, indices_of}
use Rattle.edge_base.specs.tree.NodeRules.{IsNode}
use Rattle.edge_store.specs.Fresh.{is_dirty, has_after, is_there_after, fresh_count}
use Rattle.edge_store.specs.View.{View, is_used, is_new, entries_of_inode, free_now}
use Rattle.edge_store.specs.Placed.{block_at, data_block}
use Rattle.edge_store.proofs.DigitLaws.{table_below, indirect_below}
use Rattle.edge_store.proofs.RoomLaws.{inside}
use Rattle.edge_model.specs.Asked.{Asked}
use Rattle.edge_model.specs.Asking.{IsInLimits}
use Rattle.edge_model.specs.Laws.{HasNodes, IsDirtyUpwards}
use Rattle.edge_model.specs.Rules.{IsTree}
use Rattle.edge_model.specs.State.{State, Plan, Edit, fits}
use Rattle.edge_model.specs.Step.{plan}
use Rattle.edge_model.specs.Tree.{Tree, numbers_of, tree_positions}
use Rattle.edge_model.proofs.Members.{IsAmong, among, is_had, among_filter, from_filter, among_flat_map, from_flat_map, among_range, from_range}
use Rattle.edge_model.proofs.Ways.{blocks_of, is_on, is_there}
use Rattle.edge_model.proofs.SlotLaws.{is_marked_in, piece_starts}
use Rattle.edge_model.proofs.DirtyLaws.{block_there, there_by_block}
use Rattle.edge_model.specs.Bytes.{IsOfBytes}
use Rattle.edge_steps.specs.Fresh.{fresh_positions_of}
use Rattle.edge_steps.specs.Listed.{IsListed}
use Rattle.edge_steps.specs.Rules.{HasTrees}
use Rattle.edge_steps.proofs.ChainLaws.{IsAbove, single, double, is_above, chain_number, indirect_of}
use Rattle.edge_steps.proofs.ListPlans.{change_listed}
use Rattle.edge_steps.proofs.PlanLaws.{tree_then, some_bytes}
use Rattle.edge_steps.proofs.TreeLaws.{each_sound}
use Rattle.edge_stands.specs.Session.{StandForState}
use Rattle.edge_stands.proofs.NodeLaws.{is_of, of_tree}
use Rattle.edge_store.proofs.NodeEffects.{no_blocks}
use Rattle.edge_stands.proofs.BecomeLaws.{in_numbers}
use Rattle.edge_stands.proofs.SpaceLaws.{fits_free}

-- ---- indices

abbrev doubles_of : Request → ℕ
doubles_of g = entries_of g - g.direct - g.indirect

above_low : (g : Request) (x i : ℕ) (p : Position) → i < max_blocks_of g → IsAbove g x i p → p.index < positions_of_form g p.form
above_low g x i p low (single from e) = subst (λ (q : Position). q.index < positions_of_form g q.form) (sym e) (indirect_below g.direct g.indirect (doubles_of g) (pointers_of g) i low from)
above_low g x i p low (double from more e) = subst (λ (q : Position). q.index < positions_of_form g q.form) (sym e)
    (table_below g.indirect (doubles_of g) (pointers_of g) (indirect_of g i) (indirect_below g.direct g.indirect (doubles_of g) (pointers_of g) i low from) more)

-- a position on the chain of a data block is one that a node may have
chain_low : (g : Request) (x i : ℕ) (p : Position) → i < max_blocks_of g → IsAmong (chain g x i) p → p.index < positions_of_form g p.form
chain_low g x i p low (inl e) = subst (λ (q : Position). q.index < positions_of_form g q.form) (sym e) low
chain_low g x i p low (inr h) = above_low g x i p low (is_above g x i p h)

-- the blocks of a node are no more than it may have
file_blocks : (g : Request) (n most : ℕ) → 0 < g.block_size → n ≤ most * g.block_size → pieces g.block_size n ≤ most
file_blocks g n most some h = ⊎_elim
    (λ (more : most < pieces g.block_size n). absurd (let start = piece_starts g.block_size n most more in omega arith))
    (λ k. k)
    (cases_lt most (pieces g.block_size n))

node_low : (g : Request) (node : Node) (i : ℕ) → 0 < g.block_size → IsNode g node → IsAmong (indices_of g node) i → i < max_blocks_of g
node_low g (file content present) i some rules h =
    let m = is_marked_in present i h in
    let flags = rules.flags in
    let fits = file_blocks g (length content) (max_blocks_of g) some rules.size in
    omega arith
node_low g (directory slots parent) i some rules h =
    let range = from_range 0 (slot_blocks g slots) i h in
    let size = rules.size in
    omega arith

tree_low : (g : Request) (t : Tree) (n i : ℕ) (o : Option Node) → 0 < g.block_size → HasNodes g t → t n ≡ o → IsAmong (blocks_of g o) i → i < max_blocks_of g
tree_low g t n i None some rules is h = absurd h
tree_low g t n i (Some node) some rules is h = node_low g node i some (rules n node is) h

-- ---- what is there

module _ (g : Request) (c w : View) (s : State) (e : Edit) (st : StandForState g c w s) (some : 0 < g.block_size) (rules : HasNodes g e.tree) (lists : IsListed g s.tree e) where
  same_truth : (a b : Bool) → (a ≡ true → b ≡ true) → (b ≡ true → a ≡ true) → a ≡ b
  same_truth true b one two = sym (one refl)
  same_truth false true one two = two refl
  same_truth false false one two = refl

  number_of : (n : ℕ) (node : Node) → s.tree n ≡ Some node → IsAmong (numbers_of g) n
  number_of n node is = in_numbers g n (st.working_is_view.numbers n (ap (λ (o : Option _). is_some o) (st.tree.heads n node is).inode))

  -- what the tree has at a position the view has, and nothing else
  not_there : (p : Position) (o : Option Node) → s.tree p.number ≡ o → p.index < positions_of_form g p.form → has (tree_positions g s.tree) p ≡ false → block_at g w p ≡ 0
  not_there p None is low out = no_blocks g w p.number 0 (ap entries_of_inode ((st.tree.numbers p.number).0 is)) p refl
  not_there p (Some node) is low out = ⊎_elim
      (λ (none : block_at g w p ≡ 0). none)
      (λ (there : block_at g w p ≡ 0 → ⊥). absurd (false≢true (sym out ∙ of_tree g s.tree p.number node p (number_of p.number node is) is (((st.tree.nodes p.number node is).places.places p refl low).0 there))))
      (cases_eq (block_at g w p) 0)

  has_block : (n i : ℕ) → i < max_blocks_of g → not (data_block g w n i == 0) ≡ has (tree_positions g s.tree) (data_at n i)
  has_block n i low = by_tree (has (tree_positions g s.tree) (data_at n i)) refl
    where
      by_tree : (b : Bool) → has (tree_positions g s.tree) (data_at n i) ≡ b → not (data_block g w n i == 0) ≡ b
      by_tree true there =
          let o = is_of g s.tree (data_at n i) there in
          let some_there = ((st.tree.nodes n o.node o.there).places.places (data_at n i) refl low).1 o.position in
          ap not (ne_eqb (data_block g w n i) 0 some_there)
      by_tree false out = ap not (eq-eqb (data_block g w n i) 0 (not_there (data_at n i) (s.tree n) refl low out))

  after_is : (n i : ℕ) → i < max_blocks_of g → has_after g c w e.writes e.removes n i ≡ has (tree_positions g e.tree) (data_at n i)
  after_is n i low = ap (λ b. has e.writes (data_at n i) || (b && not (has e.removes (data_at n i)))) (has_block n i low) ∙ sym (lists n i)

  there_is : (p : Position) → is_there_after g c w e.writes e.removes p ≡ has (tree_positions g e.tree) p
  there_is p = same_truth (is_there_after g c w e.writes e.removes p) (has (tree_positions g e.tree) p)
      (λ after.
      let r = from_flat_map (chain g p.number) (filter (has_after g c w e.writes e.removes p.number) (range_with_len 0 (max_blocks_of g))) p (among (positions_of g p.number (filter (has_after g c w e.writes e.removes p.number) (range_with_len 0 (max_blocks_of g)))) p after) in
      let kept = from_filter (has_after g c w e.writes e.removes p.number) (range_with_len 0 (max_blocks_of g)) r.0 r.1 in
      let low = from_range 0 (max_blocks_of g) r.0 kept.0 in
      let b = block_there g e.tree p.number r.0 (sym (after_is p.number r.0 (omega arith)) ∙ kept.1) in
      is_had (tree_positions g e.tree) p (is_there g e.tree p (record { number = p.number; index = r.0; is_number = b.0; is_block = b.1; on_chain = r.2 })))
      (λ now.
      let on = is_on g e.tree p (among (tree_positions g e.tree) p now) in
      let same : p.number ≡ on.number = chain_number g on.number on.index p on.on_chain in
      let low = tree_low g e.tree on.number on.index (e.tree on.number) some rules refl on.is_block in
      let after = after_is on.number on.index low ∙ there_by_block g e.tree on.number on.index on.is_number on.is_block in
      subst (λ n. has (positions_of g n (filter (has_after g c w e.writes e.removes n) (range_with_len 0 (max_blocks_of g)))) p ≡ true) (sym same)
      (is_had (positions_of g on.number (filter (has_after g c w e.writes e.removes on.number) (range_with_len 0 (max_blocks_of g)))) p
      (among_flat_map (chain g on.number) (filter (has_after g c w e.writes e.removes on.number) (range_with_len 0 (max_blocks_of g))) on.index p
      (among_filter (has_after g c w e.writes e.removes on.number) (range_with_len 0 (max_blocks_of g)) on.index (among_range 0 (max_blocks_of g) on.index (omega arith) (omega arith)) after) on.on_chain)))

  -- ---- what is dirty

  none_used : is_used w 0 ≡ true → ⊥
  none_used used = let range = inside g 0 (st.working_is_view.allocable 0 used) in absurd (let low = range.0 in omega arith)

  not_new : (b : ℕ) → b ≡ 0 → is_new c w b ≡ false
  not_new b none = ap (is_new c w) none ∙ by_use (is_used w 0) refl
    where
      by_use : (b : Bool) → is_used w 0 ≡ b → (b && not (is_used c 0)) ≡ false
      by_use true used = absurd (none_used used)
      by_use false unused = refl

  dirty_is : (p : Position) → has (tree_positions g e.tree) p ≡ true → is_dirty g c w p ≡ has s.dirty p
  dirty_is p now = by_tree (has (tree_positions g s.tree) p) refl
    where
      low : p.index < positions_of_form g p.form
      low = let on = is_on g e.tree p (among (tree_positions g e.tree) p now) in chain_low g on.number on.index p (tree_low g e.tree on.number on.index (e.tree on.number) some rules refl on.is_block) on.on_chain

      by_tree : (b : Bool) → has (tree_positions g s.tree) p ≡ b → is_dirty g c w p ≡ has s.dirty p
      by_tree true there = sym (st.dirty p ∙ ap (λ b. b && is_new c w (block_at g w p)) there)
      by_tree false out = not_new (block_at g w p) (not_there p (s.tree p.number) refl low out) ∙ sym (st.dirty p ∙ ap (λ b. b && is_new c w (block_at g w p)) out)

  test_is : (p : Position) → (is_there_after g c w e.writes e.removes p && not (is_dirty g c w p)) ≡ (has (tree_positions g e.tree) p && not (has s.dirty p))
  test_is p = ap (λ b. b && not (is_dirty g c w p)) (there_is p) ∙ by_there (has (tree_positions g e.tree) p) refl
    where
      by_there : (b : Bool) → has (tree_positions g e.tree) p ≡ b → (b && not (is_dirty g c w p)) ≡ (b && not (has s.dirty p))
      by_there true now = ap not (dirty_is p now)
      by_there false out = refl

  filter_same : (f h : Position → Bool) (ps : List Position) → ((p : Position) → f p ≡ h p) → filter f ps ≡ filter h ps
  filter_same f h [] same = refl
  filter_same f h (p ∷ ps) same = λ i. cond (same p i) (p ∷ filter_same f h ps same i) (filter_same f h ps same i)

  pub counts_agree : fresh_count g c w e.writes e.removes ≡ count_of (fresh_positions_of g s e)
  unfolding fresh_count
  counts_agree = ap count_of (filter_same (λ p. is_there_after g c w e.writes e.removes p && not (is_dirty g c w p)) (λ p. has (tree_positions g e.tree) p && not (has s.dirty p)) (touched g (λ p. false) e.writes e.removes) test_is)

-- ---- each command

pub fits_counted : (g : Request) (c w : View) (s : State) (command : Asked) (p : Plan) (e : Edit) → IsGeometry g → IsOfBytes command → IsInLimits command → HasTrees g s → IsDirtyUpwards g s → StandForState g c w s → plan g s command ≡ Ok p → p.edit ≡ Some e
    → (fits g s e ≡ true) ↔ (fresh_count g c w e.writes e.removes + e.reserve ≤ free_now g c w)
fits_counted g c w s command p e is bytes limits has upwards st was has_edit =
    let lists = change_listed g s command p e is bytes limits has was has_edit in
    let tree = subst (λ (o : Option Edit). IsTree g (tree_then s.tree o)) has_edit ((each_sound g s command is has bytes).holds p was).tree in
    subst (λ n. (fits g s e ≡ true) ↔ (n + e.reserve ≤ free_now g c w)) (sym (counts_agree g c w s e st (some_bytes g is) tree.nodes lists)) (fits_free g c w s e st upwards)

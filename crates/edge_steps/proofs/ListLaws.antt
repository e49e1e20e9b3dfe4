-- Each change lists blocks that are there afterwards as written, and none of them as removed.
use Rattle.std.proofs.Common.{◌≡◌, ℕ, ◌+◌, ◌-◌, ◌/◌, ◌%◌, ◌<◌, ◌≤◌, ◌==◌, ◌&&◌, ◌||◌, not, Bool, true, false, cond, max, List, [], ◌∷◌, length, nat_le, nat_lt, is_some, ◌⊎◌, inl, inr, ⊎_elim, Option, Some, None, refl, sym, ap, ◌∙◌, subst, arith}
use Rattle.std.specs.List.{range_with_len}
use Rattle.std.proofs.lemmas.Bool.{false≢true, cases_Bool, cases_eq, and_parts, and_from, or_left, or_right, or_cases, leb-true, ltb-true, le-leb, not-true, not_from_false, eqb-false}
use Rattle.std.proofs.Math.Nat.{le-div_iff_mul-le}
use Rattle.edge_base.specs.declared.geometry.Request.{Request}
use Rattle.edge_base.specs.tree.Positions.{Position, data_at, has}
use Rattle.edge_base.specs.tree.Slots.{Entry, Slots, pieces, slots_in_block, slot_blocks}
use Rattle.edge_base.specs.tree.Nodes.{Node, file, directory, marked_from, indices_of}
use Rattle.edge_model.specs.Tree.{Tree, node_at, is_directory, slots_at, tree_positions, with_node, data_positions}
use Rattle.edge_model.specs.Walk.{Found}
use Rattle.edge_model.specs.State.{Edit}
use Rattle.edge_model.specs.Named.{without_slot, cleared, clear_writes, clear_removes, slot_position}
use Rattle.edge_model.specs.Files.{content_of, present_of, is_marked, flags_for, put_at, first_touched, last_touched, blocks_touched, is_touched, written, resized, cut_block, past_end, cut}
use Rattle.edge_model.specs.Names.{unnamed, with_parent}
use Rattle.edge_model.specs.Open.{emptied}
use Rattle.edge_model.specs.Rules.{IsTree}
use Rattle.edge_model.proofs.Members.{IsAmong, among, is_had, among_append, among_range, from_range, from_filter}
use Rattle.edge_model.proofs.Ways.{blocks_of}
use Rattle.edge_model.proofs.SlotLaws.{passes_marked}
use Rattle.edge_model.proofs.DirtyLaws.{IsComplete, IsRemoved, block_there, there_by_block}
use Rattle.edge_steps.specs.Listed.{IsListed}
use Rattle.edge_steps.proofs.SlotLaws.{slot_in, slot_inside}
use Rattle.edge_steps.proofs.CountLaws.{slot_at}
use Rattle.edge_steps.proofs.NodeLaws.{node_set, cleared_set, slots_are, slot_in_directory, directory_is}
use Rattle.edge_steps.proofs.FileLaws.{in_piece}
use Rattle.edge_steps.proofs.ChainLaws.{div_mono}
use Rattle.edge_steps.proofs.ShrinkLaws.{from_map, cut_few, cleared_few, in_test}

pub record Lists (g : Request) (e : Edit) : Type 0 where
  pub written : (p : Position) → IsAmong e.writes p → (n : ℕ) × (i : ℕ) × (p ≡ data_at n i) × IsAmong (blocks_of g (e.tree n)) i
  pub removed : (n i : ℕ) → IsAmong e.removes (data_at n i) → IsAmong (blocks_of g (e.tree n)) i → ⊥

same_truth : (a b : Bool) → (a ≡ true → b ≡ true) → (b ≡ true → a ≡ true) → a ≡ b
same_truth true b one two = sym (one refl)
same_truth false true one two = two refl
same_truth false false one two = refl

some_block : (g : Request) (o : Option Node) (i : ℕ) → IsAmong (blocks_of g o) i → is_some o ≡ true
some_block g None i h = absurd h
some_block g (Some node) i h = refl

-- a block of a node of a tree is there
tree_block : (g : Request) (u : Tree) (n i : ℕ) → IsTree g u → IsAmong (blocks_of g (u n)) i → has (tree_positions g u) (data_at n i) ≡ true
tree_block g u n i tree block =
    let range = tree.in_range n (some_block g (u n) i block) in
    there_by_block g u n i (among_range 2 g.inodes n range.0 range.1) block

pub listed : (g : Request) (t : Tree) (e : Edit) → IsTree g e.tree → IsComplete g t e → IsRemoved g t e → Lists g e → IsListed g t e
listed g t e tree complete removes lists n i = same_truth (has (tree_positions g e.tree) (data_at n i)) (has e.writes (data_at n i) || (has (tree_positions g t) (data_at n i) && not (has e.removes (data_at n i))))
    (λ now.
    let b = block_there g e.tree n i now in
    ⊎_elim
    (λ old. or_right (has e.writes (data_at n i)) (has (tree_positions g t) (data_at n i) && not (has e.removes (data_at n i)))
    (and_from (has (tree_positions g t) (data_at n i)) (not (has e.removes (data_at n i))) (there_by_block g t n i b.0 old)
    (not_from_false (has e.removes (data_at n i)) (⊎_elim (λ gone. absurd (lists.removed n i (among e.removes (data_at n i) gone) b.1)) (λ kept. kept) (cases_Bool (has e.removes (data_at n i)))))))
    (λ w. or_left (has e.writes (data_at n i)) (has (tree_positions g t) (data_at n i) && not (has e.removes (data_at n i))) (is_had e.writes (data_at n i) w))
    (complete n i b.1))
    (λ said. ⊎_elim
    (λ w.
    let k = lists.written (data_at n i) (among e.writes (data_at n i) w) in
    ap (has (tree_positions g e.tree)) k.2 ∙ tree_block g e.tree k.0 k.1 tree k.3)
    (λ old.
    let both = and_parts (has (tree_positions g t) (data_at n i)) (not (has e.removes (data_at n i))) old in
    let b = block_there g t n i both.0 in
    ⊎_elim
    (λ now. there_by_block g e.tree n i b.0 now)
    (λ gone. absurd (false≢true (sym (not-true (has e.removes (data_at n i)) both.1) ∙ is_had e.removes (data_at n i) gone)))
    (removes n i b.1))
    (or_cases (has e.writes (data_at n i)) (has (tree_positions g t) (data_at n i) && not (has e.removes (data_at n i))) said))

-- ---- slots

-- the block of a slot that is filled
pub slot_block : (g : Request) (u : Tree) (d i : ℕ) (e : Entry) → 0 < slots_in_block g → slot_at u d i ≡ Some e → IsAmong (blocks_of g (u d)) (i / slots_in_block g)
slot_block g u d i e some there =
    let is = directory_is u d (slot_in_directory u d i e there) in
    let slots = slots_are u d is.0 is.1 is.2 in
    let low = in_piece (slots_in_block g) (length is.0) i some (slot_inside is.0 i e (ap (λ s. slot_in s i) (sym slots) ∙ there)) in
    subst (λ o. IsAmong (blocks_of g o) (i / slots_in_block g)) (sym is.2) (among_range 0 (slot_blocks g is.0) (i / slots_in_block g) (omega arith) (omega arith))

-- one slot written, and nothing removed
pub one_slot : (g : Request) (e : Edit) (d i : ℕ) (entry : Entry) → 0 < slots_in_block g → e.writes ≡ slot_position g d i ∷ [] → e.removes ≡ [] → slot_at e.tree d i ≡ Some entry → Lists g e
one_slot g e d i entry some writes removes there = record {
  written = λ p w. by_one p (subst (λ ps. IsAmong ps p) writes w);
  removed = λ n k r h. subst (λ ps. IsAmong ps (data_at n k)) removes r;
}
  where
    by_one : (p : Position) → IsAmong (slot_position g d i ∷ []) p → (n : ℕ) × (k : ℕ) × (p ≡ data_at n k) × IsAmong (blocks_of g (e.tree n)) k
    by_one p (inl same) = (d, i / slots_in_block g, same, slot_block g e.tree d i entry some there)
    by_one p (inr none) = absurd none

-- the block of a slot that was cleared, where it is left
pub cleared_written : (g : Request) (u : Tree) (d i : ℕ) (slots : Slots) (p : Position) → ((k : ℕ) → k < slot_blocks g (without_slot slots i) → IsAmong (blocks_of g (u d)) k) → IsAmong (clear_writes g d slots i) p
    → (n : ℕ) × (k : ℕ) × (p ≡ data_at n k) × IsAmong (blocks_of g (u n)) k
cleared_written g u d i slots p blocks w = by_test (nat_lt (i / slots_in_block g) (slot_blocks g (without_slot slots i))) refl w
  where
    by_test : (b : Bool) → nat_lt (i / slots_in_block g) (slot_blocks g (without_slot slots i)) ≡ b → IsAmong (cond b (slot_position g d i ∷ []) []) p → (n : ℕ) × (k : ℕ) × (p ≡ data_at n k) × IsAmong (blocks_of g (u n)) k
    by_test true is (inl same) = (d, i / slots_in_block g, same, blocks (i / slots_in_block g) (ltb-true (i / slots_in_block g) (slot_blocks g (without_slot slots i)) is))
    by_test true is (inr none) = absurd none
    by_test false is none = absurd none

same_data : (n i m j : ℕ) → data_at n i ≡ data_at m j → (n ≡ m) × (i ≡ j)
same_data n i m j e = (ap (λ (p : Position). p.number) e, ap (λ (p : Position). p.index) e)

-- blocks that were cut off are not there
pub cleared_removed : (g : Request) (u : Tree) (d i : ℕ) (slots : Slots) (n k : ℕ) → ((k : ℕ) → IsAmong (blocks_of g (u d)) k → k < slot_blocks g (without_slot slots i)) → IsAmong (clear_removes g d slots i) (data_at n k) → IsAmong (blocks_of g (u n)) k → ⊥
cleared_removed g u d i slots n k few r h =
    let left = slot_blocks g (without_slot slots i) in
    let j = from_map d (range_with_len left (slot_blocks g slots - left)) (data_at n k) r in
    let past = from_range left (slot_blocks g slots - left) j.0 j.2 in
    let same = same_data n k d j.0 j.1 in
    let low = few k (subst (λ m. IsAmong (blocks_of g (u m)) k) same.0 h) in
    let index = same.1 in
    absurd (omega arith)

pub dropped_removed : (g : Request) (t u : Tree) (r n k : ℕ) → blocks_of g (u r) ≡ [] → IsAmong (data_positions g t r) (data_at n k) → IsAmong (blocks_of g (u n)) k → ⊥
dropped_removed g t u r n k gone h block =
    let j = from_map r (indices_of g (node_at t r)) (data_at n k) h in
    let same = same_data n k r j.0 j.1 in
    subst (λ is. IsAmong is k) gone (subst (λ m. IsAmong (blocks_of g (u m)) k) same.0 block)

-- ---- files

pub emptied_lists : (g : Request) (t : Tree) (n : ℕ) → Lists g (emptied g t n)
emptied_lists g t n = record {
  written = λ p w. absurd w;
  removed = λ m k r h. dropped_removed g t (emptied g t n).tree n m k (ap (blocks_of g) (node_set t n (Some (file [] []))).here) r h;
}

pub cut_lists : (g : Request) (t : Tree) (n size : ℕ) → 0 < g.block_size → Lists g (cut g t n size)
cut_lists g t n size some = record {
  written = λ p w.
      let i = from_map n (cut_block g (content_of (node_at t n)) (present_of (node_at t n)) size) p w in
      (n, i.0, i.1, cut_there i.0 i.2);
  removed = λ m k r h.
      let i = from_map n (past_end g (present_of (node_at t n)) size) (data_at m k) r in
      let past = leb-true (pieces g.block_size size) i.0 (from_filter (λ j. nat_le (pieces g.block_size size) j) (marked_from 0 (present_of (node_at t n))) i.0 i.2).1 in
      let same = same_data m k n i.0 i.1 in
      let low = cut_few g t n size k (subst (λ x. IsAmong (blocks_of g ((cut g t n size).tree x)) k) same.0 h) in
      let index = same.1 in
      absurd (omega arith);
}
  where
    cut_there : (i : ℕ) → IsAmong (cut_block g (content_of (node_at t n)) (present_of (node_at t n)) size) i → IsAmong (blocks_of g ((cut g t n size).tree n)) i
    cut_there i h =
        let content = content_of (node_at t n) in
        let present = present_of (node_at t n) in
        let r = in_test (nat_lt size (length content) && not (size % g.block_size == 0) && is_marked present (size / g.block_size)) (size / g.block_size) i h in
        let two = and_parts (nat_lt size (length content) && not (size % g.block_size == 0)) (is_marked present (size / g.block_size)) r.0 in
        let uneven = eqb-false (size % g.block_size) 0 (not-true (size % g.block_size == 0) (and_parts (nat_lt size (length content)) (not (size % g.block_size == 0)) two.0).1) in
        let low : size / g.block_size + 1 ≤ (size + (g.block_size - 1)) / g.block_size = (le-div_iff_mul-le some).1 (let odd : size % g.block_size ≡ 0 → ⊥ = uneven in omega arith) in
        let index = r.1 in
        subst (λ o. IsAmong (blocks_of g o) i) (sym (node_set t n (Some (file (resized content size) (flags_for g size (is_marked present))))).here)
        (passes_marked (is_marked present) 0 (pieces g.block_size size) i (omega arith) (omega arith) (ap (is_marked present) r.1 ∙ two.1))

pub written_lists : (g : Request) (t : Tree) (n at : ℕ) (new : List ℕ) → 0 < g.block_size → 1 ≤ length new → Lists g (written g t n at new)
written_lists g t n at new some long = record {
  written = λ p w. let i = from_map n (blocks_touched g at (length new)) p w in (n, i.0, i.1, touched_there i.0 i.2);
  removed = λ m k r h. r;
}
  where
    touched_there : (i : ℕ) → IsAmong (blocks_touched g at (length new)) i → IsAmong (blocks_of g ((written g t n at new).tree n)) i
    touched_there i h =
        let content = content_of (node_at t n) in
        let size = max (length content) (at + length new) in
        let test = λ (k : ℕ). is_marked (present_of (node_at t n)) k || is_touched g at (length new) k in
        let range = from_range (first_touched g at) (last_touched g at (length new) + 1 - first_touched g at) i h in
        let low = div_mono g.block_size at (at + length new - 1) (omega arith) in
        let last = in_piece g.block_size size (at + length new - 1) some (omega arith) in
        subst (λ o. IsAmong (blocks_of g o) i) (sym (node_set t n (Some (file (put_at content at new) (flags_for g size test)))).here)
        (passes_marked test 0 (pieces g.block_size size) i (omega arith) (omega arith)
        (or_right (is_marked (present_of (node_at t n)) i) (is_touched g at (length new) i) (and_from (nat_le (first_touched g at) i) (nat_le i (last_touched g at (length new))) (le-leb (first_touched g at) i range.0) (le-leb i (last_touched g at (length new)) (omega arith)))))

-- ---- names

cleared_has : (g : Request) (t : Tree) (d i k : ℕ) → is_directory t d ≡ true → k < slot_blocks g (without_slot (slots_at t d) i) → IsAmong (blocks_of g (cleared t d i d)) k
cleared_has g t d i k kind low =
    let set = cleared_set t d i kind in
    subst (λ o. IsAmong (blocks_of g o) k) (sym set.set.here) (among_range 0 (slot_blocks g (without_slot (slots_at t d) i)) k (omega arith) (omega arith))

pub unnamed_lists : (g : Request) (t : Tree) (d : ℕ) (found : Found) (last : Bool) → is_directory t d ≡ true → (found.number ≡ d → ⊥) → Lists g (unnamed g t d found last)
unnamed_lists g t d found true kind other =
    let u = with_node (cleared t d found.slot) found.number None in
    let own = node_set (cleared t d found.slot) found.number None in
    let there : u d ≡ cleared t d found.slot d = own.others d (λ same. other (sym same)) in
    record {
      written = λ p w. cleared_written g u d found.slot (slots_at t d) p (λ k low. subst (λ o. IsAmong (blocks_of g o) k) (sym there) (cleared_has g t d found.slot k kind low)) w;
      removed = λ n k r h. ⊎_elim
          (λ cut. cleared_removed g u d found.slot (slots_at t d) n k (λ j block. cleared_few g t d found.slot j kind (subst (λ o. IsAmong (blocks_of g o) j) there block)) cut h)
          (λ dropped. dropped_removed g t u found.number n k (ap (blocks_of g) own.here) dropped h)
          (among_append (clear_removes g d (slots_at t d) found.slot) (data_positions g t found.number) (data_at n k) r);
    }
unnamed_lists g t d found false kind other = record {
  written = λ p w. cleared_written g (cleared t d found.slot) d found.slot (slots_at t d) p (λ k low. cleared_has g t d found.slot k kind low) w;
  removed = λ n k r h. cleared_removed g (cleared t d found.slot) d found.slot (slots_at t d) n k (λ j block. cleared_few g t d found.slot j kind block) r h;
}

-- ---- a name moved

parent_blocks : (g : Request) (w : Tree) (n parent x : ℕ) → blocks_of g (with_parent w n parent x) ≡ blocks_of g (w x)
parent_blocks g w n parent x = by_node (w n) refl
  where
    by_node : (o : Option Node) → w n ≡ o → blocks_of g (with_parent w n parent x) ≡ blocks_of g (w x)
    by_node None is = rw is refl
    by_node (Some (file content present)) is = rw is refl
    by_node (Some (directory slots old)) is =
        let own = node_set w n (Some (directory slots parent)) in
        rw is (⊎_elim
        (λ (same : x ≡ n). ap (λ y. blocks_of g (with_node w n (Some (directory slots parent)) y)) same ∙ ap (blocks_of g) own.here ∙ sym (ap (λ y. blocks_of g (w y)) same ∙ ap (blocks_of g) is))
        (λ (other : x ≡ n → ⊥). ap (blocks_of g) (own.others x other))
        (cases_eq x n))

-- the tree u has the slot of the new name, and of df what clearing the old one leaves
pub moved_lists : (g : Request) (e : Edit) (held : Tree) (df sf dt st : ℕ) (entry : Entry) → 0 < slots_in_block g → is_directory held df ≡ true → e.writes ≡ slot_position g dt st ∷ clear_writes g df (slots_at held df) sf
    → ((n k : ℕ) → IsAmong e.removes (data_at n k) → IsAmong (clear_removes g df (slots_at held df) sf) (data_at n k) ⊎ (IsAmong (blocks_of g (e.tree n)) k → ⊥))
    → slot_at e.tree dt st ≡ Some entry → blocks_of g (e.tree df) ≡ blocks_of g (cleared held df sf df) → Lists g e
moved_lists g e held df sf dt st entry some kind writes removes there blocks = record {
  written = λ p w. ⊎_elim
      (λ (same : p ≡ slot_position g dt st). (dt, st / slots_in_block g, same, slot_block g e.tree dt st entry some there))
      (λ rest. cleared_written g e.tree df sf (slots_at held df) p (λ k low. subst (λ is. IsAmong is k) (sym blocks) (cleared_has g held df sf k kind low)) rest)
      (subst (λ ps. IsAmong ps p) writes w);
  removed = λ n k r h. ⊎_elim
      (λ cut. cleared_removed g e.tree df sf (slots_at held df) n k (λ j block. cleared_few g held df sf j kind (subst (λ is. IsAmong is j) blocks block)) cut h)
      (λ never. never h)
      (removes n k r);
}

pub left_blocks : (g : Request) (left w : Tree) (n parent df : ℕ) → w df ≡ left df → blocks_of g (with_parent w n parent df) ≡ blocks_of g (left df)
left_blocks g left w n parent df same = parent_blocks g w n parent df ∙ ap (blocks_of g) same

pub gone_blocks : (g : Request) (left : Tree) (n parent r : ℕ) → blocks_of g (with_parent (with_node left r None) n parent r) ≡ []
gone_blocks g left n parent r = parent_blocks g (with_node left r None) n parent r ∙ ap (blocks_of g) (node_set left r None).here

-- The changes of commands that only free blocks touch positions of one chain alone.
use Rattle.std.proofs.Common.{◌≡◌, ℕ, ◌+◌, ◌-◌, ◌/◌, ◌%◌, ◌<◌, ◌≤◌, ◌==◌, ◌&&◌, ◌||◌, not, Bool, true, false, cond, List, [], ◌∷◌, ◌++◌, length, map, filter, nat_le, nat_lt, ◌⊎◌, inl, inr, ⊎_elim, Option, Some, None, refl, sym, ap, ◌∙◌, subst, arith}
use Rattle.std.specs.List.{range_with_len}
use Rattle.std.proofs.lemmas.Bool.{cases_lt, and_parts, leb-true, ltb-true, or_left, or_right, or_cases, eqb-false, not-true}
use Rattle.std.proofs.lemmas.List.FromFn.{length-map-range_with_len}
use Rattle.std.proofs.Math.Nat.{le-div_iff_mul-le, div-lt_iff_lt-mul}
use Rattle.edge_base.specs.declared.geometry.Request.{Request}
use Rattle.edge_base.specs.tree.Positions.{Position, data_at, ancestors, all_ancestors, above_data, chain, has, count_of, touched}
use Rattle.edge_base.specs.tree.Slots.{Entry, Slots, pieces, slots_in_block, slot_blocks}
use Rattle.edge_base.specs.tree.Nodes.{Node, file, marked_from, indices_of}
use Rattle.edge_base.specs.tree.NodeRules.{IsDirectory}
use Rattle.edge_base.proofs.PositionLaws.{has-append, count_of-le_from_has, count_of-append-le}
use Rattle.edge_model.specs.Tree.{Tree, node_at, is_directory, slots_at, tree_positions, data_positions}
use Rattle.edge_model.specs.Walk.{Found}
use Rattle.edge_model.specs.State.{State, Edit, dirty_of}
use Rattle.edge_model.specs.Named.{without_slot, cleared, clear_writes, clear_removes, slot_position}
use Rattle.edge_model.specs.Files.{cut, cut_block, past_end, content_of, present_of, is_marked, flags_for, resized}
use Rattle.edge_model.specs.Names.{unnamed}
use Rattle.edge_model.specs.Open.{emptied}
use Rattle.edge_model.proofs.Members.{IsAmong, among, is_had, among_append, from_filter, from_flat_map, from_range}
use Rattle.edge_model.proofs.Ways.{blocks_of, is_on}
use Rattle.edge_model.proofs.SlotLaws.{piece_starts, is_marked_in}
use Rattle.edge_steps.proofs.SlotLaws.{slot_in, cleared_length}
use Rattle.edge_steps.proofs.NodeLaws.{node_set, cleared_set}
use Rattle.edge_steps.proofs.ChainLaws.{div_mono, chain_between, chain_number, up_number, short_chain}

-- ---- what a change touches

-- a position that is written, or above one that is written or removed
data IsTouched (g : Request) (e : Edit) (q : Position) : Type 0 where
  written : IsAmong e.writes q → IsTouched g e q
  above : (r : Position) → IsAmong e.writes r ⊎ IsAmong e.removes r → IsAmong (ancestors g r) q → IsTouched g e q

why : (g : Request) (e : Edit) (is_dirty : Position → Bool) (q : Position) → IsAmong (touched g is_dirty e.writes e.removes) q → IsTouched g e q
why g e is_dirty q h = ⊎_elim
    (λ w. written w)
    (λ a.
    let r = from_flat_map (ancestors g) (e.removes ++ filter (λ p. not (is_dirty p)) e.writes) q a in
    above r.0 (⊎_elim (λ removed. inr removed) (λ w. inl (from_filter (λ p. not (is_dirty p)) e.writes r.0 w).0) (among_append e.removes (filter (λ p. not (is_dirty p)) e.writes) r.0 r.1)) r.2)
    (among_append e.writes (all_ancestors g (e.removes ++ filter (λ p. not (is_dirty p)) e.writes)) q h)

-- of what is there afterwards a change touches one chain alone
pub record IsOneChain (g : Request) (e : Edit) : Type 0 where
  pub number : ℕ
  pub index : ℕ
  pub on_chain : (is_dirty : Position → Bool) (q : Position) → has (tree_positions g e.tree) q ≡ true → IsAmong (touched g is_dirty e.writes e.removes) q → IsAmong (chain g number index) q

-- so at most three positions become dirty
pub few_dirty : (g : Request) (s : State) (e : Edit) → IsOneChain g e → count_of (dirty_of g s e ++ s.dirty) ≤ count_of s.dirty + 3
few_dirty g s e one =
    let line = chain g one.number one.index in
    let all = count_of-le_from_has (dirty_of g s e ++ s.dirty) (line ++ s.dirty) (λ p h. has-append line s.dirty p ∙ ⊎_elim
    (λ now. by_filter p (from_filter (has (tree_positions g e.tree)) (s.dirty ++ touched g (has s.dirty) e.writes e.removes) p (among (dirty_of g s e) p now)))
    (λ old. or_right (has line p) (has s.dirty p) old)
    (or_cases (has (dirty_of g s e) p) (has s.dirty p) (sym (has-append (dirty_of g s e) s.dirty p) ∙ h))) in
    let parts = count_of-append-le line s.dirty in
    let few = short_chain g one.number one.index in
    omega arith
  where
    by_filter : (p : Position) → IsAmong (s.dirty ++ touched g (has s.dirty) e.writes e.removes) p × (has (tree_positions g e.tree) p ≡ true) → (has (chain g one.number one.index) p || has s.dirty p) ≡ true
    by_filter p k = ⊎_elim
        (λ old. or_right (has (chain g one.number one.index) p) (has s.dirty p) (is_had s.dirty p old))
        (λ new. or_left (has (chain g one.number one.index) p) (has s.dirty p) (is_had (chain g one.number one.index) p (one.on_chain (has s.dirty) p k.1 new)))
        (among_append s.dirty (touched g (has s.dirty) e.writes e.removes) p k.0)

-- ---- listed positions of a node

pub from_map : (x : ℕ) (is : List ℕ) (q : Position) → IsAmong (map (data_at x) is) q → (i : ℕ) × (q ≡ data_at x i) × IsAmong is i
from_map x [] q h = absurd h
from_map x (i ∷ is) q (inl e) = (i, e, inl refl)
from_map x (i ∷ is) q (inr h) = let r = from_map x is q h in (r.0, r.1, inr r.2)

-- a position of the tree above a data block of x is one of x, of a data block that is there
there_on : (g : Request) (t : Tree) (x j : ℕ) (q : Position) → has (tree_positions g t) q ≡ true → IsAmong (above_data g x j) q → (i : ℕ) × IsAmong (blocks_of g (t x)) i × IsAmong (chain g x i) q
there_on g t x j q there up =
    let on = is_on g t q (among (tree_positions g t) q there) in
    let same : on.number ≡ x = sym (chain_number g on.number on.index q on.on_chain) ∙ up_number g x j q up in
    (on.index, subst (λ n. IsAmong (blocks_of g (t n)) on.index) same on.is_block, subst (λ n. IsAmong (chain g n on.index) q) same on.on_chain)

-- a node that is left has nothing from block k on, and only such blocks are removed
removed_above : (g : Request) (t : Tree) (x k j : ℕ) (q : Position) → ((i : ℕ) → IsAmong (blocks_of g (t x)) i → i < k) → k ≤ j → has (tree_positions g t) q ≡ true → IsAmong (above_data g x j) q → IsAmong (above_data g x (k - 1)) q
removed_above g t x k j q few from there up =
    let r = there_on g t x j q there up in
    let low = few r.0 r.1 in
    chain_between g x r.0 (k - 1) j q (omega arith) (omega arith) r.2 up

-- ---- a file emptied

pub no_block : (g : Request) (t : Tree) (n : ℕ) (what : Option Node) (i : ℕ) → t n ≡ what → blocks_of g what ≡ [] → IsAmong (blocks_of g (t n)) i → ⊥
no_block g t n what i is none h = subst (λ xs. IsAmong xs i) none (subst (λ o. IsAmong (blocks_of g o) i) is h)

pub emptied_chain : (g : Request) (t : Tree) (n : ℕ) → IsOneChain g (emptied g t n)
emptied_chain g t n = record {
  number = n;
  index = 0;
  on_chain = λ is_dirty q there h. by_why q there (why g (emptied g t n) is_dirty q h);
}
  where
    by_why : (q : Position) → has (tree_positions g (emptied g t n).tree) q ≡ true → IsTouched g (emptied g t n) q → IsAmong (chain g n 0) q
    by_why q there (written w) = absurd w
    by_why q there (above r (inl w) up) = absurd w
    by_why q there (above r (inr removed) up) =
        let i = from_map n (indices_of g (node_at t n)) r removed in
        let on = there_on g (emptied g t n).tree n i.0 q there (subst (λ p. IsAmong (ancestors g p) q) i.1 up) in
        absurd (no_block g (emptied g t n).tree n (Some (file [] [])) on.0 (node_set t n (Some (file [] []))).here refl on.1)

-- ---- a file cut

pub last_piece : (n size : ℕ) → 0 < n → (size % n == 0) ≡ false → pieces n size - 1 ≡ size / n
last_piece n size some uneven =
    let odd : size % n ≡ 0 → ⊥ = eqb-false (size % n) 0 uneven in
    let low : size / n + 1 ≤ (size + (n - 1)) / n = (le-div_iff_mul-le some).1 (omega arith) in
    let high : (size + (n - 1)) / n < size / n + 2 = (div-lt_iff_lt-mul some).1 (omega arith) in
    omega arith

pub cut_few : (g : Request) (t : Tree) (n size i : ℕ) → IsAmong (blocks_of g ((cut g t n size).tree n)) i → i < pieces g.block_size size
cut_few g t n size i h =
    let flags = flags_for g size (is_marked (present_of (node_at t n))) in
    let here = (node_set t n (Some (file (resized (content_of (node_at t n)) size) flags))).here in
    let m = is_marked_in flags i (subst (λ o. IsAmong (blocks_of g o) i) here h) in
    let many = length-map-range_with_len (is_marked (present_of (node_at t n))) 0 (pieces g.block_size size) in
    omega arith

pub in_test : (b : Bool) (k i : ℕ) → IsAmong (cond b (k ∷ []) []) i → (b ≡ true) × (i ≡ k)
in_test true k i (inl e) = (refl, e)
in_test true k i (inr h) = absurd h
in_test false k i h = absurd h

cut_at : (g : Request) (content : List ℕ) (present : List Bool) (size i : ℕ) → 0 < g.block_size → IsAmong (cut_block g content present size) i → i ≡ pieces g.block_size size - 1
cut_at g content present size i some h =
    let r = in_test (nat_lt size (length content) && not (size % g.block_size == 0) && is_marked present (size / g.block_size)) (size / g.block_size) i h in
    let two = and_parts (nat_lt size (length content) && not (size % g.block_size == 0)) (is_marked present (size / g.block_size)) r.0 in
    let uneven = (and_parts (nat_lt size (length content)) (not (size % g.block_size == 0)) two.0).1 in
    r.1 ∙ sym (last_piece g.block_size size some (not-true (size % g.block_size == 0) uneven))

pub cut_chain : (g : Request) (t : Tree) (n size : ℕ) → 0 < g.block_size → IsOneChain g (cut g t n size)
cut_chain g t n size some = record {
  number = n;
  index = pieces g.block_size size - 1;
  on_chain = λ is_dirty q there h. by_why q there (why g (cut g t n size) is_dirty q h);
}
  where
    by_why : (q : Position) → has (tree_positions g (cut g t n size).tree) q ≡ true → IsTouched g (cut g t n size) q → IsAmong (chain g n (pieces g.block_size size - 1)) q
    by_why q there (written w) =
        let i = from_map n (cut_block g (content_of (node_at t n)) (present_of (node_at t n)) size) q w in
        inl (i.1 ∙ ap (data_at n) (cut_at g (content_of (node_at t n)) (present_of (node_at t n)) size i.0 some i.2))
    by_why q there (above r (inl w) up) =
        let i = from_map n (cut_block g (content_of (node_at t n)) (present_of (node_at t n)) size) r w in
        let same = i.1 ∙ ap (data_at n) (cut_at g (content_of (node_at t n)) (present_of (node_at t n)) size i.0 some i.2) in
        inr (subst (λ p. IsAmong (ancestors g p) q) same up)
    by_why q there (above r (inr removed) up) =
        let i = from_map n (past_end g (present_of (node_at t n)) size) r removed in
        let past = (from_filter (λ k. nat_le (pieces g.block_size size) k) (marked_from 0 (present_of (node_at t n))) i.0 i.2).1 in
        inr (removed_above g (cut g t n size).tree n (pieces g.block_size size) i.0 q (λ k h. cut_few g t n size k h) (leb-true (pieces g.block_size size) i.0 past) there (subst (λ p. IsAmong (ancestors g p) q) i.1 up))

-- ---- a name cleared

-- blocks are cut off only where the slot's block goes with them
cut_off : (g : Request) (slots : Slots) (i : ℕ) (e : Entry) → 0 < slots_in_block g → IsDirectory g slots → slot_in slots i ≡ Some e → i < length slots → slot_blocks g (without_slot slots i) < slot_blocks g slots → slot_blocks g (without_slot slots i) ≤ i / slots_in_block g
cut_off g slots i e some rules there low fewer = ⊎_elim
    (λ (last : length slots ≡ i + 1).
    let start = piece_starts (slots_in_block g) (length slots) (slot_blocks g (without_slot slots i)) fewer in
    (le-div_iff_mul-le some).1 (omega arith))
    (λ (long : length slots ≤ length (without_slot slots i)). absurd (let more = more_slots (slots_in_block g) (length slots) (length (without_slot slots i)) long in omega arith))
    (cleared_length slots i rules.last_filled low)
  where
    more_slots : (n a b : ℕ) → a ≤ b → pieces n a ≤ pieces n b
    more_slots n a b h = div_mono n (a + (n - 1)) (b + (n - 1)) (omega arith)

-- what is removed is cut off the directory, or has nothing above it that is left
abbrev IsCleared : Request → ℕ → Slots → ℕ → Edit → Type 0
IsCleared g d slots i e = (r : Position) → IsAmong e.removes r → IsAmong (clear_removes g d slots i) r ⊎ ((q : Position) → has (tree_positions g e.tree) q ≡ true → IsAmong (ancestors g r) q → ⊥)

name_chain : (g : Request) (d : ℕ) (slots : Slots) (i : ℕ) (entry : Entry) (e : Edit) → 0 < slots_in_block g → IsDirectory g slots → slot_in slots i ≡ Some entry → i < length slots → e.writes ≡ clear_writes g d slots i → IsCleared g d slots i e
    → ((j : ℕ) → IsAmong (blocks_of g (e.tree d)) j → j < slot_blocks g (without_slot slots i)) → IsOneChain g e
name_chain g d slots i entry e some rules there low writes removes few = ⊎_elim
    (λ (fewer : left < old). record { number = d; index = left - 1; on_chain = λ is_dirty q here h. by_fewer fewer q here (why g e is_dirty q h) })
    (λ (same : old ≤ left). record { number = d; index = i / slots_in_block g; on_chain = λ is_dirty q here h. by_same same q here (why g e is_dirty q h) })
    (cases_lt left old)
  where
    left : ℕ
    left = slot_blocks g (without_slot slots i)

    old : ℕ
    old = slot_blocks g slots

    is_write : (r : Position) → IsAmong e.writes r → (nat_lt (i / slots_in_block g) (slot_blocks g (without_slot slots i)) ≡ true) × (r ≡ slot_position g d i)
    is_write r w = by_test (nat_lt (i / slots_in_block g) (slot_blocks g (without_slot slots i))) r (subst (λ ps. IsAmong ps r) writes w)
      where
        by_test : (b : Bool) (r : Position) → IsAmong (cond b (slot_position g d i ∷ []) []) r → (b ≡ true) × (r ≡ slot_position g d i)
        by_test true r (inl same) = (refl, same)
        by_test true r (inr k) = absurd k
        by_test false r k = absurd k

    by_fewer : left < old → (q : Position) → has (tree_positions g e.tree) q ≡ true → IsTouched g e q → IsAmong (chain g d (left - 1)) q
    by_fewer fewer q here (written w) = absurd (let one = ltb-true (i / slots_in_block g) left (is_write q w).0 in let two = cut_off g slots i entry some rules there low fewer in omega arith)
    by_fewer fewer q here (above r (inl w) up) = absurd (let one = ltb-true (i / slots_in_block g) left (is_write r w).0 in let two = cut_off g slots i entry some rules there low fewer in omega arith)
    by_fewer fewer q here (above r (inr removed) up) = ⊎_elim
        (λ cut.
        let j = from_map d (range_with_len left (old - left)) r cut in
        let past = from_range left (old - left) j.0 j.2 in
        inr (removed_above g e.tree d left j.0 q few past.0 here (subst (λ p. IsAmong (ancestors g p) q) j.1 up)))
        (λ never. absurd (never q here up))
        (removes r removed)

    by_same : old ≤ left → (q : Position) → has (tree_positions g e.tree) q ≡ true → IsTouched g e q → IsAmong (chain g d (i / slots_in_block g)) q
    by_same same q here (written w) = inl (is_write q w).1
    by_same same q here (above r (inl w) up) = inr (subst (λ p. IsAmong (ancestors g p) q) (is_write r w).1 up)
    by_same same q here (above r (inr removed) up) = ⊎_elim
        (λ cut.
        let j = from_map d (range_with_len left (old - left)) r cut in
        let past = from_range left (old - left) j.0 j.2 in
        absurd (omega arith))
        (λ never. absurd (never q here up))
        (removes r removed)

pub cleared_few : (g : Request) (t : Tree) (d i j : ℕ) → is_directory t d ≡ true → IsAmong (blocks_of g (cleared t d i d)) j → j < slot_blocks g (without_slot (slots_at t d) i)
cleared_few g t d i j kind h =
    let set = cleared_set t d i kind in
    let r = from_range 0 (slot_blocks g (without_slot (slots_at t d) i)) j (subst (λ o. IsAmong (blocks_of g o) j) set.set.here h) in
    omega arith

-- a name cleared, with the node that goes with it
pub unnamed_chain : (g : Request) (t : Tree) (d : ℕ) (found : Found) (entry : Entry) (last : Bool) → 0 < slots_in_block g → is_directory t d ≡ true → IsDirectory g (slots_at t d) → slot_in (slots_at t d) found.slot ≡ Some entry → found.slot < length (slots_at t d)
    → (found.number ≡ d → ⊥) → IsOneChain g (unnamed g t d found last)
unnamed_chain g t d found entry true some kind rules there low other =
    let e = unnamed g t d found true in
    let own = node_set (cleared t d found.slot) found.number None in
    name_chain g d (slots_at t d) found.slot entry e some rules there low refl
    (λ r removed. ⊎_elim
    (λ cut. inl cut)
    (λ dropped. let j = from_map found.number (indices_of g (node_at t found.number)) r dropped in
    inr (λ q here up. let on = there_on g e.tree found.number j.0 q here (subst (λ p. IsAmong (ancestors g p) q) j.1 up) in no_block g e.tree found.number None on.0 own.here refl on.1))
    (among_append (clear_removes g d (slots_at t d) found.slot) (data_positions g t found.number) r removed))
    (λ j h. cleared_few g t d found.slot j kind (subst (λ o. IsAmong (blocks_of g o) j) (own.others d (λ same. other (sym same))) h))
unnamed_chain g t d found entry false some kind rules there low other =
    name_chain g d (slots_at t d) found.slot entry (unnamed g t d found false) some rules there low refl (λ r removed. inl removed) (λ j h. cleared_few g t d found.slot j kind h)

-- What steps keep of the dirty positions.
use Rattle.std.proofs.Common.{ap, refl, Bool, ◌≡◌, ℕ, not, true, false, List, ◌++◌, filter, Option, Some, None, ◌⊎◌, inl, inr, ⊎_elim, sym, ◌∙◌, subst}
use Rattle.std.proofs.lemmas.Bool.{false≢true, cases_Bool, not_from_false}
use Rattle.edge_base.specs.declared.geometry.Request.{Request}
use Rattle.edge_base.specs.tree.Positions.{Position, has, data_at, ancestors, all_ancestors, touched}
use Rattle.edge_model.specs.Asked.{Asked}
use Rattle.edge_model.specs.Tree.{Tree, node_at, numbers_of, tree_positions}
use Rattle.edge_base.specs.tree.Nodes.{block_of}
use Rattle.edge_model.specs.State.{State, Edit, point_taken, dirty_of, edited}
use Rattle.edge_model.specs.Step.{step, plan}
use Rattle.edge_model.specs.Laws.{IsDirtyWithin, IsDirtyUpwards, IsCleanCommitted, IsCleanAbove, IsCleanSame}
use Rattle.edge_model.proofs.Members.{IsAmong, among, is_had, among_append, among_left, among_right, among_filter, from_filter, among_flat_map, from_flat_map}
use Rattle.edge_model.proofs.Ways.{none_is_data, IsOn, is_on, is_there, there_up, ancestors_up, blocks_of}
use Rattle.edge_model.proofs.Outcomes.{each_state}

-- the positions whose ancestors a change touches
abbrev lifted : State → Edit → List Position
lifted s e = e.removes ++ filter (λ p. not (has s.dirty p)) e.writes

-- ---- members of the dirty positions after a change

after_is_there : (g : Request) (s : State) (e : Edit) (p : Position) → IsAmong (dirty_of g s e) p → has (tree_positions g e.tree) p ≡ true
after_is_there g s e p h = (from_filter (has (tree_positions g e.tree)) (s.dirty ++ touched g (has s.dirty) e.writes e.removes) p h).1

-- why a position is dirty after a change
data Why (g : Request) (s : State) (e : Edit) (p : Position) : Type 0 where
  before : IsAmong s.dirty p → Why g s e p
  written : IsAmong e.writes p → Why g s e p
  above : (r : Position) → IsAmong (lifted s e) r → IsAmong (ancestors g r) p → Why g s e p

why : (g : Request) (s : State) (e : Edit) (p : Position) → IsAmong (dirty_of g s e) p → Why g s e p
why g s e p h = ⊎_elim
    (λ k. before k)
    (λ t. ⊎_elim (λ w. written w) (λ a. let r = from_flat_map (ancestors g) (lifted s e) p a in above r.0 r.1 r.2) (among_append e.writes (all_ancestors g (lifted s e)) p t))
    (among_append s.dirty (touched g (has s.dirty) e.writes e.removes) p (from_filter (has (tree_positions g e.tree)) _ p h).0)

since : (g : Request) (s : State) (e : Edit) (p : Position) → has (tree_positions g e.tree) p ≡ true → Why g s e p → IsAmong (dirty_of g s e) p
since g s e p there because = among_filter (has (tree_positions g e.tree)) (s.dirty ++ touched g (has s.dirty) e.writes e.removes) p (listed because) there
  where
    listed : Why g s e p → IsAmong (s.dirty ++ touched g (has s.dirty) e.writes e.removes) p
    listed (before k) = among_left s.dirty (touched g (has s.dirty) e.writes e.removes) p k
    listed (written w) = among_right s.dirty (touched g (has s.dirty) e.writes e.removes) p (among_left e.writes (all_ancestors g (lifted s e)) p w)
    listed (above r l a) = among_right s.dirty (touched g (has s.dirty) e.writes e.removes) p (among_right e.writes (all_ancestors g (lifted s e)) p (among_flat_map (ancestors g) (lifted s e) r p l a))

-- a position that is written without being dirty has its ancestors touched
is_lifted : (s : State) (e : Edit) (p : Position) → IsAmong e.writes p → has s.dirty p ≡ false → IsAmong (lifted s e) p
is_lifted s e p w clean = among_right e.removes (filter (λ q. not (has s.dirty q)) e.writes) p (among_filter (λ q. not (has s.dirty q)) e.writes p w (not_from_false (has s.dirty p) clean))

-- ---- dirty within the tree

pub point_within : (g : Request) (s : State) → IsDirtyWithin g (point_taken s)
point_within g s p h = absurd (false≢true h)

pub edited_within : (g : Request) (s : State) (edit : Option Edit) → IsDirtyWithin g s → IsDirtyWithin g (edited g s edit)
edited_within g s None within = within
edited_within g s (Some e) within = λ p h. after_is_there g s e p (among (dirty_of g s e) p h)

-- each dirty position stays one of the tree
pub step_within : (g : Request) (s : State) (c : Asked) → IsDirtyWithin g s → IsDirtyWithin g (step g s c).state
unfolding step
step_within g s c h = each_state g s (plan g s c) (IsDirtyWithin g) (λ z k. point_within g z) (λ p was z same k. edited_within g z p.edit k) h

-- ---- the ancestors of dirty positions

pub point_upwards : (g : Request) (s : State) → IsDirtyUpwards g (point_taken s)
point_upwards g s p q h up = absurd (false≢true h)

up_from : (g : Request) (s : State) (e : Edit) → IsDirtyUpwards g s → (p q : Position) → IsAmong (ancestors g p) q → Why g s e p → Why g s e q
up_from g s e upwards p q up (before k) = before (among s.dirty q (upwards p q (is_had s.dirty p k) (is_had (ancestors g p) q up)))
up_from g s e upwards p q up (written w) = ⊎_elim
    (λ dirty. before (among s.dirty q (upwards p q dirty (is_had (ancestors g p) q up))))
    (λ clean. above p (is_lifted s e p w clean) up)
    (cases_Bool (has s.dirty p))
up_from g s e upwards p q up (above r l a) = above r l (ancestors_up g r p q a up)

edited_upwards : (g : Request) (s : State) (edit : Option Edit) → IsDirtyUpwards g s → IsDirtyUpwards g (edited g s edit)
edited_upwards g s None upwards = upwards
edited_upwards g s (Some e) upwards = λ p q h up.
    let dirty = among (dirty_of g s e) p h in
    let over = among (ancestors g p) q up in
    let there = is_had (tree_positions g e.tree) q (there_up g e.tree p q (among (tree_positions g e.tree) p (after_is_there g s e p dirty)) over) in
    is_had (dirty_of g s e) q (since g s e q there (up_from g s e upwards p q over (why g s e p dirty)))

-- the ancestors of each dirty position stay dirty
pub step_upwards : (g : Request) (s : State) (c : Asked) → IsDirtyUpwards g s → IsDirtyUpwards g (step g s c).state
unfolding step
step_upwards g s c h = each_state g s (plan g s c) (IsDirtyUpwards g) (λ z k. point_upwards g z) (λ p was z same k. edited_upwards g z p.edit k) h

-- ---- positions that are not dirty

-- a change lists each data block that it adds to the tree
abbrev pub IsComplete : Request → Tree → Edit → Type 0
IsComplete g t e = (n i : ℕ) → IsAmong (blocks_of g (e.tree n)) i → IsAmong (blocks_of g (t n)) i ⊎ IsAmong e.writes (data_at n i)

abbrev pub IsCompletePlan : Request → Tree → Option Edit → Type 0
IsCompletePlan g t None = Unit {0}
IsCompletePlan g t (Some e) = IsComplete g t e

pub point_clean : (g : Request) (s : State) → IsCleanCommitted g (point_taken s)
point_clean g s p there clean = there

-- a position of the new tree was one of the old one, or is dirty
old_or_dirty : (g : Request) (s : State) (e : Edit) → IsDirtyWithin g s → IsComplete g s.tree e → (p : Position) → IsAmong (tree_positions g e.tree) p → IsAmong (tree_positions g s.tree) p ⊎ IsAmong (dirty_of g s e) p
old_or_dirty g s e within complete p h =
    let on = is_on g e.tree p h in
    ⊎_elim
    (λ old. inl (is_there g s.tree p (record { number = on.number; index = on.index; is_number = on.is_number; is_block = old; on_chain = on.on_chain })))
    (λ w. ⊎_elim
    (λ old. inl (among (tree_positions g s.tree) p old))
    (λ added. inr (since g s e p (is_had (tree_positions g e.tree) p h) (⊎_elim
    (λ (same : p ≡ data_at on.number on.index). written (subst (IsAmong e.writes) (sym same) w))
    (λ up. above (data_at on.number on.index) (is_lifted s e (data_at on.number on.index) w (clean_below on up added)) up)
    on.on_chain)))
    (cases_Bool (has (tree_positions g s.tree) p)))
    (complete on.number on.index on.is_block)
  where
    -- the block below a pointer node that was not there was not there, and thus not dirty
    clean_below : (on : IsOn g e.tree p) → IsAmong (ancestors g (data_at on.number on.index)) p → has (tree_positions g s.tree) p ≡ false → has s.dirty (data_at on.number on.index) ≡ false
    clean_below on up added = ⊎_elim
        (λ dirty. absurd (false≢true (sym added ∙ is_had (tree_positions g s.tree) p (there_up g s.tree (data_at on.number on.index) p (among (tree_positions g s.tree) _ (within (data_at on.number on.index) dirty)) up))))
        (λ clean. clean)
        (cases_Bool (has s.dirty (data_at on.number on.index)))

pub edited_clean : (g : Request) (s : State) (edit : Option Edit) → IsCompletePlan g s.tree edit → IsDirtyWithin g s → IsCleanCommitted g s → IsCleanCommitted g (edited g s edit)
edited_clean g s None complete within committed = committed
edited_clean g s (Some e) complete within committed = λ p there clean. ⊎_elim
    (λ old. ⊎_elim
    (λ dirty. absurd (false≢true (sym clean ∙ is_had (dirty_of g s e) p (since g s e p there (before (among s.dirty p dirty))))))
    (λ was_clean. committed p (is_had (tree_positions g s.tree) p old) was_clean)
    (cases_Bool (has s.dirty p)))
    (λ dirty. absurd (false≢true (sym clean ∙ is_had (dirty_of g s e) p dirty)))
    (old_or_dirty g s e within complete p (among (tree_positions g e.tree) p there))

-- ---- what is below pointer nodes that are not dirty

-- a change lists each data block of the tree that it removes
abbrev pub IsRemoved : Request → Tree → Edit → Type 0
IsRemoved g t e = (n i : ℕ) → IsAmong (blocks_of g (t n)) i → IsAmong (blocks_of g (e.tree n)) i ⊎ IsAmong e.removes (data_at n i)

abbrev pub IsRemovedPlan : Request → Tree → Option Edit → Type 0
IsRemovedPlan g t None = Unit {0}
IsRemovedPlan g t (Some e) = IsRemoved g t e

pub point_above : (g : Request) (s : State) → IsCleanAbove g (point_taken s)
point_above g s p n i there clean up = refl

same_truth : (a b : Bool) → (a ≡ true → b ≡ true) → (b ≡ true → a ≡ true) → a ≡ b
same_truth true b one two = sym (one refl)
same_truth false true one two = two refl
same_truth false false one two = refl

-- a data block of a tree, by its node
pub block_there : (g : Request) (t : Tree) (n i : ℕ) → has (tree_positions g t) (data_at n i) ≡ true → IsAmong (numbers_of g) n × IsAmong (blocks_of g (t n)) i
block_there g t n i h =
    let on = is_on g t (data_at n i) (among (tree_positions g t) (data_at n i) h) in
    ⊎_elim
    (λ (same : data_at n i ≡ data_at on.number on.index).
    let number : on.number ≡ n = ap (λ (p : Position). p.number) (sym same) in
    let index : on.index ≡ i = ap (λ (p : Position). p.index) (sym same) in
    (subst (IsAmong (numbers_of g)) number on.is_number, subst (λ j. IsAmong (blocks_of g (t n)) j) index (subst (λ m. IsAmong (blocks_of g (t m)) on.index) number on.is_block)))
    (λ up. absurd (none_is_data g on.number on.index n i up))
    on.on_chain

pub there_by_block : (g : Request) (t : Tree) (n i : ℕ) → IsAmong (numbers_of g) n → IsAmong (blocks_of g (t n)) i → has (tree_positions g t) (data_at n i) ≡ true
there_by_block g t n i number block = is_had (tree_positions g t) (data_at n i) (is_there g t (data_at n i) (record { number = n; index = i; is_number = number; is_block = block; on_chain = inl refl }))

-- below a pointer node that is not dirty after a change nothing was added or removed
same_below : (g : Request) (s : State) (e : Edit) → IsDirtyWithin g s → IsComplete g s.tree e → IsRemoved g s.tree e
    → (p : Position) (n i : ℕ) → has (tree_positions g e.tree) p ≡ true → has (dirty_of g s e) p ≡ false → IsAmong (ancestors g (data_at n i)) p
    → has (tree_positions g e.tree) (data_at n i) ≡ has (tree_positions g s.tree) (data_at n i)
same_below g s e within complete removed p n i there clean up =
    let is_dirty = λ (r : IsAmong (lifted s e) (data_at n i)). absurd {A = ⊥} (false≢true (sym clean ∙ is_had (dirty_of g s e) p (since g s e p there (above (data_at n i) r up)))) in
    same_truth (has (tree_positions g e.tree) (data_at n i)) (has (tree_positions g s.tree) (data_at n i))
    (λ now. let b = block_there g e.tree n i now in ⊎_elim
    (λ old. there_by_block g s.tree n i b.0 old)
    (λ w. ⊎_elim
    (λ old. old)
    (λ added. absurd (is_dirty (is_lifted s e (data_at n i) w (not_dirty added))))
    (cases_Bool (has (tree_positions g s.tree) (data_at n i))))
    (complete n i b.1))
    (λ old. let b = block_there g s.tree n i old in ⊎_elim
    (λ now. there_by_block g e.tree n i b.0 now)
    (λ r. absurd (is_dirty (among_left e.removes (filter (λ q. not (has s.dirty q)) e.writes) (data_at n i) r)))
    (removed n i b.1))
  where
    not_dirty : has (tree_positions g s.tree) (data_at n i) ≡ false → has s.dirty (data_at n i) ≡ false
    not_dirty added = ⊎_elim (λ dirty. absurd (false≢true (sym added ∙ within (data_at n i) dirty))) (λ k. k) (cases_Bool (has s.dirty (data_at n i)))

-- what was dirty and is still there is dirty
was_clean : (g : Request) (s : State) (e : Edit) (p : Position) → has (tree_positions g e.tree) p ≡ true → has (dirty_of g s e) p ≡ false → has s.dirty p ≡ false
was_clean g s e p there clean = ⊎_elim
    (λ dirty. absurd (false≢true (sym clean ∙ is_had (dirty_of g s e) p (since g s e p there (before (among s.dirty p dirty))))))
    (λ k. k)
    (cases_Bool (has s.dirty p))

pub edited_above : (g : Request) (s : State) (edit : Option Edit) → IsCompletePlan g s.tree edit → IsRemovedPlan g s.tree edit → IsDirtyWithin g s → IsCleanAbove g s → IsCleanAbove g (edited g s edit)
edited_above g s None complete removed within same = same
edited_above g s (Some e) complete removed within same = λ p n i there clean up.
    let old : has (tree_positions g s.tree) p ≡ true = ⊎_elim
    (λ k. is_had (tree_positions g s.tree) p k)
    (λ dirty. absurd (false≢true (sym clean ∙ is_had (dirty_of g s e) p dirty)))
    (old_or_dirty g s e within complete p (among (tree_positions g e.tree) p there)) in
    same_below g s e within complete removed p n i there clean (among (ancestors g (data_at n i)) p up) ∙ same p n i old (was_clean g s e p there clean) up

-- ---- the bytes of data blocks that are not dirty

-- a change lists each data block whose bytes it changes
abbrev pub IsWritten : Request → Tree → Edit → Type 0
IsWritten g t e = (n i : ℕ) → IsAmong (blocks_of g (e.tree n)) i → IsAmong e.writes (data_at n i) ⊎ (IsAmong (blocks_of g (t n)) i × (block_of g (node_at e.tree n) i ≡ block_of g (node_at t n) i))

abbrev pub IsWrittenPlan : Request → Tree → Option Edit → Type 0
IsWrittenPlan g t None = Unit {0}
IsWrittenPlan g t (Some e) = IsWritten g t e

pub point_same : (g : Request) (s : State) → IsCleanSame g (point_taken s)
point_same g s n i there clean = refl

pub edited_same : (g : Request) (s : State) (edit : Option Edit) → IsWrittenPlan g s.tree edit → IsCleanSame g s → IsCleanSame g (edited g s edit)
edited_same g s None written_all same = same
edited_same g s (Some e) written_all same = λ n i there clean.
    let b = block_there g e.tree n i there in
    ⊎_elim
    (λ w. absurd (false≢true (sym clean ∙ is_had (dirty_of g s e) (data_at n i) (since g s e (data_at n i) there (written w)))))
    (λ (k : IsAmong (blocks_of g (s.tree n)) i × (block_of g (node_at e.tree n) i ≡ block_of g (node_at s.tree n) i)). k.1 ∙ same n i (there_by_block g s.tree n i b.0 k.0) (was_clean g s e (data_at n i) there clean))
    (written_all n i b.1)

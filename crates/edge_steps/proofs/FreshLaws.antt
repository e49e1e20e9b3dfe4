-- A change fits by its fresh positions.
use Rattle.std.proofs.Common.{◌≡◌, ◌+◌, ◌&&◌, not, nat_le, Bool, true, false, List, ◌++◌, filter, ⊎_elim, refl, sym, ap, ◌∙◌, arith}
use Rattle.std.proofs.lemmas.Bool.{false≢true, cases_Bool, and_parts, and_from, not-true, not_from_false}
use Rattle.edge_base.specs.declared.geometry.Request.{Request}
use Rattle.edge_base.specs.layout.Places.{allocable_of}
use Rattle.edge_base.specs.tree.Positions.{Position, has, count_of, ancestors, all_ancestors, touched}
use Rattle.edge_base.proofs.PositionLaws.{count_of-append, count_of-from_has}
use Rattle.edge_model.specs.Laws.{IsDirtyUpwards}
use Rattle.edge_model.specs.State.{State, Edit, dirty_of, in_use, fits}
use Rattle.edge_model.specs.Tree.{tree_positions}
use Rattle.edge_model.proofs.Members.{IsAmong, among, is_had, among_append, among_left, among_right, among_filter, from_filter, among_flat_map, from_flat_map}
use Rattle.edge_steps.specs.Fresh.{fresh_positions_of}

same_truth : (a b : Bool) → (a ≡ true → b ≡ true) → (b ≡ true → a ≡ true) → a ≡ b
same_truth true b one two = sym (one refl)
same_truth false true one two = two refl
same_truth false false one two = refl

-- ---- what is touched

-- fewer positions count as dirty, more are touched
pub touched_more : (g : Request) (is_dirty : Position → Bool) (writes removes : List Position) (p : Position) → IsAmong (touched g is_dirty writes removes) p → IsAmong (touched g (λ q. false) writes removes) p
touched_more g is_dirty writes removes p h = ⊎_elim
    (λ w. among_left writes (all_ancestors g (removes ++ filter (λ q. not false) writes)) p w)
    (λ a.
    let r = from_flat_map (ancestors g) (removes ++ filter (λ q. not (is_dirty q)) writes) p a in
    among_right writes (all_ancestors g (removes ++ filter (λ q. not false) writes)) p (among_flat_map (ancestors g) (removes ++ filter (λ q. not false) writes) r.0 p (⊎_elim
    (λ removed. among_left removes (filter (λ q. not false) writes) r.0 removed)
    (λ w. among_right removes (filter (λ q. not false) writes) r.0 (among_filter (λ q. not false) writes r.0 (from_filter (λ q. not (is_dirty q)) writes r.0 w).0 refl))
    (among_append removes (filter (λ q. not (is_dirty q)) writes) r.0 r.1)) r.2))
    (among_append writes (all_ancestors g (removes ++ filter (λ q. not (is_dirty q)) writes)) p h)

-- what is not dirty is touched either way, where the ancestors of dirty positions are dirty
pub touched_clean : (g : Request) (s : State) (writes removes : List Position) (p : Position) → IsDirtyUpwards g s → has s.dirty p ≡ false → IsAmong (touched g (λ q. false) writes removes) p → IsAmong (touched g (has s.dirty) writes removes) p
touched_clean g s writes removes p upwards clean h = ⊎_elim
    (λ w. among_left writes (all_ancestors g (removes ++ filter (λ q. not (has s.dirty q)) writes)) p w)
    (λ a.
    let r = from_flat_map (ancestors g) (removes ++ filter (λ q. not false) writes) p a in
    among_right writes (all_ancestors g (removes ++ filter (λ q. not (has s.dirty q)) writes)) p (among_flat_map (ancestors g) (removes ++ filter (λ q. not (has s.dirty q)) writes) r.0 p (⊎_elim
    (λ removed. among_left removes (filter (λ q. not (has s.dirty q)) writes) r.0 removed)
    (λ w. among_right removes (filter (λ q. not (has s.dirty q)) writes) r.0 (among_filter (λ q. not (has s.dirty q)) writes r.0 (from_filter (λ q. not false) writes r.0 w).0
    (not_from_false (has s.dirty r.0) (⊎_elim
    (λ dirty. absurd (false≢true (sym clean ∙ upwards r.0 p dirty (is_had (ancestors g r.0) p r.2))))
    (λ other. other)
    (cases_Bool (has s.dirty r.0))))))
    (among_append removes (filter (λ q. not false) writes) r.0 r.1)) r.2))
    (among_append writes (all_ancestors g (removes ++ filter (λ q. not false) writes)) p h)

-- ---- what becomes dirty

abbrev newly_dirty : Request → State → Edit → List Position
newly_dirty g s e = filter (λ p. not (has s.dirty p)) (dirty_of g s e)

newly_fresh : (g : Request) (s : State) (e : Edit) (p : Position) → has (newly_dirty g s e) p ≡ true → has (fresh_positions_of g s e) p ≡ true
newly_fresh g s e p h =
    let new = from_filter (λ q. not (has s.dirty q)) (dirty_of g s e) p (among (newly_dirty g s e) p h) in
    let clean = not-true (has s.dirty p) new.1 in
    let after = from_filter (has (tree_positions g e.tree)) (s.dirty ++ touched g (has s.dirty) e.writes e.removes) p new.0 in
    is_had (fresh_positions_of g s e) p (among_filter (λ q. has (tree_positions g e.tree) q && not (has s.dirty q)) (touched g (λ q. false) e.writes e.removes) p
    (⊎_elim
    (λ old. absurd (false≢true (sym clean ∙ is_had s.dirty p old)))
    (λ t. touched_more g (has s.dirty) e.writes e.removes p t)
    (among_append s.dirty (touched g (has s.dirty) e.writes e.removes) p after.0))
    (and_from (has (tree_positions g e.tree) p) (not (has s.dirty p)) after.1 new.1))

fresh_newly : (g : Request) (s : State) (e : Edit) (p : Position) → IsDirtyUpwards g s → has (fresh_positions_of g s e) p ≡ true → has (newly_dirty g s e) p ≡ true
fresh_newly g s e p upwards h =
    let new = from_filter (λ q. has (tree_positions g e.tree) q && not (has s.dirty q)) (touched g (λ q. false) e.writes e.removes) p (among (fresh_positions_of g s e) p h) in
    let both = and_parts (has (tree_positions g e.tree) p) (not (has s.dirty p)) new.1 in
    let clean = not-true (has s.dirty p) both.1 in
    is_had (newly_dirty g s e) p (among_filter (λ q. not (has s.dirty q)) (dirty_of g s e) p
    (among_filter (has (tree_positions g e.tree)) (s.dirty ++ touched g (has s.dirty) e.writes e.removes) p
    (among_right s.dirty (touched g (has s.dirty) e.writes e.removes) p (touched_clean g s e.writes e.removes p upwards clean new.0))
    both.0)
    both.1)

pub dirty_counted : (g : Request) (s : State) (e : Edit) → IsDirtyUpwards g s → count_of (dirty_of g s e ++ s.dirty) ≡ count_of (fresh_positions_of g s e) + count_of s.dirty
dirty_counted g s e upwards =
    let whole = count_of-append (dirty_of g s e) s.dirty in
    let same = count_of-from_has (newly_dirty g s e) (fresh_positions_of g s e) (λ p. same_truth (has (newly_dirty g s e) p) (has (fresh_positions_of g s e) p) (newly_fresh g s e p) (fresh_newly g s e p upwards)) in
    omega arith

-- the change fits where the fresh positions and the reserve are at most what is free
pub fits_fresh : (g : Request) (s : State) (e : Edit) → IsDirtyUpwards g s → fits g s e ≡ nat_le (in_use g s.committed s.dirty + count_of (fresh_positions_of g s e) + e.reserve) (allocable_of g)
fits_fresh g s e upwards =
    let counted = dirty_counted g s e upwards in
    ap (λ n. nat_le n (allocable_of g)) (let same : in_use g s.committed (dirty_of g s e ++ s.dirty) + e.reserve ≡ in_use g s.committed s.dirty + count_of (fresh_positions_of g s e) + e.reserve = omega arith in same)

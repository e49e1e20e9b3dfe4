-- Views that stand for a state: as a volume is mounted, after a change, and after a point.
use Rattle.std.proofs.Common.{◌≡◌, ◌↔◌, ℕ, zero, suc, ◌+◌, ◌<◌, ◌≤◌, ◌&&◌, not, Bool, true, false, cond, [], find, is_some, ⊎_elim, Option, Some, None, refl, sym, ap, ◌∙◌, subst, arith}
use Rattle.std.specs.List.{range_with_len}
use Rattle.std.proofs.lemmas.Bool.{cases_eq, and_parts, and_from, leb-true, ltb-true, le-leb, lt-ltb}
use Rattle.edge_base.specs.declared.geometry.Request.{Request}
use Rattle.edge_base.specs.tree.Positions.{has}
use Rattle.edge_store.specs.Effects.{IsLeastFree}
use Rattle.edge_store.specs.View.{View, IsView, is_number, is_used, is_new, free_after}
use Rattle.edge_store.specs.Placed.{block_at}
use Rattle.edge_store.proofs.CountLaws.{free_after-positions}
use Rattle.edge_model.specs.Laws.{IsDirtyUpwards}
use Rattle.edge_model.specs.State.{State, Plan, Edit, edited, planned, first_state, point_taken}
use Rattle.edge_model.specs.Tree.{Tree, tree_positions, free_number}
use Rattle.edge_image.specs.Opens.{StandsFor}
use Rattle.edge_image.proofs.RoomLaws.{occupied}
use Rattle.edge_steps.specs.Room.{LeavesRoom}
use Rattle.edge_stands.specs.Dirtied.{TreeDirtied}
use Rattle.edge_stands.specs.Session.{StandForState}
use Rattle.edge_stands.specs.Stands.{IsTied}
use Rattle.edge_stands.proofs.DirtyLaws.{then_tied}

-- ---- the state

-- a mask and descriptors do not matter
pub alike_states : (g : Request) (c v : View) (s z : State) → z.tree ≡ s.tree → z.committed ≡ s.committed → z.dirty ≡ s.dirty → StandForState g c v s → StandForState g c v z
alike_states g c v s z tree committed dirty st = record {
  committed_is_view = st.committed_is_view;
  working_is_view = st.working_is_view;
  last = subst (StandsFor g c) (sym committed) st.last;
  tree = subst (StandsFor g v) (sym tree) st.tree;
  dirty = subst (λ t. IsTied g c v t z.dirty) (sym tree) (subst (IsTied g c v s.tree) (sym dirty) st.dirty);
}

new_in_itself : (v : View) (b : ℕ) → is_new v v b ≡ false
new_in_itself v b = by (is_used v b)
  where
    by : (used : Bool) → (used && not used) ≡ false
    by true = refl
    by false = refl

none_dirty : (g : Request) (v : View) (t : Tree) → IsTied g v v t []
none_dirty g v t p = sym (by (has (tree_positions g t) p))
  where
    by : (there : Bool) → (there && is_new v v (block_at g v p)) ≡ false
    by true = new_in_itself v (block_at g v p)
    by false = refl

pub as_mounted : (g : Request) (v : View) (t : Tree) → IsView g v → StandsFor g v t → StandForState g v v (first_state t)
as_mounted g v t view stands = record { committed_is_view = view; working_is_view = view; last = stands; tree = stands; dirty = none_dirty g v t }

pub after_point : (g : Request) (c v : View) (s : State) → StandForState g c v s → StandForState g v v (point_taken s)
after_point g c v s st = record { committed_is_view = st.working_is_view; working_is_view = st.working_is_view; last = st.tree; tree = st.tree; dirty = none_dirty g v s.tree }

pub after_change : (g : Request) (c v w : View) (s : State) (e : Edit) → StandForState g c v s → IsDirtyUpwards g s → IsView g w → StandsFor g w e.tree → TreeDirtied g c v w s.tree e.tree e.writes e.removes → StandForState g c w (edited g s (Some e))
after_change g c v w s e st upwards view stands d = record {
  committed_is_view = st.committed_is_view;
  working_is_view = view;
  last = st.last;
  tree = stands;
  dirty = then_tied g c v w s e st.dirty upwards d;
}

pub after_plan : (g : Request) (c v w : View) (s : State) (p : Plan) (e : Edit) → p.edit ≡ Some e → StandForState g c v s → IsDirtyUpwards g s → IsView g w → StandsFor g w e.tree → TreeDirtied g c v w s.tree e.tree e.writes e.removes
    → StandForState g c w (planned g s p)
after_plan g c v w s p e is st upwards view stands d =
    alike_states g c w (edited g s p.edit) (planned g s p) refl refl refl (subst (λ o. StandForState g c w (edited g s o)) (sym is) (after_change g c v w s e st upwards view stands d))

-- ---- room

pub leaves_room : (g : Request) (v : View) (t : Tree) → IsView g v → StandsFor g v t → LeavesRoom g t ↔ (3 ≤ free_after g v)
leaves_room g v t view stands =
    let all = free_after-positions g v (tree_positions g t) (occupied g v t view.allocable stands) in
    ((λ (room : LeavesRoom g t). omega arith), (λ (some : 3 ≤ free_after g v). omega arith))

-- ---- the least free number

find_first : (test : ℕ → Bool) (n a k : ℕ) → a ≤ n → n < a + k → ((x : ℕ) → a ≤ x → x < n → test x ≡ false) → test n ≡ true → find test (range_with_len a k) ≡ Some n
find_first test n a zero low high below at = absurd (omega arith)
find_first test n a (suc k) low high below at = ⊎_elim
    (λ (same : a ≡ n). subst (λ (b : Bool). cond b (Some a) (find test (range_with_len (a + 1) k)) ≡ Some n) (sym (ap test same ∙ at)) (ap Some same))
    (λ (other : a ≡ n → ⊥).
    let passed = below a (omega arith) (omega arith) in
    subst (λ (b : Bool). cond b (Some a) (find test (range_with_len (a + 1) k)) ≡ Some n) (sym passed)
    (find_first test n (a + 1) k (omega arith) (omega arith) (λ x from upto. below x (omega arith) upto) at))
    (cases_eq a n)

find_none : (test : ℕ → Bool) (a k : ℕ) → ((x : ℕ) → a ≤ x → x < a + k → test x ≡ false) → find test (range_with_len a k) ≡ None
find_none test a zero none = refl
find_none test a (suc k) none =
    subst (λ (b : Bool). cond b (Some a) (find test (range_with_len (a + 1) k)) ≡ None) (sym (none a (omega arith) (omega arith)))
    (find_none test (a + 1) k (λ x from upto. none x (omega arith) (omega arith)))

number_from : (g : Request) (x : ℕ) → 2 ≤ x → x < 2 + g.inodes → is_number g x ≡ true
number_from g x low high = and_from _ _ (le-leb 2 x low) (lt-ltb x (2 + g.inodes) high)

there_test : {A : Type 0} (o : Option A) → (o ≡ None → ⊥) → not (is_some o) ≡ false
there_test None some = absurd (some refl)
there_test (Some x) some = refl

pub least_free : (g : Request) (v : View) (t : Tree) (n : ℕ) → StandsFor g v t → IsLeastFree g v n → free_number g t ≡ Some n
least_free g v t n stands is =
    let both = and_parts _ _ is.number in
    let low = leb-true 2 n both.0 in
    let high = ltb-true n (2 + g.inodes) both.1 in
    find_first (λ m. not (is_some (t m))) n 2 g.inodes low high
    (λ x from upto. there_test (t x) (λ none. is.least x (number_from g x from (omega arith)) upto ((stands.numbers x).0 none)))
    (ap (λ o. not (is_some o)) ((stands.numbers n).1 is.absent))

pub none_free : (g : Request) (v : View) (t : Tree) → StandsFor g v t → ((n : ℕ) → is_number g n ≡ true → v.inodes n ≡ None → ⊥) → free_number g t ≡ None
none_free g v t stands all = find_none (λ m. not (is_some (t m))) 2 g.inodes (λ x from upto. there_test (t x) (λ none. all x (number_from g x from (omega arith)) ((stands.numbers x).0 none)))

-- The room of two views that stand for a state.
use Rattle.std.proofs.Common.{◌≡◌, ◌↔◌, ◌+◌, ◌-◌, ◌≤◌, ◌&&◌, nat_lt, not, true, is_some, Option, Some, None, refl, sym, ap, ◌∙◌, arith}
use Rattle.std.specs.Prelude.{is_none}
use Rattle.std.proofs.lemmas.Bool.{and_parts, and_from, leb-true, le-leb, ltb-true, lt-ltb}
use Rattle.edge_base.specs.declared.geometry.Request.{Request}
use Rattle.edge_base.specs.commands.Events.{has_event, full}
use Rattle.edge_base.specs.layout.Places.{allocable_of}
use Rattle.edge_base.specs.tree.Positions.{Position, has, count_of}
use Rattle.edge_store.specs.Counted.{Occupy}
use Rattle.edge_store.specs.View.{View, is_used, is_new, free_now, free_after, free_inodes}
use Rattle.edge_store.specs.Placed.{block_at}
use Rattle.edge_store.proofs.ChangedLaws.{same_truth}
use Rattle.edge_store.proofs.CountLaws.{free_now-positions, free_after-positions}
use Rattle.edge_store.proofs.RoomLaws.{inside}
use Rattle.edge_image.proofs.AlikeLaws.{count_alike}
use Rattle.edge_model.specs.Asked.{room}
use Rattle.edge_model.specs.Laws.{IsDirtyUpwards}
use Rattle.edge_model.specs.State.{State, Edit, fits, gains_by_point, in_use}
use Rattle.edge_model.specs.Step.{room_of}
use Rattle.edge_model.specs.Tree.{Tree, tree_positions, free_numbers}
use Rattle.edge_image.specs.Opens.{StandsFor}
use Rattle.edge_image.proofs.RoomLaws.{occupied}
use Rattle.edge_steps.specs.Fresh.{fresh_positions_of}
use Rattle.edge_steps.proofs.FreshLaws.{fits_fresh}
use Rattle.edge_stands.specs.Session.{StandForState}

-- ---- blocks

-- the dirty positions occupy the new blocks
occupy_new : (g : Request) (c w : View) (s : State) → StandForState g c w s → Occupy g w s.dirty (is_new c w)
occupy_new g c w s st = record {
  inside = λ p h.
      let both = and_parts (has (tree_positions g s.tree) p) (is_new c w (block_at g w p)) (sym (st.dirty p) ∙ h) in
      let used = and_parts (is_used w (block_at g w p)) (not (is_used c (block_at g w p))) both.1 in
      let range = inside g (block_at g w p) (st.working_is_view.allocable (block_at g w p) used.0) in
      (range.0, range.1, both.1);
  once = λ p q hp hq e. st.tree.once p q (in_tree p hp) (in_tree q hq) e;
  each = λ b from below new.
      let placed = st.tree.each b (and_parts (is_used w b) (not (is_used c b)) new).0 in
      (placed.position, st.dirty placed.position ∙ and_from (has (tree_positions g s.tree) placed.position) (is_new c w (block_at g w placed.position)) placed.in_tree (ap (is_new c w) placed.block ∙ new), placed.block);
}
  where
    in_tree : (p : Position) → has s.dirty p ≡ true → has (tree_positions g s.tree) p ≡ true
    in_tree p h = (and_parts (has (tree_positions g s.tree) p) (is_new c w (block_at g w p)) (sym (st.dirty p) ∙ h)).0

pub free_is : (g : Request) (c w : View) (s : State) → StandForState g c w s → free_now g c w + in_use g s.committed s.dirty ≡ allocable_of g
free_is g c w s st =
    let all = free_now-positions g c w (tree_positions g s.committed) s.dirty (occupied g c s.committed st.committed_is_view.allocable st.last) (occupy_new g c w s st) in
    omega arith

after_is : (g : Request) (c w : View) (s : State) → StandForState g c w s → free_after g w + count_of (tree_positions g s.tree) ≡ allocable_of g
after_is g c w s st = free_after-positions g w (tree_positions g s.tree) (occupied g w s.tree st.working_is_view.allocable st.tree)

-- ---- numbers

none_alike : {A B : Type 0} (a : Option A) (b : Option B) → (a ≡ None) ↔ (b ≡ None) → not (is_some a) ≡ is_none b
none_alike None None h = refl
none_alike None (Some y) h = absurd (let wrong : Some y ≡ None = h.0 refl in cc)
none_alike (Some x) None h = absurd (let wrong : Some x ≡ None = h.1 refl in cc)
none_alike (Some x) (Some y) h = refl

numbers_are : (g : Request) (w : View) (t : Tree) → StandsFor g w t → free_numbers g t ≡ free_inodes g w
unfolding free_inodes
numbers_are g w t st = count_alike (λ n. not (is_some (t n))) (λ n. is_none (w.inodes n)) 2 g.inodes (λ n low high. none_alike (t n) (w.inodes n) (st.numbers n))

-- ---- the laws

pub space_is : (g : Request) (committed working : View) (s : State) → StandForState g committed working s
    → room_of g s ≡ room (record { now = free_now g committed working; after = free_after g working; blocks = allocable_of g; free_inodes = free_inodes g working; inodes = g.inodes })
unfolding room_of
space_is g c w s st =
    let one = free_is g c w s st in
    let two = after_is g c w s st in
    let now : allocable_of g - in_use g s.committed s.dirty ≡ free_now g c w = omega arith in
    let after : allocable_of g - count_of (tree_positions g s.tree) ≡ free_after g w = omega arith in
    let numbers = numbers_are g w s.tree st.tree in
    λ i. room (record { now = now i; after = after i; blocks = allocable_of g; free_inodes = numbers i; inodes = g.inodes })

pub fits_free : (g : Request) (committed working : View) (s : State) (e : Edit) → StandForState g committed working s → IsDirtyUpwards g s → (fits g s e ≡ true) ↔ (count_of (fresh_positions_of g s e) + e.reserve ≤ free_now g committed working)
fits_free g c w s e st upwards =
    let one = free_is g c w s st in (
      (λ fit. let low = leb-true (in_use g s.committed s.dirty + count_of (fresh_positions_of g s e) + e.reserve) (allocable_of g) (sym (fits_fresh g s e upwards) ∙ fit) in omega arith),
      (λ room. fits_fresh g s e upwards ∙ le-leb (in_use g s.committed s.dirty + count_of (fresh_positions_of g s e) + e.reserve) (allocable_of g) (omega arith)),
    )

-- a point gains blocks where more will be free after it
pub gains_is : (g : Request) (committed working : View) (s : State) → StandForState g committed working s → gains_by_point g s ≡ (has_event s.mask full && nat_lt (free_now g committed working) (free_after g working))
gains_is g c w s st =
    let one = free_is g c w s st in
    let two = after_is g c w s st in
    ap (λ b. has_event s.mask full && b) (same_truth (nat_lt (count_of (tree_positions g s.tree)) (in_use g s.committed s.dirty)) (nat_lt (free_now g c w) (free_after g w))
    (λ h. let less = ltb-true (count_of (tree_positions g s.tree)) (in_use g s.committed s.dirty) h in lt-ltb (free_now g c w) (free_after g w) (omega arith))
    (λ h. let less = ltb-true (free_now g c w) (free_after g w) h in lt-ltb (count_of (tree_positions g s.tree)) (in_use g s.committed s.dirty) (omega arith)))

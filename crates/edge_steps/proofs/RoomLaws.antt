-- The trees of a session leave three blocks free.
use Rattle.std.proofs.Common.{◌≡◌, ℕ, ◌+◌, ◌≤◌, Bool, true, false, cond, List, [], ◌∷◌, ◌++◌, nat_eq, ◌⊎◌, inl, inr, ⊎_elim, Option, Some, None, Ok, refl, sym, ◌∙◌, subst, arith, eqb-true}
use Rattle.std.specs.List.{All}
use Rattle.std.proofs.lemmas.Bool.{cases_Bool, leb-true, or_left, or_right}
use Rattle.std.proofs.lemmas.List.Elements.{All-nil, All-cons, All-append}
use Rattle.edge_base.specs.declared.geometry.Request.{Request}
use Rattle.edge_base.specs.layout.Places.{allocable_of}
use Rattle.edge_base.specs.tree.Positions.{has, count_of}
use Rattle.edge_base.specs.tree.Nodes.{file}
use Rattle.edge_base.proofs.PositionLaws.{has-append, count_of-le_from_has, count_of-append-le}
use Rattle.edge_model.specs.Asked.{Asked, Reply}
use Rattle.edge_model.specs.Tree.{Tree, node_at, tree_positions, with_node}
use Rattle.edge_model.specs.State.{State, Plan, Edit, point_taken, planned, edited, ended, fits, in_use, dirty_of}
use Rattle.edge_model.specs.Step.{plan, step}
use Rattle.edge_model.specs.Files.{cut, content_of, present_of, is_marked, flags_for, resized}
use Rattle.edge_model.specs.Names.{unnamed, has_one_link}
use Rattle.edge_model.specs.Named.{cleared}
use Rattle.edge_model.specs.Laws.{IsDirtyWithin, IsCleanCommitted, IsDirtySound}
use Rattle.edge_model.specs.Walk.{Found}
use Rattle.edge_model.proofs.Members.{IsAmong, among, is_had}
use Rattle.edge_model.proofs.Ways.{blocks_of, is_on, is_there}
use Rattle.edge_model.proofs.SlotLaws.{marked_passes}
use Rattle.edge_model.proofs.EditLaws.{Grows, cleared_grows, without_node, with_empty_file, flags_have}
use Rattle.edge_model.proofs.DirtyLaws.{IsComplete, IsCompletePlan, edited_clean, point_within, point_clean}
use Rattle.edge_model.proofs.CompleteLaws.{each_complete}
use Rattle.edge_model.proofs.Outcomes.{each_outcome}
use Rattle.edge_model.proofs.Changes.{Change, nothing, empties, makes_file, makes_dir, writes, cuts, links, drops, moves, moves_over, edit_of, by_change}
use Rattle.edge_steps.specs.Room.{LeavesRoom, HasRoom}

-- ---- changes that add no block

abbrev pub HasNoMore : Request → Tree → Tree → Type 0
HasNoMore g t u = (n i : ℕ) → IsAmong (blocks_of g (u n)) i → IsAmong (blocks_of g (t n)) i

none_listed : (g : Request) (t u : Tree) → Grows g t [] u → HasNoMore g t u
none_listed g t u grows n i h = ⊎_elim (λ k. k) (λ none. absurd none) (grows n i h)

no_more_then : (g : Request) (t u v : Tree) → HasNoMore g t u → HasNoMore g u v → HasNoMore g t v
no_more_then g t u v one two n i h = one n i (two n i h)

unnamed_no_more : (g : Request) (t : Tree) (d : ℕ) (found : Found) (last : Bool) → HasNoMore g t (unnamed g t d found last).tree
unnamed_no_more g t d found true = no_more_then g t (cleared t d found.slot) (with_node (cleared t d found.slot) found.number None) (none_listed g t (cleared t d found.slot) (cleared_grows g t d found.slot []))
    (none_listed g (cleared t d found.slot) (with_node (cleared t d found.slot) found.number None) (without_node g (cleared t d found.slot) found.number []))
unnamed_no_more g t d found false = none_listed g t (cleared t d found.slot) (cleared_grows g t d found.slot [])

cut_no_more : (g : Request) (t : Tree) (n size : ℕ) → HasNoMore g t (cut g t n size).tree
cut_no_more g t n size x i h =
    elim (nat_eq n x) as (λ b. nat_eq n x ≡ b → IsAmong (blocks_of g (cond b (Some (file (resized (content_of (node_at t n)) size) (flags_for g size (is_marked (present_of (node_at t n)))))) (t x))) i → IsAmong (blocks_of g (t x)) i) [
      | true ↦ λ same k. subst (λ y. IsAmong (blocks_of g (t y)) i) (eqb-true n x same) (flags_have g (t n) i (marked_passes (is_marked (present_of (node_at t n))) 0 _ i k))
      | false ↦ λ other k. k
    ] refl h

-- a change leaves three blocks free, or adds none
abbrev IsModest : Request → Tree → Option Edit → Type 0
IsModest g t None = Unit {0}
IsModest g t (Some e) = (e.reserve ≡ 3) ⊎ HasNoMore g t e.tree

modest : (g : Request) (s : State) (c : Change g s) → IsModest g s.tree (edit_of g s c)
modest g s nothing = tt
modest g s (empties path spot found at there kind) = inr (none_listed g s.tree (with_node s.tree found.number (Some (file [] []))) (with_empty_file g s.tree found.number []))
modest g s (makes_file path d name n slot new) = inl refl
modest g s (makes_dir path d name n slot new) = inl refl
modest g s (writes h d new at fit) = inl refl
modest g s (cuts h d size at fit) = inr (cut_no_more g s.tree d.number size)
modest g s (links path to from found d name slot new) = inl refl
modest g s (drops path d name found dropped) = inr (unnamed_no_more g s.tree d found (has_one_link g s.tree found.number))
modest g s (moves path to from spot found slot moved absent room) = inl refl
modest g s (moves_over path to from spot found there moved at replaced) = inl refl

each_modest : (g : Request) (s : State) (c : Asked) (p : Plan) → plan g s c ≡ Ok p → IsModest g s.tree p.edit
each_modest g s c p was = by_change g s (IsModest g s.tree) (modest g s) c p was

-- ---- positions

fewer_positions : (g : Request) (t u : Tree) → HasNoMore g t u → count_of (tree_positions g u) ≤ count_of (tree_positions g t)
fewer_positions g t u less = count_of-le_from_has (tree_positions g u) (tree_positions g t) (λ p h.
    let on = is_on g u p (among (tree_positions g u) p h) in
    is_had (tree_positions g t) p (is_there g t p (record { number = on.number; index = on.index; is_number = on.is_number; is_block = less on.number on.index on.is_block; on_chain = on.on_chain })))

-- the new tree has positions of the committed one and dirty ones
changed_positions : (g : Request) (z : State) (e : Edit) → IsDirtyWithin g z → IsCleanCommitted g z → IsComplete g z.tree e → count_of (tree_positions g e.tree) ≤ count_of (tree_positions g z.committed) + count_of (dirty_of g z e ++ z.dirty)
changed_positions g z e within clean complete =
    let dirty = dirty_of g z e in
    let now = edited_clean g z (Some e) complete within clean in
    let one = count_of-le_from_has (tree_positions g e.tree) (tree_positions g z.committed ++ (dirty ++ z.dirty)) (λ p h.
    has-append (tree_positions g z.committed) (dirty ++ z.dirty) p ∙ ⊎_elim
    (λ is_dirty. or_right (has (tree_positions g z.committed) p) (has (dirty ++ z.dirty) p) (has-append dirty z.dirty p ∙ or_left (has dirty p) (has z.dirty p) is_dirty))
    (λ is_clean. or_left (has (tree_positions g z.committed) p) (has (dirty ++ z.dirty) p) (now p h is_clean))
    (cases_Bool (has dirty p))) in
    let two = count_of-append-le (tree_positions g z.committed) (dirty ++ z.dirty) in
    omega arith

-- ---- the room of the new tree

room_after : (g : Request) (z : State) (e : Edit) → IsDirtyWithin g z → IsCleanCommitted g z → IsComplete g z.tree e → IsModest g z.tree (Some e) → fits g z e ≡ true → LeavesRoom g z.tree → LeavesRoom g e.tree
room_after g z e within clean complete modestly fit room = ⊎_elim
    (λ (three : e.reserve ≡ 3).
    let few = changed_positions g z e within clean complete in
    let free = leb-true (in_use g z.committed (dirty_of g z e ++ z.dirty) + e.reserve) (allocable_of g) fit in
    omega arith)
    (λ less. let few = fewer_positions g z.tree e.tree less in omega arith)
    modestly

-- what a plan leads to
planned_room : (g : Request) (s z : State) (c : Asked) (p : Plan) (e : Edit) → plan g s c ≡ Ok p → p.edit ≡ Some e → z.tree ≡ s.tree → IsDirtyWithin g z → IsCleanCommitted g z → fits g z e ≡ true → HasRoom g z → HasRoom g (planned g z p)
planned_room g s z c p e was has_edit same within clean fit room =
    let complete : IsCompletePlan g z.tree (Some e) = subst (λ t. IsCompletePlan g t (Some e)) (sym same) (subst (IsCompletePlan g s.tree) has_edit (each_complete g s c p was)) in
    let modestly = subst (λ t. IsModest g t (Some e)) (sym same) (subst (IsModest g s.tree) has_edit (each_modest g s c p was)) in
    let now = room_after g z e within clean complete modestly fit room.tree in
    record {
      tree = subst (λ o. LeavesRoom g (edited g z o).tree) (sym has_edit) now;
      committed = subst (λ o. LeavesRoom g (edited g z o).committed) (sym has_edit) room.committed;
    }

unedited_room : (g : Request) (z : State) (p : Plan) → p.edit ≡ None → HasRoom g z → HasRoom g (planned g z p)
unedited_room g z p none room = record {
  tree = subst (λ o. LeavesRoom g (edited g z o).tree) (sym none) room.tree;
  committed = subst (λ o. LeavesRoom g (edited g z o).committed) (sym none) room.committed;
}

pub point_room : (g : Request) (s : State) → HasRoom g s → HasRoom g (point_taken s)
point_room g s room = record { tree = room.tree; committed = room.tree }

-- the state and its points
record OutcomeRoom (g : Request) (z : State) (points : List Tree) : Type 0 where
  state : HasRoom g z
  points_too : All (LeavesRoom g) points

ended_room : (g : Request) (point : Bool) (z : State) (reply : Reply) (points : List Tree) → HasRoom g z → All (LeavesRoom g) points → OutcomeRoom g (ended point z reply points).state (ended point z reply points).points
ended_room g true z reply points room all = record { state = point_room g z room; points_too = All-append (LeavesRoom g) points (z.tree ∷ []) all (All-cons (LeavesRoom g) z.tree [] room.tree (All-nil (LeavesRoom g))) }
ended_room g false z reply points room all = record { state = room; points_too = all }

outcome_room : (g : Request) (s : State) (c : Asked) → IsDirtySound g s → HasRoom g s → OutcomeRoom g (step g s c).state (step g s c).points
unfolding step
outcome_room g s c sound room =
    let none = All-nil (LeavesRoom g) in
    let one = All-cons (LeavesRoom g) s.tree [] room.tree none in
    let taken = point_room g s room in
    each_outcome g s (plan g s c) (λ o. OutcomeRoom g o.state o.points) (record {
      by_plan = λ e was. record { state = room; points_too = none };
      without_edit = λ p was no_edit. ended_room g p.point (planned g s p) p.reply [] (unedited_room g s p no_edit room) none;
      fitting = λ p e was has_edit fit. ended_room g p.point (planned g s p) p.reply [] (planned_room g s s c p e was has_edit refl sound.within sound.clean fit room) none;
      full = λ p e was has_edit tight gains_none. record { state = room; points_too = none };
      fitting_then = λ p e was has_edit tight gains fit. ended_room g p.point (planned g (point_taken s) p) p.reply (s.tree ∷ [])
          (planned_room g s (point_taken s) c p e was has_edit refl (point_within g s) (point_clean g s) fit taken) one;
      full_then = λ p e was has_edit tight gains still. record { state = taken; points_too = one };
    })

pub step_room : (g : Request) (s : State) (c : Asked) → IsDirtySound g s → HasRoom g s → HasRoom g (step g s c).state
step_room g s c sound room = (outcome_room g s c sound room).state

pub points_room : (g : Request) (s : State) (c : Asked) → IsDirtySound g s → HasRoom g s → All (LeavesRoom g) (step g s c).points
points_room g s c sound room = (outcome_room g s c sound room).points_too

-- Each command lists the data blocks that it adds, so that a position that is not dirty is one of the committed tree.
use Rattle.std.proofs.Common.{◌≡◌, ℕ, ◌/◌, ◌≤◌, Bool, true, false, cond, List, [], ◌∷◌, length, nat_le, inl, Option, Some, None, Ok, refl, sym, subst, arith}
use Rattle.std.proofs.lemmas.Bool.{false≢true}
use Rattle.edge_base.specs.declared.geometry.Request.{Request}
use Rattle.edge_base.specs.declared.refusal.Refusal.TheVariants as refusal
use Rattle.edge_base.specs.commands.Refusals.{refuse_if}
use Rattle.edge_base.specs.tree.Positions.{Position}
use Rattle.edge_base.specs.layout.Places.{max_blocks_of}
use Rattle.edge_base.specs.tree.Slots.{slots_in_block}
use Rattle.edge_base.specs.commands.Descriptors.{first_empty}
use Rattle.edge_base.specs.tree.Nodes.{Node, file, directory}
use Rattle.edge_model.specs.Asked.{Asked}
use Rattle.edge_model.specs.Tree.{Tree, slots_at, with_node}
use Rattle.edge_model.specs.Walk.{Spot, top, within, Found, at_spot}
use Rattle.edge_model.specs.State.{State, Plan, first_state, point_taken, closes_with_point}
use Rattle.edge_model.specs.Step.{step, plan}
use Rattle.edge_model.specs.Named.{new_slot, placed, slot_position}
use Rattle.edge_model.specs.Files.{write_place}
use Rattle.edge_model.specs.Names.{has_one_link, holder}
use Rattle.edge_model.specs.Run.{run_of, closed}
use Rattle.edge_model.specs.Laws.{IsDirtyWithin, IsCleanCommitted, IsDirtySound}
use Rattle.edge_model.proofs.Outcomes.{each_state}
use Rattle.edge_model.proofs.Plans.{Gives, gives_ok, gives_after}
use Rattle.edge_model.proofs.RunLaws.{run_state_keeps}
use Rattle.edge_model.proofs.SlotLaws.{first_empty_within, found_within}
use Rattle.edge_model.proofs.DirtyLaws.{IsComplete, IsCompletePlan, point_within, point_upwards, point_clean, edited_within, edited_clean, step_within, step_upwards}
use Rattle.edge_model.proofs.Changes.{Change, nothing, empties, makes_file, makes_dir, writes, cuts, links, drops, moves, moves_over, IsNewName, made, edit_of, by_change, passes}
use Rattle.edge_model.proofs.EditLaws.{Grows, grows_then, placed_grows, with_empty_file, with_empty_directory, written_complete, cut_complete, emptied_complete, unnamed_complete, renamed_complete}

-- ---- where slots are

pub slot_is : (g : Request) (t : Tree) (d : ℕ) → Gives (λ slot. (slot ≡ first_empty (slots_at t d)) × (nat_le (max_blocks_of g) (first_empty (slots_at t d) / slots_in_block g) ≡ false)) (new_slot g t d)
slot_is g t d = gives_after _ (refuse_if (nat_le (max_blocks_of g) (first_empty (slots_at t d) / slots_in_block g)) refusal.TooBig) _ (λ u room. gives_ok _ (first_empty (slots_at t d)) (refl, passes _ _ u room))

pub slot_within : (g : Request) (t : Tree) (d slot : ℕ) → new_slot g t d ≡ Ok slot → slot ≤ length (slots_at t d)
slot_within g t d slot room = subst (λ n. n ≤ length (slots_at t d)) (sym ((slot_is g t d).holds slot room).0) (first_empty_within (slots_at t d))

pub spot_within : (t : Tree) (spot : Spot) (found : Found) → at_spot t spot ≡ Some found → found.slot ≤ length (slots_at t (holder spot))
spot_within t top found h = let at = root_slot found h in omega arith
  where
    root_slot : (x : Found) → Some (record { slot = 0; number = 2 }) ≡ Some x → 0 ≡ x.slot
    root_slot x e = cc
spot_within t (within d name) found h = found_within name (slots_at t d) found h

-- ---- each change

made_complete : (g : Request) (t : Tree) (path : List ℕ) (d : ℕ) (name : List ℕ) (n slot : ℕ) (node : Node) → IsNewName g t path d name n slot
    → ((u : Tree) (listed : List Position) → Grows g u listed (with_node u n (Some node))) → IsComplete g t (made g t d name n slot node)
made_complete g t path d name n slot node new empty =
    let listed = slot_position g d slot ∷ [] in
    let under = placed t d slot (record { name = name; number = n }) in
    grows_then g t under (with_node under n (Some node)) listed (placed_grows g t d slot (record { name = name; number = n }) listed (slot_within g t d slot new.room) (inl refl)) (empty under listed)

complete_change : (g : Request) (s : State) (c : Change g s) → IsCompletePlan g s.tree (edit_of g s c)
complete_change g s nothing = tt
complete_change g s (empties path spot found at there kind) = emptied_complete g s.tree found.number
complete_change g s (makes_file path d name n slot new) = made_complete g s.tree path d name n slot (file [] []) new (λ u listed. with_empty_file g u n listed)
complete_change g s (makes_dir path d name n slot new) = made_complete g s.tree path d name n slot (directory [] d) new (λ u listed. with_empty_directory g u n d listed)
complete_change g s (writes h d new at fits) = written_complete g s.tree d.number (write_place s d) new
complete_change g s (cuts h d size at fits) = cut_complete g s.tree d.number size
complete_change g s (links path to from found d name slot new) = placed_grows g s.tree d slot (record { name = name; number = found.number }) (slot_position g d slot ∷ []) (slot_within g s.tree d slot new.room) (inl refl)
complete_change g s (drops path d name found dropped) = unnamed_complete g s.tree d found (has_one_link g s.tree found.number)
complete_change g s (moves path to from spot found slot moved absent room) = renamed_complete g s.tree from found spot slot None (slot_within g s.tree (holder spot) slot room)
complete_change g s (moves_over path to from spot found there moved at replaced) = renamed_complete g s.tree from found spot there.slot (Some there.number) (spot_within s.tree spot there at)

pub each_complete : (g : Request) (s : State) (c : Asked) (p : Plan) → plan g s c ≡ Ok p → IsCompletePlan g s.tree p.edit
each_complete g s c p was = by_change g s (IsCompletePlan g s.tree) (complete_change g s) c p was

-- ---- the law

abbrev Clean : Request → State → Type 0
Clean g s = IsDirtyWithin g s × IsCleanCommitted g s

-- each position of the tree that is not dirty stays one of the committed tree
pub step_clean : (g : Request) (s : State) (c : Asked) → IsDirtyWithin g s → IsCleanCommitted g s → IsCleanCommitted g (step g s c).state
unfolding step
step_clean g s c is_within clean = (each_state g s (plan g s c) (Clean g) (λ z k. (point_within g z, point_clean g z))
    (λ p was z same k. (edited_within g z p.edit k.0, edited_clean g z p.edit (subst (λ t. IsCompletePlan g t p.edit) (sym same) (each_complete g s c p was)) k.0 k.1))
    (is_within, clean)).1

-- ---- the three rules of dirty positions together

pub step_sound : (g : Request) (s : State) (c : Asked) → IsDirtySound g s → IsDirtySound g (step g s c).state
step_sound g s c sound = record { within = step_within g s c sound.within; upwards = step_upwards g s c sound.upwards; clean = step_clean g s c sound.within sound.clean }

pub point_sound : (g : Request) (s : State) → IsDirtySound g (point_taken s)
point_sound g s = record { within = point_within g s; upwards = point_upwards g s; clean = point_clean g s }

first_sound : (g : Request) (t : Tree) → IsDirtySound g (first_state t)
first_sound g t = record { within = λ p h. absurd (false≢true h); upwards = λ p q h up. absurd (false≢true h); clean = λ p there clean. there }

pub run_sound : (g : Request) (t : Tree) (lines : List (Option Asked)) → IsDirtySound g (run_of g t lines).state
run_sound g t lines = run_state_keeps (IsDirtySound g) g (step_sound g) t lines (first_sound g t)

closed_by_sound : (g : Request) (point : Bool) (s : State) → IsDirtySound g s → IsDirtySound g (cond point (point_taken s) s)
closed_by_sound g true s sound = point_sound g s
closed_by_sound g false s sound = sound

pub closed_sound : (g : Request) (t : Tree) (lines : List (Option Asked)) → IsDirtySound g (closed (run_of g t lines)).state
closed_sound g t lines = closed_by_sound g (closes_with_point (run_of g t lines).state) (run_of g t lines).state (run_sound g t lines)

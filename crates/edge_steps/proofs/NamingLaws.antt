-- How many slots name a number, after a name is placed, cleared or moved.
use Rattle.std.proofs.Common.{◌≡◌, ◌≢◌, ℕ, ◌+◌, ◌<◌, ◌≤◌, ◌==◌, Bool, true, false, cond, List, [], length, is_some, ⊎_elim, unwrap_or, Option, Some, None, refl, sym, ap, ◌∙◌, arith}
use Rattle.std.proofs.lemmas.Bool.{false≢true, cases_eq}
use Rattle.edge_base.specs.declared.geometry.Request.{Request}
use Rattle.edge_base.specs.tree.Slots.{Entry, Slots}
use Rattle.edge_base.specs.tree.Nodes.{Node, file}
use Rattle.edge_model.specs.Named.{placed, cleared}
use Rattle.edge_model.specs.Names.{renamed, has_one_link}
use Rattle.edge_model.specs.Rules.{IsTree}
use Rattle.edge_model.specs.Tree.{Tree, is_directory, slots_at, slots_of_node, names_of_number, with_node}
use Rattle.edge_model.specs.Walk.{Found, within}
use Rattle.edge_steps.specs.Naming.{slot_of, names_once}
use Rattle.edge_steps.proofs.SlotLaws.{slot_in, none_some}
use Rattle.edge_steps.proofs.CountLaws.{ones, slot_at, SameSlots, SlotSet, same_names, names_changed, slot_names}
use Rattle.edge_steps.proofs.NodeLaws.{node_set, slots_others, same_kinds, placed_set, cleared_set, placed_slot, cleared_slot}
use Rattle.edge_steps.proofs.MakeLaws.{none_before}
use Rattle.edge_steps.proofs.RenameLaws.{parent_set}

pub placed_names : (g : Request) (t : Tree) (d slot : ℕ) (e : Entry) (n : ℕ) → is_directory t d ≡ true → 2 ≤ d → d < 2 + g.inodes → slot ≤ length (slots_at t d)
    → names_of_number g (placed t d slot e) n + names_once n (slot_of t d slot) ≡ names_of_number g t n + names_once n (Some e)
placed_names g t d slot e n kind low high inside = names_changed g t (placed t d slot e) d slot (Some e) n (placed_slot t d slot e kind inside) low high

pub cleared_names : (g : Request) (t : Tree) (d slot n : ℕ) → is_directory t d ≡ true → 2 ≤ d → d < 2 + g.inodes → names_of_number g (cleared t d slot) n + names_once n (slot_of t d slot) ≡ names_of_number g t n
cleared_names g t d slot n kind low high =
    let all = names_changed g t (cleared t d slot) d slot None n (cleared_slot t d slot kind) low high in
    let none : ones n None ≡ 0 = refl in
    omega arith

pub unchanged_names : (g : Request) (t u : Tree) (n : ℕ) → ((d : ℕ) → slots_at u d ≡ slots_at t d) → names_of_number g u n ≡ names_of_number g t n
unchanged_names g t u n same = same_names g t u n (record { same = λ x j. ap (λ (slots : Slots). slot_in slots j) (same x) })

-- where the new node of a number has the slots of the old one
pub set_names : (g : Request) (t : Tree) (n : ℕ) (node : Option Node) (m : ℕ) → slots_at (with_node t n node) n ≡ slots_at t n → names_of_number g (with_node t n node) m ≡ names_of_number g t m
set_names g t n node m same = unchanged_names g t (with_node t n node) m (λ d. ⊎_elim
    (λ (here : d ≡ n). ap (slots_at (with_node t n node)) here ∙ same ∙ ap (slots_at t) (sym here))
    (λ (other : d ≡ n → ⊥). slots_others t (with_node t n node) n node d (node_set t n node) other)
    (cases_eq d n))

-- nothing names a number without a node
pub absent_names : (g : Request) (t : Tree) (n : ℕ) → IsTree g t → t n ≡ None → names_of_number g t n ≡ 0
absent_names g t n tree none = none_before g t n (λ x j f at is. false≢true (sym (ap (λ (o : Option Node). is_some o) none) ∙ (tree.named x n (slot_names t x j n f at is)).0))

pub placed_kinds : (t : Tree) (d slot : ℕ) (e : Entry) (n : ℕ) → is_directory t d ≡ true → is_directory (placed t d slot e) n ≡ is_directory t n
placed_kinds t d slot e n kind = (same_kinds t (placed t d slot e) d _ (placed_set t d slot e kind)).kinds n

pub cleared_kinds : (t : Tree) (d slot n : ℕ) → is_directory t d ≡ true → is_directory (cleared t d slot) n ≡ is_directory t n
cleared_kinds t d slot n kind = (same_kinds t (cleared t d slot) d _ (cleared_set t d slot kind)).kinds n

-- ---- a name moved

-- a node without slots is dropped
dropped_slots : (t : Tree) (m : ℕ) → ((j : ℕ) → slot_at t m j ≡ None) → SameSlots t (with_node t m None)
dropped_slots t m none = record {
  same = λ x j. ⊎_elim
      (λ (here : x ≡ m). ap (λ y. slot_at (with_node t m None) y j) here ∙ gone j ∙ sym (ap (λ y. slot_at t y j) here ∙ none j))
      (λ (other : x ≡ m → ⊥). ap (λ (slots : Slots). slot_in slots j) (slots_others t (with_node t m None) m None x (node_set t m None) other))
      (cases_eq x m);
}
  where
    gone : (j : ℕ) → slot_at (with_node t m None) m j ≡ None
    gone j = ap (λ (slots : Slots). slot_in slots j) (no_slots (with_node t m None m) (node_set t m None).here)
      where
        no_slots : (o : Option Node) → o ≡ None → slots_of_node (unwrap_or o (file [] [])) ≡ []
        no_slots o is = ap (λ (x : Option Node). slots_of_node (unwrap_or x (file [] []))) is

lost_slots : (g : Request) (t left : Tree) (m : ℕ) → ((j : ℕ) → slot_at left m j ≡ None) → (last : Bool) → SameSlots left (cond last (with_node left m None) left)
lost_slots g t left m none true = dropped_slots left m none
lost_slots g t left m none false = record { same = λ x j. refl }

then_slots : (t u w : Tree) → SameSlots t u → SameSlots u w → SameSlots t w
then_slots t u w one two = record { same = λ x j. two.same x j ∙ one.same x j }

module _ (g : Request) (t : Tree) (df : ℕ) (name : List ℕ) (found : Found) (dt : ℕ) (target : List ℕ) (slot : ℕ) (f : Entry) (kind_from : is_directory t df ≡ true) (kind_to : is_directory t dt ≡ true)
    (was : slot_of t df found.slot ≡ Some f) (number : f.number ≡ found.number) (inside : slot ≤ length (slots_at t dt)) (apart : dt ≡ df → slot ≡ found.slot → ⊥) where
  abbrev entry : Entry
  entry = record { name = target; number = found.number }

  abbrev held : Tree
  held = placed t dt slot entry

  abbrev left : Tree
  left = cleared held df found.slot

  one : SlotSet t held dt slot (Some entry)
  one = placed_slot t dt slot entry kind_to inside

  two : SlotSet held left df found.slot None
  two = cleared_slot held df found.slot (placed_kinds t dt slot entry df kind_to ∙ kind_from)

  still : slot_at held df found.slot ≡ Some f
  still = one.others df found.slot (λ same at. apart (sym same) (sym at)) ∙ was

  left_names : (n : ℕ) → 2 ≤ df → df < 2 + g.inodes → 2 ≤ dt → dt < 2 + g.inodes → names_of_number g left n + names_once n (slot_of t dt slot) ≡ names_of_number g t n
  left_names n low_from high_from low_to high_to =
      let first = names_changed g t held dt slot (Some entry) n one low_to high_to in
      let second = names_changed g held left df found.slot None n two low_from high_from in
      let none : ones n None ≡ 0 = refl in
      let here : ones n (slot_at held df found.slot) ≡ ones n (Some f) = ap (ones n) still in
      let same : ones n (Some entry) ≡ ones n (Some f) = ap (λ (x : ℕ). cond (x == n) 1 0) (sym number) in
      omega arith

  -- a node without slots that neither directory is has none afterwards
  left_empty : (m : ℕ) → slots_at t m ≡ [] → m ≢ dt → (j : ℕ) → slot_at left m j ≡ None
  left_empty m empty other j =
      let bare = ap (λ (slots : Slots). slot_in slots j) empty in
      let not_from : m ≡ df → ⊥ = λ same. none_some f (sym (ap (λ (slots : Slots). slot_in slots found.slot) (ap (slots_at t) (sym same) ∙ empty)) ∙ was) in
      two.others m j (λ same at. not_from same) ∙ one.others m j (λ same at. other same) ∙ bare

  renamed_slots : (replaced : Option ℕ) → ((m : ℕ) → replaced ≡ Some m → (slots_at t m ≡ []) × (m ≢ dt)) → SameSlots left (renamed g t (within df name) found (within dt target) slot replaced).tree
  renamed_slots None lost = (parent_set left found.number dt).slots
  renamed_slots (Some m) lost =
      let bare = lost m refl in
      let less = lost_slots g t left m (left_empty m bare.0 bare.1) (has_one_link g t m) in
      then_slots left (cond (has_one_link g t m) (with_node left m None) left) _ less (parent_set (cond (has_one_link g t m) (with_node left m None) left) found.number dt).slots

  pub renamed_names : (replaced : Option ℕ) (n : ℕ) → 2 ≤ df → df < 2 + g.inodes → 2 ≤ dt → dt < 2 + g.inodes → ((m : ℕ) → replaced ≡ Some m → (slots_at t m ≡ []) × (m ≢ dt))
      → names_of_number g (renamed g t (within df name) found (within dt target) slot replaced).tree n + names_once n (slot_of t dt slot) ≡ names_of_number g t n
  renamed_names replaced n low_from high_from low_to high_to lost =
      let all = left_names n low_from high_from low_to high_to in
      let same = same_names g left (renamed g t (within df name) found (within dt target) slot replaced).tree n (renamed_slots replaced lost) in
      omega arith

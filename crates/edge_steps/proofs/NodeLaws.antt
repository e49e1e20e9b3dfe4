-- What a change of one number's node leaves of a tree: its nodes, its kinds and its slots.
use Rattle.std.proofs.Common.{◌≡◌, ℕ, ◌+◌, ◌<◌, ◌≤◌, ◌/◌, Bool, true, false, cond, List, [], length, is_some, unwrap_or, ◌⊎◌, ⊎_elim, Option, Some, None, refl, sym, ap, ◌∙◌, subst, eq-eqb}
use Rattle.std.proofs.lemmas.Bool.{false≢true, cases_eq, ne_eqb}
use Rattle.edge_base.specs.declared.geometry.Request.{Request}
use Rattle.edge_base.specs.layout.Places.{max_blocks_of}
use Rattle.edge_base.specs.tree.Slots.{Entry, Slots, slots_in_block}
use Rattle.edge_base.specs.tree.Nodes.{Node, file, directory}
use Rattle.edge_base.specs.tree.NodeRules.{IsNode, IsEntry, IsDirectory}
use Rattle.edge_model.specs.Tree.{Tree, is_directory, is_directory_node, slots_at, slots_of_node, with_node, with_slots}
use Rattle.edge_model.specs.Named.{with_slot, without_slot, placed, cleared}
use Rattle.edge_model.specs.Rules.{IsTree}
use Rattle.edge_steps.proofs.SlotLaws.{slot_in, none_some, some_same, IsNewIn, placed_here, placed_elsewhere, cleared_here, cleared_elsewhere, to_slotwise, from_slotwise, placed_slotwise, cleared_slotwise}
use Rattle.edge_steps.proofs.CountLaws.{slot_at, SlotSet}

-- number n has another node, or none
pub record NodeSet (t u : Tree) (n : ℕ) (node : Option Node) : Type 0 where
  pub here : u n ≡ node
  pub others : (x : ℕ) → (x ≡ n → ⊥) → u x ≡ t x

pub node_set : (t : Tree) (n : ℕ) (node : Option Node) → NodeSet t (with_node t n node) n node
node_set t n node = record {
  here = ap (λ b. cond b node (t n)) (eq-eqb n n refl);
  others = λ x other. ap (λ b. cond b node (t x)) (ne_eqb n x (λ same. other (sym same)));
}

-- ---- kinds

-- what is no number is no directory
pub directory_is : (t : Tree) (d : ℕ) → is_directory t d ≡ true → (slots : Slots) × (parent : ℕ) × (t d ≡ Some (directory slots parent))
directory_is t d h = by_node (t d) refl
  where
    by_node : (node : Option Node) → t d ≡ node → (slots : Slots) × (parent : ℕ) × (t d ≡ Some (directory slots parent))
    by_node None is = absurd (false≢true (sym (ap (λ (o : Option Node). is_directory_node (unwrap_or o (file [] []))) is) ∙ h))
    by_node (Some (file content present)) is = absurd (false≢true (sym (ap (λ (o : Option Node). is_directory_node (unwrap_or o (file [] []))) is) ∙ h))
    by_node (Some (directory slots parent)) is = (slots, parent, is)

pub is_a_directory : (t : Tree) (d : ℕ) (slots : Slots) (parent : ℕ) → t d ≡ Some (directory slots parent) → is_directory t d ≡ true
is_a_directory t d slots parent is = ap (λ (o : Option Node). is_directory_node (unwrap_or o (file [] []))) is

pub is_a_file : (t : Tree) (d : ℕ) (content : List ℕ) (present : List Bool) → t d ≡ Some (file content present) → is_directory t d ≡ false
is_a_file t d content present is = ap (λ (o : Option Node). is_directory_node (unwrap_or o (file [] []))) is

pub slots_are : (t : Tree) (d : ℕ) (slots : Slots) (parent : ℕ) → t d ≡ Some (directory slots parent) → slots_at t d ≡ slots
slots_are t d slots parent is = ap (λ (o : Option Node). slots_of_node (unwrap_or o (file [] []))) is

-- a node that is there and no directory is a file
pub file_is : (t : Tree) (n : ℕ) → is_some (t n) ≡ true → is_directory t n ≡ false → (content : List ℕ) × (present : List Bool) × (t n ≡ Some (file content present))
file_is t n there kind = by_node (t n) refl
  where
    by_node : (node : Option Node) → t n ≡ node → (content : List ℕ) × (present : List Bool) × (t n ≡ Some (file content present))
    by_node None is = absurd (false≢true (sym (ap (λ (o : Option Node). is_some o) is) ∙ there))
    by_node (Some (file content present)) is = (content, present, is)
    by_node (Some (directory slots parent)) is = absurd (false≢true (sym kind ∙ ap (λ (o : Option Node). is_directory_node (unwrap_or o (file [] []))) is))

-- what has a slot is a directory
pub slot_in_directory : (t : Tree) (d i : ℕ) (e : Entry) → slot_at t d i ≡ Some e → is_directory t d ≡ true
slot_in_directory t d i e h = by_node (t d) refl
  where
    by_node : (node : Option Node) → t d ≡ node → is_directory t d ≡ true
    by_node None is = absurd (none_some e (sym (ap (λ (o : Option Node). slot_in (slots_of_node (unwrap_or o (file [] []))) i) is) ∙ h))
    by_node (Some (file content present)) is = absurd (none_some e (sym (ap (λ (o : Option Node). slot_in (slots_of_node (unwrap_or o (file [] []))) i) is) ∙ h))
    by_node (Some (directory slots parent)) is = is_a_directory t d slots parent is

pub is_there : (t : Tree) (n : ℕ) (node : Node) → t n ≡ Some node → is_some (t n) ≡ true
is_there t n node is = ap (λ (o : Option Node). is_some o) is

pub directory_there : (t : Tree) (d : ℕ) → is_directory t d ≡ true → is_some (t d) ≡ true
directory_there t d h = let is = directory_is t d h in is_there t d (directory is.0 is.1) is.2

-- ---- the rules of each node by itself

pub record HasBase (g : Request) (t : Tree) : Type 0 where
  pub in_range : (n : ℕ) → is_some (t n) ≡ true → (2 ≤ n) × (n < 2 + g.inodes)
  pub root : (slots : Slots) × (t 2 ≡ Some (directory slots 0))
  pub nodes : (n : ℕ) (node : Node) → t n ≡ Some node → IsNode g node

pub base_of : (g : Request) (t : Tree) → IsTree g t → HasBase g t
base_of g t tree = record { in_range = tree.in_range; root = tree.root; nodes = tree.nodes }

at_or_other : (n x : ℕ) → (x ≡ n) ⊎ (x ≡ n → ⊥)
at_or_other n x = cases_eq x n

-- a node in place of another
pub base_set : (g : Request) (t u : Tree) (n : ℕ) (node : Node) → HasBase g t → NodeSet t u n (Some node) → (2 ≤ n) × (n < 2 + g.inodes) → (n ≡ 2 → (slots : Slots) × (node ≡ directory slots 0)) → IsNode g node → HasBase g u
base_set g t u n node base set range is_root good = record {
  in_range = λ x there. ⊎_elim
      (λ (same : x ≡ n). subst (λ y. (2 ≤ y) × (y < 2 + g.inodes)) (sym same) range)
      (λ (other : x ≡ n → ⊥). base.in_range x (ap (λ (o : Option Node). is_some o) (sym (set.others x other)) ∙ there))
      (cases_eq x n);
  root = ⊎_elim
      (λ (same : 2 ≡ n). let r = is_root (sym same) in (r.0, ap u same ∙ set.here ∙ ap Some r.1))
      (λ (other : 2 ≡ n → ⊥). (base.root.0, set.others 2 other ∙ base.root.1))
      (cases_eq 2 n);
  nodes = λ x y is. ⊎_elim
      (λ (same : x ≡ n). subst (IsNode g) (some_same node y (sym set.here ∙ ap u (sym same) ∙ is)) good)
      (λ (other : x ≡ n → ⊥). base.nodes x y (sym (set.others x other) ∙ is))
      (cases_eq x n);
}

-- a node dropped
pub base_dropped : (g : Request) (t u : Tree) (n : ℕ) → HasBase g t → NodeSet t u n None → (n ≡ 2 → ⊥) → HasBase g u
base_dropped g t u n base set not_root = record {
  in_range = λ x there. base.in_range x (ap (λ (o : Option Node). is_some o) (sym (set.others x (was x there))) ∙ there);
  root = (base.root.0, set.others 2 (λ same. not_root (sym same)) ∙ base.root.1);
  nodes = λ x y is. base.nodes x y (sym (set.others x (was x (is_there u x y is))) ∙ is);
}
  where
    was : (x : ℕ) → is_some (u x) ≡ true → x ≡ n → ⊥
    was x there same = false≢true (sym (ap (λ (o : Option Node). is_some o) (ap u same ∙ set.here)) ∙ there)

-- ---- directories with other slots

-- directory d of both trees, with the same parent and perhaps other slots
pub record SlotsSet (t u : Tree) (d : ℕ) (slots : Slots) : Type 0 where
  pub parent : ℕ
  pub was : t d ≡ Some (directory (slots_at t d) parent)
  pub set : NodeSet t u d (Some (directory slots parent))

pub with_slots_is : (t : Tree) (d : ℕ) (slots old : Slots) (parent : ℕ) → t d ≡ Some (directory old parent) → with_slots t d slots ≡ with_node t d (Some (directory slots parent))
with_slots_is t d slots old parent is = rw is refl

pub slots_set : (t : Tree) (d : ℕ) (slots : Slots) → is_directory t d ≡ true → SlotsSet t (with_slots t d slots) d slots
slots_set t d slots kind =
    let is = directory_is t d kind in
    record {
      parent = is.1;
      was = is.2 ∙ ap (λ s. Some (directory s is.1)) (sym (slots_are t d is.0 is.1 is.2));
      set = subst (λ u. NodeSet t u d (Some (directory slots is.1))) (sym (with_slots_is t d slots is.0 is.1 is.2)) (node_set t d (Some (directory slots is.1)));
    }

pub slots_now : (t u : Tree) (d : ℕ) (slots : Slots) → SlotsSet t u d slots → slots_at u d ≡ slots
slots_now t u d slots set = slots_are u d slots set.parent set.set.here

pub slots_others : (t u : Tree) (n : ℕ) (new : Option Node) (x : ℕ) → NodeSet t u n new → (x ≡ n → ⊥) → slots_at u x ≡ slots_at t x
slots_others t u n new x set other = ap (λ (o : Option Node). slots_of_node (unwrap_or o (file [] []))) (set.others x other)

pub base_slots : (g : Request) (t u : Tree) (d : ℕ) (slots : Slots) → HasBase g t → SlotsSet t u d slots → IsDirectory g slots → HasBase g u
base_slots g t u d slots base set good = base_set g t u d (directory slots set.parent) base set.set (base.in_range d (is_there t d (directory (slots_at t d) set.parent) set.was))
    (λ same. (slots, ap (λ p. directory slots p) (let is : Some (directory (slots_at t d) set.parent) ≡ Some (directory base.root.0 0) = sym set.was ∙ ap t same ∙ base.root.1 in cc)))
    good

-- the kinds stay, and so do the parents
pub record SameKinds (t u : Tree) : Type 0 where
  pub there : (x : ℕ) → is_some (u x) ≡ is_some (t x)
  pub files : (x : ℕ) (content : List ℕ) (present : List Bool) → u x ≡ Some (file content present) → t x ≡ Some (file content present)
  pub directories : (x : ℕ) (slots : Slots) (parent : ℕ) → u x ≡ Some (directory slots parent) → t x ≡ Some (directory (slots_at t x) parent)
  pub kinds : (x : ℕ) → is_directory u x ≡ is_directory t x

pub same_kinds : (t u : Tree) (d : ℕ) (slots : Slots) → SlotsSet t u d slots → SameKinds t u
same_kinds t u d slots set = record {
  there = λ x. ⊎_elim
      (λ (same : x ≡ d). ap (λ y. is_some (u y)) same ∙ is_there u d (directory slots set.parent) set.set.here ∙ sym (ap (λ y. is_some (t y)) same ∙ is_there t d (directory (slots_at t d) set.parent) set.was))
      (λ (other : x ≡ d → ⊥). ap (λ (o : Option Node). is_some o) (set.set.others x other))
      (cases_eq x d);
  files = λ x content present is. ⊎_elim
      (λ (same : x ≡ d). absurd (let wrong : Some (directory slots set.parent) ≡ Some (file content present) = sym set.set.here ∙ ap u (sym same) ∙ is in cc))
      (λ (other : x ≡ d → ⊥). sym (set.set.others x other) ∙ is)
      (cases_eq x d);
  directories = λ x now parent is. ⊎_elim
      (λ (same : x ≡ d). let both : Some (directory slots set.parent) ≡ Some (directory now parent) = sym set.set.here ∙ ap u (sym same) ∙ is in
      let parents : set.parent ≡ parent = cc in
      ap t same ∙ set.was ∙ (λ i. Some (directory (slots_at t (sym same i)) (parents i))))
      (λ (other : x ≡ d → ⊥). let old : t x ≡ Some (directory now parent) = sym (set.set.others x other) ∙ is in old ∙ ap (λ s. Some (directory s parent)) (sym (slots_are t x now parent old)))
      (cases_eq x d);
  kinds = λ x. ⊎_elim
      (λ (same : x ≡ d). ap (λ y. is_directory u y) same ∙ is_a_directory u d slots set.parent set.set.here ∙ sym (ap (λ y. is_directory t y) same ∙ is_a_directory t d (slots_at t d) set.parent set.was))
      (λ (other : x ≡ d → ⊥). ap (λ (o : Option Node). is_directory_node (unwrap_or o (file [] []))) (set.set.others x other))
      (cases_eq x d);
}

-- ---- a name placed and a name cleared

set_slots_then : (t u : Tree) (d i : ℕ) (slots : Slots) (new : Option Entry) → SlotsSet t u d slots → slot_in slots i ≡ new → ((j : ℕ) → (j ≡ i → ⊥) → slot_in slots j ≡ slot_in (slots_at t d) j) → SlotSet t u d i new
set_slots_then t u d i slots new set here rest = record {
  here = ap (λ s. slot_in s i) (slots_now t u d slots set) ∙ here;
  others = λ x j other. ⊎_elim
      (λ (same : x ≡ d). ap (λ y. slot_at u y j) same ∙ ap (λ s. slot_in s j) (slots_now t u d slots set) ∙ rest j (other same) ∙ ap (λ y. slot_at t y j) (sym same))
      (λ (elsewhere : x ≡ d → ⊥). ap (λ s. slot_in s j) (slots_others t u d (Some (directory slots set.parent)) x set.set elsewhere))
      (cases_eq x d);
}

pub placed_set : (t : Tree) (d slot : ℕ) (e : Entry) → is_directory t d ≡ true → SlotsSet t (placed t d slot e) d (with_slot (slots_at t d) slot e)
placed_set t d slot e kind = slots_set t d (with_slot (slots_at t d) slot e) kind

pub placed_slot : (t : Tree) (d slot : ℕ) (e : Entry) → is_directory t d ≡ true → slot ≤ length (slots_at t d) → SlotSet t (placed t d slot e) d slot (Some e)
placed_slot t d slot e kind within = set_slots_then t (placed t d slot e) d slot (with_slot (slots_at t d) slot e) (Some e) (placed_set t d slot e kind) (placed_here (slots_at t d) slot e within) (λ j other. placed_elsewhere (slots_at t d) slot e j within other)

pub cleared_set : (t : Tree) (d slot : ℕ) → is_directory t d ≡ true → SlotsSet t (cleared t d slot) d (without_slot (slots_at t d) slot)
cleared_set t d slot kind = slots_set t d (without_slot (slots_at t d) slot) kind

pub cleared_slot : (t : Tree) (d slot : ℕ) → is_directory t d ≡ true → SlotSet t (cleared t d slot) d slot None
cleared_slot t d slot kind = set_slots_then t (cleared t d slot) d slot (without_slot (slots_at t d) slot) None (cleared_set t d slot kind) (cleared_here (slots_at t d) slot) (λ j other. cleared_elsewhere (slots_at t d) slot j other)

pub directory_rules : (g : Request) (t : Tree) (d : ℕ) → HasBase g t → is_directory t d ≡ true → IsDirectory g (slots_at t d)
directory_rules g t d base kind = let is = directory_is t d kind in subst (IsDirectory g) (sym (slots_are t d is.0 is.1 is.2)) (base.nodes d (directory is.0 is.1) is.2)

pub placed_base : (g : Request) (t : Tree) (d slot : ℕ) (e : Entry) → HasBase g t → is_directory t d ≡ true → slot ≤ length (slots_at t d) → IsEntry g e → IsNewIn (slots_at t d) e.name slot → slot / slots_in_block g < max_blocks_of g → HasBase g (placed t d slot e)
placed_base g t d slot e base kind within good new room = base_slots g t (placed t d slot e) d (with_slot (slots_at t d) slot e) base (placed_set t d slot e kind)
    (from_slotwise g (with_slot (slots_at t d) slot e) (placed_slotwise g (slots_at t d) slot e (to_slotwise g (slots_at t d) (directory_rules g t d base kind)) within good new room))

pub cleared_base : (g : Request) (t : Tree) (d slot : ℕ) → HasBase g t → is_directory t d ≡ true → HasBase g (cleared t d slot)
cleared_base g t d slot base kind = base_slots g t (cleared t d slot) d (without_slot (slots_at t d) slot) base (cleared_set t d slot kind)
    (from_slotwise g (without_slot (slots_at t d) slot) (cleared_slotwise g (slots_at t d) slot (to_slotwise g (slots_at t d) (directory_rules g t d base kind))))

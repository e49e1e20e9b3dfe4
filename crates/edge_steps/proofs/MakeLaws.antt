-- A tree with one more name, of a file or of a new node, is a tree.
use Rattle.std.proofs.Common.{◌≡◌, ℕ, ◌+◌, ◌<◌, ◌≤◌, ◌/◌, true, false, [], length, is_some, unwrap_or, ◌⊎◌, inl, inr, ⊎_elim, Option, Some, None, refl, sym, ap, ◌∙◌, subst, arith}
use Rattle.std.proofs.lemmas.Bool.{false≢true, cases_eq}
use Rattle.edge_base.specs.declared.geometry.Request.{Request}
use Rattle.edge_base.specs.layout.Places.{max_blocks_of}
use Rattle.edge_base.specs.tree.Slots.{Entry, Slots, slots_in_block}
use Rattle.edge_base.specs.tree.Nodes.{Node, file, directory}
use Rattle.edge_base.specs.tree.NodeRules.{IsNode, IsEntry}
use Rattle.edge_model.specs.Tree.{Tree, is_directory, slots_at, slots_of_node, names_of_number, with_node}
use Rattle.edge_model.specs.Named.{placed}
use Rattle.edge_model.specs.Rules.{IsTree, Names, IsReached, root, below}
use Rattle.edge_steps.proofs.SlotLaws.{slot_in, none_some, some_same, IsNewIn}
use Rattle.edge_steps.proofs.CountLaws.{slot_at, ones, ones_named, ones_other, SameSlots, SlotSet, names_changed, some_slot, then_same, named_slot, slot_names}
use Rattle.edge_steps.proofs.NodeLaws.{node_set, HasBase, base_of, base_set, placed_base, placed_slot, placed_set, same_kinds, is_there, directory_there, is_a_directory, slots_others}
use Rattle.edge_steps.proofs.ReachLaws.{reach}

-- a name that may be placed in an empty slot of directory d
pub record IsPlace (g : Request) (t : Tree) (d slot : ℕ) (e : Entry) : Type 0 where
  pub kind : is_directory t d ≡ true
  pub within : slot ≤ length (slots_at t d)
  pub good : IsEntry g e
  pub new : IsNewIn (slots_at t d) e.name slot
  pub room : slot / slots_in_block g < max_blocks_of g

-- d is a number of the tree
pub number_of : (g : Request) (t : Tree) (d : ℕ) → HasBase g t → is_directory t d ≡ true → (2 ≤ d) × (d < 2 + g.inodes)
number_of g t d base kind = base.in_range d (directory_there t d kind)

-- ---- one name more: slot i of d, which was empty

pub more_names : (t u : Tree) (d i : ℕ) (e : Entry) → SlotSet t u d i (Some e) → slot_at t d i ≡ None → (x j : ℕ) (f : Entry) → slot_at t x j ≡ Some f → slot_at u x j ≡ Some f
more_names t u d i e set empty x j f h = set.others x j (λ same at. none_some f (sym empty ∙ ap (λ y. slot_at t y i) (sym same) ∙ ap (slot_at t x) (sym at) ∙ h)) ∙ h

-- a slot of the tree with one name more
pub slot_was : (t u : Tree) (d i : ℕ) (e : Entry) → SlotSet t u d i (Some e) → (x j : ℕ) (f : Entry) → slot_at u x j ≡ Some f → (f ≡ e) ⊎ (slot_at t x j ≡ Some f)
slot_was t u d i e set x j f h = ⊎_elim
    (λ (same : x ≡ d). ⊎_elim
    (λ (at : j ≡ i). inl (some_same f e (sym h ∙ ap (λ y. slot_at u y j) same ∙ ap (slot_at u d) at ∙ set.here)))
    (λ (other : j ≡ i → ⊥). inr (sym (set.others x j (λ _ at. other at)) ∙ h))
    (cases_eq j i))
    (λ (other : x ≡ d → ⊥). inr (sym (set.others x j (λ same _. other same)) ∙ h))
    (cases_eq x d)

pub still_reached : (t u : Tree) → ((x j : ℕ) (f : Entry) → slot_at t x j ≡ Some f → slot_at u x j ≡ Some f) → (n : ℕ) → IsReached t n → IsReached u n
still_reached t u more n r = reach t (IsReached u) (λ x j f h k. below x f.number k (slot_names u x j f.number f (more x j f h) refl)) root n r

pub names_stay : (t u : Tree) → ((x j : ℕ) (f : Entry) → slot_at t x j ≡ Some f → slot_at u x j ≡ Some f) → (d n : ℕ) → Names t d n → Names u d n
names_stay t u more d n names = slot_names u d names.slot n names.entry (more d names.slot names.entry (named_slot t d n names)) names.number_is

-- how often a number is named then
pub one_more : (g : Request) (t u : Tree) (d i : ℕ) (e : Entry) → SlotSet t u d i (Some e) → slot_at t d i ≡ None → 2 ≤ d → d < 2 + g.inodes → names_of_number g u e.number ≡ names_of_number g t e.number + 1
one_more g t u d i e set empty low high =
    let whole = names_changed g t u d i (Some e) e.number set low high in
    let old : ones e.number (slot_at t d i) ≡ 0 = ap (ones e.number) empty in
    let new = ones_named e.number e refl in
    omega arith

pub none_more : (g : Request) (t u : Tree) (d i n : ℕ) (e : Entry) → SlotSet t u d i (Some e) → slot_at t d i ≡ None → 2 ≤ d → d < 2 + g.inodes → (e.number ≡ n → ⊥) → names_of_number g u n ≡ names_of_number g t n
none_more g t u d i n e set empty low high other =
    let whole = names_changed g t u d i (Some e) n set low high in
    let old : ones n (slot_at t d i) ≡ 0 = ap (ones n) empty in
    let new = ones_other n e other in
    omega arith

-- ---- a further name of a file

pub linked_tree : (g : Request) (t : Tree) (d slot : ℕ) (e : Entry) → IsTree g t → IsPlace g t d slot e → slot_at t d slot ≡ None → is_some (t e.number) ≡ true → is_directory t e.number ≡ false → names_of_number g t e.number < 65535 → IsTree g (placed t d slot e)
linked_tree g t d slot e tree place empty there kind few =
    let u = placed t d slot e in
    let base = base_of g t tree in
    let range = number_of g t d base place.kind in
    let set = placed_slot t d slot e place.kind place.within in
    let kinds = same_kinds t u d _ (placed_set t d slot e place.kind) in
    let now = placed_base g t d slot e base place.kind place.within place.good place.new place.room in
    let more = more_names t u d slot e set empty in
    record {
      in_range = now.in_range;
      root = now.root;
      nodes = now.nodes;
      named = λ x n names. ⊎_elim
          (λ (same : names.entry ≡ e).
          let is : e.number ≡ n = ap (λ (f : Entry). f.number) (sym same) ∙ names.number_is in (
            kinds.there n ∙ subst (λ m. is_some (t m) ≡ true) is there,
            λ (top : n ≡ 2). false≢true (sym kind ∙ ap (λ m. is_directory t m) (is ∙ top) ∙ is_a_directory t 2 tree.root.0 0 tree.root.1),
          ))
          (λ (old : slot_at t x names.slot ≡ Some names.entry). let was = tree.named x n (slot_names t x names.slot n names.entry old names.number_is) in (kinds.there n ∙ was.0, was.1))
          (slot_was t u d slot e set x names.slot names.entry (named_slot u x n names));
      reached = λ n here. still_reached t u more n (tree.reached n (sym (kinds.there n) ∙ here));
      links = λ n content present is.
          let was = tree.links n content present (kinds.files n content present is) in
          ⊎_elim
          (λ (same : e.number ≡ n).
          let one = one_more g t u d slot e set empty range.0 range.1 in
          let new : names_of_number g u e.number ≡ names_of_number g u n = ap (names_of_number g u) same in
          (omega arith, omega arith))
          (λ (other : e.number ≡ n → ⊥). let none = none_more g t u d slot n e set empty range.0 range.1 other in (omega arith, omega arith))
          (cases_eq e.number n);
      one_name = λ n slots parent is low.
          let was = tree.one_name n (slots_at t n) parent (kinds.directories n slots parent is) low in
          let other : e.number ≡ n → ⊥ = λ same. false≢true (sym kind ∙ ap (λ m. is_directory t m) same ∙ sym (kinds.kinds n) ∙ is_a_directory u n slots parent is) in
          (none_more g t u d slot n e set empty range.0 range.1 other ∙ was.0, names_stay t u more parent n was.1);
    }

-- ---- a new node with its name

-- the slots of what a number has
abbrev pub slots_of : Option Node → Slots
slots_of o = slots_of_node (unwrap_or o (file [] []))

-- what is no number has none
no_slots : (t : Tree) (n : ℕ) → is_some (t n) ≡ false → (j : ℕ) → slot_at t n j ≡ None
no_slots t n absent j = by_node (t n) refl
  where
    by_node : (o : Option Node) → t n ≡ o → slot_at t n j ≡ None
    by_node None is = ap (λ (o : Option Node). slot_in (slots_of o) j) is
    by_node (Some x) is = absurd (false≢true (sym absent ∙ ap (λ (o : Option Node). is_some o) is))

-- a number that no slot names is named 0 times
pub none_before : (g : Request) (t : Tree) (n : ℕ) → ((x j : ℕ) (f : Entry) → slot_at t x j ≡ Some f → f.number ≡ n → ⊥) → names_of_number g t n ≡ 0
none_before g t n never = ⊎_elim
    (λ (none : names_of_number g t n ≡ 0). none)
    (λ (some : names_of_number g t n ≡ 0 → ⊥). let r = some_slot g t n (omega arith) in absurd (never r.0 r.1 r.2 r.5 r.6))
    (cases_eq (names_of_number g t n) 0)

-- what a node is made as: a file, or a directory in d
pub record IsMade (g : Request) (d : ℕ) (node : Node) : Type 0 where
  pub good : IsNode g node
  pub slotless : slots_of_node node ≡ []
  pub parent : (slots : Slots) (number : ℕ) → node ≡ directory slots number → number ≡ d

pub made_tree : (g : Request) (t : Tree) (d slot : ℕ) (e : Entry) (node : Node) → IsTree g t → IsPlace g t d slot e → slot_at t d slot ≡ None → t e.number ≡ None → IsMade g d node → IsTree g (with_node (placed t d slot e) e.number (Some node))
made_tree g t d slot e node tree place empty absent made =
    let v = placed t d slot e in
    let u = with_node v e.number (Some node) in
    let base = base_of g t tree in
    let range = number_of g t d base place.kind in
    let own = node_set v e.number (Some node) in
    let kinds = same_kinds t v d _ (placed_set t d slot e place.kind) in
    let absent_then : is_some (v e.number) ≡ false = kinds.there e.number ∙ ap (λ (o : Option Node). is_some o) absent in
    let same : SameSlots v u = record {
      same = λ x j. ⊎_elim
          (λ (is : x ≡ e.number). ap (λ y. slot_at u y j) is ∙ ap (λ (o : Option Node). slot_in (slots_of o) j) own.here ∙ ap (λ s. slot_in s j) made.slotless ∙ sym (ap (λ y. slot_at v y j) is ∙ no_slots v e.number absent_then j))
          (λ (other : x ≡ e.number → ⊥). ap (λ s. slot_in s j) (slots_others v u e.number (Some node) x own other))
          (cases_eq x e.number);
    } in
    let set = then_same t v u d slot (Some e) (placed_slot t d slot e place.kind place.within) same in
    let number : (2 ≤ e.number) × (e.number < 2 + g.inodes) = (let from = place.good.from in omega arith, place.good.below) in
    let not_root : e.number ≡ 2 → ⊥ = λ top. (let from = place.good.from in absurd {A = ⊥} (omega arith)) in
    let now = base_set g v u e.number node (placed_base g t d slot e base place.kind place.within place.good place.new place.room) own number (λ top. absurd (not_root top)) made.good in
    let more = more_names t u d slot e set empty in
    let never : (x j : ℕ) (f : Entry) → slot_at t x j ≡ Some f → f.number ≡ e.number → ⊥ = λ x j f h is. false≢true (sym (ap (λ (o : Option Node). is_some o) absent) ∙ (tree.named x e.number (slot_names t x j e.number f h is)).0) in
    let here_then : is_some (u e.number) ≡ true = is_there u e.number node own.here in
    record {
      in_range = now.in_range;
      root = now.root;
      nodes = now.nodes;
      named = λ x n names. ⊎_elim
          (λ (is_e : names.entry ≡ e).
          let is : e.number ≡ n = ap (λ (f : Entry). f.number) (sym is_e) ∙ names.number_is in
          (subst (λ m. is_some (u m) ≡ true) is here_then, λ (top : n ≡ 2). not_root (is ∙ top)))
          (λ (old : slot_at t x names.slot ≡ Some names.entry).
          let was = tree.named x n (slot_names t x names.slot n names.entry old names.number_is) in
          let other : n ≡ e.number → ⊥ = λ is. never x names.slot names.entry old (names.number_is ∙ is) in
          (ap (λ (o : Option Node). is_some o) (own.others n other) ∙ kinds.there n ∙ was.0, was.1))
          (slot_was t u d slot e set x names.slot names.entry (named_slot u x n names));
      reached = λ n here. ⊎_elim
          (λ (is : n ≡ e.number). subst (IsReached u) (sym is) (below d e.number (still_reached t u more d (tree.reached d (directory_there t d place.kind))) (slot_names u d slot e.number e set.here refl)))
          (λ (other : n ≡ e.number → ⊥). still_reached t u more n (tree.reached n (sym (kinds.there n) ∙ ap (λ (o : Option Node). is_some o) (sym (own.others n other)) ∙ here)))
          (cases_eq n e.number);
      links = λ n content present is. ⊎_elim
          (λ (same_one : n ≡ e.number).
          let one = one_more g t u d slot e set empty range.0 range.1 in
          let before = none_before g t e.number never in
          let new : names_of_number g u n ≡ names_of_number g u e.number = ap (names_of_number g u) same_one in
          (omega arith, omega arith))
          (λ (other : n ≡ e.number → ⊥).
          let was = tree.links n content present (kinds.files n content present (sym (own.others n other) ∙ is)) in
          let none = none_more g t u d slot n e set empty range.0 range.1 (λ is_n. other (sym is_n)) in (omega arith, omega arith))
          (cases_eq n e.number);
      one_name = λ n slots parent is low. ⊎_elim
          (λ (same_one : n ≡ e.number).
          let one = one_more g t u d slot e set empty range.0 range.1 in
          let before = none_before g t e.number never in
          let new : names_of_number g u n ≡ names_of_number g u e.number = ap (names_of_number g u) same_one in
          let dir : parent ≡ d = made.parent slots parent (some_same node (directory slots parent) (sym own.here ∙ ap u (sym same_one) ∙ is)) in
          (omega arith, slot_names u parent slot n e (ap (λ y. slot_at u y slot) dir ∙ set.here) (sym same_one)))
          (λ (other : n ≡ e.number → ⊥).
          let was = tree.one_name n (slots_at t n) parent (kinds.directories n slots parent (sym (own.others n other) ∙ is)) low in
          (none_more g t u d slot n e set empty range.0 range.1 (λ is_n. other (sym is_n)) ∙ was.0, names_stay t u more parent n was.1))
          (cases_eq n e.number);
    }

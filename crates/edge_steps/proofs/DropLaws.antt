-- A tree with one name less is a tree: of a file that keeps another, or of a node that goes with it.
use Rattle.std.proofs.Common.{◌≡◌, ℕ, ◌+◌, ◌<◌, ◌≤◌, true, false, is_some, ⊎_elim, Option, Some, None, refl, sym, ap, ◌∙◌, subst, arith}
use Rattle.std.proofs.lemmas.Bool.{false≢true, cases_eq}
use Rattle.edge_base.specs.declared.geometry.Request.{Request}
use Rattle.edge_base.specs.tree.Slots.{Entry}
use Rattle.edge_base.specs.tree.Nodes.{Node, file, directory}
use Rattle.edge_model.specs.Tree.{Tree, is_directory, slots_at, names_of_number, with_node}
use Rattle.edge_model.specs.Named.{cleared}
use Rattle.edge_model.specs.Rules.{IsTree, IsReached, root, below}
use Rattle.edge_steps.proofs.SlotLaws.{slot_in, none_some, some_same}
use Rattle.edge_steps.proofs.CountLaws.{slot_at, ones, ones_named, ones_other, SameSlots, SlotSet, names_changed, some_slot, slot_counted, then_same, named_slot, slot_names}
use Rattle.edge_steps.proofs.NodeLaws.{node_set, base_of, base_dropped, cleared_base, cleared_slot, cleared_set, same_kinds, is_there, directory_there, is_a_directory, slot_in_directory, slots_others}
use Rattle.edge_steps.proofs.ReachLaws.{reach}
use Rattle.edge_steps.proofs.MakeLaws.{number_of, slots_of}

-- ---- slot i of d cleared, which held e

pub slot_left : (t u : Tree) (d i : ℕ) → SlotSet t u d i None → (x j : ℕ) (f : Entry) → slot_at u x j ≡ Some f → slot_at t x j ≡ Some f
slot_left t u d i set x j f h = sym (set.others x j (λ same at. none_some f (sym set.here ∙ ap (λ y. slot_at u y i) (sym same) ∙ ap (slot_at u x) (sym at) ∙ h))) ∙ h

-- where another number is named
pub slot_stays : (t u : Tree) (d i : ℕ) (e : Entry) → SlotSet t u d i None → slot_at t d i ≡ Some e → (x j : ℕ) (f : Entry) → slot_at t x j ≡ Some f → (f.number ≡ e.number → ⊥) → slot_at u x j ≡ Some f
slot_stays t u d i e set was x j f h other = set.others x j (λ same at. other (ap (λ (y : Entry). y.number) (some_same f e (sym h ∙ ap (λ y. slot_at t y j) same ∙ ap (slot_at t d) at ∙ was)))) ∙ h

pub one_less : (g : Request) (t u : Tree) (d i : ℕ) (e : Entry) → SlotSet t u d i None → slot_at t d i ≡ Some e → 2 ≤ d → d < 2 + g.inodes → names_of_number g u e.number + 1 ≡ names_of_number g t e.number
one_less g t u d i e set was low high =
    let whole = names_changed g t u d i None e.number set low high in
    let old : ones e.number (slot_at t d i) ≡ 1 = ap (ones e.number) was ∙ ones_named e.number e refl in
    omega arith

pub none_less : (g : Request) (t u : Tree) (d i n : ℕ) (e : Entry) → SlotSet t u d i None → slot_at t d i ≡ Some e → 2 ≤ d → d < 2 + g.inodes → (n ≡ e.number → ⊥) → names_of_number g u n ≡ names_of_number g t n
none_less g t u d i n e set was low high other =
    let whole = names_changed g t u d i None n set low high in
    let zero_of = ones_other n e (λ is. other (sym is)) in
    let old : ones n (slot_at t d i) ≡ ones n (Some e) = ap (ones n) was in
    omega arith

-- what is reached stays reached but for the number whose name is cleared, which leads nowhere
pub others_reached : (t u : Tree) (d i : ℕ) (e : Entry) → SlotSet t u d i None → slot_at t d i ≡ Some e → ((j : ℕ) → slot_at t e.number j ≡ None) → (n : ℕ) → IsReached t n → (n ≡ e.number → ⊥) → IsReached u n
others_reached t u d i e set was leaf n r other = (reach t (λ x. (x ≡ e.number → ⊥) → IsReached u x)
    (λ x j f h k differs. below x f.number (k (λ is. none_some f (sym (leaf j) ∙ ap (λ y. slot_at t y j) (sym is) ∙ h))) (slot_names u x j f.number f (slot_stays t u d i e set was x j f h differs) refl))
    (λ _. root) n r) other

-- ---- a file that keeps another name

pub cleared_tree : (g : Request) (t : Tree) (d slot : ℕ) (e : Entry) → IsTree g t → slot_at t d slot ≡ Some e → is_directory t e.number ≡ false → (names_of_number g t e.number ≡ 1 → ⊥) → ((j : ℕ) → slot_at t e.number j ≡ None) → IsTree g (cleared t d slot)
cleared_tree g t d slot e tree was kind many leaf =
    let u = cleared t d slot in
    let dir = slot_in_directory t d slot e was in
    let base = base_of g t tree in
    let range = number_of g t d base dir in
    let set = cleared_slot t d slot dir in
    let kinds = same_kinds t u d _ (cleared_set t d slot dir) in
    let now = cleared_base g t d slot base dir in
    let fewer = one_less g t u d slot e set was range.0 range.1 in
    let counted = slot_counted g t d slot e range.0 range.1 was in
    record {
      in_range = now.in_range;
      root = now.root;
      nodes = now.nodes;
      named = λ x n names. let old = tree.named x n (slot_names t x names.slot n names.entry (slot_left t u d slot set x names.slot names.entry (named_slot u x n names)) names.number_is) in (kinds.there n ∙ old.0, old.1);
      reached = λ n here. ⊎_elim
          (λ (same : n ≡ e.number).
          let some : 1 ≤ names_of_number g u e.number = (let few : names_of_number g t e.number ≡ 1 → ⊥ = many in omega arith) in
          let r = some_slot g u e.number some in
          let old = slot_left t u d slot set r.0 r.1 r.2 r.5 in
          let holds = slot_in_directory t r.0 r.1 r.2 old in
          subst (IsReached u) (sym same) (below r.0 e.number
          (others_reached t u d slot e set was leaf r.0 (tree.reached r.0 (directory_there t r.0 holds)) (λ is. none_some r.2 (sym (leaf r.1) ∙ ap (λ y. slot_at t y r.1) (sym is) ∙ old)))
          (slot_names u r.0 r.1 e.number r.2 r.5 r.6)))
          (λ (other : n ≡ e.number → ⊥). others_reached t u d slot e set was leaf n (tree.reached n (sym (kinds.there n) ∙ here)) other)
          (cases_eq n e.number);
      links = λ n content present is.
          let old = tree.links n content present (kinds.files n content present is) in
          ⊎_elim
          (λ (same : n ≡ e.number).
          let new : names_of_number g u n ≡ names_of_number g u e.number = ap (names_of_number g u) same in
          let before : names_of_number g t n ≡ names_of_number g t e.number = ap (names_of_number g t) same in
          let few : names_of_number g t e.number ≡ 1 → ⊥ = many in
          (omega arith, omega arith))
          (λ (other : n ≡ e.number → ⊥). let none = none_less g t u d slot n e set was range.0 range.1 other in (omega arith, omega arith))
          (cases_eq n e.number);
      one_name = λ n slots parent is low.
          let old = tree.one_name n (slots_at t n) parent (kinds.directories n slots parent is) low in
          let other : n ≡ e.number → ⊥ = λ same. false≢true (sym kind ∙ ap (λ m. is_directory t m) (sym same) ∙ sym (kinds.kinds n) ∙ is_a_directory u n slots parent is) in (
            none_less g t u d slot n e set was range.0 range.1 other ∙ old.0,
            slot_names u parent old.1.slot n old.1.entry (slot_stays t u d slot e set was parent old.1.slot old.1.entry (named_slot t parent n old.1) (λ is_e. other (sym old.1.number_is ∙ is_e))) old.1.number_is,
          );
    }

-- ---- a node that goes with its only name

pub dropped_tree : (g : Request) (t : Tree) (d slot : ℕ) (e : Entry) → IsTree g t → slot_at t d slot ≡ Some e → names_of_number g t e.number ≡ 1 → ((j : ℕ) → slot_at t e.number j ≡ None) → IsTree g (with_node (cleared t d slot) e.number None)
dropped_tree g t d slot e tree was only leaf =
    let v = cleared t d slot in
    let u = with_node v e.number None in
    let dir = slot_in_directory t d slot e was in
    let base = base_of g t tree in
    let range = number_of g t d base dir in
    let own = node_set v e.number None in
    let kinds = same_kinds t v d _ (cleared_set t d slot dir) in
    let top = (tree.named d e.number (slot_names t d slot e.number e was refl)).1 in
    let not_d : d ≡ e.number → ⊥ = λ is. none_some e (sym (leaf slot) ∙ ap (λ y. slot_at t y slot) (sym is) ∙ was) in
    let first = cleared_slot t d slot dir in
    let leaf_then : (j : ℕ) → slot_at v e.number j ≡ None = λ j. first.others e.number j (λ is _. not_d (sym is)) ∙ leaf j in
    let same : SameSlots v u = record {
      same = λ x j. ⊎_elim
          (λ (is : x ≡ e.number). ap (λ y. slot_at u y j) is ∙ ap (λ (o : Option Node). slot_in (slots_of o) j) own.here ∙ sym (ap (λ y. slot_at v y j) is ∙ leaf_then j))
          (λ (other : x ≡ e.number → ⊥). ap (λ s. slot_in s j) (slots_others v u e.number None x own other))
          (cases_eq x e.number);
    } in
    let set = then_same t v u d slot None first same in
    let now = base_dropped g v u e.number (cleared_base g t d slot base dir) own top in
    let fewer = one_less g t u d slot e set was range.0 range.1 in
    let gone : (n : ℕ) → is_some (u n) ≡ true → n ≡ e.number → ⊥ = λ n here is. false≢true (sym (ap (λ (o : Option Node). is_some o) (ap u is ∙ own.here)) ∙ here) in
    let stays : (n : ℕ) → (n ≡ e.number → ⊥) → is_some (u n) ≡ is_some (t n) = λ n other. ap (λ (o : Option Node). is_some o) (own.others n other) ∙ kinds.there n in
    let unnamed : (x j : ℕ) (f : Entry) → slot_at u x j ≡ Some f → f.number ≡ e.number → ⊥ = λ x j f h is.
    (let holds = slot_in_directory t x j f (slot_left t u d slot set x j f h) in
    let inside = number_of g t x base holds in
    let counted = slot_counted g u x j f inside.0 inside.1 h in
    let new : names_of_number g u f.number ≡ names_of_number g u e.number = ap (names_of_number g u) is in
    absurd {A = ⊥} (omega arith)) in
    record {
      in_range = now.in_range;
      root = now.root;
      nodes = now.nodes;
      named = λ x n names.
          let here = named_slot u x n names in
          let old = tree.named x n (slot_names t x names.slot n names.entry (slot_left t u d slot set x names.slot names.entry here) names.number_is) in
          (stays n (λ is. unnamed x names.slot names.entry here (names.number_is ∙ is)) ∙ old.0, old.1);
      reached = λ n here. others_reached t u d slot e set was leaf n (tree.reached n (sym (stays n (gone n here)) ∙ here)) (gone n here);
      links = λ n content present is.
          let other = gone n (is_there u n (file content present) is) in
          let old = tree.links n content present (kinds.files n content present (sym (own.others n other) ∙ is)) in
          let none = none_less g t u d slot n e set was range.0 range.1 other in
          (omega arith, omega arith);
      one_name = λ n slots parent is low.
          let other = gone n (is_there u n (directory slots parent) is) in
          let old = tree.one_name n (slots_at t n) parent (kinds.directories n slots parent (sym (own.others n other) ∙ is)) low in (
            none_less g t u d slot n e set was range.0 range.1 other ∙ old.0,
            slot_names u parent old.1.slot n old.1.entry (slot_stays t u d slot e set was parent old.1.slot old.1.entry (named_slot t parent n old.1) (λ is_e. other (sym old.1.number_is ∙ is_e))) old.1.number_is,
          );
    }

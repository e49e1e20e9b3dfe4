-- The links of each number after a name was placed in a directory.
use Rattle.std.proofs.Common.{◌≡◌, ◌∙◌, ℕ, ◌+◌, ◌≤◌, ◌<◌, ◌==◌, Bool, true, false, cond, List, [], length, is_some, unwrap_or, refl, sym, ap, arith, eqb-true, eq-eqb, Option, Some, None}
use Rattle.std.proofs.lemmas.Bool.{eqb-false, ne_eqb}
use Rattle.edge_base.specs.declared.geometry.Request.{Request}
use Rattle.edge_base.specs.tree.Nodes.{Node, file, directory}
use Rattle.edge_base.specs.tree.Slots.{Entry, Slots}
use Rattle.edge_model.specs.Named.{placed}
use Rattle.edge_model.specs.Rules.{IsTree}
use Rattle.edge_model.specs.Tree.{Tree, is_directory, is_directory_node, slots_at, slots_of_node, names_of_number, links_of, with_node}
use Rattle.edge_steps.specs.Naming.{slot_of, names_once}
use Rattle.edge_steps.proofs.NodeLaws.{NodeSet, node_set, is_a_directory, slots_are, slots_others}
use Rattle.edge_steps.proofs.NamingLaws.{placed_names, placed_kinds, set_names, absent_names}
use Rattle.edge_steps.proofs.SetLaws.{placed_is}
use Rattle.edge_stands.specs.Stands.{with_links}

-- the slots and the kind of what a number has
abbrev pub slots_in : Option Node → Slots
slots_in o = slots_of_node (unwrap_or o (file [] []))

abbrev pub kind_in : Option Node → Bool
kind_in o = is_directory_node (unwrap_or o (file [] []))

pub links_by : (g : Request) (t u : Tree) (n : ℕ) → is_directory u n ≡ is_directory t n → names_of_number g u n ≡ names_of_number g t n → links_of g t n ≡ links_of g u n
links_by g t u n kind names = sym (ap (λ b. cond b 1 (names_of_number g u n)) kind ∙ ap (cond (is_directory t n) 1) names)

-- Slot `slot` of directory d, which was empty, has come to name n.
module _ (g : Request) (t : Tree) (d slot : ℕ) (e : Entry) (slots : Slots) (parent : ℕ) (tree : IsTree g t) (there : t d ≡ Some (directory slots parent)) (inside : slot ≤ length slots)
    (empty : slot_of t d slot ≡ None) where
  kind : is_directory t d ≡ true
  kind = is_a_directory t d slots parent there

  range : (2 ≤ d) × (d < 2 + g.inodes)
  range = tree.in_range d (ap (λ (o : Option Node). is_some o) there)

  pub one_more_name : (x : ℕ) → names_of_number g (placed t d slot e) x ≡ names_of_number g t x + names_once x (Some e)
  one_more_name x =
      let all = placed_names g t d slot e x kind range.0 range.1 (let is = ap (λ (s : Slots). length s) (slots_are t d slots parent there) in omega (arith, is)) in
      let none : names_once x (slot_of t d slot) ≡ 0 = ap (names_once x) empty in
      omega (arith, all, none)

  -- ---- a new node with its name

  module _ (n : ℕ) (node : Node) (number : e.number ≡ n) (absent : t n ≡ None) (slotless : slots_of_node node ≡ []) where
    abbrev then : Tree
    then = with_node (placed t d slot e) n (Some node)

    d_is_other : n ≡ d → ⊥
    d_is_other same = absurd (let h : None ≡ Some (directory slots parent) = sym absent ∙ ap t same ∙ there in cc)

    -- what n had before it has its node
    absent_then : placed t d slot e n ≡ None
    absent_then = ap (λ (u : Tree). u n) (placed_is t d slot e slots parent there) ∙ (node_set t d (Some (directory _ parent))).others n d_is_other ∙ absent

    then_names : (x : ℕ) → names_of_number g then x ≡ names_of_number g (placed t d slot e) x
    then_names x = set_names g (placed t d slot e) n (Some node) x
        (ap (λ (o : Option Node). slots_in o) (node_set (placed t d slot e) n (Some node)).here ∙ slotless ∙ sym (ap (λ (o : Option Node). slots_in o) absent_then))

    pub made_links : (x : ℕ) → with_links (links_of g t) n 1 x ≡ links_of g then x
    made_links x = by (x == n) refl
      where
        own : is_directory then n ≡ is_directory_node node
        own = ap (λ (o : Option Node). kind_in o) (node_set (placed t d slot e) n (Some node)).here

        one_name : names_of_number g then n ≡ 1
        one_name =
            let more = one_more_name n in
            let none = absent_names g t n tree absent in
            let once : names_once n (Some e) ≡ 1 = ap (λ b. cond b 1 0) (eq-eqb _ _ number) in
            then_names n ∙ omega (arith, more, none, once)

        here : 1 ≡ links_of g then n
        here = by_kind (is_directory_node node) refl
          where
            by_kind : (k : Bool) → is_directory_node node ≡ k → 1 ≡ links_of g then n
            by_kind true is = sym (ap (λ b. cond b 1 (names_of_number g then n)) (own ∙ is))
            by_kind false is = sym (ap (λ b. cond b 1 (names_of_number g then n)) (own ∙ is) ∙ one_name)

        by : (same : Bool) → (x == n) ≡ same → with_links (links_of g t) n 1 x ≡ links_of g then x
        by true is = ap (λ b. cond b 1 (links_of g t x)) is ∙ here ∙ ap (links_of g then) (sym (eqb-true x n is))
        by false is =
            let other = eqb-false x n is in
            let none : names_once x (Some e) ≡ 0 = ap (λ b. cond b 1 0) (ne_eqb _ _ (λ same. other (sym (number_same same)))) in
            let more = one_more_name x in
            ap (λ b. cond b 1 (links_of g t x)) is
            ∙ links_by g t then x (kinds other ∙ placed_kinds t d slot e x kind) (then_names x ∙ omega (arith, more, none))
          where
            number_same : e.number ≡ x → n ≡ x
            number_same same = sym number ∙ same

            kinds : (x ≡ n → ⊥) → is_directory then x ≡ is_directory (placed t d slot e) x
            kinds other = ap (λ (o : Option Node). kind_in o) ((node_set (placed t d slot e) n (Some node)).others x other)

  -- ---- a further name of a file

  module _ (n : ℕ) (number : e.number ≡ n) (file_there : is_directory t n ≡ false) where
    abbrev named : Tree
    named = placed t d slot e

    pub linked_links : (x : ℕ) → with_links (links_of g t) n (links_of g t n + 1) x ≡ links_of g (placed t d slot e) x
    linked_links x = by (x == n) refl
      where
        here : links_of g t n + 1 ≡ links_of g named n
        here =
            let once : names_once n (Some e) ≡ 1 = ap (λ b. cond b 1 0) (eq-eqb _ _ number) in
            let more = one_more_name n in
            let was : links_of g t n ≡ names_of_number g t n = ap (λ b. cond b 1 (names_of_number g t n)) file_there in
            let now : links_of g named n ≡ names_of_number g named n = ap (λ b. cond b 1 (names_of_number g named n)) (placed_kinds t d slot e n kind ∙ file_there) in
            omega (arith, once, more, was, now)

        by : (same : Bool) → (x == n) ≡ same → with_links (links_of g t) n (links_of g t n + 1) x ≡ links_of g named x
        by true is = ap (λ b. cond b (links_of g t n + 1) (links_of g t x)) is ∙ here ∙ ap (links_of g named) (sym (eqb-true x n is))
        by false is =
            let other = eqb-false x n is in
            let none : names_once x (Some e) ≡ 0 = ap (λ b. cond b 1 0) (ne_eqb _ _ (λ same. other (sym (sym number ∙ same)))) in
            let more = one_more_name x in
            ap (λ b. cond b (links_of g t n + 1) (links_of g t x)) is ∙ links_by g t named x (placed_kinds t d slot e x kind) (omega (arith, more, none))

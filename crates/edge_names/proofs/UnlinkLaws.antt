-- The links of each number after a name was cleared.
use Rattle.std.proofs.Common.{◌≡◌, ◌≢◌, ◌∙◌, ℕ, ◌+◌, ◌-◌, ◌≤◌, ◌<◌, ◌==◌, Bool, true, false, cond, List, [], is_some, unwrap_or, refl, sym, ap, arith, eqb-true, eq-eqb, Option, Some, None}
use Rattle.std.proofs.lemmas.Bool.{eqb-false, ne_eqb}
use Rattle.edge_base.specs.declared.geometry.Request.{Request}
use Rattle.edge_base.specs.tree.Nodes.{Node, file, directory}
use Rattle.edge_base.specs.tree.Slots.{Entry, Slots}
use Rattle.edge_model.specs.Named.{cleared}
use Rattle.edge_model.specs.Rules.{IsTree}
use Rattle.edge_model.specs.Tree.{Tree, is_directory, is_directory_node, slots_at, slots_of_node, names_of_number, links_of, with_node}
use Rattle.edge_steps.specs.Naming.{slot_of, names_once}
use Rattle.edge_steps.proofs.NodeLaws.{node_set, is_a_directory}
use Rattle.edge_steps.proofs.NamingLaws.{cleared_names, cleared_kinds, set_names}
use Rattle.edge_steps.proofs.SetLaws.{cleared_is}
use Rattle.edge_stands.specs.Stands.{with_links}
use Rattle.edge_names.proofs.LinkLaws.{links_by, slots_in, kind_in}

-- Slot `slot` of directory d, which named e.number, is empty.
module _ (g : Request) (t : Tree) (d slot : ℕ) (e : Entry) (slots : Slots) (parent : ℕ) (tree : IsTree g t) (there : t d ≡ Some (directory slots parent)) (named : slot_of t d slot ≡ Some e) where
  kind : is_directory t d ≡ true
  kind = is_a_directory t d slots parent there

  range : (2 ≤ d) × (d < 2 + g.inodes)
  range = tree.in_range d (ap (λ (o : Option Node). is_some o) there)

  one_less_name : (x : ℕ) → names_of_number g (cleared t d slot) x + names_once x (Some e) ≡ names_of_number g t x
  one_less_name x = ap (λ o. names_of_number g (cleared t d slot) x + names_once x o) (sym named) ∙ cleared_names g t d slot x kind range.0 range.1

  module _ (n : ℕ) (number : e.number ≡ n) where
    named_once : names_once n (Some e) ≡ 1
    named_once = ap (λ b. cond b 1 0) (eq-eqb _ _ number)

    not_named : (x : ℕ) → (x ≡ n → ⊥) → names_once x (Some e) ≡ 0
    not_named x other = ap (λ b. cond b 1 0) (ne_eqb _ _ (λ same. other (sym (sym number ∙ same))))

    -- ---- a name of a file that has others

    module _ (file_there : is_directory t n ≡ false) where
      abbrev left : Tree
      left = cleared t d slot

      here : links_of g t n - 1 ≡ links_of g left n
      here =
          let less = one_less_name n in
          let once = named_once in
          let was : links_of g t n ≡ names_of_number g t n = ap (λ b. cond b 1 (names_of_number g t n)) file_there in
          let now : links_of g left n ≡ names_of_number g left n = ap (λ b. cond b 1 (names_of_number g left n)) (cleared_kinds t d slot n kind ∙ file_there) in
          omega (arith, less, once, was, now)

      pub unlinked_links : (x : ℕ) → with_links (links_of g t) n (links_of g t n - 1) x ≡ links_of g left x
      unlinked_links x = by (x == n) refl
        where
          by : (same : Bool) → (x == n) ≡ same → with_links (links_of g t) n (links_of g t n - 1) x ≡ links_of g left x
          by true is = ap (λ b. cond b (links_of g t n - 1) (links_of g t x)) is ∙ here ∙ ap (links_of g left) (sym (eqb-true x n is))
          by false is =
              let none = not_named x (eqb-false x n is) in
              let less = one_less_name x in
              ap (λ b. cond b (links_of g t n - 1) (links_of g t x)) is ∙ links_by g t left x (cleared_kinds t d slot x kind) (omega (arith, none, less))

    -- ---- the last name of a node without slots

    module _ (apart : d ≢ n) (slotless : slots_at t n ≡ []) where
      abbrev gone : Tree
      gone = with_node (cleared t d slot) n None

      same_node : cleared t d slot n ≡ t n
      same_node = ap (λ (u : Tree). u n) (cleared_is t d slot slots parent there) ∙ (node_set t d (Some (directory _ parent))).others n (λ same. apart (sym same))

      gone_names : (x : ℕ) → names_of_number g gone x ≡ names_of_number g (cleared t d slot) x
      gone_names x = set_names g (cleared t d slot) n None x
          (ap (λ (o : Option Node). slots_in o) (node_set (cleared t d slot) n None).here ∙ sym (ap (λ (o : Option Node). slots_in o) same_node ∙ slotless))

      pub dropped_links : (x : ℕ) → (x ≡ n → ⊥) → links_of g t x ≡ links_of g gone x
      dropped_links x other =
          let none = not_named x other in
          let less = one_less_name x in
          links_by g t gone x (ap (λ (o : Option Node). kind_in o) ((node_set (cleared t d slot) n None).others x other) ∙ cleared_kinds t d slot x kind)
          (gone_names x ∙ omega (arith, none, less))

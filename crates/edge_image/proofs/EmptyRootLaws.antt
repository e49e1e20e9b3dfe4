-- A view with one inode that has no entries stands for the tree with an empty root directory alone, by any geometry.
use Rattle.std.proofs.Common.{◌≡◌, ◌≢◌, inl, inr, ℕ, ◌+◌, ◌-◌, ◌*◌, ◌/◌, ◌<◌, ◌≤◌, ◌==◌, Bool, true, false, cond, List, [], ◌∷◌, ◌++◌, get_or, Some, None, refl, sym, ap, ◌∙◌, arith, subst}
use Rattle.std.specs.Prelude.{is_some, nat_lt, slice_get, unwrap_or}
use Rattle.std.specs.List.{list_any, flat_map, range_with_len, IsDistinct}
use Rattle.std.proofs.Math.Nat.{div-eq_of_lt}
use Rattle.std.proofs.lemmas.Bool.{cases_eq, eqb-true, ne_eqb, false≢true}
use Rattle.edge_base.specs.declared.form.Form.{Form}
use Rattle.edge_base.specs.declared.form.Form.TheVariants.{Plain, Indirect, Double}
use Rattle.edge_base.specs.declared.geometry.Request.{Request}
use Rattle.edge_base.specs.declared.node.NodeType.TheVariants.{Directory}
use Rattle.edge_base.specs.tree.Positions.{Position, has, positions_of}
use Rattle.edge_base.specs.tree.Slots.{Slots, slots_in_block, slot_blocks}
use Rattle.edge_base.specs.tree.Nodes.{Node, file, directory, indices_of}
use Rattle.edge_base.specs.tree.NodeRules.{IsNode, IsDirectory}
use Rattle.edge_store.specs.View.{View, whole, entries_of_inode}
use Rattle.edge_store.specs.Placed.{pointer_at, double_block, indirect_block, data_block, block_at, HoldsNode}
use Rattle.edge_model.specs.Tree.{only_root, slots_of_node, slots_at, node_positions, tree_positions}
use Rattle.edge_model.specs.Rules.{IsTree, IsReached, root}
use Rattle.edge_image.specs.Opens.{StandsFor, HasHead, head_of_node}
use Rattle.edge_image.specs.Formatted.{empty_root}

-- ---- no blocks

none_needed : (width : ℕ) → 0 < width → (0 + (width - 1)) / width ≡ 0
none_needed width some = div-eq_of_lt (omega arith)

no_blocks : (g : Request) → 0 < slots_in_block g → slot_blocks g [] ≡ 0
no_blocks g some = none_needed (slots_in_block g) some

no_indices : (g : Request) (parent : ℕ) → 0 < slots_in_block g → indices_of g (directory [] parent) ≡ []
no_indices g parent some = ap (range_with_len 0) (no_blocks g some)

-- ---- a node with no entries points nowhere

module _ (g : Request) (w : View) (n : ℕ) (none : (i : ℕ) → get_or (entries_of_inode (w.inodes n)) i 0 ≡ 0) where
  either_zero : (b : Bool) (j k : ℕ) → j ≡ 0 → k ≡ 0 → cond b j k ≡ 0
  either_zero true j k e f = e
  either_zero false j k e f = f

  no_pointer : (form : Form) (b place : ℕ) → b ≡ 0 → pointer_at w form b place ≡ 0
  no_pointer form b place e = subst (λ (c : ℕ). pointer_at w form c place ≡ 0) (sym e) refl

  no_double : (d : ℕ) → double_block g w n d ≡ 0
  unfolding double_block
  no_double d = none _

  no_indirect : (j : ℕ) → indirect_block g w n j ≡ 0
  unfolding indirect_block
  no_indirect j = either_zero (nat_lt j g.indirect) _ _ (none _) (no_pointer Double _ _ (no_double _))

  no_data : (i : ℕ) → data_block g w n i ≡ 0
  unfolding data_block
  no_data i = either_zero (nat_lt i g.direct) _ _ (none _) (no_pointer Indirect _ _ (no_indirect _))

  nowhere : (form : Form) (index : ℕ) → block_at g w (record { number = n; form = form; index = index }) ≡ 0
  nowhere Plain index = no_data index
  nowhere Indirect index = no_indirect index
  nowhere Double index = no_double index

-- ---- the tree

is_root : (n : ℕ) (node : Node) → only_root n ≡ Some node → (n ≡ 2) × (node ≡ directory [] 0)
is_root n node e = elim (n == 2) as (λ b. (n == 2) ≡ b → cond b (Some (directory [] 0)) None ≡ Some node → (n ≡ 2) × (node ≡ directory [] 0)) [
  | true ↦ λ two is. (eqb-true n 2 two, cc)
  | false ↦ λ apart is. absurd (let wrong : None ≡ Some node = is in cc)
] refl e

is_there : (n : ℕ) → is_some (only_root n) ≡ true → n ≡ 2
is_there n e = elim (n == 2) as (λ b. (n == 2) ≡ b → is_some (cond b (Some (directory [] 0)) None) ≡ true → n ≡ 2) [
  | true ↦ λ two is. eqb-true n 2 two
  | false ↦ λ apart is. absurd (false≢true is)
] refl e

no_file : (n : ℕ) (content : List ℕ) (present : List Bool) → only_root n ≡ Some (file content present) → ⊥
no_file n content present e = let both = (is_root n (file content present) e).1 in cc

no_slots : (d : ℕ) → slots_at only_root d ≡ []
no_slots d = elim (d == 2) as (λ b. slots_of_node (unwrap_or (cond b (Some (directory [] 0)) None) (file [] [])) ≡ []) [ true ↦ refl | false ↦ refl ]

empty_directory : (g : Request) → 0 < slots_in_block g → IsDirectory g []
unfolding IsDistinct
empty_directory g some = record {
  entries = λ k d inside. absurd (let low : k < 0 = inside in omega arith);
  apart = tt;
  last_filled = refl;
  size = let none = no_blocks g some in omega arith;
}

pub only_root_is_tree : (g : Request) → 1 ≤ g.inodes → 0 < slots_in_block g → IsTree g only_root
only_root_is_tree g some_inode some = record {
  in_range = λ n there. let two = is_there n there in (omega arith, omega arith);
  root = ([], refl);
  nodes = λ n node e. subst (IsNode g) (sym (is_root n node e).1) (empty_directory g some);
  named = λ d n names. absurd (let wrong : None ≡ Some (Some names.entry) = sym (ap (λ (slots : Slots). slice_get slots names.slot) (no_slots d)) ∙ names.is_there in cc);
  reached = λ n there. subst (IsReached only_root) (sym (is_there n there)) root;
  links = λ n content present e. absurd (no_file n content present e);
  one_name = λ n slots parent e apart. absurd (apart (is_root n (directory slots parent) e).0);
}

-- ---- positions

none_at : (g : Request) (n : ℕ) → 0 < slots_in_block g → node_positions g n (only_root n) ≡ []
none_at g n some = elim (n == 2) as (λ b. node_positions g n (cond b (Some (directory [] 0)) None) ≡ []) [
  | true ↦ ap (positions_of g n) (no_indices g 0 some)
  | false ↦ refl
]

none_among : (f : ℕ → List Position) (numbers : List ℕ) → ((n : ℕ) → f n ≡ []) → flat_map f numbers ≡ []
none_among f [] none = refl
none_among f (n ∷ numbers) none = ap (λ ps. ps ++ flat_map f numbers) (none n) ∙ none_among f numbers none

no_positions : (g : Request) → 0 < slots_in_block g → tree_positions g only_root ≡ []
unfolding tree_positions
no_positions g some = none_among (λ n. node_positions g n (only_root n)) (range_with_len 2 g.inodes) (λ n. none_at g n some)

nowhere_in_tree : (g : Request) (p : Position) → 0 < slots_in_block g → has (tree_positions g only_root) p ≡ true → ⊥
nowhere_in_tree g p some e = false≢true (sym (ap (λ ps. has ps p) (no_positions g some)) ∙ e)

-- ---- the view

-- one inode, of an empty root directory, and no used block
pub record IsEmptyView (v : View) : Type 0 where
  pub entries : List ℕ
  pub root : v.inodes 2 ≡ Some (whole empty_root entries)
  pub no_entry : (i : ℕ) → get_or entries i 0 ≡ 0
  pub no_other : (n : ℕ) → n ≢ 2 → v.inodes n ≡ None
  pub no_block : (b : ℕ) → v.blocks b ≡ None

module _ (g : Request) (v : View) (some : 0 < slots_in_block g) (empty : IsEmptyView v) where
  no_entries : (n i : ℕ) → get_or (entries_of_inode (v.inodes n)) i 0 ≡ 0
  no_entries n i = elim (cases_eq n 2) [
    | inl two ↦ ap (λ (m : ℕ). get_or (entries_of_inode (v.inodes m)) i 0) two ∙ ap (λ inode. get_or (entries_of_inode inode) i 0) empty.root ∙ empty.no_entry i
    | inr apart ↦ ap (λ inode. get_or (entries_of_inode inode) i 0) (empty.no_other n apart)
  ]

  not_in_root : (n : ℕ) (p : Position) → has (positions_of g n (indices_of g (directory [] 0))) p ≡ true → ⊥
  not_in_root n p e = false≢true (sym (ap (λ is. has (positions_of g n is) p) (no_indices g 0 some)) ∙ e)

  not_an_index : (i : ℕ) → list_any (λ k. k == i) (indices_of g (directory [] 0)) ≡ true → ⊥
  not_an_index i e = false≢true (sym (ap (list_any (λ k. k == i)) (no_indices g 0 some)) ∙ e)

  holds_root : (n : ℕ) → HoldsNode g v n (directory [] 0)
  holds_root n = record {
    places = record {
      places = λ p same below. (λ apart. absurd (apart (nowhere g v p.number (no_entries p.number) p.form p.index)), λ e. absurd (not_in_root n p e));
      spots = λ p e. absurd (not_in_root n p e);
    };
    contents = λ i e. absurd (not_an_index i e);
  }

  none_expected : (n : ℕ) → only_root n ≡ None → v.inodes n ≡ None
  none_expected n none = elim (cases_eq n 2) [
    | inl two ↦ absurd (let wrong : Some (directory [] 0) ≡ None = subst (λ (m : ℕ). only_root m ≡ None) two none in cc)
    | inr apart ↦ empty.no_other n apart
  ]

  none_there : (n : ℕ) → v.inodes n ≡ None → only_root n ≡ None
  none_there n none = elim (cases_eq n 2) [
    | inl two ↦ absurd (let wrong : Some (whole empty_root empty.entries) ≡ None = sym empty.root ∙ ap v.inodes (sym two) ∙ none in cc)
    | inr apart ↦ ap (λ b. cond b (Some (directory [] 0)) None) (ne_eqb n 2 apart)
  ]

  root_head : head_of_node g only_root 2 (directory [] 0) ≡ empty_root
  root_head = let none : g.block_size * slot_blocks g [] ≡ 0 = ap (λ (k : ℕ). g.block_size * k) (no_blocks g some) ∙ omega arith in
      λ i. record { size = none i; kind = Directory; links = 1; parent = 0 }

  pub stands_for_root : StandsFor g v only_root
  stands_for_root = record {
    numbers = λ n. (none_expected n, none_there n);
    heads = λ n node e.
        let both = is_root n node e in
        subst (λ (m : ℕ). HasHead v m (head_of_node g only_root m node)) (sym both.0)
        (subst (λ k. HasHead v 2 (head_of_node g only_root 2 k)) (sym both.1)
        (subst (HasHead v 2) (sym root_head) (record { entries = empty.entries; inode = empty.root })));
    nodes = λ n node e. subst (HoldsNode g v n) (sym (is_root n node e).1) (holds_root n);
    once = λ p q e f same. absurd (nowhere_in_tree g p some e);
    each = λ b used. absurd (false≢true (sym (ap is_some (empty.no_block b)) ∙ used));
  }

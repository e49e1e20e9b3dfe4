-- The nodes of a view that stands for a tree, each by itself and two by two.
use Rattle.std.proofs.Common.{◌≡◌, ◌≢◌, ℕ, ◌+◌, ◌*◌, ◌<◌, ◌≤◌, true, is_some, Option, Some, None, refl, sym, ap, ◌∙◌, subst, arith}
use Rattle.std.proofs.Math.Nat.{mul-le-mul_right}
use Rattle.std.proofs.lemmas.Bool.{false≢true}
use Rattle.edge_base.specs.declared.form.Form.{Form}
use Rattle.edge_base.specs.declared.form.Form.TheVariants.{Plain, Indirect, Double}
use Rattle.edge_base.specs.declared.geometry.Request.{Request}
use Rattle.edge_base.specs.layout.Places.{IsGeometry, max_blocks_of, max_size_of}
use Rattle.edge_base.specs.tree.Nodes.{Node, file, directory, indices_of, size_of}
use Rattle.edge_base.specs.tree.NodeRules.{IsNode}
use Rattle.edge_base.specs.tree.Positions.{Position, has, positions_of}
use Rattle.edge_base.specs.tree.Slots.{pieces, slot_blocks}
use Rattle.edge_store.specs.Frames.{IsNoNodeOf}
use Rattle.edge_store.specs.Placed.{block_at, data_block, HasPlaces, IsOnce, IsShaped, IsSized, HasNode}
use Rattle.edge_store.specs.View.{View, IsView, is_whole, entries_of_inode}
use Rattle.edge_store.proofs.NodeEffects.{no_blocks, no_places}
use Rattle.edge_store.proofs.ViewLaws.{entries_of_whole}
use Rattle.edge_moves.specs.Sound.{numbered}
use Rattle.edge_moves.proofs.RangeLaws.{there_in_range}
use Rattle.edge_moves.proofs.SlotLaws.{entries_fit, some_pointers_fit}
use Rattle.edge_shape.specs.Shape.{HasShape}
use Rattle.edge_count.specs.Frames.{AreApart}
use Rattle.edge_model.specs.Tree.{Tree, tree_positions}
use Rattle.edge_model.proofs.Members.{IsAmong, from_range}
use Rattle.edge_model.proofs.SlotLaws.{is_marked_in, piece_there}
use Rattle.edge_steps.proofs.PlanLaws.{some_bytes}
use Rattle.edge_stands.specs.Stands.{NodeStands, StandsWith, indices_at}
use Rattle.edge_stands.proofs.NodeLaws.{of_tree, listed}
use Rattle.edge_stands.proofs.BecomeLaws.{tree_numbers}

-- ---- sizes

size_fits : (g : Request) (node : Node) → IsNode g node → size_of g node ≤ max_size_of g
size_fits g (file content present) rules = rules.size
size_fits g (directory slots parent) rules =
    let fits = mul-le-mul_right {m = slot_blocks g slots} {n = max_blocks_of g} g.block_size rules.size in
    let turned : g.block_size * slot_blocks g slots ≡ slot_blocks g slots * g.block_size = grind arith in
    omega arith

ends_by_size : (g : Request) (node : Node) (i : ℕ) → 0 < g.block_size → IsNode g node → IsAmong (indices_of g node) i → i < pieces g.block_size (size_of g node)
ends_by_size g (file content present) i some rules h =
    let m = is_marked_in present i h in
    let flags = rules.flags in
    omega arith
ends_by_size g (directory slots parent) i some rules h =
    let range = from_range 0 (slot_blocks g slots) i h in
    let below = mul-le-mul_right {m = i + 1} {n = slot_blocks g slots} g.block_size (omega arith) in
    let turned : g.block_size * slot_blocks g slots ≡ slot_blocks g slots * g.block_size = grind arith in
    let next : (i + 1) * g.block_size ≡ i * g.block_size + g.block_size = grind arith in
    piece_there g.block_size (g.block_size * slot_blocks g slots) i some (omega arith)

-- ---- one node

module _ (g : Request) (v : View) (t : Tree) (links : ℕ → ℕ) (s : StandsWith g v t links) where
  places_of : (n : ℕ) (o : Option Node) → t n ≡ o → HasPlaces g v n (indices_at g o)
  places_of n None none = no_places g v n 0 (ap entries_of_inode ((s.numbers n).0 none))
  places_of n (Some node) there = (s.nodes n node there).holds.places

  pub each_places : (n : ℕ) → HasPlaces g v n (indices_at g (t n))
  each_places n = places_of n (t n) refl

module _ (g : Request) (v : View) (t : Tree) (links : ℕ → ℕ) (view : IsView g v) (s : StandsWith g v t links) where
  to_tree : (n : ℕ) (o : Option Node) → t n ≡ o → (p : Position) → has (positions_of g n (indices_at g o)) p ≡ true → has (tree_positions g t) p ≡ true
  to_tree n None none p h = absurd (false≢true h)
  to_tree n (Some node) there p h = of_tree g t n node p (tree_numbers g v t links view s n (ap (λ (o : Option Node). is_some o) there)) there h

  pub each_once : (n : ℕ) → IsOnce g v n (indices_at g (t n))
  each_once n p q one two e = s.once p q (to_tree n (t n) refl p one) (to_tree n (t n) refl q two) e

  module _ (n : ℕ) (node : Node) (there : t n ≡ Some node) where
    stands : NodeStands g v n node (links n)
    stands = s.nodes n node there

    node_once : IsOnce g v n (indices_of g node)
    node_once = subst (λ (o : Option Node). IsOnce g v n (indices_at g o)) there (each_once n)

    pub each_shape : IsGeometry g → HasShape g v n (indices_of g node)
    each_shape is = record {
      geometry = is;
      view = view;
      inode = ap is_whole stands.head.inode;
      places = stands.holds.places;
      once = node_once;
    }

    pub each_shaped : IsShaped g v n
    each_shaped = record {
      head = _;
      entries = stands.head.entries;
      inode = stands.head.inode;
      indices = indices_of g node;
      places = stands.holds.places;
      once = node_once;
    }

    pub each_sized : IsGeometry g → IsNode g node → IsSized g v n
    unfolding each_shaped
    each_sized is rules = record {
      shaped = each_shaped;
      size = size_fits g node rules;
      ends = λ i h. ends_by_size g node i (some_bytes g is) rules (listed (indices_of g node) i h);
    }

    pub each_node : IsNode g node → HasNode g v n node
    each_node rules = record {
      head = _;
      entries = stands.head.entries;
      inode = stands.head.inode;
      size = refl;
      kind = refl;
      parent = refl;
      holds = stands.holds;
      once = node_once;
      rules = rules;
    }

  -- ---- two nodes

  module _ (is : IsGeometry g) where
    whole_there : (n : ℕ) (o : Option Node) → t n ≡ o → (form : Form) (k : ℕ) → block_at g v (numbered n form k) ≢ 0 → is_whole (v.inodes n) ≡ true
    whole_there n None none form k some = absurd (some (no_blocks g v n 0 (ap entries_of_inode ((s.numbers n).0 none)) (numbered n form k) refl))
    whole_there n (Some node) there form k some = ap is_whole (s.nodes n node there).head.inode

    -- what has a block is a position of the tree
    block_in_tree : (n : ℕ) (form : Form) (k : ℕ) → block_at g v (numbered n form k) ≢ 0 → has (tree_positions g t) (numbered n form k) ≡ true
    block_in_tree n form k some =
        let whole = whole_there n (t n) refl form k some in
        let low = there_in_range g v n (entries_fit g is) (some_pointers_fit g is) (entries_of_whole g v n view whole) form k some in
        to_tree n (t n) refl (numbered n form k) (((each_places g v t links s n).places (numbered n form k) refl low).0 some)

    pub each_apart : (n m : ℕ) → n ≢ m → AreApart g v n m
    each_apart n m other form else k l some e =
        let is_one : numbered n form k ≡ numbered m else l
        = s.once (numbered n form k) (numbered m else l) (block_in_tree n form k some) (block_in_tree m else l (λ none. some (e ∙ none))) e in
        other (ap (λ (p : Position). p.number) is_one)

    -- two positions with one block are one, and so of one form
    one_form : (n m : ℕ) (form else : Form) (k l : ℕ) → block_at g v (numbered n form k) ≢ 0 → block_at g v (numbered m else l) ≡ block_at g v (numbered n form k) → else ≡ form
    one_form n m form else k l some e =
        ap (λ (p : Position). p.form) (s.once (numbered m else l) (numbered n form k) (block_in_tree m else l (λ none. some (sym e ∙ none))) (block_in_tree n form k some) e)

    pub each_no_node : (n m i : ℕ) → data_block g v n i ≢ 0 → IsNoNodeOf g v m (data_block g v n i)
    each_no_node n m i some = record {
      indirect = λ j low e. let forms : Indirect ≡ Plain = one_form n m Plain Indirect i j some e in cc;
      double = λ d low e. let forms : Double ≡ Plain = one_form n m Plain Double i d some e in cc;
    }

-- A view that stands for a tree has each node of it.
use Rattle.std.proofs.Common.{◌≡◌, ℕ, ◌-◌, true, get_or, Some, refl, ap, ◌∙◌, arith}
use Rattle.std.specs.Prelude.{is_some}
use Rattle.std.proofs.lemmas.List.Folds.{list_any_at}
use Rattle.std.proofs.lemmas.List.FromFn.{length-range_with_len, get_or-range_with_len}
use Rattle.edge_base.specs.declared.geometry.Request.{Request}
use Rattle.edge_base.specs.tree.Positions.{Position, has, positions_of}
use Rattle.edge_base.specs.tree.Nodes.{Node, indices_of}
use Rattle.edge_base.proofs.PositionLaws.{has-flat_map}
use Rattle.edge_store.specs.View.{View}
use Rattle.edge_store.specs.Placed.{HasNode}
use Rattle.edge_model.specs.Tree.{Tree, numbers_of, node_positions, tree_positions}
use Rattle.edge_model.specs.Rules.{IsTree}
use Rattle.edge_image.specs.Opens.{StandsFor}

-- the positions of a node are positions of the tree
pub in_tree : (g : Request) (t : Tree) (n : ℕ) (node : Node) (p : Position) → IsTree g t → t n ≡ Some node → has (positions_of g n (indices_of g node)) p ≡ true → has (tree_positions g t) p ≡ true
unfolding tree_positions
in_tree g t n node p is there e =
    let range = is.in_range n (ap is_some there) in
    let low = range.0 in
    let below = range.1 in
    let at : get_or (numbers_of g) (n - 2) 0 ≡ n = get_or-range_with_len 2 g.inodes (n - 2) 0 (omega arith) ∙ omega arith in
    has-flat_map (λ m. node_positions g m (t m)) (numbers_of g) p
    ∙ list_any_at (λ m. has (node_positions g m (t m)) p) (numbers_of g) (n - 2) 0 (omega (arith, length-range_with_len 2 g.inodes))
    (ap (λ (m : ℕ). has (node_positions g m (t m)) p) at ∙ ap (λ o. has (node_positions g n o) p) there ∙ e)

pub has_node : (g : Request) (v : View) (t : Tree) (n : ℕ) (node : Node) → IsTree g t → StandsFor g v t → t n ≡ Some node → HasNode g v n node
has_node g v t n node is stands there =
    let head = stands.heads n node there in
    record {
      head = _;
      entries = head.entries;
      inode = head.inode;
      size = refl;
      kind = refl;
      parent = refl;
      holds = stands.nodes n node there;
      once = λ p q in_p in_q same. stands.once p q (in_tree g t n node p is there in_p) (in_tree g t n node q is there in_q) same;
      rules = is.nodes n node there;
    }

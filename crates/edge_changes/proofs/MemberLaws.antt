-- The data blocks of one node of a tree, as positions of the tree and as indices.
use Rattle.std.proofs.Common.{◌≡◌, ℕ, ◌==◌, true, List, [], ◌∷◌, map, sym, ap, ◌∙◌, subst, is_some, Some, inl, inr, eq-eqb}
use Rattle.std.proofs.lemmas.Bool.{or_left, or_right}
use Rattle.edge_base.specs.declared.geometry.Request.{Request}
use Rattle.edge_base.specs.tree.Nodes.{Node, indices_of}
use Rattle.edge_base.specs.tree.Positions.{Position, data_at, has, positions_of}
use Rattle.edge_store.specs.Changed.{has_index}
use Rattle.edge_store.proofs.ChangedLaws.{same_truth, has_mapped, data_there}
use Rattle.edge_store.proofs.NodeEffects.{index_of}
use Rattle.edge_model.specs.Rules.{IsTree}
use Rattle.edge_model.specs.Tree.{Tree, tree_positions}
use Rattle.edge_model.proofs.Members.{IsAmong, among, among_range}
use Rattle.edge_steps.proofs.ShrinkLaws.{from_map}
use Rattle.edge_stands.proofs.NodeLaws.{is_of, of_tree}

pub among_index : (xs : List ℕ) (i : ℕ) → IsAmong xs i → has_index xs i ≡ true
among_index [] i h = absurd h
among_index (x ∷ xs) i (inl e) = or_left (x == i) (has_index xs i) (eq-eqb x i (sym e))
among_index (x ∷ xs) i (inr h) = or_right (x == i) (has_index xs i) (among_index xs i h)

-- as data positions of a number
pub mapped : (n : ℕ) (xs : List ℕ) (i : ℕ) → has (map (data_at n) xs) (data_at n i) ≡ has_index xs i
mapped n xs i = same_truth (has (map (data_at n) xs) (data_at n i)) (has_index xs i)
    (λ h.
    let r = from_map n xs (data_at n i) (among (map (data_at n) xs) (data_at n i) h) in
    let same : i ≡ r.0 = ap (λ (p : Position). p.index) r.1 in
    among_index xs i (subst (IsAmong xs) (sym same) r.2))
    (λ h. has_mapped n xs i h)

-- a node of a tree has the data positions of the tree that have its number
pub tree_index : (g : Request) (t : Tree) (n : ℕ) (node : Node) → IsTree g t → t n ≡ Some node → (i : ℕ) → has (tree_positions g t) (data_at n i) ≡ has_index (indices_of g node) i
tree_index g t n node tree there i = same_truth (has (tree_positions g t) (data_at n i)) (has_index (indices_of g node) i)
    (λ h.
    let o = is_of g t (data_at n i) h in
    let same : o.node ≡ node = (let e : Some o.node ≡ Some node = sym o.there ∙ there in cc) in
    index_of g n (indices_of g node) i (subst (λ (m : Node). has (positions_of g n (indices_of g m)) (data_at n i) ≡ true) same o.position))
    (λ h.
    let range = tree.in_range n (ap is_some there) in
    of_tree g t n node (data_at n i) (among_range 2 g.inodes n range.0 range.1) there (data_there g n (indices_of g node) i h))

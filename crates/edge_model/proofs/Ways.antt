-- Positions of trees, and the ancestors above them.
use Rattle.std.proofs.Common.{ap, ◌≡◌, ℕ, ◌-◌, ◌/◌, Bool, true, false, cond, List, [], ◌∷◌, flat_map, inl, inr, ⊎_elim, refl, sym, subst, nat_lt, Option, Some, None}
use Rattle.edge_base.specs.declared.form.Form.{Form}
use Rattle.edge_base.specs.declared.form.Form.TheVariants.{Plain, Indirect, Double}
use Rattle.edge_base.specs.declared.geometry.Request.{Request}
use Rattle.edge_base.specs.layout.Places.{pointers_of}
use Rattle.edge_base.specs.tree.Positions.{Position, data_at, indirect_at, double_at, above_indirect, above_data, ancestors, chain}
use Rattle.edge_base.specs.tree.Nodes.{Node, indices_of}
use Rattle.edge_model.specs.Tree.{Tree, numbers_of, node_positions, tree_positions}
use Rattle.edge_model.proofs.Members.{IsAmong, among_flat_map, from_flat_map}

-- ---- ancestors

in_cond : {A : Type 0} (b : Bool) (xs : List A) (q : A) → IsAmong (cond b [] xs) q → IsAmong xs q
in_cond true xs q h = absurd h
in_cond false xs q h = h

-- above an indirect node is a double-indirect one, if any
only_double : (g : Request) (x j : ℕ) (q : Position) → IsAmong (above_indirect g x j) q → (d : ℕ) × (q ≡ double_at x d)
only_double g x j q h = ⊎_elim (λ e. ((j - g.indirect) / pointers_of g, e)) (λ k. absurd k) (in_cond (nat_lt j g.indirect) _ q h)

none_above_double : (g : Request) (x d : ℕ) (q r : Position) → q ≡ double_at x d → IsAmong (ancestors g q) r → ⊥
none_above_double g x d q r e h = subst (λ p. IsAmong (ancestors g p) r) e h

indirect_up : (g : Request) (x j : ℕ) (q r : Position) → IsAmong (above_indirect g x j) q → IsAmong (ancestors g q) r → IsAmong (above_indirect g x j) r
indirect_up g x j q r h up = let d = only_double g x j q h in absurd (none_above_double g x d.0 q r d.1 up)

-- the node and the one above it
data_cases : (g : Request) (b : Bool) (x j : ℕ) (q r : Position) → IsAmong (cond b [] (indirect_at x j ∷ above_indirect g x j)) q → IsAmong (ancestors g q) r → IsAmong (cond b [] (indirect_at x j ∷ above_indirect g x j)) r
data_cases g true x j q r h up = h
data_cases g false x j q r (inl e) up = inr (subst (λ p. IsAmong (ancestors g p) r) e up)
data_cases g false x j q r (inr h) up = inr (indirect_up g x j q r h up)

pub data_up : (g : Request) (x i : ℕ) (q r : Position) → IsAmong (above_data g x i) q → IsAmong (ancestors g q) r → IsAmong (above_data g x i) r
data_up g x i q r h up = data_cases g (nat_lt i g.direct) x ((i - g.direct) / pointers_of g) q r h up

by_form : (g : Request) (x : ℕ) (form : Form) (i : ℕ) (q r : Position) → IsAmong (ancestors g (record { number = x; form = form; index = i })) q → IsAmong (ancestors g q) r
    → IsAmong (ancestors g (record { number = x; form = form; index = i })) r
by_form g x Plain i q r h up = data_up g x i q r h up
by_form g x Indirect i q r h up = indirect_up g x i q r h up
by_form g x Double i q r h up = absurd h

-- an ancestor's ancestor is one
pub ancestors_up : (g : Request) (p q r : Position) → IsAmong (ancestors g p) q → IsAmong (ancestors g q) r → IsAmong (ancestors g p) r
ancestors_up g p q r h up = by_form g p.number p.form p.index q r h up

-- ---- the positions of a tree

-- the data blocks of what a number has
abbrev pub blocks_of : Request → Option Node → List ℕ
blocks_of g None = []
blocks_of g (Some node) = indices_of g node

-- number n has block i, and the position is in its chain
pub record IsOn (g : Request) (t : Tree) (q : Position) : Type 0 where
  pub number : ℕ
  pub index : ℕ
  pub is_number : IsAmong (numbers_of g) number
  pub is_block : IsAmong (blocks_of g (t number)) index
  pub on_chain : IsAmong (chain g number index) q

by_node : (g : Request) (n : ℕ) (node : Option Node) → node_positions g n node ≡ flat_map (chain g n) (blocks_of g node)
by_node g n None = refl
by_node g n (Some node) = refl

pub is_on : (g : Request) (t : Tree) (q : Position) → IsAmong (tree_positions g t) q → IsOn g t q
unfolding tree_positions
is_on g t q h =
    let n = from_flat_map (λ x. node_positions g x (t x)) (numbers_of g) q h in
    let i = from_flat_map (chain g n.0) (blocks_of g (t n.0)) q (subst (λ ps. IsAmong ps q) (by_node g n.0 (t n.0)) n.2) in
    record { number = n.0; index = i.0; is_number = n.1; is_block = i.1; on_chain = i.2 }

pub is_there : (g : Request) (t : Tree) (q : Position) → IsOn g t q → IsAmong (tree_positions g t) q
unfolding tree_positions
is_there g t q on =
    let inner = among_flat_map (chain g on.number) (blocks_of g (t on.number)) on.index q on.is_block on.on_chain in
    among_flat_map (λ x. node_positions g x (t x)) (numbers_of g) on.number q on.is_number (subst (λ ps. IsAmong ps q) (sym (by_node g on.number (t on.number))) inner)

-- the ancestors of a position of a tree are positions of it
pub there_up : (g : Request) (t : Tree) (p q : Position) → IsAmong (tree_positions g t) p → IsAmong (ancestors g p) q → IsAmong (tree_positions g t) q
there_up g t p q h up =
    let on = is_on g t p h in
    let above = ⊎_elim
    (λ (e : p ≡ data_at on.number on.index). subst (λ r. IsAmong (ancestors g r) q) e up)
    (λ (k : IsAmong (above_data g on.number on.index) p). data_up g on.number on.index p q k up)
    on.on_chain in
    is_there g t q (record { number = on.number; index = on.index; is_number = on.is_number; is_block = on.is_block; on_chain = inr above })

-- ---- data blocks are no ancestors

data_is_no_indirect : (n i x j : ℕ) → data_at n i ≡ indirect_at x j → ⊥
data_is_no_indirect n i x j e = let forms : Plain ≡ Indirect = ap (λ (p : Position). p.form) e in cc

data_is_no_double : (n i x d : ℕ) → data_at n i ≡ double_at x d → ⊥
data_is_no_double n i x d e = let forms : Plain ≡ Double = ap (λ (p : Position). p.form) e in cc

pub none_is_data : (g : Request) (x j n i : ℕ) → IsAmong (above_data g x j) (data_at n i) → ⊥
none_is_data g x j n i h = ⊎_elim
    (λ e. data_is_no_indirect n i x ((j - g.direct) / pointers_of g) e)
    (λ k. let d = only_double g x ((j - g.direct) / pointers_of g) (data_at n i) k in data_is_no_double n i x d.0 d.1)
    (in_cond (nat_lt j g.direct) (indirect_at x ((j - g.direct) / pointers_of g) ∷ above_indirect g x ((j - g.direct) / pointers_of g)) (data_at n i) h)

-- A change at one node leaves a view standing for the other nodes.
use Rattle.std.proofs.Common.{◌≡◌, ◌≢◌, ◌↔◌, ℕ, ◌<◌, ◌==◌, ◌&&◌, not, true, false, cond, List, [], ◌∷◌, is_some, ◌⊎◌, inl, inr, ⊎_elim, Option, Some, None, refl, sym, ap, ◌∙◌, subst, eqb-true, eq-eqb}
use Rattle.std.specs.List.{list_any}
use Rattle.std.proofs.lemmas.Bool.{false≢true, cases_eq, ne_eqb, or_cases}
use Rattle.edge_base.specs.declared.form.Form.{Form}
use Rattle.edge_base.specs.declared.form.Form.TheVariants.{Plain, Indirect, Double}
use Rattle.edge_base.specs.declared.geometry.Request.{Request}
use Rattle.edge_base.specs.tree.Positions.{Position, has, ancestors, chain, data_at, indirect_at, double_at, above_data, positions_of, positions_of_form}
use Rattle.edge_base.specs.tree.Nodes.{Node, indices_of}
use Rattle.edge_store.specs.View.{View, Block, is_new, content, content_at, is_used, is_spot, is_owned_by, entries_of_inode}
use Rattle.edge_store.specs.Placed.{block_at, HoldsNode}
use Rattle.edge_store.specs.Frames.{KeepsPointers}
use Rattle.edge_store.proofs.FrameLaws.{block_at-kept, block_at-pointers}
use Rattle.edge_model.specs.Tree.{Tree, numbers_of, tree_positions, with_node, links_of}
use Rattle.edge_model.proofs.Members.{IsAmong, among, is_had, among_flat_map, from_flat_map}
use Rattle.edge_model.proofs.Ways.{blocks_of, is_on, is_there, data_up}
use Rattle.edge_image.specs.Opens.{StandsFor}
use Rattle.edge_steps.proofs.NodeLaws.{NodeSet, node_set}
use Rattle.edge_steps.proofs.SlotLaws.{none_some, some_same}
use Rattle.edge_steps.proofs.ChainLaws.{chain_number}
use Rattle.edge_store.specs.Fresh.{is_dirty}
use Rattle.edge_stands.specs.Stands.{NodeStands, StandsWith, with_links, StandsAlone}

-- ---- links that are those of the names

pub with_links_of : (g : Request) (v : View) (t : Tree) → StandsFor g v t ↔ StandsWith g v t (links_of g t)
with_links_of g v t = (
  (λ s. record {
    numbers = s.numbers;
    nodes = λ n node is. record { head = s.heads n node is; holds = s.nodes n node is };
    once = s.once;
    each = s.each;
  }),
  (λ s. record {
    numbers = s.numbers;
    heads = λ n node is. (s.nodes n node is).head;
    nodes = λ n node is. (s.nodes n node is).holds;
    once = s.once;
    each = s.each;
  }),
)

-- other links that are the same at the numbers of the tree
pub agreed_links : (g : Request) (v : View) (t : Tree) (links : ℕ → ℕ) → StandsWith g v t links → ((n : ℕ) → is_some (t n) ≡ true → links n ≡ links_of g t n) → StandsFor g v t
agreed_links g v t links s agree = (with_links_of g v t).1 (record {
  numbers = s.numbers;
  nodes = λ n node is. subst (NodeStands g v n node) (agree n (ap (λ (o : Option Node). is_some o) is)) (s.nodes n node is);
  once = s.once;
  each = s.each;
})

-- ---- positions of a node and of the tree

-- the node that a position of a tree is of
pub record IsOf (g : Request) (t : Tree) (p : Position) : Type 0 where
  pub node : Node
  pub there : t p.number ≡ Some node
  pub position : has (positions_of g p.number (indices_of g node)) p ≡ true
  pub is_number : IsAmong (numbers_of g) p.number

in_node : (g : Request) (x : ℕ) (indices : List ℕ) (i : ℕ) (p : Position) → IsAmong indices i → IsAmong (chain g x i) p → has (positions_of g x indices) p ≡ true
in_node g x indices i p block on = is_had (positions_of g x indices) p (among_flat_map (chain g x) indices i p block on)

by_node : (g : Request) (t : Tree) (x i : ℕ) (p : Position) (o : Option Node) → t x ≡ o → IsAmong (numbers_of g) x → IsAmong (blocks_of g o) i → IsAmong (chain g x i) p → p.number ≡ x → IsOf g t p
by_node g t x i p None is number block on same = absurd block
by_node g t x i p (Some node) is number block on same = record {
  node = node;
  there = ap t same ∙ is;
  position = subst (λ n. has (positions_of g n (indices_of g node)) p ≡ true) (sym same) (in_node g x (indices_of g node) i p block on);
  is_number = subst (IsAmong (numbers_of g)) (sym same) number;
}

pub is_of : (g : Request) (t : Tree) (p : Position) → has (tree_positions g t) p ≡ true → IsOf g t p
is_of g t p h =
    let on = is_on g t p (among (tree_positions g t) p h) in
    by_node g t on.number on.index p (t on.number) refl on.is_number on.is_block on.on_chain (chain_number g on.number on.index p on.on_chain)

pub of_tree : (g : Request) (t : Tree) (x : ℕ) (node : Node) (p : Position) → IsAmong (numbers_of g) x → t x ≡ Some node → has (positions_of g x (indices_of g node)) p ≡ true → has (tree_positions g t) p ≡ true
of_tree g t x node p number is h =
    let r = from_flat_map (chain g x) (indices_of g node) p (among (positions_of g x (indices_of g node)) p h) in
    is_had (tree_positions g t) p (is_there g t p (record { number = x; index = r.0; is_number = number; is_block = subst (λ o. IsAmong (blocks_of g o) r.0) (sym is) r.1; on_chain = r.2 }))

-- the ancestors of a position of a node are positions of it
node_up : (g : Request) (x : ℕ) (indices : List ℕ) (p q : Position) → has (positions_of g x indices) p ≡ true → has (ancestors g p) q ≡ true → has (positions_of g x indices) q ≡ true
node_up g x indices p q h up =
    let r = from_flat_map (chain g x) indices p (among (positions_of g x indices) p h) in
    let over = among (ancestors g p) q up in
    in_node g x indices r.0 q r.1 (inr (⊎_elim
    (λ (e : p ≡ data_at x r.0). subst (λ s. IsAmong (ancestors g s) q) e over)
    (λ (k : IsAmong (above_data g x r.0) p). data_up g x r.0 p q k over)
    r.2))

pub listed : (is : List ℕ) (i : ℕ) → list_any (λ k. k == i) is ≡ true → IsAmong is i
listed [] i h = absurd (false≢true h)
listed (k ∷ ks) i h = ⊎_elim (λ here. inl (sym (eqb-true k i here))) (λ later. inr (listed ks i later)) (or_cases (k == i) (list_any (λ j. j == i) ks) h)

-- ---- a node whose inode and blocks are the same

spot_used : (v : View) (form : Form) (owner b : ℕ) → is_spot v form owner b ≡ true → is_used v b ≡ true
spot_used v form owner b e = elim (v.blocks b) as (λ o. is_owned_by owner (content form o) ≡ true → is_some o ≡ true) [ None ↦ λ not. absurd (false≢true not) | Some block ↦ λ yes. refl ] e

-- the inode of x, and the blocks at its positions, are as they were
pub record NodeKept (g : Request) (v w : View) (x : ℕ) (node : Node) : Type 0 where
  pub inode : w.inodes x ≡ v.inodes x
  pub blocks : (p : Position) → p.number ≡ x → has (positions_of g x (indices_of g node)) p ≡ true → w.blocks (block_at g v p) ≡ v.blocks (block_at g v p)

module _ (g : Request) (v w : View) (x : ℕ) (node : Node) (holds : HoldsNode g v x node) (kept : NodeKept g v w x node) where
  same_content : (form : Form) (p : Position) → p.number ≡ x → has (positions_of g x (indices_of g node)) p ≡ true → content_at w form (block_at g v p) ≡ content_at v form (block_at g v p)
  same_content form p number h = ap (content form) (kept.blocks p number h)

  keeps : KeepsPointers g v w x
  keeps = record {
    entries = ap entries_of_inode kept.inode;
    indirect = λ j low some. same_content Indirect (indirect_at x j) refl ((holds.places.places (indirect_at x j) refl low).0 some);
    double = λ d low some. same_content Double (double_at x d) refl ((holds.places.places (double_at x d) refl low).0 some);
  }

  -- its blocks are where they were
  pub same_places : (p : Position) → p.number ≡ x → p.index < positions_of_form g p.form → block_at g w p ≡ block_at g v p
  same_places p number low = block_at-pointers g v w x keeps p number low

  pub same_block : (p : Position) → p.number ≡ x → has (positions_of g x (indices_of g node)) p ≡ true → block_at g w p ≡ block_at g v p
  same_block p number h = block_at-kept g v w p (record {
    entries = ap (λ y. entries_of_inode (w.inodes y)) number ∙ ap entries_of_inode kept.inode ∙ ap (λ y. entries_of_inode (v.inodes y)) (sym number);
    nodes = λ q up some. let own = node_up g x (indices_of g node) p q h up in same_content q.form q (owned q own) own;
  })
    where
      owned : (q : Position) → has (positions_of g x (indices_of g node)) q ≡ true → q.number ≡ x
      owned q h = let r = from_flat_map (chain g x) (indices_of g node) q (among (positions_of g x (indices_of g node)) q h) in chain_number g x r.0 q r.2

  pub still_holds : HoldsNode g w x node
  still_holds = record {
    places = record {
      places = λ p number low. subst (λ (b : ℕ). (b ≢ 0) ↔ (has (positions_of g x (indices_of g node)) p ≡ true)) (sym (same_places p number low)) (holds.places.places p number low);
      spots = λ p h.
          let number = number_of p h in
          subst (λ (b : ℕ). is_spot w p.form x b ≡ true) (sym (same_block p number h)) (ap (is_owned_by x) (same_content p.form p number h) ∙ holds.places.spots p h);
    };
    contents = λ i h.
        let at = data_there i h in
        ap (content_at w Plain) (same_block (data_at x i) refl at) ∙ same_content Plain (data_at x i) refl at ∙ holds.contents i h;
  }
    where
      number_of : (p : Position) → has (positions_of g x (indices_of g node)) p ≡ true → p.number ≡ x
      number_of p h = let r = from_flat_map (chain g x) (indices_of g node) p (among (positions_of g x (indices_of g node)) p h) in chain_number g x r.0 p r.2

      data_there : (i : ℕ) → list_any (λ k. k == i) (indices_of g node) ≡ true → has (positions_of g x (indices_of g node)) (data_at x i) ≡ true
      data_there i h = in_node g x (indices_of g node) i (data_at x i) (listed (indices_of g node) i h) (inl refl)

-- ---- another node at one number

-- a position of number n in the tree
abbrev pub IsOwn : Request → Tree → ℕ → Position → Type 0
IsOwn g t n p = (p.number ≡ n) × (has (tree_positions g t) p ≡ true)

-- From v to w number n has come to stand for another node, told by the positions of the trees.
pub record OwnChanged (g : Request) (v w : View) (t : Tree) (n : ℕ) (node : Option Node) (links : ℕ) : Type 0 where
  pub stands : StandsAlone g w n node links
  pub once : (p q : Position) → IsOwn g (with_node t n node) n p → IsOwn g (with_node t n node) n q → block_at g w p ≡ block_at g w q → p ≡ q
  pub inodes : (x : ℕ) → x ≢ n → w.inodes x ≡ v.inodes x
  pub blocks : (b : ℕ) → is_used v b ≡ true → ((q : Position) → IsOwn g t n q → block_at g v q ≢ b) → w.blocks b ≡ v.blocks b
  pub taken : (p : Position) → IsOwn g (with_node t n node) n p
      → (is_used v (block_at g w p) ≡ false) ⊎ ((q : Position) × IsOwn g t n q × (block_at g v q ≡ block_at g w p))
  pub left : (b : ℕ) → is_used w b ≡ true
      → ((p : Position) × IsOwn g (with_node t n node) n p × (block_at g w p ≡ b))
      ⊎ ((is_used v b ≡ true) × ((q : Position) → IsOwn g t n q → block_at g v q ≢ b))

links_here : (links : ℕ → ℕ) (n now : ℕ) → with_links links n now n ≡ now
links_here links n now = ap (λ b. cond b now (links n)) (eq-eqb n n refl)

links_there : (links : ℕ → ℕ) (n now x : ℕ) → (x ≡ n → ⊥) → with_links links n now x ≡ links x
links_there links n now x other = ap (λ b. cond b now (links x)) (ne_eqb x n other)

module _ (g : Request) (v w : View) (t : Tree) (links : ℕ → ℕ) (n : ℕ) (new : Option Node) (now : ℕ) (s : StandsWith g v t links) (c : OwnChanged g v w t n new now) where
  abbrev then : Tree
  then = with_node t n new

  own_set : NodeSet t then n new
  own_set = node_set t n new

  -- a position of another number is in both trees or in neither
  pub was_there : (p : Position) → (p.number ≡ n → ⊥) → has (tree_positions g then) p ≡ true → has (tree_positions g t) p ≡ true
  was_there p other h = let o = is_of g then p h in of_tree g t p.number o.node p o.is_number (sym (own_set.others p.number other) ∙ o.there) o.position

  is_there_now : (p : Position) → (p.number ≡ n → ⊥) → has (tree_positions g t) p ≡ true → has (tree_positions g then) p ≡ true
  is_there_now p other h = let o = is_of g t p h in of_tree g then p.number o.node p o.is_number (own_set.others p.number other ∙ o.there) o.position

  -- the block of a position is used
  pub position_used : (p : Position) → has (tree_positions g t) p ≡ true → is_used v (block_at g v p) ≡ true
  position_used p h = let o = is_of g t p h in spot_used v p.form p.number (block_at g v p) ((s.nodes p.number o.node o.there).holds.places.spots p o.position)

  -- a position of another number has no block of n
  apart : (p q : Position) → (p.number ≡ n → ⊥) → has (tree_positions g t) p ≡ true → IsOwn g t n q → block_at g v q ≡ block_at g v p → ⊥
  apart p q other h own e = other (ap (λ (r : Position). r.number) (sym (s.once q p own.1 h e)) ∙ own.0)

  -- another node is kept
  others_kept : (x : ℕ) (node : Node) → (x ≡ n → ⊥) → IsAmong (numbers_of g) x → t x ≡ Some node → NodeKept g v w x node
  others_kept x node other number is = record {
    inode = c.inodes x other;
    blocks = λ p same h.
        let there = of_tree g t x node p number is h in
        c.blocks (block_at g v p) (position_used p there) (λ q own e. apart p q (λ k. other (sym same ∙ k)) there own e);
  }

  other_block : (p : Position) → (p.number ≡ n → ⊥) → has (tree_positions g t) p ≡ true → block_at g w p ≡ block_at g v p
  other_block p other h =
      let o = is_of g t p h in
      same_block g v w p.number o.node (s.nodes p.number o.node o.there).holds (others_kept p.number o.node other o.is_number o.there) p refl o.position

  meets : (p q : Position) → IsOwn g then n p → (q.number ≡ n → ⊥) → has (tree_positions g t) q ≡ true → block_at g w p ≡ block_at g w q → ⊥
  meets p q own other h e = ⊎_elim
      (λ unused. false≢true (sym unused ∙ ap (is_used v) (e ∙ other_block q other h) ∙ position_used q h))
      (λ (r : (k : Position) × IsOwn g t n k × (block_at g v k ≡ block_at g w p)). apart q r.0 other h r.1 (r.2 ∙ e ∙ other_block q other h))
      (c.taken p own)

  node_numbers : (node : Option Node) → StandsAlone g w n node now → (node ≡ None) ↔ (w.inodes n ≡ None)
  node_numbers None alone = ((λ _. alone), (λ _. refl))
  node_numbers (Some node) alone = ((λ (wrong : Some node ≡ None). absurd (none_some node (sym wrong))), (λ gone. absurd (none_some _ (sym gone ∙ alone.head.inode))))

  alone_is : (what : Option Node) (node : Node) → what ≡ Some node → StandsAlone g w n what now → NodeStands g w n node now
  alone_is None node is alone = absurd (none_some node is)
  alone_is (Some x) node is alone = subst (λ y. NodeStands g w n y now) (some_same x node is) alone

  pub then_stands : ((x : ℕ) → is_some (t x) ≡ true → IsAmong (numbers_of g) x) → StandsWith g w then (with_links links n now)
  then_stands in_range = record {
    numbers = λ x. ⊎_elim
        (λ (same : x ≡ n). subst (λ y. (then y ≡ None) ↔ (w.inodes y ≡ None)) (sym same) (subst (λ o. (o ≡ None) ↔ (w.inodes n ≡ None)) (sym own_set.here) (node_numbers new c.stands)))
        (λ (other : x ≡ n → ⊥). subst (λ o. (then x ≡ None) ↔ (o ≡ None)) (sym (c.inodes x other)) (subst (λ o. (o ≡ None) ↔ (v.inodes x ≡ None)) (sym (own_set.others x other)) (s.numbers x)))
        (cases_eq x n);
    nodes = λ x node is. ⊎_elim
        (λ (same : x ≡ n). subst (λ k. NodeStands g w x node k) (sym (ap (with_links links n now) same ∙ links_here links n now))
        (subst (λ y. NodeStands g w y node now) (sym same) (alone_is new node (sym own_set.here ∙ ap then (sym same) ∙ is) c.stands)))
        (λ (other : x ≡ n → ⊥).
        let old = sym (own_set.others x other) ∙ is in
        let was = s.nodes x node old in
        let kept = others_kept x node other (in_range x (ap (λ (o : Option Node). is_some o) old)) old in
        subst (λ k. NodeStands g w x node k) (sym (links_there links n now x other)) (record {
          head = record { entries = was.head.entries; inode = kept.inode ∙ was.head.inode };
          holds = still_holds g v w x node was.holds kept;
        }))
        (cases_eq x n);
    once = λ p q hp hq e. ⊎_elim
        (λ (own : p.number ≡ n). ⊎_elim
        (λ (too : q.number ≡ n). c.once p q (own, hp) (too, hq) e)
        (λ (other : q.number ≡ n → ⊥). absurd (meets p q (own, hp) other (was_there q other hq) e))
        (cases_eq q.number n))
        (λ (other : p.number ≡ n → ⊥). ⊎_elim
        (λ (own : q.number ≡ n). absurd (meets q p (own, hq) other (was_there p other hp) (sym e)))
        (λ (too : q.number ≡ n → ⊥).
        let one = was_there p other hp in
        let two = was_there q too hq in
        s.once p q one two (sym (other_block p other one) ∙ e ∙ other_block q too two))
        (cases_eq q.number n))
        (cases_eq p.number n);
    each = λ b used. ⊎_elim
        (λ (r : (p : Position) × IsOwn g then n p × (block_at g w p ≡ b)). record { position = r.0; in_tree = r.1.1; block = r.2 })
        (λ (r : (is_used v b ≡ true) × ((q : Position) → IsOwn g t n q → block_at g v q ≢ b)).
        let old = s.each b r.0 in
        let other : old.position.number ≡ n → ⊥ = λ same. r.1 old.position (same, old.in_tree) old.block in
        record { position = old.position; in_tree = is_there_now old.position other old.in_tree; block = other_block old.position other old.in_tree ∙ old.block })
        (c.left b used);
  }

  -- a position of another number is dirty where it was
  pub other_dirty : (committed : View) (p : Position) → (p.number ≡ n → ⊥) → has (tree_positions g then) p ≡ true → is_dirty g committed w p ≡ is_dirty g committed v p
  other_dirty committed p other h =
      let was = was_there p other h in
      let o = is_of g t p was in
      let kept = others_kept p.number o.node other o.is_number o.there in
      ap (is_new committed w) (other_block p other was)
      ∙ ap (λ (b : Option Block). is_some b && not (is_used committed (block_at g v p))) (kept.blocks p refl o.position)

-- The positions of a tree occupy the blocks that a view which stands for it uses.
use Rattle.std.proofs.Common.{◌≡◌, inl, inr, ℕ, ◌+◌, ◌<◌, ◌≤◌, ◌&&◌, Bool, true, false, cond, List, [], ◌∷◌, Option, Some, None, refl, sym, ap, ◌∙◌}
use Rattle.std.specs.Prelude.{is_some, nat_le, nat_lt}
use Rattle.std.specs.List.{list_any}
use Rattle.std.proofs.lemmas.Bool.{and_parts, and_from, or_cases, leb-true, ltb-true, le-leb, lt-ltb, false≢true}
use Rattle.edge_base.specs.declared.form.Form.{Form}
use Rattle.edge_base.specs.declared.geometry.Request.{Request}
use Rattle.edge_base.specs.tree.Counting.{LeadTo}
use Rattle.edge_base.specs.layout.Places.{first_allocable_of, allocable_of}
use Rattle.edge_base.specs.tree.Positions.{Position, has, count_of, positions_of}
use Rattle.edge_base.specs.tree.Nodes.{Node, indices_of}
use Rattle.edge_base.proofs.PositionLaws.{has-flat_map}
use Rattle.edge_base.proofs.ChainLaws.{has-positions_of-number}
use Rattle.edge_base.proofs.CountLaws.{count_by-LeadTo, count_by-LeadTo-rest}
use Rattle.edge_disk.specs.Image.{Image}
use Rattle.edge_store.specs.View.{View, Block, content, is_owned_by, is_spot, is_allocable, is_used, count_allocable}
use Rattle.edge_store.specs.Placed.{block_at}
use Rattle.edge_store.specs.Counted.{Occupy}
use Rattle.edge_model.specs.Tree.{Tree, numbers_of, node_positions, tree_positions}
use Rattle.edge_image.specs.Image.{Live, used_in}
use Rattle.edge_image.specs.View.{block_told, view_of}
use Rattle.edge_image.specs.Opens.{StandsFor, OpensTo}
use Rattle.edge_image.specs.Room.{UsesAllocable}
use Rattle.edge_image.proofs.AlikeLaws.{mounted_with}

-- ---- the node of a position

-- a position of a tree is one of the node of its number
record HasOwner (g : Request) (t : Tree) (p : Position) : Type 0 where
  node : Node
  there : t p.number ≡ Some node
  position : has (positions_of g p.number (indices_of g node)) p ≡ true

some_passes : (test : ℕ → Bool) (ns : List ℕ) → list_any test ns ≡ true → (n : ℕ) × (test n ≡ true)
some_passes test [] e = absurd (false≢true e)
some_passes test (n ∷ ns) e = elim (or_cases (test n) (list_any test ns) e) [
  | inl here ↦ (n, here)
  | inr rest ↦ some_passes test ns rest
]

owner_is : (g : Request) (t : Tree) (p : Position) (n : ℕ) (node : Option Node) → t n ≡ node → has (node_positions g n node) p ≡ true → HasOwner g t p
owner_is g t p n None is e = absurd (false≢true e)
owner_is g t p n (Some node) is e =
    let number : p.number ≡ n = has-positions_of-number g n (indices_of g node) p e in
    record {
      node = node;
      there = ap t number ∙ is;
      position = ap (λ (m : ℕ). has (positions_of g m (indices_of g node)) p) number ∙ e;
    }

owner_of : (g : Request) (t : Tree) (p : Position) → has (tree_positions g t) p ≡ true → HasOwner g t p
unfolding tree_positions
owner_of g t p e =
    let found = some_passes (λ n. has (node_positions g n (t n)) p) (numbers_of g) (sym (has-flat_map (λ n. node_positions g n (t n)) (numbers_of g) p) ∙ e) in
    owner_is g t p found.0 (t found.0) refl found.1

-- ---- the blocks of a view

spot_used : (v : View) (form : Form) (owner b : ℕ) → is_spot v form owner b ≡ true → is_used v b ≡ true
spot_used v form owner b e = elim (v.blocks b) as (λ o. is_owned_by owner (content form o) ≡ true → is_some o ≡ true) [ None ↦ λ no. absurd (false≢true no) | Some block ↦ λ yes. refl ] e

in_range : (g : Request) (b : ℕ) → is_allocable g b ≡ true → (first_allocable_of g ≤ b) × (b < first_allocable_of g + allocable_of g)
in_range g b e =
    let parts = and_parts (nat_le (first_allocable_of g) b) (nat_lt b (first_allocable_of g + allocable_of g)) e in
    (leb-true (first_allocable_of g) b parts.0, ltb-true b (first_allocable_of g + allocable_of g) parts.1)

pub occupied : (g : Request) (v : View) (t : Tree) → UsesAllocable g v → StandsFor g v t → Occupy g v (tree_positions g t) (is_used v)
occupied g v t allocable stands = record {
  inside = λ p e.
      let owner = owner_of g t p e in
      let used = spot_used v p.form p.number (block_at g v p) ((stands.nodes p.number owner.node owner.there).places.spots p owner.position) in
      let range = in_range g (block_at g v p) (allocable (block_at g v p) used) in
      (range.0, range.1, used);
  once = stands.once;
  each = λ b from below used. let placed = stands.each b used in (placed.position, placed.in_tree, placed.block);
}

pub as_many : (g : Request) (v : View) (t : Tree) → UsesAllocable g v → StandsFor g v t → count_allocable g (is_used v) ≡ count_of (tree_positions g t)
as_many g v t allocable stands = count_by-LeadTo (occupied g v t allocable stands)

-- ---- the blocks of an image

-- a block of the view is allocable, and its bit is set
is_bit : (allocable bit : Bool) (block : Block) → is_some (cond (allocable && bit) (Some block) None) ≡ true → (allocable && bit) ≡ true
is_bit allocable bit block e = elim (allocable && bit) as (λ b. is_some (cond b (Some block) None) ≡ true → b ≡ true) [ true ↦ λ yes. refl | false ↦ λ no. no ] e

used_bit : (g : Request) (image : Image) (live : Live) (b : ℕ) → is_used (view_of g image live) b ≡ true → (is_allocable g b && used_in g image live b) ≡ true
unfolding view_of
used_bit g image live b used = is_bit (is_allocable g b) (used_in g image live b) (block_told g (image.block b)) used

bit_used : (g : Request) (image : Image) (live : Live) (b : ℕ) → (is_allocable g b && used_in g image live b) ≡ true → is_used (view_of g image live) b ≡ true
unfolding view_of
bit_used g image live b e = ap (λ t. is_some (cond t (Some (block_told g (image.block b))) None)) e

pub view_allocable : (g : Request) (image : Image) (live : Live) → UsesAllocable g (view_of g image live)
view_allocable g image live b used = (and_parts (is_allocable g b) (used_in g image live b) (used_bit g image live b used)).0

in_allocable : (g : Request) (b : ℕ) → first_allocable_of g ≤ b → b < first_allocable_of g + allocable_of g → is_allocable g b ≡ true
in_allocable g b from below = and_from (nat_le (first_allocable_of g) b) (nat_lt b (first_allocable_of g + allocable_of g)) (le-leb (first_allocable_of g) b from) (lt-ltb b (first_allocable_of g + allocable_of g) below)

-- the same blocks by the bitmap of the live metaroot
occupied_bits : (g : Request) (image : Image) (live : Live) (t : Tree) → StandsFor g (view_of g image live) t
    → LeadTo (block_at g (view_of g image live)) (tree_positions g t) (used_in g image live) (first_allocable_of g) (allocable_of g)
occupied_bits g image live t stands =
    let all = occupied g (view_of g image live) t (view_allocable g image live) stands in
    record {
      inside = λ p e.
          let i = all.inside p e in
          let b = block_at g (view_of g image live) p in
          (i.0, i.1, (and_parts (is_allocable g b) (used_in g image live b) (used_bit g image live b i.2)).1);
      once = all.once;
      each = λ b from below bit. all.each b from below (bit_used g image live b (and_from (is_allocable g b) (used_in g image live b) (in_allocable g b from below) bit));
    }

pub free_and_placed : (image : Image) (t : Tree) → (opens : OpensTo image t) → opens.live.root.free_blocks + count_of (tree_positions opens.master.geometry t) ≡ allocable_of opens.master.geometry
free_and_placed image t opens =
    let g = opens.master.geometry in
    let free = (mounted_with image t opens).free_blocks in
    ap (λ (n : ℕ). n + count_of (tree_positions g t)) free ∙ count_by-LeadTo-rest (occupied_bits g image opens.live t opens.stands)

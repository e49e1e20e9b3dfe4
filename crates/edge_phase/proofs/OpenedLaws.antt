-- An image whose view stands for a tree opens to it, and has the room that the tree leaves.
use Rattle.std.proofs.Common.{◌≡◌, ◌≢◌, ◌≤◌, ◌+◌, ◌^◌, ◌&&◌, ℕ, Bool, true, false, not, cond, Option, Some, None, refl, sym, ap, ◌∙◌, subst}
use Rattle.std.specs.Prelude.{is_some, nat_le, nat_lt}
use Rattle.std.proofs.lemmas.Bool.{and_from, le-leb, lt-ltb}
use Rattle.edge_base.specs.declared.damage.Damage.{Damage}
use Rattle.edge_base.specs.declared.geometry.Request.{Request}
use Rattle.edge_base.specs.layout.Places.{first_allocable_of, allocable_of}
use Rattle.edge_base.specs.tree.Nodes.{Node}
use Rattle.edge_base.specs.tree.Positions.{count_of}
use Rattle.edge_disk.specs.Image.{Image}
use Rattle.edge_store.specs.View.{View, Block, broken, free_after, is_allocable, is_used}
use Rattle.edge_store.proofs.CountLaws.{free_after-positions}
use Rattle.edge_model.specs.Rules.{IsTree}
use Rattle.edge_model.specs.Tree.{Tree, tree_positions}
use Rattle.edge_image.specs.Image.{Live, free_blocks_of, is_unused, used_in}
use Rattle.edge_image.specs.Opens.{OpensTo, StandsFor}
use Rattle.edge_image.specs.View.{block_told, view_of}
use Rattle.edge_image.proofs.AlikeLaws.{count_alike}
use Rattle.edge_image.proofs.ReasonLaws.{mountable}
use Rattle.edge_image.proofs.RoomLaws.{occupied, view_allocable}
use Rattle.edge_anchor.specs.Anchor.{Anchor, geometry_of, live_by}
use Rattle.edge_anchor.specs.Opens.{OpensAs}
use Rattle.edge_anchor.proofs.OpenLaws.{opens_mounted}

-- a number with a node has a whole inode, and the others have none
none_broken : (g : Request) (v : View) (t : Tree) → StandsFor g v t → (n : ℕ) (damage : Damage) → v.inodes n ≢ Some (broken damage)
none_broken g v t stands n damage e = by_node (t n) refl
  where
    by_node : (o : Option Node) → t n ≡ o → ⊥
    by_node None is = let none = (stands.numbers n).0 is in absurd (cc (none, e))
    by_node (Some node) is = let there = (stands.heads n node is).inode in absurd (cc (there, e))

pub opens_to_tree : (a : Anchor) (v : View) (image : Image) (t : Tree) → OpensAs a v image → a.root.sequence ≤ 2 ^ 63 → 3 ≤ a.root.free_blocks
    → IsTree (geometry_of a) t → StandsFor (geometry_of a) v t → OpensTo image t
opens_to_tree a v image t is sequence room tree stands = record {
  mounts = mountable image (a.master, live_by a, opens_mounted a v image is sequence room);
  master = a.master;
  is_master = is.master;
  live = live_by a;
  is_live = is.live;
  unbroken = λ n damage e. none_broken (geometry_of a) v t stands n damage (sym (ap (λ (x : View). x.inodes n) is.view) ∙ e);
  tree = tree;
  stands = subst (λ (x : View). StandsFor (geometry_of a) x t) (sym is.view) stands;
}

-- ---- room

is_there : (t : Bool) (block : Block) → is_some (cond t (Some block) None) ≡ t
is_there true block = refl
is_there false block = refl

-- an allocable block is used in the view exactly where its bit is set
same_use : (g : Request) (image : Image) (live : Live) (b : ℕ) → is_allocable g b ≡ true → used_in g image live b ≡ is_used (view_of g image live) b
unfolding view_of
same_use g image live b allocable =
    sym (is_there (is_allocable g b && used_in g image live b) (block_told g (image.block b)) ∙ ap (λ t. t && used_in g image live b) allocable)

same_free : (g : Request) (image : Image) (live : Live) → free_blocks_of g (used_in g image live) ≡ free_after g (view_of g image live)
unfolding free_after
same_free g image live =
    count_alike (is_unused (used_in g image live)) (λ b. not (is_used (view_of g image live) b)) (first_allocable_of g) (allocable_of g)
    (λ b from below. ap not (same_use g image live b
    (and_from (nat_le (first_allocable_of g) b) (nat_lt b (first_allocable_of g + allocable_of g)) (le-leb (first_allocable_of g) b from) (lt-ltb b (first_allocable_of g + allocable_of g) below))))

pub room_of_tree : (a : Anchor) (v : View) (image : Image) (t : Tree) → OpensAs a v image → StandsFor (geometry_of a) v t
    → a.root.free_blocks + count_of (tree_positions (geometry_of a) t) ≡ allocable_of (geometry_of a)
room_of_tree a v image t is stands =
    let g = geometry_of a in
    let there : StandsFor g (view_of g image (live_by a)) t = subst (λ (x : View). StandsFor g x t) (sym is.view) stands in
    ap (λ (n : ℕ). n + count_of (tree_positions g t)) (is.free_blocks ∙ same_free g image (live_by a))
    ∙ free_after-positions g (view_of g image (live_by a)) (tree_positions g t) (occupied g (view_of g image (live_by a)) t (view_allocable g image (live_by a)) there)

-- An image that opens to a tree is ready.
use Rattle.std.proofs.Common.{◌≡◌, ℕ, Bool, true, false, cond, List, Some, None, Ok, Err, refl}
use Rattle.std.specs.Prelude.{Result}
use Rattle.edge_base.specs.declared.geometry.Request.{Request}
use Rattle.edge_base.specs.declared.node.Head.{Head}
use Rattle.edge_base.specs.declared.node.NodeFault.{NodeFault}
use Rattle.edge_base.specs.tree.Nodes.{Node}
use Rattle.edge_base.specs.layout.Places.{inode_place_of}
use Rattle.edge_base.specs.layout.Spelling.{inode_in}
use Rattle.edge_disk.specs.Image.{Image}
use Rattle.edge_store.specs.View.{whole, broken, is_number}
use Rattle.edge_model.specs.Tree.{Tree}
use Rattle.edge_image.specs.Image.{Live, used_in, used_place}
use Rattle.edge_image.specs.Ready.{IsReady}
use Rattle.edge_image.specs.View.{inode_told, inode_at, inode_by, view_of}
use Rattle.edge_image.specs.Opens.{OpensTo, head_of_node, HasHead}

-- where a whole inode is told, its head is
told_head : (g : Request) (place : ℕ) (bytes : List ℕ) (head : Head) (entries : List ℕ) (found : Result Head NodeFault) → inode_told g place bytes found ≡ whole head entries → found ≡ Ok head
told_head g place bytes head entries (Ok other) e = cc
told_head g place bytes head entries (Err fault) e = absurd cc

-- a number's inode stands at its one used place
pub record HasPlace (g : Request) (image : Image) (used : ℕ → Bool) (n : ℕ) (head : Head) : Type 0 where
  pub place : ℕ
  pub one_place : used_place g used n ≡ Some place
  pub spells : inode_in (image.block place) ≡ Ok head

placed_by : (g : Request) (image : Image) (used : ℕ → Bool) (n : ℕ) (head : Head) (entries : List ℕ) (first second : Bool) → used (inode_place_of g n false) ≡ first → used (inode_place_of g n true) ≡ second
    → inode_by g image.block n first second ≡ Some (whole head entries) → HasPlace g image used n head
placed_by g image used n head entries true true f s e = absurd (let wrong : Some (broken _) ≡ Some (whole head entries) = e in cc)
placed_by g image used n head entries true false f s e =
    let here : inode_at g (inode_place_of g n false) (image.block (inode_place_of g n false)) ≡ whole head entries = cc in
    record { place = inode_place_of g n false; one_place = cc; spells = told_head g (inode_place_of g n false) (image.block (inode_place_of g n false)) head entries _ here }
placed_by g image used n head entries false true f s e =
    let here : inode_at g (inode_place_of g n true) (image.block (inode_place_of g n true)) ≡ whole head entries = cc in
    record { place = inode_place_of g n true; one_place = cc; spells = told_head g (inode_place_of g n true) (image.block (inode_place_of g n true)) head entries _ here }
placed_by g image used n head entries false false f s e = absurd (let wrong : None ≡ Some (whole head entries) = e in cc)

placed_if : (g : Request) (image : Image) (used : ℕ → Bool) (n : ℕ) (head : Head) (entries : List ℕ) (inside : Bool)
    → cond inside (inode_by g image.block n (used (inode_place_of g n false)) (used (inode_place_of g n true))) None ≡ Some (whole head entries) → HasPlace g image used n head
placed_if g image used n head entries true e = placed_by g image used n head entries _ _ refl refl e
placed_if g image used n head entries false e = absurd (let wrong : None ≡ Some (whole head entries) = e in cc)

-- a whole inode of the view of an image stands at its one used place
pub placed : (g : Request) (image : Image) (live : Live) (n : ℕ) (head : Head) → HasHead (view_of g image live) n head → HasPlace g image (used_in g image live) n head
unfolding view_of
placed g image live n head has_head = placed_if g image (used_in g image live) n head has_head.entries (is_number g n) has_head.inode

pub opens_ready : (image : Image) (t : Tree) (node : Node) → (opens : OpensTo image t) → t 2 ≡ Some node → IsReady image (head_of_node opens.master.geometry t 2 node)
opens_ready image t node opens is_root =
    let found = placed opens.master.geometry image opens.live 2 (head_of_node opens.master.geometry t 2 node) (opens.stands.heads 2 node is_root) in
    record {
      mounts = opens.mounts;
      master = opens.master;
      is_master = opens.is_master;
      live = opens.live;
      is_live = opens.is_live;
      place = found.place;
      one_place = found.one_place;
      spells = found.spells;
    }

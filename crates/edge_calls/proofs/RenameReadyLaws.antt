-- What is known of a name that is moved is known as well once its room was judged.
use Rattle.std.proofs.Common.{◌≡◌, ◌∙◌, ℕ, ◌≤◌, true, is_some, length, sym, ap, subst, Option, Some, None}
use Rattle.std.specs.Prelude.{IfSome}
use Rattle.edge_base.specs.declared.node.Head.{Head}
use Rattle.edge_base.specs.declared.node.NodeType.TheVariants.{Directory}
use Rattle.edge_base.specs.outside.Below.{Origin}
use Rattle.edge_store.specs.Calls.{KeepsWorking}
use Rattle.edge_store.specs.State.{StoreState, Told, IsNumber, HasInode}
use Rattle.edge_store.specs.View.{View, head_of_inode, is_number}
use Rattle.edge_dir.specs.Directory.{IsDirectoryNode}
use Rattle.edge_space.specs.Changes.{IsWithin}
use Rattle.edge_space.specs.declared.change.Change.TheVariants.{Slots}
use Rattle.edge_names.specs.declared.moves.NamedNode.{NamedNode}
use Rattle.edge_volume.specs.Nodes.{IsNodeOf}
use Rattle.edge_volume.specs.Parts.{EndsBy}
use Rattle.edge_volume.proofs.NodeLaws.{node_still}
use Rattle.edge_calls.specs.declared.rename.Renaming.{Renaming}
use Rattle.edge_calls.specs.Renames.{IsReady}

module _ (a b : StoreState) (ends : EndsBy None a b) (working : KeepsWorking a b) where
  old_told : Told b → Told a
  old_told told = ap (λ (o : Origin). o.tells) (sym ends.origin) ∙ told

  number_still : (n : ℕ) → IsNumber a n → IsNumber b n
  number_still n number = subst (λ (o : Origin). is_number o.request n ≡ true) (sym ends.origin) number

  inode_still : (n : ℕ) → HasInode a n → HasInode b n
  inode_still n there told = subst (λ (v : View). is_some (v.inodes n) ≡ true) (sym working.working) (there (old_told told))

  directory_still : (d : ℕ) → IsDirectoryNode a d → IsDirectoryNode b d
  directory_still d directory told =
      subst (λ (v : View). (head : Head) × (head_of_inode (v.inodes d) ≡ Some head) × (head.kind ≡ Directory)) (sym working.working) (directory (old_told told))

  over_still : (o : Option NamedNode) → IfSome o (λ node. IsNodeOf a node.number node.head) → IfSome o (λ node. IsNodeOf b node.number node.head)
  over_still None over = tt
  over_still (Some node) over = node_still a b node.number node.head ends working over

  pub ready_still : (r : Renaming) → IsReady a r → IsReady b r
  ready_still r ready =
      let to = ready.there.0 in
      let from = ready.there.1 in
      record {
        there = (
          (number_still r.change.to.dir to.0, inode_still r.change.to.dir to.1),
          (number_still r.change.from.dir from.0, inode_still r.change.from.dir from.1, directory_still r.change.from.dir from.2),
        );
        within = subst (λ (o : Origin). IsWithin o.request (Slots (Some r.change.to) (Some r.change.from))) (sym ends.origin) ready.within;
        node = node_still a b r.change.node.number r.change.node.head ends working ready.node;
        replaced = over_still r.change.replaced ready.replaced;
        short = subst (λ (o : Origin). length r.name.now ≤ o.request.name_max) (sym ends.origin) ready.short;
      }

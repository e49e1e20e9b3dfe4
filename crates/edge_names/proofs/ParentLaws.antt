-- A node that has another parent, where it is a directory.
use Rattle.std.proofs.Common.{◌≡◌, ◌≢◌, ◌∙◌, ℕ, List, [], refl, sym, ap, subst, Bool, Option, Some, None}
use Rattle.edge_base.specs.declared.geometry.Request.{Request}
use Rattle.edge_base.specs.declared.node.Head.{Head}
use Rattle.edge_base.specs.declared.node.NodeType.TheVariants.{File, Directory}
use Rattle.edge_base.specs.tree.Nodes.{Node, file, directory}
use Rattle.edge_base.specs.tree.Slots.{Slots}
use Rattle.edge_store.specs.Effects.{HeadSet}
use Rattle.edge_store.specs.View.{View, IsView}
use Rattle.edge_model.specs.Names.{with_parent}
use Rattle.edge_model.specs.Tree.{Tree, with_node}
use Rattle.edge_steps.proofs.NodeLaws.{node_set}
use Rattle.edge_steps.proofs.SetLaws.{set_apart, set_as_it_was}
use Rattle.edge_stands.specs.Stands.{StandsWith, HasSameBlocks, head_with}
use Rattle.edge_stands.proofs.DirtyLaws.{tree_stays}
use Rattle.edge_stands.proofs.HeadLaws.{head_set, head_tree, same_links}
use Rattle.edge_names.specs.Stepped.{IsStepped}

-- ---- trees

pub none_parent : (t : Tree) (n parent : ℕ) → t n ≡ None → with_parent t n parent ≡ t
none_parent t n parent is = rw is refl

pub file_parent : (t : Tree) (n parent : ℕ) (content : List ℕ) (present : List Bool) → t n ≡ Some (file content present) → with_parent t n parent ≡ t
file_parent t n parent content present is = rw is refl

pub directory_parent : (t : Tree) (n parent : ℕ) (slots : Slots) (old : ℕ) → t n ≡ Some (directory slots old) → with_parent t n parent ≡ with_node t n (Some (directory slots parent))
directory_parent t n parent slots old is = rw is refl

-- other numbers stay
pub parent_others : (t : Tree) (n parent x : ℕ) → x ≢ n → with_parent t n parent x ≡ t x
parent_others t n parent x other = by (t n) refl
  where
    by : (o : Option Node) → t n ≡ o → with_parent t n parent x ≡ t x
    by None is = ap (λ (u : Tree). u x) (none_parent t n parent is)
    by (Some (file content present)) is = ap (λ (u : Tree). u x) (file_parent t n parent content present is)
    by (Some (directory slots old)) is = ap (λ (u : Tree). u x) (directory_parent t n parent slots old is) ∙ (node_set t n (Some (directory slots parent))).others x other

-- a parent set and another node dropped, in one order or the other
pub parent_apart : (t : Tree) (n parent m : ℕ) → n ≢ m → with_node (with_parent t n parent) m None ≡ with_parent (with_node t m None) n parent
parent_apart t n parent m other = by (t n) refl
  where
    same : with_node t m None n ≡ t n
    same = (node_set t m None).others n other

    by : (o : Option Node) → t n ≡ o → with_node (with_parent t n parent) m None ≡ with_parent (with_node t m None) n parent
    by None is = ap (λ (u : Tree). with_node u m None) (none_parent t n parent is) ∙ sym (none_parent (with_node t m None) n parent (same ∙ is))
    by (Some (file content present)) is =
        ap (λ (u : Tree). with_node u m None) (file_parent t n parent content present is) ∙ sym (file_parent (with_node t m None) n parent content present (same ∙ is))
    by (Some (directory slots old)) is =
        ap (λ (u : Tree). with_node u m None) (directory_parent t n parent slots old is) ∙ set_apart t n m (Some (directory slots parent)) None other
        ∙ sym (directory_parent (with_node t m None) n parent slots old (same ∙ is))

-- ---- views

module _ (g : Request) (c v w : View) (t : Tree) (links : ℕ → ℕ) (n parent : ℕ) (s : StandsWith g v t links) where
  -- a file, and a directory that has this parent, stay as they are
  pub parent_kept : (node : Node) → t n ≡ Some node → ((slots : Slots) (old : ℕ) → node ≡ directory slots old → old ≡ parent) → IsStepped g c v v t (with_parent t n parent) links [] []
  parent_kept node there has = subst (λ (x : Tree). IsStepped g c v v t x links [] []) (sym (same node there has)) (record { stands = s; dirtied = tree_stays g c v t })
    where
      same : (x : Node) → t n ≡ Some x → ((slots : Slots) (old : ℕ) → x ≡ directory slots old → old ≡ parent) → with_parent t n parent ≡ t
      same (file content present) is _ = file_parent t n parent content present is
      same (directory slots old) is that =
          directory_parent t n parent slots old is
          ∙ ap (λ (p : ℕ). with_node t n (Some (directory slots p))) (sym (that slots old refl))
          ∙ ap (λ (o : Option Node). with_node t n o) (sym is) ∙ set_as_it_was t n

  -- another directory gets it with its head
  pub parent_step : (node : Node) (head : Head) → IsView g v → t n ≡ Some node → head ≡ head_with g (links n) node → head.kind ≡ Directory → HeadSet v w n (record head { parent = parent })
      → IsStepped g c v w t (with_parent t n parent) links [] []
  parent_step (file content present) head view there is kind set = absurd (let wrong : File ≡ Directory = sym (ap (λ (h : Head). h.kind) is) ∙ kind in cc)
  parent_step (directory slots old) head view there is kind set = subst (λ (x : Tree). IsStepped g c v w t x links [] []) (sym (directory_parent t n parent slots old there)) (record {
    stands = subst (λ (l : ℕ → ℕ). StandsWith g w (with_node t n (Some (directory slots parent))) l) (same_links links n)
        (head_set g v w t links n (directory slots old) (directory slots parent) (links n) view s there alike now);
    dirtied = head_tree g v w t links n (directory slots old) (directory slots parent) (links n) view s there alike now c;
  })
    where
      alike : HasSameBlocks g (directory slots old) (directory slots parent)
      alike = record { indices = refl; blocks = λ i. refl }

      now : HeadSet v w n (head_with g (links n) (directory slots parent))
      now = subst (λ (h : Head). HeadSet v w n (record h { parent = parent })) is set

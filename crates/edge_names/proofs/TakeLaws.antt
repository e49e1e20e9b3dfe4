-- A node that loses a link, or is dropped with its only one.
use Rattle.std.proofs.Common.{◌≡◌, ◌∙◌, ℕ, ◌-◌, ◌==◌, Bool, true, false, cond, is_some, [], map, refl, sym, ap, subst, Option, Some, None}
use Rattle.std.proofs.lemmas.Bool.{false≢true, ne_eqb}
use Rattle.edge_base.specs.declared.geometry.Request.{Request}
use Rattle.edge_base.specs.declared.node.Head.{Head}
use Rattle.edge_base.specs.layout.Places.{IsGeometry}
use Rattle.edge_base.specs.tree.Nodes.{Node, indices_of}
use Rattle.edge_base.specs.tree.Positions.{data_at}
use Rattle.edge_store.specs.Effects.{HeadSet, InodeDropped}
use Rattle.edge_store.specs.View.{View, IsView}
use Rattle.edge_shape.specs.Cut.{IsCut}
use Rattle.edge_model.specs.Tree.{Tree, with_node}
use Rattle.edge_steps.proofs.NodeLaws.{node_set}
use Rattle.edge_steps.proofs.SetLaws.{set_as_it_was}
use Rattle.edge_stands.specs.Dirtied.{TreeDirtied}
use Rattle.edge_stands.specs.Stands.{StandsWith, HasSameBlocks, head_with, with_links}
use Rattle.edge_stands.proofs.HeadLaws.{head_set, head_tree}
use Rattle.edge_names.specs.Stepped.{IsStepped}
use Rattle.edge_names.proofs.DropLaws.{dropped_stands, dropped_dirties}
use Rattle.edge_names.proofs.StepLaws.{links_alike}

module _ (g : Request) (c v w : View) (t : Tree) (links : ℕ → ℕ) (n : ℕ) (node : Node) (view : IsView g v) (s : StandsWith g v t links) (there : t n ≡ Some node) where
  -- what is left of the tree, and which of its blocks go
  abbrev Taken : Bool → Type 0
  Taken last = IsStepped g c v w t (cond last (with_node t n None) t) (with_links links n (links n - 1)) [] (cond last (map (data_at n) (indices_of g node)) [])

  gone_links : (x : ℕ) → is_some (with_node t n None x) ≡ true → links x ≡ with_links links n (links n - 1) x
  gone_links x some = sym (ap (λ b. cond b (links n - 1) (links x))
      (ne_eqb x n (λ same. false≢true (sym (ap (λ (o : Option Node). is_some o) (ap (with_node t n None) same ∙ (node_set t n None).here)) ∙ some))))

  pub dropped_step : (x : View) → IsGeometry g → IsCut g c v x n 0 (indices_of g node) → InodeDropped x w n → (links n == 1) ≡ true → Taken (links n == 1)
  dropped_step x geometry cut dropped last = subst Taken (sym last) (record {
    stands = links_alike g w (with_node t n None) links (with_links links n (links n - 1)) (dropped_stands g c v x w t links n node geometry view s there cut dropped) gone_links;
    dirtied = dropped_dirties g c v x w t links n node geometry view s there cut dropped;
  })

  pub less_step : (head : Head) → head ≡ head_with g (links n) node → HeadSet v w n (record head { links = head.links - 1 }) → (links n == 1) ≡ false → Taken (links n == 1)
  less_step head is set more = subst Taken (sym more) (record {
    stands = subst (λ (x : Tree). StandsWith g w x (with_links links n (links n - 1))) as_it_was (head_set g v w t links n node node (links n - 1) view s there alike now);
    dirtied = subst (λ (x : Tree). TreeDirtied g c v w t x [] []) as_it_was (head_tree g v w t links n node node (links n - 1) view s there alike now c);
  })
    where
      alike : HasSameBlocks g node node
      alike = record { indices = refl; blocks = λ i. refl }

      now : HeadSet v w n (head_with g (links n - 1) node)
      now = subst (λ (h : Head). HeadSet v w n (record h { links = h.links - 1 })) is set

      as_it_was : with_node t n (Some node) ≡ t
      as_it_was = ap (λ (o : Option Node). with_node t n o) (sym there) ∙ set_as_it_was t n

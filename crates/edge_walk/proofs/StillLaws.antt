-- What is known of a number stays known over a part that only reads.
use Rattle.std.proofs.Common.{◌≡◌, ◌∙◌, ℕ, true, is_some, refl, sym, ap, subst, Some, None}
use Rattle.std.specs.Prelude.{Result, Ok, Err}
use Rattle.edge_base.specs.declared.node.Head.{Head}
use Rattle.edge_base.specs.declared.node.NodeType.TheVariants.{Directory}
use Rattle.edge_base.specs.declared.refusal.Refusal.{Refusal}
use Rattle.edge_base.specs.outside.Below.{Origin}
use Rattle.edge_store.specs.Damages.{IsNamed}
use Rattle.edge_store.specs.State.{Told}
use Rattle.edge_store.specs.View.{View, head_of_inode, is_number}
use Rattle.edge_store.specs.declared.store.Store.{Ghosts as StoreGhosts}
use Rattle.edge_model.specs.Rules.{IsTree}
use Rattle.edge_model.specs.State.{State}
use Rattle.edge_model.specs.Tree.{Tree}
use Rattle.edge_stands.specs.Session.{StandForState}
use Rattle.edge_volume.specs.declared.stop.Stop.{Stop}
use Rattle.edge_volume.specs.declared.stop.Stop.TheVariants.{Refused, Fault}
use Rattle.edge_volume.specs.Nodes.{OnTree}
use Rattle.edge_volume.specs.Parts.{Looks}
use Rattle.edge_volume.specs.Stopped.{IfAnswered}
use Rattle.edge_volume.specs.Volume.{StoreStands}
use Rattle.edge_volume.proofs.LookLaws.{looks_stands}
use Rattle.edge_walk.specs.Reached.{IsReached, IsHolder}

module _ {A : Type 0} (S : StoreGhosts A) (a b : A) (looks : Looks S None a b) where
  told_before : Told (S.state b) → Told (S.state a)
  told_before told = ap (λ (o : Origin). o.tells) (sym looks.ends.origin) ∙ told

  -- a state that the store stands for afterwards is one that it stood for before
  pub stood_before : (z : State) → StoreStands (S.state b) z → StoreStands (S.state a) z
  stood_before z stands = record {
    told = told_before stands.told;
    whole = sym looks.point.under_way ∙ stands.whole;
    views =
        subst (λ (o : Origin). StandForState o.request (S.state a).committed (S.state a).working z) looks.ends.origin
        (subst (λ (v : View). StandForState (S.state b).origin.request v (S.state a).working z) looks.point.committed
        (subst (λ (v : View). StandForState (S.state b).origin.request (S.state b).committed v z) (looks.reads refl).working stands.views));
  }

  -- what holds of the tree
  pub on_tree_before : (Holds : Tree → Type 0) → OnTree (S.state b) Holds → OnTree (S.state a) Holds
  on_tree_before Holds on z stands tree =
      on z (looks_stands S a b z looks stands) (subst (λ (o : Origin). IsTree o.request z.tree) (sym looks.ends.origin) tree)

  pub on_tree_after : (Holds : Tree → Type 0) → OnTree (S.state a) Holds → OnTree (S.state b) Holds
  on_tree_after Holds on z stands tree = on z (stood_before z stands) (subst (λ (o : Origin). IsTree o.request z.tree) looks.ends.origin tree)

  pub answered_before : {T : Type 0} (r : Result T Stop) (Holds : Result T Refusal → Tree → Type 0) → IfAnswered r (λ x. OnTree (S.state b) (Holds x))
      → IfAnswered r (λ x. OnTree (S.state a) (Holds x))
  answered_before (Ok x) Holds on = on_tree_before (Holds (Ok x)) on
  answered_before (Err (Refused e)) Holds on = on_tree_before (Holds (Err e)) on
  answered_before (Err (Fault fault)) Holds on = tt

  pub reached_after : (n : ℕ) → IsReached (S.state a) n → IsReached (S.state b) n
  reached_after n reached = record {
    number = subst (λ (o : Origin). is_number o.request n ≡ true) (sym looks.ends.origin) reached.number;
    named = λ told.
        subst (λ (v : View). IsNamed (S.state b).origin.request v n) (sym (looks.reads refl).working)
        (subst (λ (o : Origin). IsNamed o.request (S.state a).working n) (sym looks.ends.origin) (reached.named (told_before told)));
    there = on_tree_after (λ t. is_some (t n) ≡ true) reached.there;
  }

  pub holder_after : (d : ℕ) → IsHolder (S.state a) d → IsHolder (S.state b) d
  holder_after d holder = record {
    number = subst (λ (o : Origin). is_number o.request d ≡ true) (sym looks.ends.origin) holder.number;
    there = λ told. subst (λ (v : View). is_some (v.inodes d) ≡ true) (sym (looks.reads refl).working) (holder.there (told_before told));
    directory = λ told.
        subst (λ (v : View). (head : Head) × (head_of_inode (v.inodes d) ≡ Some head) × (head.kind ≡ Directory)) (sym (looks.reads refl).working)
        (holder.directory (told_before told));
  }

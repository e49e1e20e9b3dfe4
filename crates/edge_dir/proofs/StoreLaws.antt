-- A call that follows another over the same views.
use Rattle.std.proofs.Common.{◌≡◌, ◌∙◌, ℕ, ◌<◌, List, Option, sym, ap, subst, arith}
use Rattle.std.specs.Prelude.{Result}
use Rattle.edge_base.specs.declared.form.Form.TheVariants.{Plain}
use Rattle.edge_base.specs.declared.geometry.Request.{Request}
use Rattle.edge_base.specs.outside.Below.{Origin}
use Rattle.edge_base.specs.tree.Nodes.{directory}
use Rattle.edge_base.specs.tree.Slots.{Slots, pieces}
use Rattle.edge_store.specs.declared.fault.StoreFault.{StoreFault}
use Rattle.edge_store.specs.Damages.{slot_in}
use Rattle.edge_store.specs.Placed.{data_block, HasNode}
use Rattle.edge_store.specs.State.{StoreState, Told}
use Rattle.edge_store.specs.View.{View, bytes, content_at, head_of_inode}
use Rattle.edge_slots.specs.Block.{Seeks, IsLastFilled}
use Rattle.edge_slots.specs.declared.block.Search.{Search}
use Rattle.edge_file.specs.Bytes.{size_in}
use Rattle.edge_dir.specs.Directory.{AreBlocksOf, IsBelowEnd, IsEntryOfBlock, IsLastIn, NeverOnDirectory, SaysEntry, SeeksIn}
use Rattle.edge_dir.specs.Looked.{blocks_below_end}

-- the data blocks are those up to the end
pub count_seen : (s : StoreState) (d count : ℕ) → AreBlocksOf s d count → Told s → count ≡ blocks_below_end s.origin.request s.working d
count_seen s d count blocks told = let b = blocks told in b.3 ∙ ap (λ o. pieces s.origin.request.block_size (size_in o)) (sym b.1)

-- this holds of what data block i of node d holds
abbrev OfBlock : Request → View → ℕ → ℕ → (List ℕ → Type 0) → Type 0
OfBlock r v d i Holds = (list : List ℕ) × (content_at v Plain (data_block r v d i) ≡ bytes list) × Holds list

module _ (old mid : StoreState) (d : ℕ) (origin : mid.origin ≡ old.origin) (working : mid.working ≡ old.working) where
  pub told_back : Told mid → Told old
  told_back told = ap (λ (o : Origin). o.tells) (sym origin) ∙ told

  pub told_on : Told old → Told mid
  told_on told = ap (λ (o : Origin). o.tells) origin ∙ told

  pub below_end : (count i : ℕ) → AreBlocksOf old d count → i < count → IsBelowEnd mid d i
  below_end count i blocks low told =
      let b = blocks (told_back told) in
      let same : pieces mid.origin.request.block_size b.0.size ≡ pieces old.origin.request.block_size b.0.size = ap (λ (o : Origin). pieces o.request.block_size b.0.size) origin in
      (b.0, ap (λ (v : View). head_of_inode (v.inodes d)) working ∙ b.1, b.2, omega (arith, low, b.3, same))

  pub node_on : (slots : Slots) (parent : ℕ) → HasNode old.origin.request old.working d (directory slots parent) → HasNode mid.origin.request mid.working d (directory slots parent)
  node_on slots parent node =
      subst (λ (v : View). HasNode mid.origin.request v d (directory slots parent)) (sym working)
      (subst (λ (o : Origin). HasNode o.request old.working d (directory slots parent)) (sym origin) node)

  pub never_on : {T : Type 0} (result : Result T StoreFault) → NeverOnDirectory mid d result → NeverOnDirectory old d result
  never_on result never told slots parent node = never (told_on told) slots parent (node_on slots parent node)

  pub last_too : (i below : ℕ) (last : Option ℕ) → IsLastIn mid d i below last → IsLastIn old d i below last
  last_too i below last is told =
      subst (λ (v : View). OfBlock old.origin.request v d i (λ list. IsLastFilled old.origin.request list below last)) working
      (subst (λ (o : Origin). OfBlock o.request mid.working d i (λ list. IsLastFilled o.request list below last)) origin (is (told_on told)))

  pub seeks_too : (i : ℕ) (name : List ℕ) (found : Search) → SeeksIn mid d i name found → SeeksIn old d i name found
  seeks_too i name found is told =
      subst (λ (v : View). OfBlock old.origin.request v d i (λ list. Seeks old.origin.request list name found)) working
      (subst (λ (o : Origin). OfBlock o.request mid.working d i (λ list. Seeks o.request list name found)) origin (is (told_on told)))

  pub entry_too : (i k : ℕ) (name : List ℕ) (entry : Option (ℕ × ℕ)) → IsEntryOfBlock mid d i k name entry → IsEntryOfBlock old d i k name entry
  entry_too i k name entry is told =
      subst (λ (v : View). OfBlock old.origin.request v d i (λ list. SaysEntry old.origin.request (slot_in old.origin.request list k) name entry)) working
      (subst (λ (o : Origin). OfBlock o.request mid.working d i (λ list. SaysEntry o.request (slot_in o.request list k) name entry)) origin (is (told_on told)))

-- What two chains of a node have in common, and what is counted of one besides the other.
use Rattle.std.proofs.Common.{◌≡◌, ◌≢◌, ◌∙◌, ℕ, ◌+◌, ◌-◌, ◌≤◌, not, cond, sym, ap, arith}
use Rattle.std.specs.Prelude.{Result, Ok, Err, IfOk}
use Rattle.edge_base.specs.declared.geometry.Request.{Request}
use Rattle.edge_base.specs.outside.Below.{Origin}
use Rattle.edge_base.specs.tree.Positions.{data_at, double_at}
use Rattle.edge_store.specs.Fresh.{is_dirty}
use Rattle.edge_store.specs.Placed.{double_block, entry_at}
use Rattle.edge_store.specs.State.{StoreState, Told}
use Rattle.edge_store.specs.View.{View}
use Rattle.edge_moves.specs.Renewal.{cost}
use Rattle.edge_count.specs.Beside.{row_of, table_of}
use Rattle.edge_count.proofs.BesideLaws.{beside_apart, beside_in_row, beside_in_table, beside_itself, cost_is}
use Rattle.edge_tree.specs.Answers.{IsDataBlock}
use Rattle.edge_tree.specs.Chains.{IsCostOf, IsFreshOnChain}
use Rattle.edge_cut.specs.Through.{IsEntryCost}
use Rattle.edge_space.specs.Beside.{IsFreshBeside, IsNothing, IsTable}

-- ---- what is counted

double_cost : (g : Request) (c v : View) (n d : ℕ) → cost c v (entry_at v n (g.direct + g.indirect + d)) ≡ cond (not (is_dirty g c v (double_at n d))) 1 0
unfolding double_block
double_cost g c v n d = sym (cost_is (is_dirty g c v (double_at n d)))

module _ (s : StoreState) (n i k : ℕ) where
  pub beside_whole : i ≡ k → IsFreshBeside s n i k 0
  beside_whole same = λ told. sym (beside_itself s.origin.request s.committed s.working n i k same)

  pub beside_nothing : (fresh : ℕ) → IsNothing s.origin.request i k → IsFreshOnChain s n i fresh → IsFreshBeside s n i k fresh
  beside_nothing fresh none on = λ told. on told ∙ sym (beside_apart s.origin.request s.committed s.working n i k none.apart none.rows none.tables)

  -- the cost is told of a store that has the same views
  pub beside_nodes : {E : Type 0} (mid : StoreState) (b : ℕ) (result : Result ℕ E) → mid.origin ≡ s.origin → mid.committed ≡ s.committed → mid.working ≡ s.working
      → (i ≢ k) × (s.origin.request.direct ≤ k) × (row_of s.origin.request i ≡ row_of s.origin.request k) → IsDataBlock s n i b → IfOk result (IsCostOf mid b) → IfOk result (IsFreshBeside s n i k)
  beside_nodes mid b (Ok fresh) origin committed working in_row block taken = λ told.
      let r = s.origin.request in
      let told_mid : Told mid = ap (λ (o : Origin). o.tells) origin ∙ told in
      taken told_mid ∙ (λ t. cost (committed t) (working t) (block told t)) ∙ sym (cost_is (is_dirty r s.committed s.working (data_at n i)))
      ∙ sym (beside_in_row r s.committed s.working n i k in_row.0 in_row.1 in_row.2)
  beside_nodes mid b (Err fault) origin committed working in_row block taken = taken

  pub beside_table : (mid : StoreState) (entry fresh taken : ℕ) → mid.origin ≡ s.origin → mid.committed ≡ s.committed → mid.working ≡ s.working
      → IsTable s.origin.request i k entry → IsFreshOnChain s n i fresh → IsEntryCost mid n entry taken → IsFreshBeside s n i k (fresh - taken)
  beside_table mid entry fresh taken origin committed working table on cost_of_it = λ told.
      let r = s.origin.request in
      let told_mid : Told mid = ap (λ (o : Origin). o.tells) origin ∙ told in
      let all = on told in
      let node : taken ≡ cond (not (is_dirty r s.committed s.working (double_at n (table_of r i)))) 1 0 =
      cost_of_it told_mid ∙ (λ t. cost (committed t) (working t) (entry_at (working t) n (table.is_entry t))) ∙ double_cost r s.committed s.working n (table_of r i) in
      let both = beside_in_table r s.committed s.working n i k table.past_i table.past_k table.apart table.row_i table.row_k table.same in
      omega (arith, all, node, both)

use Rattle.std.proofs.Common.{◌≡◌, ◌∙◌, ℕ, sym, ap, subst}
use Rattle.edge_base.specs.declared.geometry.Request.{Request}
use Rattle.edge_base.specs.outside.Below.{Origin}
use Rattle.edge_store.proofs.CallLaws.{called_ok, same_below_twice}
use Rattle.edge_space.specs.Beside.{IsCommon, IsFreshBeside}
use Rattle.edge_space.specs.declared.beside.Common.TheVariants.{Nodes, Table, Nothing}
use Rattle.edge_space.proofs.BesideLaws.{beside_nodes, beside_nothing, beside_table, beside_whole}
use Rattle.edge_space.proofs.beside.fresh_beside.Goals as goal

pub returns-in-Whole-clause-fresh : goal.returns-in-Whole-clause-fresh
returns-in-Whole-clause-fresh g c = beside_whole (g.S.Store.state c.args.s.now) c.args.n c.args.i c.args.k c.in-Whole.ensures

pub returns-in-Nodes-clause-fresh : goal.returns-in-Nodes-clause-fresh
returns-in-Nodes-clause-fresh g c =
    let old = g.S.Store.state c.args.s.now in
    let first = c.in_ok-chain.ensures in
    let same : c.geometry.result ≡ old.origin.request = c.geometry.ensures ∙ ap (λ (o : Origin). o.request) first.called.origin in
    beside_nodes old c.args.n c.args.i c.args.k (g.S.Store.state c.chain_of.new.s) c.in_ok-chain.chain.block c.cost_of.result first.called.origin first.point.committed first.reads.working
    (subst (λ (q : Request). IsCommon q c.args.i c.args.k Nodes) same c.in-Nodes.ensures) first.block c.cost_of.ensures.cost

pub returns-in-Nothing-clause-fresh : goal.returns-in-Nothing-clause-fresh
returns-in-Nothing-clause-fresh g c =
    let old = g.S.Store.state c.args.s.now in
    let first = c.in_ok-chain.ensures in
    let same : c.geometry.result ≡ old.origin.request = c.geometry.ensures ∙ ap (λ (o : Origin). o.request) first.called.origin in
    beside_nothing old c.args.n c.args.i c.args.k c.in_ok-chain.chain.fresh (subst (λ (q : Request). IsCommon q c.args.i c.args.k Nothing) same c.in-Nothing.ensures) first.fresh

pub returns-in_ok-table-in-Table-clause-fresh : goal.returns-in_ok-table-in-Table-clause-fresh
returns-in_ok-table-in-Table-clause-fresh g c =
    let old = g.S.Store.state c.args.s.now in
    let first = c.in_ok-chain.ensures in
    let same : c.geometry.result ≡ old.origin.request = c.geometry.ensures ∙ ap (λ (o : Origin). o.request) first.called.origin in
    subst (λ (m : ℕ). IsFreshBeside old c.args.n c.args.i c.args.k m) (sym c.saturating_sub.ensures)
    (beside_table old c.args.n c.args.i c.args.k (g.S.Store.state c.chain_of.new.s) c.in-Table.entry c.in_ok-chain.chain.fresh c.in_ok-table-in-Table.table
    first.called.origin first.point.committed first.reads.working
    (subst (λ (q : Request). IsCommon q c.args.i c.args.k (Table c.in-Table.entry)) same c.in-Table.ensures) first.fresh c.in_ok-table-in-Table.ensures.cost)

pub returns-in_ok-table-in-Table-clause-called : goal.returns-in_ok-table-in-Table-clause-called
returns-in_ok-table-in-Table-clause-called g c =
    let first = c.in_ok-chain.ensures.called in
    let second = c.in_ok-table-in-Table.ensures.called in
    called_ok (g.S.Store.state c.args.s.now) (g.S.Store.state c.entry_cost.new.s) c.saturating_sub.result (second.origin ∙ first.origin) second.live
    (second.cause.passed.0 ∙ first.cause.passed.0) (second.cause.passed.1 ∙ first.cause.passed.1) (λ promised. second.guarded (first.guarded promised))

pub returns-in_ok-table-in-Table-clause-below : goal.returns-in_ok-table-in-Table-clause-below
returns-in_ok-table-in-Table-clause-below g c clean =
    let first = c.in_ok-chain.ensures in
    same_below_twice (first.below clean) (c.in_ok-table-in-Table.ensures.below (first.clean clean))

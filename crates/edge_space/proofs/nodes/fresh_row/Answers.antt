use Rattle.std.proofs.Common.{◌≡◌, ◌∙◌, ℕ, ◌+◌, not, sym, ap}
use Rattle.std.specs.Prelude.{count_by}
use Rattle.std.specs.List.{range_with_len}
use Rattle.edge_base.specs.declared.form.Form.TheVariants.{Indirect}
use Rattle.edge_store.specs.Placed.{pointer_at, indirect_block}
use Rattle.edge_store.specs.State.{Told}
use Rattle.edge_store.specs.View.{is_new}
use Rattle.edge_moves.specs.Renewal.{cost}
use Rattle.edge_space.proofs.FreshLaws.{node_fresh, places_fresh}
use Rattle.edge_space.proofs.nodes.fresh_row.Goals as goal

pub fresh_places-requires-clause-linked : goal.fresh_places-requires-clause-linked
fresh_places-requires-clause-linked g c told some =
    let first = c.in_ok-block.ensures in
    let second = c.in_ok-node.ensures in
    let told_old : Told (g.S.Store.state c.args.s.now) = ap (λ o. o.tells) (sym first.called.origin ∙ sym second.called.origin) ∙ told in
    rw (second.called.origin, second.reads.working, first.called.origin, first.reads.working) (first.linked told_old some)

pub returns-clause-fresh : goal.returns-clause-fresh
returns-clause-fresh g c told =
    let old = g.S.Store.state c.args.s.now in
    let r = old.origin.request in
    let n = c.args.n in
    let row = c.args.row in
    let places = c.args.places in
    let first = c.in_ok-block.ensures in
    let second = c.in_ok-node.ensures in
    let third = c.in_ok-blocks.ensures in
    let told_one : Told (g.S.Store.state c.indirect_node.new.s) = ap (λ o. o.tells) first.called.origin ∙ told in
    let told_two : Told (g.S.Store.state c.cost_of.new.s) = ap (λ o. o.tells) second.called.origin ∙ told_one in
    let block : c.in_ok-block.block ≡ indirect_block r old.working n row = first.node told in
    let node : c.in_ok-node.node ≡ cost old.committed old.working (indirect_block r old.working n row) =
    second.cost told_one ∙ (λ i. cost (first.point.committed i) (first.reads.working i) (block i)) in
    let committed = second.point.committed ∙ first.point.committed in
    let working = second.reads.working ∙ first.reads.working in
    let blocks : c.in_ok-blocks.blocks ≡ count_by (λ k. not (is_new old.committed old.working (pointer_at old.working Indirect (indirect_block r old.working n row) k))) (range_with_len places.first places.count) =
    third.fresh told_two ∙ (λ i. count_by (λ (k : ℕ). not (is_new (committed i) (working i) (pointer_at (working i) Indirect (block i) k))) (range_with_len places.first places.count)) in
    let one = node ∙ node_fresh r old.committed old.working n row in
    let two = blocks ∙ sym (places_fresh r old.committed old.working n row places.first places.count c.requires.row c.requires.places) in
    λ i. one i + two i

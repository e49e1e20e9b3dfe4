use Rattle.std.proofs.Common.{◌≡◌, ◌∙◌, ◌+◌, Option, Some, sym, ap, subst}
use Rattle.edge_base.specs.outside.Below.{Origin}
use Rattle.edge_store.specs.State.{Told}
use Rattle.edge_space.specs.Slots.{clear_need, need_of_slots, put_need}
use Rattle.edge_space.specs.declared.change.SlotAt.{SlotAt}
use Rattle.edge_space.proofs.slots.fresh_of_both.Goals as goal

pub returns-in_ok-besides-in-Some-clause-need : goal.returns-in_ok-besides-in-Some-clause-need
returns-in_ok-besides-in-Some-clause-need g c told left is =
    let old = g.S.Store.state c.args.s.now in
    let r = old.origin.request in
    let first = c.in_ok-left.ensures in
    let second = c.in_ok-cleared.ensures in
    let told_one : Told (g.S.Store.state c.blocks_after.new.s) = ap (λ (o : Origin). o.tells) first.called.origin ∙ told in
    let told_two : Told (g.S.Store.state c.fresh_of_clear.new.s) = ap (λ (o : Origin). o.tells) second.called.origin ∙ told_one in
    let origin = second.called.origin ∙ first.called.origin in
    let committed = second.point.committed ∙ first.point.committed in
    let working = second.reads.working ∙ first.reads.working in
    let so_many = first.left told left is in
    let cleared : c.in_ok-cleared.cleared ≡ clear_need r old.committed old.working c.args.clear left =
    second.need told_one ∙ (λ i. clear_need (first.called.origin i).request (first.point.committed i) (first.reads.working i) c.args.clear (so_many i)) in
    let besides : c.in_ok-besides-in-Some.besides ≡ put_need r old.committed old.working c.in-Some.at c.args.clear left =
    c.in_ok-besides-in-Some.ensures.need told_two ∙ (λ i. put_need (origin i).request (committed i) (working i) c.in-Some.at c.args.clear (so_many i)) in
    subst (λ (put : Option SlotAt). c.in_ok-cleared.cleared + c.in_ok-besides-in-Some.besides ≡ need_of_slots r old.committed old.working put (Some c.args.clear) left)
    (sym c.in-Some.is) (λ i. cleared i + besides i)

pub returns-in-None-clause-need : goal.returns-in-None-clause-need
returns-in-None-clause-need g c told left is =
    let old = g.S.Store.state c.args.s.now in
    let first = c.in_ok-left.ensures in
    let told_one : Told (g.S.Store.state c.blocks_after.new.s) = ap (λ (o : Origin). o.tells) first.called.origin ∙ told in
    let so_many = first.left told left is in
    subst (λ (put : Option SlotAt). c.in_ok-cleared.cleared ≡ need_of_slots old.origin.request old.committed old.working put (Some c.args.clear) left) (sym c.in-None.is)
    (c.in_ok-cleared.ensures.need told_one ∙ (λ i. clear_need (first.called.origin i).request (first.point.committed i) (first.reads.working i) c.args.clear (so_many i)))

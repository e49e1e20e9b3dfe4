use Rattle.std.proofs.Common.{◌∙◌, ap, sym}
use Rattle.edge_store.specs.State.{Told}
use Rattle.edge_store.proofs.CallLaws.{same_below_twice}
use Rattle.edge_tree.proofs.walk.block_below.Goals as goal

pub pointer_link-requires-clause-linked : goal.pointer_link-requires-clause-linked
pointer_link-requires-clause-linked g c told some =
    let old = g.S.Store.state c.args.s.now in
    let first = c.in_ok-top.ensures in
    let told_old : Told old = ap (λ o. o.tells) (sym first.called.origin) ∙ told in
    rw (first.called.origin, first.reads.working) (rw c.requires.form at (first.linked told_old some))

pub pointer_link-requires-2-clause-linked : goal.pointer_link-requires-2-clause-linked
pointer_link-requires-2-clause-linked g c told some =
    let mid = g.S.Store.state c.entry_link.new.s in
    let second = c.in_ok-node.ensures in
    let told_mid : Told mid = ap (λ o. o.tells) (sym second.called.origin) ∙ told in
    rw (second.called.origin, second.reads.working) (second.linked told_mid some)

pub returns-clause-below : goal.returns-clause-below
returns-clause-below g c clean =
    let first = c.in_ok-top.ensures in
    let second = c.in_ok-node.ensures in
    same_below_twice (first.below clean) (same_below_twice (second.below (first.clean clean)) (c.pointer_link-2.ensures.below (second.clean (first.clean clean))))

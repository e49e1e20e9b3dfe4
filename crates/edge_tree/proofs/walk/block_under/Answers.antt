use Rattle.std.proofs.Common.{◌∙◌, ap, sym}
use Rattle.edge_store.specs.State.{Told}
use Rattle.edge_tree.proofs.walk.block_under.Goals as goal

pub pointer_link-requires-clause-linked : goal.pointer_link-requires-clause-linked
pointer_link-requires-clause-linked g c told some =
    let old = g.S.Store.state c.args.s.now in
    let first = c.in_ok-node.ensures in
    let told_old : Told old = ap (λ o. o.tells) (sym first.called.origin) ∙ told in
    rw (first.called.origin, first.reads.working) (rw c.requires.form at (first.linked told_old some))

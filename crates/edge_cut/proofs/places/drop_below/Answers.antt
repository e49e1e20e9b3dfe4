use Rattle.std.proofs.Common.{refl}
use Rattle.edge_store.specs.Damages.{IsLinked}
use Rattle.edge_cut.proofs.BelowLaws.{top_at_entry}
use Rattle.edge_cut.proofs.places.drop_below.Goals as goal

pub drop_tree-requires-clause-hangs : goal.drop_tree-requires-clause-hangs
drop_tree-requires-clause-hangs g c = rw (c.form_below.ensures, c.top_of.ensures) c.requires.below

pub drop_tree-requires-clause-top : goal.drop_tree-requires-clause-top
drop_tree-requires-clause-top g c told =
    let old = g.S.Store.state c.args.s.now in
    let at = c.args.at in
    let linked : IsLinked old.origin.request old.working at.owner at.form at.block = c.requires.hangs told c.requires.form old.working refl refl in
    rw c.top_of.ensures (top_at_entry old.origin.request old.working at.owner at.form at.block c.args.top (c.requires.top told) linked)

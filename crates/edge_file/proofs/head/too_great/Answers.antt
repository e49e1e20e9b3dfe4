use Rattle.std.proofs.Common.{◌∙◌, ℕ, sym, ap, subst}
use Rattle.edge_base.specs.outside.Below.{Origin}
use Rattle.edge_store.specs.Damages.{HasWrongShape, too_great}
use Rattle.edge_store.specs.State.{Told}
use Rattle.edge_store.specs.View.{entries_of_inode}
use Rattle.edge_store.proofs.ViewLaws.{whole_with_head}
use Rattle.edge_file.proofs.head.too_great.Goals as goal

pub report-requires-clause-holds : goal.report-requires-clause-holds
report-requires-clause-holds g c told =
    let old = g.S.Store.state c.args.s.now in
    let first = c.in-Ok.ensures in
    let told_old : Told old = ap (λ (o : Origin). o.tells) (sym first.called.origin) ∙ told in
    let great = c.requires.great told_old in
    let wrong : HasWrongShape old.origin.request old.places old.working (old.places c.args.n) = record {
      number = c.args.n;
      head = great.0;
      entries = entries_of_inode (old.working.inodes c.args.n);
      inode = whole_with_head (old.working.inodes c.args.n) great.0 great.1;
      breaks = too_great great.2;
    } in
    rw (first.called.origin, first.reads.working, first.reads.places) (subst (λ (b : ℕ). HasWrongShape old.origin.request old.places old.working b) (sym (first.place told_old)) wrong)

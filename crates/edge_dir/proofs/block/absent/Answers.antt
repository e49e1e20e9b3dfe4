use Rattle.std.proofs.Common.{◌∙◌, ℕ, inl, refl, sym, ap, subst}
use Rattle.edge_base.specs.outside.Below.{Origin}
use Rattle.edge_store.specs.Damages.{HasWrongShape, absent}
use Rattle.edge_store.specs.State.{Told}
use Rattle.edge_store.specs.View.{entries_of_inode}
use Rattle.edge_store.proofs.ViewLaws.{whole_with_head}
use Rattle.edge_dir.proofs.block.absent.Goals as goal

pub report-requires-clause-holds : goal.report-requires-clause-holds
report-requires-clause-holds g c told =
    let old = g.S.Store.state c.args.s.now in
    let first = c.in-Ok.ensures in
    let told_old : Told old = ap (λ (o : Origin). o.tells) (sym first.called.origin) ∙ told in
    let lacks = c.requires.lacks told_old in
    let wrong : HasWrongShape old.origin.request old.places old.working (old.places c.args.d) = record {
      number = c.args.d;
      head = lacks.head;
      entries = entries_of_inode (old.working.inodes c.args.d);
      inode = whole_with_head (old.working.inodes c.args.d) lacks.head lacks.is_head;
      breaks = absent lacks.index (old.places c.args.d) lacks.kind lacks.in_range lacks.below lacks.absent (inl refl);
    } in
    rw (first.called.origin, first.reads.working, first.reads.places) (subst (λ (b : ℕ). HasWrongShape old.origin.request old.places old.working b) (sym (first.place told_old)) wrong)

use Rattle.std.proofs.Common.{ℕ, false, sym, subst}
use Rattle.edge_base.specs.layout.Places.{inode_place_of}
use Rattle.edge_plain.specs.declared.plain_view.PlainView.{PlainView}
use Rattle.edge_plain.specs.KeptView.{view_of}
use Rattle.edge_plain.proofs.plain.PlainStoreStore.report.Goals as goal
use Rattle.edge_store.specs.Damages.{IsDamage}

pub returns-clause-still_holds : goal.returns-clause-still_holds
returns-clause-still_holds c told =
    let old = c.args.self.now in
    subst (λ (v : PlainView). IsDamage v.geometry (λ (n : ℕ). inode_place_of v.geometry n false) (view_of c.end.new.self.committed) (view_of v) c.args.damage) (sym c.end.ensures.working)
    (subst (λ (v : PlainView). IsDamage old.working.geometry (λ (n : ℕ). inode_place_of old.working.geometry n false) (view_of v) (view_of old.working) c.args.damage) (sym c.end.ensures.committed) (c.requires.holds told))

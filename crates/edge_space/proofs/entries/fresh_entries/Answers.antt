use Rattle.std.proofs.Common.{◌≡◌, ◌∙◌, ◌≤◌, arith}
use Rattle.edge_store.specs.Placed.{entry_at}
use Rattle.edge_store.proofs.CallLaws.{same_below_twice}
use Rattle.edge_moves.specs.Renewal.{cost}
use Rattle.edge_cut.proofs.GoLaws.{goes_on_then, told_now}
use Rattle.edge_space.proofs.FreshLaws.{one_more}
use Rattle.edge_space.proofs.entries.fresh_entries.Goals as goal

pub loop-entry-preserved : goal.loop-entry-preserved
loop-entry-preserved g c =
    let old = g.S.Store.state c.args.s.now in
    let now = g.S.Store.state c.loop-entry.s in
    let read = g.S.Store.state c.entry_cost.new.s in
    let inv = c.loop-entry.invariant in
    let done = c.in_ok-fresh.ensures in
    let first = c.args.run.first in
    let entry = c.loop-entry.entry in
    let from : first ≤ entry = omega arith in
    record {
      goes_on = goes_on_then old now read c.in_ok-fresh.field-0 inv.goes_on done.called done.point;
      reads = record { working = done.reads.working ∙ inv.reads.working; places = done.reads.places ∙ inv.reads.places };
      same_below = λ clean. same_below_twice (inv.same_below clean) (done.below (inv.still_clean clean));
      still_clean = λ clean. done.clean (inv.still_clean clean);
      most = omega (arith, inv.most, done.most);
      counted = λ told.
          let taken : c.in_ok-fresh.field-0 ≡ cost old.committed old.working (entry_at old.working c.args.n entry) =
          done.cost (told_now old now inv.goes_on told) ∙ (λ i. cost (inv.goes_on.point.committed i) (inv.reads.working i) (entry_at (inv.reads.working i) c.args.n entry)) in
          one_more old.committed old.working (entry_at old.working c.args.n) first entry c.loop-entry.fresh c.in_ok-fresh.field-0 from (inv.counted told) taken;
    }

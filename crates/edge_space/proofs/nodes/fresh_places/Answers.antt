use Rattle.std.proofs.Common.{◌≡◌, ◌∙◌, ◌≤◌, arith}
use Rattle.edge_base.specs.declared.form.Form.TheVariants.{Indirect}
use Rattle.edge_store.specs.Placed.{pointer_at}
use Rattle.edge_store.proofs.CallLaws.{same_below_twice}
use Rattle.edge_moves.specs.Renewal.{cost}
use Rattle.edge_cut.proofs.GoLaws.{goes_on_then, told_now}
use Rattle.edge_space.proofs.FreshLaws.{one_more}
use Rattle.edge_space.proofs.nodes.fresh_places.Goals as goal

pub loop-place-preserved : goal.loop-place-preserved
loop-place-preserved g c =
    let old = g.S.Store.state c.args.s.now in
    let now = g.S.Store.state c.loop-place.s in
    let read = g.S.Store.state c.place_cost.new.s in
    let inv = c.loop-place.invariant in
    let done = c.in_ok-fresh.ensures in
    let first = c.args.places.first in
    let place = c.loop-place.place in
    let from : first ≤ place = omega arith in
    record {
      goes_on = goes_on_then old now read c.in_ok-fresh.field-0 inv.goes_on done.called done.point;
      reads = record { working = done.reads.working ∙ inv.reads.working; places = done.reads.places ∙ inv.reads.places };
      same_below = λ clean. same_below_twice (inv.same_below clean) (done.below (inv.still_clean clean));
      still_clean = λ clean. done.clean (inv.still_clean clean);
      most = omega (arith, inv.most, done.most);
      counted = λ told.
          let taken : c.in_ok-fresh.field-0 ≡ cost old.committed old.working (pointer_at old.working Indirect c.args.at.block place) =
          done.cost (told_now old now inv.goes_on told) ∙ (λ i. cost (inv.goes_on.point.committed i) (inv.reads.working i) (pointer_at (inv.reads.working i) Indirect c.args.at.block place)) in
          one_more old.committed old.working (pointer_at old.working Indirect c.args.at.block) first place c.loop-place.fresh c.in_ok-fresh.field-0 from (inv.counted told) taken;
    }

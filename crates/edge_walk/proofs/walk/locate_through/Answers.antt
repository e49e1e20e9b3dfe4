use Rattle.std.proofs.Common.{◌≡◌, ◌∙◌, ◌≤◌, ◌==◌, ◌∷◌, None, sym, ap, subst}
use Rattle.std.specs.Prelude.{Err}
use Rattle.std.proofs.lemmas.Result.{err_from_is_err_and}
use Rattle.edge_base.specs.declared.geometry.Request.{Request}
use Rattle.edge_model.specs.Walk.{walk}
use Rattle.edge_volume.specs.Nodes.{OnTree}
use Rattle.edge_volume.specs.Parts.{IsOfNoDamage}
use Rattle.edge_volume.specs.Stopped.{fault_of, IfAnswered}
use Rattle.edge_volume.proofs.LookLaws.{looks_none, looks_on}
use Rattle.edge_walk.specs.Spots.{AreShort}
use Rattle.edge_walk.specs.Ways.{goes_through, led_to}
use Rattle.edge_walk.proofs.NameLaws.{first_and_rest}
use Rattle.edge_walk.proofs.StillLaws.{on_tree_before}
use Rattle.edge_walk.proofs.ThroughLaws.{or_then, or_else, goes_on, goes_in, stops_way}
use Rattle.edge_walk.proofs.TreeLaws.{reached_root}
use Rattle.edge_walk.proofs.WayLaws.{steps_on, stops_below, ends_in, stops_at_end}
use Rattle.edge_walk.proofs.walk.locate_through.Goals as goal
use Rattle.edge_walk.proofs.walk.locate_through.Goals.{then-through, else-through, then-through-2, else-through-2}

pub loop-next-init : goal.loop-next-init
loop-next-init g c = record {
  more = tt;
  finite = tt;
  looks = looks_none g.S.Store c.args.s.now c.requires.live;
  reached = reached_root (g.S.Store.state c.args.s.now)
      (subst (λ (r : Request). 1 ≤ r.inodes) c.geometry.ensures c.request-within_limits.ensures.limits.some_inode);
  walks = λ z stands tree.
      ap (walk z.tree) (c.in-Some.ensures.steps ∙ ap (λ rest. c.in-Some.name.now ∷ rest) (sym c.into_iter-next-iterator.ensures.into_iter_gives));
  goes = λ z stands tree.
      ap (λ names. goes_through z.tree names c.args.n)
      (c.in-Some.ensures.steps ∙ ap (λ rest. c.in-Some.name.now ∷ rest) (sym c.into_iter-next-iterator.ensures.into_iter_gives));
  short = λ all.
      let r = (g.S.Store.state c.args.s.now).origin.request in
      let both = first_and_rest r c.in-Some.name.now c.next.new.self (subst (AreShort r) c.in-Some.ensures.steps all) in
      (both.0, subst (AreShort r) (sym c.into_iter-next-iterator.ensures.into_iter_gives) both.1);
}

pub loop-next-preserved : goal.loop-next-preserved
loop-next-preserved g c =
    let l = c.loop-next.invariant in
    record {
      more = tt;
      finite = tt;
      looks = looks_on g.S.Store None c.args.s.now c.loop-next.s c.below.new.s l.looks c.in_ok-d.ensures.looks;
      reached = c.in_ok-d.ensures.reached;
      walks = steps_on g.S.Store c.args.s.now c.loop-next.s l.looks c.loop-next.d c.loop-next.name.now c.args.names c.loop-next.next-iterator l.walks
          c.in_ok-d.d c.in-Some-next.next.now c.next-in-loop-next.new.self c.in-Some-next.ensures.steps c.in_ok-d.ensures.number;
      goes = goes_on g.S.Store c.args.s.now c.loop-next.s l.looks c.loop-next.d c.args.n c.loop-next.name.now c.args.names c.loop-next.next-iterator
          c.loop-next.through l.goes c.in_ok-d.d c.in-Some-next.next.now c.next-in-loop-next.new.self c.if-through.through
          (elim c.if-through.branch [
            | then-through w ↦ or_then c.loop-next.through (c.loop-next.d == c.args.n) c.if-through.through w.if-through.true (w.through-is ∙ w.if-through.true)
            | else-through w ↦ or_else c.loop-next.through (c.loop-next.d == c.args.n) c.if-through.through w.if-through.false w.through-is
          ])
          c.in-Some-next.ensures.steps c.in_ok-d.ensures.number;
      short = λ all.
          let r = (g.S.Store.state c.args.s.now).origin.request in
          first_and_rest r c.in-Some-next.next.now c.next-in-loop-next.new.self (subst (AreShort r) c.in-Some-next.ensures.steps (l.short all).1);
    }

pub returns-in_err-d-clause-undamaged : goal.returns-in_err-d-clause-undamaged
returns-in_err-d-clause-undamaged g c z stands tree damage e =
    let p = err_from_is_err_and c.from_residual.result c.from_residual.ensures.1 in
    on_tree_before g.S.Store c.args.s.now c.loop-next.s c.loop-next.invariant.looks (λ t. IsOfNoDamage (fault_of c.below.result))
    c.below.ensures.undamaged z stands tree damage
    (ap fault_of c.in_err-d.was ∙ sym (ap fault_of (p.1 ∙ ap Err p.2)) ∙ e)

pub returns-in_err-d-clause-spot : goal.returns-in_err-d-clause-spot
returns-in_err-d-clause-spot g c =
    let p = err_from_is_err_and c.from_residual.result c.from_residual.ensures.1 in
    subst (λ r. IfAnswered r (λ r. OnTree (g.S.Store.state c.args.s.now) (λ t. led_to r ≡ walk t c.args.names))) (sym (p.1 ∙ ap Err p.2))
    (stops_way (g.S.Store.state c.args.s.now) c.args.names _ (stops_below g.S.Store c.args.s.now c.loop-next.s c.loop-next.invariant.looks c.loop-next.d c.loop-next.name.now c.args.names c.loop-next.next-iterator
    c.loop-next.invariant.walks c.in_err-d.field-0.0 c.in-Some-next.next.now c.next-in-loop-next.new.self c.in-Some-next.ensures.steps c.in_err-d.ensures.number))

pub returns-in_err-enter-clause-undamaged : goal.returns-in_err-enter-clause-undamaged
returns-in_err-enter-clause-undamaged g c z stands tree damage e =
    let p = err_from_is_err_and c.from_residual-in_err-enter.result c.from_residual-in_err-enter.ensures.1 in
    on_tree_before g.S.Store c.args.s.now c.loop-next.s c.loop-next.invariant.looks (λ t. IsOfNoDamage (fault_of c.enter.result))
    c.enter.ensures.undamaged z stands tree damage
    (ap fault_of c.in_err-enter.was ∙ sym (ap fault_of (p.1 ∙ ap Err p.2)) ∙ e)

pub returns-in_err-enter-clause-spot : goal.returns-in_err-enter-clause-spot
returns-in_err-enter-clause-spot g c =
    let p = err_from_is_err_and c.from_residual-in_err-enter.result c.from_residual-in_err-enter.ensures.1 in
    subst (λ r. IfAnswered r (λ r. OnTree (g.S.Store.state c.args.s.now) (λ t. led_to r ≡ walk t c.args.names))) (sym (p.1 ∙ ap Err p.2))
    (stops_way (g.S.Store.state c.args.s.now) c.args.names _ (stops_at_end g.S.Store c.args.s.now c.loop-next.s c.loop-next.invariant.looks c.loop-next.d c.loop-next.name.now c.args.names c.loop-next.next-iterator
    c.loop-next.invariant.walks c.in_err-enter.field-0.0 c.in-None.ensures.steps.0 c.in_err-enter.ensures.kind))

pub returns-clause-looks : goal.returns-clause-looks
returns-clause-looks g c = looks_on g.S.Store None c.args.s.now c.loop-next.s c.enter.new.s c.loop-next.invariant.looks c.in_ok-enter.ensures.looks

pub returns-clause-spot : goal.returns-clause-spot
returns-clause-spot g c =
    ends_in g.S.Store c.args.s.now c.loop-next.s c.loop-next.invariant.looks c.loop-next.d c.loop-next.name.now c.args.names c.loop-next.next-iterator
    c.loop-next.invariant.walks c.in-None.ensures.steps.0 c.in_ok-enter.ensures.kind

pub returns-clause-through : goal.returns-clause-through
returns-clause-through g c =
    goes_in g.S.Store c.args.s.now c.loop-next.s c.loop-next.invariant.looks c.loop-next.d c.args.n c.loop-next.name.now c.args.names c.loop-next.next-iterator
    c.loop-next.through c.loop-next.invariant.goes c.if-through-2.result
    (elim c.if-through-2.branch [
      | then-through-2 w ↦ or_then c.loop-next.through (c.loop-next.d == c.args.n) c.if-through-2.result w.if-through-2.true (w.result-is ∙ w.if-through-2.true)
      | else-through-2 w ↦ or_else c.loop-next.through (c.loop-next.d == c.args.n) c.if-through-2.result w.if-through-2.false w.result-is
    ])
    c.in-None.ensures.steps.0

pub returns-clause-short : goal.returns-clause-short
returns-clause-short g c all = (c.loop-next.invariant.short all).0

use Rattle.std.proofs.Common.{IfOk, sym, subst}
use Rattle.edge_base.specs.layout.Places.{IsWithinLimits}
use Rattle.edge_space.specs.Answers.{IsNeedOf}
use Rattle.edge_space.specs.declared.change.Change.{Change}
use Rattle.edge_space.proofs.AnswerLaws.{fresh_answer}
use Rattle.edge_space.proofs.fresh.fresh_of.Goals as goal

pub returns-in-Bytes-clause-fresh : goal.returns-in-Bytes-clause-fresh
returns-in-Bytes-clause-fresh g c =
    let old = g.S.Store.state c.args.s.now in
    let limits : IsWithinLimits old.origin.request = subst IsWithinLimits c.geometry.ensures c.request-within_limits.ensures.limits in
    fresh_answer old c.args.change.now c.fresh_of_bytes.result (g.met.S.Store.is_geometry c.args.s.now) limits
    (λ told. g.met.S.Store.working_is_view c.args.s.now told c.requires.live) c.requires.within
    (subst (λ (change : Change). IfOk c.fresh_of_bytes.result (IsNeedOf old change)) (sym c.in-Bytes.is) c.fresh_of_bytes.ensures.need)

pub returns-in-Size-clause-fresh : goal.returns-in-Size-clause-fresh
returns-in-Size-clause-fresh g c =
    let old = g.S.Store.state c.args.s.now in
    let limits : IsWithinLimits old.origin.request = subst IsWithinLimits c.geometry.ensures c.request-within_limits.ensures.limits in
    fresh_answer old c.args.change.now c.fresh_of_size.result (g.met.S.Store.is_geometry c.args.s.now) limits
    (λ told. g.met.S.Store.working_is_view c.args.s.now told c.requires.live) c.requires.within
    (subst (λ (change : Change). IfOk c.fresh_of_size.result (IsNeedOf old change)) (sym c.in-Size.is) c.fresh_of_size.ensures.need)

pub returns-in-Slots-clause-fresh : goal.returns-in-Slots-clause-fresh
returns-in-Slots-clause-fresh g c =
    let old = g.S.Store.state c.args.s.now in
    let limits : IsWithinLimits old.origin.request = subst IsWithinLimits c.geometry.ensures c.request-within_limits.ensures.limits in
    fresh_answer old c.args.change.now c.fresh_of_slots.result (g.met.S.Store.is_geometry c.args.s.now) limits
    (λ told. g.met.S.Store.working_is_view c.args.s.now told c.requires.live) c.requires.within
    (subst (λ (change : Change). IfOk c.fresh_of_slots.result (IsNeedOf old change)) (sym c.in-Slots.is) c.fresh_of_slots.ensures.need)

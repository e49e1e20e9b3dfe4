use Rattle.std.proofs.Common.{◌≡◌, ◌+◌, ◌-◌}
use Rattle.std.specs.Prelude.{max}
use Rattle.edge_base.specs.layout.Places.{pointers_of}
use Rattle.edge_base.specs.outside.Below.{SameBelow}
use Rattle.edge_store.specs.State.{Told}
use Rattle.edge_space.proofs.FreshLaws.{of_rows}
use Rattle.edge_space.proofs.LoopLaws.{CountedSoFar}
use Rattle.edge_space.proofs.RowLaws.{reach}
use Rattle.edge_space.proofs.nodes.fresh_rows.Given as goal

abbrev pub invariant-loop-row : goal.invariant-loop-row
invariant-loop-row g l =
    let old = g.S.Store.state l.fn.s in
    let r = old.origin.request in
    let run = l.fn.run in
    CountedSoFar old (g.S.Store.state l.s)
    (g.S.Store.is_clean l.fn.s → SameBelow (g.S.Store.may_hold l.fn.s) (g.S.Store.may_hold l.s) (g.S.Store.is_sure l.fn.s) (g.S.Store.is_sure l.s))
    (g.S.Store.is_clean l.fn.s → g.S.Store.is_clean l.s)
    (Told old → l.fresh ≡ of_rows r old.committed old.working l.n run.first run.count l.row)
    l.fresh (l.row - l.fn.rows.first + (reach r.direct (pointers_of r) run.first (run.first + run.count) l.row - max run.first r.direct))

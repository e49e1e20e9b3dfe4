use Rattle.std.proofs.Common.{◌≡◌, drop, None}
use Rattle.edge_model.specs.Open.{first_filled}
use Rattle.edge_model.specs.Tree.{slots_at}
use Rattle.edge_volume.specs.Nodes.{OnTree}
use Rattle.edge_volume.specs.Parts.{Looks}
use Rattle.edge_calls.proofs.directory.next_filled.Given as goal

abbrev pub invariant-loop-slot : goal.invariant-loop-slot
invariant-loop-slot g l = record {
  looks : Looks g.S.Store None l.fn.s l.s;
  none : OnTree (g.S.Store.state l.fn.s) (λ t.
      first_filled l.slot (drop l.slot (slots_at t l.d)) ≡ first_filled l.at (drop l.at (slots_at t l.d)));
}

use Rattle.std.proofs.Common.{◌≤◌, ◌-◌, length, drop, sym, ◌∙◌, subst, arith}
use Rattle.std.specs.Prelude.{IsTrue}
use Rattle.std.proofs.lemmas.List.{length-take, length-drop}
use Rattle.edge_io.proofs.SinkLemmas.{took-more}
use Rattle.edge_io.proofs.sink.write_all.Goals as goal

pub loop-at-preserved : goal.loop-at-preserved
loop-at-preserved g c =
    let bytes = c.args.bytes.now in
    let inside : c.in_ok-at.field-0 ≤ length bytes - c.loop-at.at = omega (arith, c.in_ok-at.ensures.fits, length-take (length bytes - c.loop-at.at) (drop c.loop-at.at bytes), length-drop c.loop-at.at bytes) in
    record {
      inside = omega arith;
      tells = c.write.ensures.tells ∙ c.loop-at.invariant.tells;
      faults = c.in_ok-at.ensures.cause.passed ∙ c.loop-at.invariant.faults;
      taken = λ told. took-more c.loop-at.at c.in_ok-at.field-0 bytes _ _ _ inside (c.loop-at.invariant.taken told) (c.in_ok-at.ensures.taken (subst IsTrue (sym c.loop-at.invariant.tells) told));
    }

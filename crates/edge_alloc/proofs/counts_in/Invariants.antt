use Rattle.std.proofs.Common.{◌≡◌, ◌*◌, ◌-◌, min}
use Rattle.std.specs.List.{count_by, range_with_len}
use Rattle.edge_alloc.specs.Pairs.{is_free, is_almost_free}
use Rattle.edge_alloc.proofs.counts_in.Given as goal

abbrev pub invariant-loop-word : goal.invariant-loop-word
invariant-loop-word l = record {
  free : l.counts.free ≡ count_by (is_free l.committed l.working) (range_with_len l.w.first (min (64 * l.word) l.end - l.w.first));
  almost : l.counts.almost ≡ count_by (is_almost_free l.committed l.working) (range_with_len l.w.first (min (64 * l.word) l.end - l.w.first));
}

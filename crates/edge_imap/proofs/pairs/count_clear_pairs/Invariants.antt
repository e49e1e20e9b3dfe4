use Rattle.std.proofs.Common.{◌≡◌, ◌*◌, ◌-◌, min}
use Rattle.std.specs.List.{count_by, range_with_len}
use Rattle.edge_imap.specs.Inodes.{is_clear_pair}
use Rattle.edge_imap.proofs.pairs.count_clear_pairs.Given as goal

abbrev pub invariant-loop-w : goal.invariant-loop-w
invariant-loop-w l = l.total ≡ count_by (is_clear_pair l.bits) (range_with_len 0 (min (64 * l.w) l.end - 0))

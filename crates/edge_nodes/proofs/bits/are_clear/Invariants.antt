use Rattle.std.proofs.Common.{◌≡◌, ◌-◌, ◌*◌, not}
use Rattle.std.specs.List.{list_all, range_with_len}
use Rattle.edge_base.specs.layout.Bytes.{bit_in, clear_from}
use Rattle.edge_nodes.proofs.bits.are_clear.Given as goal

abbrev pub invariant-loop-i : goal.invariant-loop-i
invariant-loop-i l = list_all (λ j. not (bit_in l.from l.b j)) (range_with_len l.i (8 * l.bytes - l.i)) ≡ clear_from l.count l.from l.b

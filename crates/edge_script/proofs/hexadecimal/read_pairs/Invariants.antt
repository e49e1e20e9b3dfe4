use Rattle.std.proofs.Common.{◌≡◌, ◌*◌, take, drop}
use Rattle.edge_script.specs.Bytes.{pairs_in}
use Rattle.edge_script.specs.Bytes.{in_front}
use Rattle.edge_script.proofs.hexadecimal.read_pairs.Given as goal

abbrev pub invariant-loop-i : goal.invariant-loop-i
invariant-loop-i l = pairs_in l.word ≡ in_front (take l.i l.out) (pairs_in (drop (2 * l.i) l.word))

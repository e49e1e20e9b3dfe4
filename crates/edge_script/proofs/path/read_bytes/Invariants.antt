use Rattle.std.proofs.Common.{◌≡◌, ◌≤◌, ◌+◌, length, take}
use Rattle.edge_script.specs.Bytes.{bytes_in}
use Rattle.edge_script.specs.Bytes.{in_front}
use Rattle.edge_script.proofs.path.read_bytes.Given as goal

abbrev pub invariant-loop-rest : goal.invariant-loop-rest
invariant-loop-rest l = record {
  within : l.len + length l.rest ≤ length l.fn.word;
  told : bytes_in l.fn.word ≡ in_front (take l.len l.out) (bytes_in l.rest);
}

abbrev pub decreases-loop-rest : goal.decreases-loop-rest
decreases-loop-rest l = length l.rest

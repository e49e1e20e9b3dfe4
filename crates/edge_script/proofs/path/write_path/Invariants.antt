use Rattle.std.proofs.Common.{◌≡◌, ◌≤◌, ◌*◌, take}
use Rattle.edge_script.specs.Bytes.{spelling_of}
use Rattle.edge_script.proofs.path.write_path.Given as goal

abbrev pub invariant-loop-b : goal.invariant-loop-b
invariant-loop-b l = record {
  room : l.len ≤ 3 * l.b-index;
  written : take l.len l.out ≡ spelling_of (take l.b-index l.path);
}

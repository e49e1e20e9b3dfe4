use Rattle.std.proofs.Common.{◌≡◌, drop}
use Rattle.edge_script.specs.Numbers.{read_on}
use Rattle.edge_script.proofs.number.digits.Given as goal

abbrev pub invariant-loop-b : goal.invariant-loop-b
invariant-loop-b l = read_on 0 l.word ≡ read_on l.n (drop l.b-index l.word)

-- What the law of a clock in memory cites: some moment is left.
use Rattle.std.specs.Prelude.{◌<◌, ℕ, List, length, drop}
use Rattle.std.proofs.Common.{arith, length-drop}

pub some_left : (given : ℕ) (moments : List ℕ) → given < length moments → 0 < length (drop given moments)
some_left given moments within = omega (arith, within, length-drop given moments)

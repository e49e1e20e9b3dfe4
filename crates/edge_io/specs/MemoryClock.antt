-- What a clock in memory means.
use Rattle.std.specs.Prelude.{ℕ, List, drop}
use Rattle.edge_io.specs.declared.memory_clock.MemoryClock.{MemoryClock}

-- the moments that are left
abbrev pub moments_of : MemoryClock → List ℕ
moments_of c = drop c.given c.moments.items

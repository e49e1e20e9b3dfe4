-- What a clock of the host tells of itself.
use Rattle.std.specs.Prelude.{ℕ}
use Rattle.edge_host.specs.declared.clock.HostClock.{HostClock}

-- the moment that it gave last, at first 0
abbrev pub last_moment : {C : Type 0} → HostClock C → ℕ
last_moment c = c.last

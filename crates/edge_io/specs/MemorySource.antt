-- What a source in memory means.
use Rattle.std.specs.Prelude.{ℕ, List, drop}
use Rattle.edge_io.specs.declared.memory_source.MemorySource.{MemorySource}

-- the bytes that are left
abbrev pub left_of : MemorySource → List ℕ
left_of s = drop s.given s.bytes.items

-- the numbers of the calls that fail
abbrev pub fails_of : MemorySource → List ℕ
fails_of s = s.calls.fails.items

-- the number of the next call
abbrev pub calls_of : MemorySource → ℕ
calls_of s = s.calls.made

-- the calls that failed so far
abbrev pub faults_of : MemorySource → ℕ
faults_of s = s.calls.faults

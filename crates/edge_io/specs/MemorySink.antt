-- What a sink in memory means.
use Rattle.std.specs.Prelude.{ℕ, List}
use Rattle.edge_io.specs.declared.memory_sink.MemorySink.{MemorySink}

-- the bytes that it has taken
abbrev pub taken_of : MemorySink → List ℕ
taken_of s = s.taken.items

-- the greatest number of bytes that it takes
abbrev pub size_of : MemorySink → ℕ
size_of s = s.size

-- the numbers of the calls that fail
abbrev pub fails_of : MemorySink → List ℕ
fails_of s = s.calls.fails.items

-- the number of the next call
abbrev pub calls_of : MemorySink → ℕ
calls_of s = s.calls.made

-- the calls that failed so far
abbrev pub faults_of : MemorySink → ℕ
faults_of s = s.calls.faults

-- What a folder in memory means.
use Rattle.std.specs.Prelude.{ℕ, List, map, drop}
use Rattle.edge_io.specs.Entries.{FolderEntry}
use Rattle.edge_io.specs.Kept.{kept_entry}
use Rattle.edge_io.specs.declared.memory_folder.MemoryFolder.{MemoryFolder}

-- the items that are left
abbrev pub items_of : MemoryFolder → List FolderEntry
items_of f = map kept_entry f.items.items

-- the bytes that are left of the last item given
abbrev pub left_of : MemoryFolder → List ℕ
left_of f = drop f.given f.bytes.items

-- the numbers of the calls that fail
abbrev pub fails_of : MemoryFolder → List ℕ
fails_of f = f.calls.fails.items

-- the number of the next call
abbrev pub calls_of : MemoryFolder → ℕ
calls_of f = f.calls.made

-- the calls that failed so far
abbrev pub faults_of : MemoryFolder → ℕ
faults_of f = f.calls.faults

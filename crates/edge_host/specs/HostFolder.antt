-- What a folder of the host tells of itself.
use Rattle.std.specs.Prelude.{ℕ, List}
use Rattle.std.specs.Path.{path_buf_bytes}
use Rattle.edge_host.specs.declared.folder.HostFolder.{HostFolder}

-- the path of the folder, as text
abbrev pub path_of : {R : Type 0} → HostFolder R → List ℕ
path_of f = path_buf_bytes f.root.path

-- the calls that failed so far
abbrev pub folder_faults : {R : Type 0} → HostFolder R → ℕ
folder_faults f = f.faults

-- The items that a folder in memory is made of, and those that it keeps.
use Rattle.std.specs.Prelude.{Bool, List, length, nat_le}
use Rattle.std.specs.List.{list_all}
use Rattle.edge_io.specs.Entries.{FolderEntry, bytes_of}
use Rattle.edge_io.specs.declared.folder_item.FolderItem.{FolderItem}
use Rattle.edge_io.specs.declared.kept.Kept.{Kept}

-- an item that a folder is made of, and one that it keeps
abbrev pub entry_of : FolderItem → FolderEntry
entry_of i = record { path = i.path.now; kind = i.kind; bytes = bytes_of i.kind i.bytes.now }

abbrev pub kept_entry : Kept → FolderEntry
kept_entry k = record { path = k.path.items; kind = k.kind; bytes = k.bytes.items }

-- whether no path is longer than 4,096 bytes
abbrev pub paths_fit : List FolderItem → Bool
paths_fit items = list_all (λ i. nat_le (length i.path.now) 4096) items

-- Commands whose paths and data are bytes.
use Rattle.std.specs.Prelude.{◌<◌, ℕ, List, All, Option, Some, None}
use Rattle.edge_model.specs.Asked.{Asked, open_file, write, fill, link, unlink, rename, make_dir, remove_dir, open_dir, stat}

-- each number of a list is a byte
abbrev pub AreBytes : List ℕ → Type 0
AreBytes xs = All (λ byte. byte < 256) xs

-- the paths and the data of a command are bytes
abbrev pub IsOfBytes : Asked → Type 0
IsOfBytes (open_file path flags) = AreBytes path
IsOfBytes (write h new) = AreBytes new
IsOfBytes (fill h count byte) = byte < 256
IsOfBytes (link path to) = AreBytes path × AreBytes to
IsOfBytes (unlink path) = AreBytes path
IsOfBytes (rename path to) = AreBytes path × AreBytes to
IsOfBytes (make_dir path) = AreBytes path
IsOfBytes (remove_dir path) = AreBytes path
IsOfBytes (open_dir path) = AreBytes path
IsOfBytes (stat path) = AreBytes path
IsOfBytes command = Unit {0}

-- a line that spells no command, or one whose paths and data are bytes
abbrev pub IsLineOfBytes : Option Asked → Type 0
IsLineOfBytes None = Unit {0}
IsLineOfBytes (Some command) = IsOfBytes command

-- The names that are left of a path.
use Rattle.std.specs.Prelude.{ℕ, List, [], ◌∷◌}
use Rattle.edge_base.specs.commands.Paths.{split}

-- of bytes that begin with a slash those after it, between slashes; of no bytes none
abbrev pub names_left : List ℕ → List (List ℕ)
names_left [] = []
names_left (b ∷ bytes) = split bytes

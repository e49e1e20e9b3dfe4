-- Paths: which are refused, and which names they have.
use Rattle.std.specs.Prelude.{ℕ, ◌==◌, ◌||◌, not, Bool, false, nat_lt, if◌then◌else◌, List, [], ◌∷◌, length, Result, Ok}
use Rattle.std.specs.List.{list_any}
use Rattle.edge_base.specs.declared.refusal.Refusal.{Refusal}
use Rattle.edge_base.specs.declared.refusal.Refusal.TheVariants.{Invalid, NameTooLong}
use Rattle.edge_base.specs.commands.Refusals.{◌>>=◌, refuse_if}
use Rattle.edge_base.specs.tree.Slots.{is_bad_name}

abbrev pub onto_first : ℕ → List (List ℕ) → List (List ℕ)
onto_first b [] = (b ∷ []) ∷ []
onto_first b (name ∷ names) = (b ∷ name) ∷ names

-- the names between slashes
abbrev pub split : List ℕ → List (List ℕ)
split [] = [] ∷ []
split (b ∷ bytes) = if b == 47 then [] ∷ split bytes else onto_first b (split bytes)

-- the names of a path that begins with `/`: none for `/` alone
abbrev pub names_after_slash : List ℕ → List (List ℕ)
names_after_slash [] = []
names_after_slash (b ∷ bytes) = split (b ∷ bytes)

abbrev pub names_in : List ℕ → List (List ℕ)
names_in [] = []
names_in (b ∷ bytes) = names_after_slash bytes

abbrev pub begins_with_slash : List ℕ → Bool
begins_with_slash [] = false
begins_with_slash (b ∷ bytes) = b == 47

-- the path does not begin with `/`, or has a name that is empty, `.`, `..` or has a zero byte
abbrev pub is_invalid : List ℕ → Bool
is_invalid path = not (begins_with_slash path) || list_any is_bad_name (names_in path)

-- the path has more than 255 bytes, or a name with more than the longest has
abbrev pub is_too_long : ℕ → List ℕ → Bool
is_too_long longest path = nat_lt 255 (length path) || list_any (λ name. nat_lt longest (length name)) (names_in path)

-- the names of a path, or why it is refused
abbrev pub names_of : ℕ → List ℕ → Result (List (List ℕ)) Refusal
names_of longest path = do
  _ ← refuse_if (is_invalid path) Invalid
  _ ← refuse_if (is_too_long longest path) NameTooLong
  Ok (names_in path)

-- whether two paths are refused: both are judged Invalid before either is judged too long
abbrev pub two_paths : ℕ → List ℕ → List ℕ → Result (Unit {0}) Refusal
two_paths longest one two = do
  _ ← refuse_if (is_invalid one || is_invalid two) Invalid
  refuse_if (is_too_long longest one || is_too_long longest two) NameTooLong

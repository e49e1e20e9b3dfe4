-- The lines of a script.
use Rattle.std.specs.Prelude.{◌≡◌, ◌⊎◌, ◌≤◌, ℕ, ◌==◌, ◌&&◌, not, Bool, if◌then◌else◌, List, [], ◌∷◌, ◌++◌, length, take, slice_index_or}
use Rattle.std.specs.List.{flat_map}

-- a byte at the front of the first line
abbrev pub onto_first_line : ℕ → List (List ℕ) → List (List ℕ)
onto_first_line byte [] = (byte ∷ []) ∷ []
onto_first_line byte (line ∷ lines) = (byte ∷ line) ∷ lines

-- The lines of a script, each without its line feed. Bytes after the last line feed are a line, if there are any.
abbrev pub lines_of : List ℕ → List (List ℕ)
lines_of [] = []
lines_of (byte ∷ script) = if byte == 10 then [] ∷ lines_of script else onto_first_line byte (lines_of script)

-- a byte at the front of the first line, where there is one
abbrev pub onto_whole_line : ℕ → List (List ℕ) → List (List ℕ)
onto_whole_line byte [] = []
onto_whole_line byte (line ∷ lines) = (byte ∷ line) ∷ lines

-- the lines that end with a line feed
abbrev pub whole_lines : List ℕ → List (List ℕ)
whole_lines [] = []
whole_lines (byte ∷ script) = if byte == 10 then [] ∷ whole_lines script else onto_whole_line byte (whole_lines script)

-- The lines of the first bytes of a script. A rest behind their last line feed is a line where these are all the bytes, and the source has not failed.
abbrev pub lines_taken : List ℕ → ℕ → Bool → List (List ℕ)
lines_taken script taken failed = if (taken == length script) && not failed then lines_of script else whole_lines (take taken script)

-- line k of a script, from 0
abbrev pub line_at : List ℕ → ℕ → List ℕ
line_at script k = slice_index_or (lines_of script) k []

-- lines, each with its line feed
abbrev pub joined_lines : List (List ℕ) → List ℕ
joined_lines lines = flat_map (λ line. line ++ 10 ∷ []) lines

-- The first `taken` bytes of a script are its first k lines, each with its line feed, or all its bytes where these are all its lines.
pub record HoldsLines (script : List ℕ) (k taken : ℕ) : Type 0 where
  pub inside : k ≤ length (lines_of script)
  pub within : taken ≤ length script
  pub bytes : (take taken script ≡ joined_lines (take k (lines_of script))) ⊎ ((k ≡ length (lines_of script)) × (taken ≡ length script))

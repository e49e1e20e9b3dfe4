-- What a reader of lines holds.
use Rattle.std.specs.Prelude.{ℕ, Bool, List, ◌++◌, take, slice_range}
use Rattle.edge_session.specs.declared.lines.LineReader.{LineReader}

-- the bytes that were read and not taken up
abbrev pub pending : LineReader → List ℕ
pending r = slice_range r.input.items r.at r.end

-- the bytes that are left to take up
abbrev pub stream_of : LineReader → List ℕ → List ℕ
stream_of r left = pending r ++ left

-- what is kept of the line that was taken up last, or of the one that has begun
abbrev pub kept_of : LineReader → List ℕ
kept_of r = take r.kept r.line.items

-- the number of bytes taken up
abbrev pub used_of : LineReader → ℕ
used_of r = r.used

-- whether the end of the source was seen
abbrev pub ended_of : LineReader → Bool
ended_of r = r.ended

-- The limits of a script.
use Rattle.std.specs.Prelude.{◌≤◌, ℕ, List, length}
use Rattle.edge_session.specs.Script.{lines_of}
use Rattle.edge_session.specs.declared.ended.Limit.{Limit as Most}
use Rattle.edge_app.specs.declared.run_command.TheConstants.{MOST_LINES, MOST_BYTES}

-- the limits of a session
abbrev pub limits : Most
limits = record { lines = MOST_LINES; bytes = MOST_BYTES }

-- a script that a session answers whole
pub record FitsSession (script : List ℕ) : Type 0 where
  pub few : length (lines_of script) ≤ MOST_LINES
  pub short : length script ≤ MOST_BYTES

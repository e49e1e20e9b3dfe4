-- A further name of a file: which file gets it and where it goes, in the words of the tree.
use Rattle.std.specs.Prelude.{ℕ, nat_le, List, Result, Ok, Err}
use Rattle.edge_base.specs.commands.Paths.{names_in, two_paths}
use Rattle.edge_base.specs.commands.Refusals.{◌>>=◌, refuse_if, or_refuse}
use Rattle.edge_base.specs.declared.geometry.Request.{Request}
use Rattle.edge_base.specs.declared.refusal.Refusal.{Refusal}
use Rattle.edge_base.specs.declared.refusal.Refusal.TheVariants as refusal
use Rattle.edge_model.specs.Tree.{Tree, is_directory, links_of}
use Rattle.edge_model.specs.Walk.{at_spot, walk}
use Rattle.edge_calls.specs.Makes.{NewName, is_behind, vacancy_of}
use Rattle.edge_calls.specs.declared.link.File.{File}
use Rattle.edge_calls.specs.declared.link.Linking.{Linking}

-- the file that the names of a path lead to
abbrev pub file_at : Tree → List (List ℕ) → Result ℕ Refusal
file_at t names = do
  from ← walk t names
  found ← or_refuse (at_spot t from) refusal.NoEntry
  _ ← refuse_if (is_directory t found.number) refusal.IsDir
  Ok found.number

-- what the code found, as that
abbrev pub file_in : Result File Refusal → Result ℕ Refusal
file_in (Ok file) = Ok file.n
file_in (Err e) = Err e

-- where the name goes that is the last of a path's
abbrev pub vacancy_at : Tree → List (List ℕ) → Result NewName Refusal
vacancy_at t names = do
  spot ← walk t names
  vacancy_of t spot

-- a file, and the further name that it gets
pub record NewLink : Type 0 where
  pub number : ℕ
  pub at : NewName

abbrev pub link_in : Result Linking Refusal → Result NewLink Refusal
link_in (Ok link) = Ok (record { number = link.file.n; at = record { d = link.at.d; name = link.at.name.now; slot = link.at.slot } })
link_in (Err e) = Err e

-- a file at one path that gets a name at another, or why it does not, but for room
abbrev pub link_of : Request → Tree → List ℕ → List ℕ → Result NewLink Refusal
link_of g t path to = do
  _ ← two_paths g.name_max path to
  n ← file_at t (names_in path)
  at ← vacancy_at t (names_in to)
  _ ← refuse_if (nat_le 65535 (links_of g t n)) refusal.TooManyLinks
  _ ← refuse_if (is_behind g at.slot) refusal.TooBig
  Ok (record { number = n; at = at })

-- The first words of commands.
use Rattle.std.specs.Prelude.{List, [], ◌∷◌, codes, Option}
use Rattle.std.specs.List.{find}
use Rattle.std.specs.Str.{bytes_eq}
use Rattle.edge_script.specs.declared.verb.Verb.{Verb}
use Rattle.edge_script.specs.declared.verb.Verb.TheVariants as v
use Rattle.edge_script.specs.Numbers.{Word}

abbrev pub name_of : Verb → Word
name_of v.Open = codes "open"
name_of v.Close = codes "close"
name_of v.Read = codes "read"
name_of v.Write = codes "write"
name_of v.Fill = codes "fill"
name_of v.Seek = codes "seek"
name_of v.Truncate = codes "truncate"
name_of v.Fsync = codes "fsync"
name_of v.Link = codes "link"
name_of v.Unlink = codes "unlink"
name_of v.Rename = codes "rename"
name_of v.MakeDir = codes "mkdir"
name_of v.RemoveDir = codes "rmdir"
name_of v.OpenDir = codes "opendir"
name_of v.ReadDir = codes "readdir"
name_of v.Rewind = codes "rewind"
name_of v.Stat = codes "stat"
name_of v.Fstat = codes "fstat"
name_of v.Space = codes "space"
name_of v.Mask = codes "mask"
name_of v.SetMask = codes "setmask"
name_of v.Transact = codes "transact"

abbrev pub file_verbs : List Verb
file_verbs = v.Open ∷ v.Close ∷ v.Read ∷ v.Write ∷ v.Fill ∷ v.Seek ∷ v.Truncate ∷ v.Fsync ∷ v.Stat ∷ v.Fstat ∷ v.Unlink ∷ []

abbrev pub other_verbs : List Verb
other_verbs = v.Link ∷ v.Rename ∷ v.MakeDir ∷ v.RemoveDir ∷ v.OpenDir ∷ v.ReadDir ∷ v.Rewind ∷ v.Space ∷ v.Mask ∷ v.SetMask ∷ v.Transact ∷ []

-- the one of these whose name the word is
abbrev pub verb_among : List Verb → Word → Option Verb
verb_among verbs word = find (λ verb. bytes_eq word (name_of verb)) verbs

-- The text of replies, each with its line feed.
use Rattle.std.specs.Prelude.{◌≤◌, ℕ, List, ◌++◌, length, codes, decimal, Result, Ok, Err}
use Rattle.edge_base.specs.declared.node.NodeType.{NodeType}
use Rattle.edge_base.specs.declared.node.NodeType.TheVariants.{File, Directory}
use Rattle.edge_base.specs.declared.refusal.Refusal.{Refusal}
use Rattle.edge_base.specs.declared.refusal.Refusal.TheVariants as no
use Rattle.edge_model.specs.declared.command.Answer.{Answer}
use Rattle.edge_model.specs.declared.command.Answer.TheVariants as a
use Rattle.edge_model.specs.declared.command.Room.{Room}
use Rattle.edge_model.specs.declared.command.Status.{Status}
use Rattle.edge_model.specs.Asked.{Reply, done, number, bytes, end, entry, status, room}
use Rattle.edge_script.specs.Bytes.{hex_of, spelling_of}

-- the number of a refusal
abbrev pub number_of : Refusal → ℕ
number_of no.NoEntry = 2
number_of no.BadDescriptor = 9
number_of no.Busy = 16
number_of no.Exists = 17
number_of no.CrossVolume = 18
number_of no.NotDir = 20
number_of no.IsDir = 21
number_of no.Invalid = 22
number_of no.NoInodes = 23
number_of no.TooManyOpen = 24
number_of no.TooBig = 27
number_of no.NoSpace = 28
number_of no.TooManyLinks = 31
number_of no.NameTooLong = 36
number_of no.NotEmpty = 39

abbrev pub letter_of : NodeType → List ℕ
letter_of File = codes "f"
letter_of Directory = codes "d"

-- ok NUMBER KIND SIZE LINKS
abbrev pub status_text : Status → List ℕ
status_text s = codes "ok " ++ decimal s.number ++ codes " " ++ letter_of s.kind ++ codes " " ++ decimal s.size ++ codes " " ++ decimal s.links ++ codes "\n"

-- ok NOW AFTER BLOCKS FREEINODES INODES
abbrev pub room_text : Room → List ℕ
room_text r = codes "ok " ++ decimal r.now ++ codes " " ++ decimal r.after ++ codes " " ++ decimal r.blocks ++ codes " "
    ++ decimal r.free_inodes ++ codes " " ++ decimal r.inodes ++ codes "\n"

-- the text of a reply
abbrev pub reply_text : Reply → List ℕ
reply_text done = codes "ok\n"
reply_text (number n) = codes "ok " ++ decimal n ++ codes "\n"
reply_text (bytes list) = codes "data " ++ hex_of list ++ codes "\n"
reply_text end = codes "end\n"
reply_text (entry n name) = codes "ok " ++ decimal n ++ codes " " ++ spelling_of name ++ codes "\n"
reply_text (status s) = status_text s
reply_text (room r) = room_text r

-- the same, or the refusal
abbrev pub answer_text : Result Reply Refusal → List ℕ
answer_text (Ok reply) = reply_text reply
answer_text (Err refusal) = codes "no " ++ decimal (number_of refusal) ++ codes "\n"

-- of a line that spells no command
abbrev pub bad_text : List ℕ
bad_text = codes "bad\n"

-- the buffer holds the bytes or the name that an answer tells, at most 4,096 and 252
abbrev pub HoldsTold : Answer → List ℕ → Type 0
HoldsTold (a.Bytes k) buffer = (k ≤ 4096) × (k ≤ length buffer)
HoldsTold (a.Entry n len) buffer = (len ≤ 252) × (len ≤ length buffer)
HoldsTold other buffer = Unit {0}

-- Commands and replies as values.
use Rattle.std.specs.Prelude.{ℕ, List, take, Result, Ok, Err}
use Rattle.edge_base.specs.declared.refusal.Refusal.{Refusal}
use Rattle.edge_model.specs.declared.command.Answer.{Answer}
use Rattle.edge_model.specs.declared.command.Answer.TheVariants as a
use Rattle.edge_model.specs.declared.command.Command.{Command}
use Rattle.edge_model.specs.declared.command.Command.TheVariants as c
use Rattle.edge_model.specs.declared.command.OpenFlags.{OpenFlags}
use Rattle.edge_model.specs.declared.command.Status.{Status}
use Rattle.edge_model.specs.declared.command.Room.{Room}

-- a command: paths and data are lists of bytes, and the first number is a descriptor
pub data Asked : Type 0 where
  open_file : List ℕ → OpenFlags → Asked
  close : ℕ → Asked
  read : ℕ → ℕ → Asked
  write : ℕ → List ℕ → Asked
  fill : ℕ → ℕ → ℕ → Asked
  seek : ℕ → ℕ → Asked
  truncate : ℕ → ℕ → Asked
  fsync : ℕ → Asked
  link : List ℕ → List ℕ → Asked
  unlink : List ℕ → Asked
  rename : List ℕ → List ℕ → Asked
  make_dir : List ℕ → Asked
  remove_dir : List ℕ → Asked
  open_dir : List ℕ → Asked
  read_dir : ℕ → Asked
  rewind : ℕ → Asked
  stat : List ℕ → Asked
  fstat : ℕ → Asked
  space : Asked
  mask : Asked
  set_mask : ℕ → Asked
  transact : Asked

-- the value of a command
abbrev pub asked : Command → Asked
asked (c.OpenFile path flags) = open_file path.now flags
asked (c.Close h) = close h
asked (c.Read h count) = read h count
asked (c.Write h content) = write h content.now
asked (c.Fill h count byte) = fill h count byte
asked (c.Seek h to) = seek h to
asked (c.Truncate h size) = truncate h size
asked (c.Fsync h) = fsync h
asked (c.Link path to) = link path.now to.now
asked (c.Unlink path) = unlink path.now
asked (c.Rename path to) = rename path.now to.now
asked (c.MakeDir path) = make_dir path.now
asked (c.RemoveDir path) = remove_dir path.now
asked (c.OpenDir path) = open_dir path.now
asked (c.ReadDir h) = read_dir h
asked (c.Rewind h) = rewind h
asked (c.Stat path) = stat path.now
asked (c.Fstat h) = fstat h
asked c.Space = space
asked c.Mask = mask
asked (c.SetMask events) = set_mask events
asked c.Transact = transact

-- what a command that is not refused replies
pub data Reply : Type 0 where
  done : Reply
  number : ℕ → Reply
  bytes : List ℕ → Reply
  end : Reply
  entry : ℕ → List ℕ → Reply
  status : Status → Reply
  room : Room → Reply

-- what an answer tells, with the bytes at the front of the buffer
abbrev pub told_by : Answer → List ℕ → Result Reply Refusal
told_by a.Done buffer = Ok done
told_by (a.Number n) buffer = Ok (number n)
told_by (a.Bytes k) buffer = Ok (bytes (take k buffer))
told_by a.End buffer = Ok end
told_by (a.Entry n len) buffer = Ok (entry n (take len buffer))
told_by (a.Stat s) buffer = Ok (status s)
told_by (a.Space r) buffer = Ok (room r)
told_by (a.No e) buffer = Err e

-- The command that a line spells, as a function of the line.
use Rattle.std.specs.Prelude.{ℕ, ◌==◌, nat_le, if◌then◌else◌, List, [], ◌∷◌, length, Option, Some, None, option_map}
use Rattle.std.specs.Option.{option_or}
use Rattle.edge_model.specs.Asked as c
use Rattle.edge_model.specs.Asked.{Asked}
use Rattle.edge_script.specs.declared.verb.Verb.{Verb}
use Rattle.edge_script.specs.declared.verb.Verb.TheVariants as v
use Rattle.edge_script.specs.Numbers.{Word, number_in, greatest_u32, greatest_u64, most_read, most_filled}
use Rattle.edge_script.specs.Bytes.{path_in, hex_in, byte_in}
use Rattle.edge_script.specs.Flags.{flags_in}
use Rattle.edge_script.specs.Verbs.{file_verbs, other_verbs, verb_among}
use Rattle.edge_script.specs.Commands.{most_line}

-- ---- the first space

abbrev pub behind_byte : ℕ → Option (Word × List ℕ) → Option (Word × List ℕ)
behind_byte b None = None
behind_byte b (Some parts) = Some (b ∷ parts.0, parts.1)

-- the bytes before the first space, and those behind it
abbrev pub split_at_space : List ℕ → Option (Word × List ℕ)
split_at_space [] = None
split_at_space (b ∷ bytes) = if b == 32 then Some ([], bytes) else behind_byte b (split_at_space bytes)

-- ---- the words behind the first

abbrev pub both : {A B C : Type 0} → (A → B → C) → Option A → Option B → Option C
both make None second = None
both make (Some x) None = None
both make (Some x) (Some y) = Some (make x y)

abbrev pub two_parts : {A B C : Type 0} → (A → B → C) → (Word → Option A) → (List ℕ → Option B) → Option (Word × List ℕ) → Option C
two_parts make first second None = None
two_parts make first second (Some parts) = both make (first parts.0) (second parts.1)

-- what the word before the first space is read as, and the rest
abbrev pub two : {A B C : Type 0} → (A → B → C) → (Word → Option A) → (List ℕ → Option B) → List ℕ → Option C
two make first second text = two_parts make first second (split_at_space text)

abbrev pub descriptor_in : Word → Option ℕ
descriptor_in = number_in 0 greatest_u32

abbrev pub size_in : Word → Option ℕ
size_in = number_in 0 greatest_u64

-- how often, and which byte
abbrev pub filling_in : List ℕ → Option (ℕ × ℕ)
filling_in = two (λ (n : ℕ) (b : ℕ). (n, b)) (number_in 1 most_filled) byte_in

abbrev pub two_paths_in : List ℕ → Option (List ℕ × List ℕ)
two_paths_in = two (λ (path : List ℕ) (to : List ℕ). (path, to)) path_in path_in

-- ---- commands

abbrev pub verb_in : Word → Option Verb
verb_in word = option_or (verb_among file_verbs word) (verb_among other_verbs word)

-- the command of a verb with nothing behind it
abbrev pub alone : Option Verb → Option Asked
alone (Some v.Space) = Some c.space
alone (Some v.Mask) = Some c.mask
alone (Some v.Transact) = Some c.transact
alone other = None

-- the command of a verb and what stands behind it and a space
abbrev pub command_of : Verb → List ℕ → Option Asked
command_of v.Open text = two c.open_file path_in flags_in text
command_of v.Close text = option_map c.close (descriptor_in text)
command_of v.Read text = two c.read descriptor_in (number_in 1 most_read) text
command_of v.Write text = two c.write descriptor_in hex_in text
command_of v.Fill text = two (λ h filling. c.fill h filling.0 filling.1) descriptor_in filling_in text
command_of v.Seek text = two c.seek descriptor_in size_in text
command_of v.Truncate text = two c.truncate descriptor_in size_in text
command_of v.Fsync text = option_map c.fsync (descriptor_in text)
command_of v.Link text = two c.link path_in path_in text
command_of v.Unlink text = option_map c.unlink (path_in text)
command_of v.Rename text = two c.rename path_in path_in text
command_of v.MakeDir text = option_map c.make_dir (path_in text)
command_of v.RemoveDir text = option_map c.remove_dir (path_in text)
command_of v.OpenDir text = option_map c.open_dir (path_in text)
command_of v.ReadDir text = option_map c.read_dir (descriptor_in text)
command_of v.Rewind text = option_map c.rewind (descriptor_in text)
command_of v.Stat text = option_map c.stat (path_in text)
command_of v.Fstat text = option_map c.fstat (descriptor_in text)
command_of v.Space text = None
command_of v.Mask text = None
command_of v.SetMask text = option_map c.set_mask (number_in 0 greatest_u32 text)
command_of v.Transact text = None

abbrev pub with_verb : Option Verb → List ℕ → Option Asked
with_verb None text = None
with_verb (Some verb) text = command_of verb text

abbrev pub by_parts : List ℕ → Option (Word × List ℕ) → Option Asked
by_parts line None = alone (verb_in line)
by_parts line (Some parts) = with_verb (verb_in parts.0) parts.1

unfoldable pub command_of_bytes : List ℕ → Option Asked
command_of_bytes line = by_parts line (split_at_space line)

-- the command that a line spells
abbrev pub command_in : List ℕ → Option Asked
command_in line = if nat_le (length line) most_line then command_of_bytes line else None

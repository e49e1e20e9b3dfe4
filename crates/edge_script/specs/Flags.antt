-- The letters with which a file is opened.
use Rattle.std.specs.Prelude.{◌≡◌, ◌≤◌, ℕ, ◌==◌, ◌&&◌, not, Bool, true, IsTrue, nat_le, if◌then◌else◌, [], ◌∷◌, length, codes, Option, Some, None}
use Rattle.std.specs.List.{list_any, list_all}
use Rattle.edge_model.specs.declared.command.OpenFlags.{OpenFlags}
use Rattle.edge_script.specs.Numbers.{Word}

-- whether a word has a byte
abbrev pub has_byte : ℕ → Word → Bool
has_byte b word = list_any (λ x. x == b) word

-- the letters of the six flags
abbrev pub flag_letters : Word
flag_letters = codes "rwcxta"

-- no byte stands twice
abbrev pub are_different : Word → Bool
are_different [] = true
are_different (b ∷ word) = not (has_byte b word) && are_different word

-- a flag is set where its letter is there
abbrev pub flags_of : Word → OpenFlags
flags_of word = record {
  read = has_byte 114 word;
  write = has_byte 119 word;
  create = has_byte 99 word;
  exclusive = has_byte 120 word;
  truncate = has_byte 116 word;
  append = has_byte 97 word;
}

-- A word spells flags: one to six different letters, in any order.
pub record SpellsFlags (word : Word) (flags : OpenFlags) : Type 0 where
  pub some : 1 ≤ length word
  pub few : length word ≤ 6
  pub letters : IsTrue (list_all (λ b. has_byte b flag_letters) word)
  pub different : IsTrue (are_different word)
  pub flags_are : flags ≡ flags_of word

-- the same as a test, and the flags
abbrev pub is_flags : Word → Bool
is_flags word = nat_le 1 (length word) && nat_le (length word) 6 && list_all (λ b. has_byte b flag_letters) word && are_different word

abbrev pub flags_in : Word → Option OpenFlags
flags_in word = if is_flags word then Some (flags_of word) else None

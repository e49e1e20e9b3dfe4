-- The commands of a script, and which lines spell each.
use Rattle.std.specs.Prelude.{◌≡◌, ◌≤◌, ℕ, Bool, ◌||◌, IsTrue, List, [], ◌∷◌, ◌++◌, length, codes}
use Rattle.std.specs.List.{AllByRecursion}
use Rattle.edge_model.specs.declared.command.OpenFlags.{OpenFlags}
use Rattle.edge_model.specs.Asked as c
use Rattle.edge_model.specs.Asked.{Asked}
use Rattle.edge_script.specs.Numbers.{Word, SpellsWithin, greatest_u32, greatest_u64, most_read, most_filled}
use Rattle.edge_script.specs.Bytes.{SpellsPath, SpellsHex, SpellsByte}
use Rattle.edge_script.specs.Flags.{SpellsFlags}

-- ---- words

abbrev pub SpellsDescriptor : Word → ℕ → Type 0
SpellsDescriptor = SpellsWithin 0 greatest_u32

abbrev pub SpellsSize : Word → ℕ → Type 0
SpellsSize = SpellsWithin 0 greatest_u64

-- ---- the words of each command

-- These words are this command: a row of the grammar each.
pub data IsCommand : List Word → Asked → Type 0 where
  is_open : {p f : Word} {path : List ℕ} {flags : OpenFlags} → SpellsPath p path → SpellsFlags f flags
      → IsCommand (codes "open" ∷ p ∷ f ∷ []) (c.open_file path flags)
  is_close : {w : Word} {h : ℕ} → SpellsDescriptor w h
      → IsCommand (codes "close" ∷ w ∷ []) (c.close h)
  is_read : {w k : Word} {h n : ℕ} → SpellsDescriptor w h → SpellsWithin 1 most_read k n
      → IsCommand (codes "read" ∷ w ∷ k ∷ []) (c.read h n)
  is_write : {w x : Word} {h : ℕ} {bytes : List ℕ} → SpellsDescriptor w h → SpellsHex x bytes
      → IsCommand (codes "write" ∷ w ∷ x ∷ []) (c.write h bytes)
  is_fill : {w k x : Word} {h n b : ℕ} → SpellsDescriptor w h → SpellsWithin 1 most_filled k n → SpellsByte x b
      → IsCommand (codes "fill" ∷ w ∷ k ∷ x ∷ []) (c.fill h n b)
  is_seek : {w k : Word} {h n : ℕ} → SpellsDescriptor w h → SpellsSize k n
      → IsCommand (codes "seek" ∷ w ∷ k ∷ []) (c.seek h n)
  is_truncate : {w k : Word} {h n : ℕ} → SpellsDescriptor w h → SpellsSize k n
      → IsCommand (codes "truncate" ∷ w ∷ k ∷ []) (c.truncate h n)
  is_fsync : {w : Word} {h : ℕ} → SpellsDescriptor w h
      → IsCommand (codes "fsync" ∷ w ∷ []) (c.fsync h)
  is_link : {p q : Word} {path to : List ℕ} → SpellsPath p path → SpellsPath q to
      → IsCommand (codes "link" ∷ p ∷ q ∷ []) (c.link path to)
  is_unlink : {p : Word} {path : List ℕ} → SpellsPath p path
      → IsCommand (codes "unlink" ∷ p ∷ []) (c.unlink path)
  is_rename : {p q : Word} {path to : List ℕ} → SpellsPath p path → SpellsPath q to
      → IsCommand (codes "rename" ∷ p ∷ q ∷ []) (c.rename path to)
  is_make_dir : {p : Word} {path : List ℕ} → SpellsPath p path
      → IsCommand (codes "mkdir" ∷ p ∷ []) (c.make_dir path)
  is_remove_dir : {p : Word} {path : List ℕ} → SpellsPath p path
      → IsCommand (codes "rmdir" ∷ p ∷ []) (c.remove_dir path)
  is_open_dir : {p : Word} {path : List ℕ} → SpellsPath p path
      → IsCommand (codes "opendir" ∷ p ∷ []) (c.open_dir path)
  is_read_dir : {w : Word} {h : ℕ} → SpellsDescriptor w h
      → IsCommand (codes "readdir" ∷ w ∷ []) (c.read_dir h)
  is_rewind : {w : Word} {h : ℕ} → SpellsDescriptor w h
      → IsCommand (codes "rewind" ∷ w ∷ []) (c.rewind h)
  is_stat : {p : Word} {path : List ℕ} → SpellsPath p path
      → IsCommand (codes "stat" ∷ p ∷ []) (c.stat path)
  is_fstat : {w : Word} {h : ℕ} → SpellsDescriptor w h
      → IsCommand (codes "fstat" ∷ w ∷ []) (c.fstat h)
  is_space : IsCommand (codes "space" ∷ []) c.space
  is_mask : IsCommand (codes "mask" ∷ []) c.mask
  is_set_mask : {k : Word} {n : ℕ} → SpellsWithin 0 greatest_u32 k n
      → IsCommand (codes "setmask" ∷ k ∷ []) (c.set_mask n)
  is_transact : IsCommand (codes "transact" ∷ []) c.transact

-- ---- lines

-- words with one space between them
abbrev pub line_of : List Word → List ℕ
line_of [] = []
line_of (word ∷ []) = word
line_of (word ∷ next ∷ words) = word ++ 32 ∷ line_of (next ∷ words)

-- the most bytes of a line that spells a command
abbrev pub most_line : ℕ
most_line = 8209

-- A line spells a command: it is the command's words with one space between them, and has at most 8,209 bytes.
pub record SpellsCommand (line : List ℕ) (command : Asked) : Type 0 where
  pub words : List Word
  pub are_words : IsCommand words command
  pub line_is : line ≡ line_of words
  pub short : length line ≤ most_line

-- ---- which commands have a line

-- a path of 1 to 255 bytes, none of them zero
pub record HasWord (path : List ℕ) : Type 0 where
  pub some : 1 ≤ length path
  pub few : length path ≤ 255
  pub bytes : AllByRecursion (λ (b : ℕ). (1 ≤ b) × (b ≤ 255)) path

pub record HasDigits (bytes : List ℕ) : Type 0 where
  pub some : 1 ≤ length bytes
  pub few : length bytes ≤ most_read
  pub are_bytes : AllByRecursion (λ (b : ℕ). b ≤ 255) bytes

abbrev pub any_flag : OpenFlags → Bool
any_flag f = f.read || f.write || f.create || f.exclusive || f.truncate || f.append

-- a command within the limits of its words
abbrev pub IsSpellable : Asked → Type 0
IsSpellable (c.open_file path flags) = HasWord path × IsTrue (any_flag flags)
IsSpellable (c.close h) = h ≤ greatest_u32
IsSpellable (c.read h n) = (h ≤ greatest_u32) × (1 ≤ n) × (n ≤ most_read)
IsSpellable (c.write h bytes) = (h ≤ greatest_u32) × HasDigits bytes
IsSpellable (c.fill h n b) = (h ≤ greatest_u32) × (1 ≤ n) × (n ≤ most_filled) × (b ≤ 255)
IsSpellable (c.seek h n) = (h ≤ greatest_u32) × (n ≤ greatest_u64)
IsSpellable (c.truncate h n) = (h ≤ greatest_u32) × (n ≤ greatest_u64)
IsSpellable (c.fsync h) = h ≤ greatest_u32
IsSpellable (c.link path to) = HasWord path × HasWord to
IsSpellable (c.unlink path) = HasWord path
IsSpellable (c.rename path to) = HasWord path × HasWord to
IsSpellable (c.make_dir path) = HasWord path
IsSpellable (c.remove_dir path) = HasWord path
IsSpellable (c.open_dir path) = HasWord path
IsSpellable (c.read_dir h) = h ≤ greatest_u32
IsSpellable (c.rewind h) = h ≤ greatest_u32
IsSpellable (c.stat path) = HasWord path
IsSpellable (c.fstat h) = h ≤ greatest_u32
IsSpellable c.space = Unit {0}
IsSpellable c.mask = Unit {0}
IsSpellable (c.set_mask n) = n ≤ greatest_u32
IsSpellable c.transact = Unit {0}

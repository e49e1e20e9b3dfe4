-- Each command within its limits has a line.
use Rattle.std.proofs.Common.{◌≡◌, ℕ, ◌+◌, ◌*◌, ◌/◌, ◌%◌, ◌<◌, ◌≤◌, Bool, true, false, ◌&&◌, ◌||◌, cond, IsTrue, List, [], ◌∷◌, ◌++◌, length, Some, None, refl, sym, ap, ◌∙◌, arith, length-append}
use Rattle.std.specs.Fmt.{decimal}
use Rattle.std.specs.List.{AllByRecursion}
use Rattle.std.specs.Prelude.{not}
use Rattle.std.proofs.lemmas.Bool.Decides.{nat_tests}
use Rattle.std.proofs.lemmas.Fmt.{length-decimal-le}
use Rattle.edge_model.specs.declared.command.OpenFlags.{OpenFlags}
use Rattle.edge_model.specs.Asked as c
use Rattle.edge_model.specs.Asked.{Asked}
use Rattle.edge_script.proofs.Tests.{and_parts}
use Rattle.edge_script.proofs.FlagLaws.{flags_spelled}
use Rattle.edge_script.specs.Numbers.{Word, SpellsWithin, greatest_u32, greatest_u64, most_filled}
use Rattle.edge_script.specs.Bytes.{digit_value, digit_of, pair_value, pair_of, joined, is_plain, spelled_byte, spelling_of, hex_of, SpellsPairs, no_pair, pair, SpellsBytes, no_byte, plain, escaped, SpellsPath}
use Rattle.edge_script.specs.Flags.{SpellsFlags, flags_of, is_flags}
use Rattle.edge_script.specs.Commands
use Rattle.edge_script.specs.Commands.{IsCommand, SpellsCommand, line_of, most_line, HasWord, HasDigits, any_flag, IsSpellable}

-- ---- bytes

digit_read : (d : ℕ) → d < 16 → digit_value (digit_of d) ≡ Some d
digit_read d h = grind (arith, nat_tests)

pair_read : (b : ℕ) → b ≤ 255 → pair_value (digit_of (b / 16)) (digit_of (b % 16)) ≡ Some b
pair_read b h =
    (λ i. joined (digit_read (b / 16) (omega arith) i) (digit_read (b % 16) (omega arith) i))
    ∙ ap Some (let whole : 16 * (b / 16) + b % 16 ≡ b = omega arith in whole)

pub pairs_of : (bytes : List ℕ) → AllByRecursion (λ (b : ℕ). b ≤ 255) bytes → SpellsPairs (hex_of bytes) bytes
pairs_of [] h = no_pair
pairs_of (b ∷ bytes) h = pair (digit_of (b / 16)) (digit_of (b % 16)) b (pair_read b h.0) (pairs_of bytes h.1)

bytes_of : (path : List ℕ) → AllByRecursion (λ (b : ℕ). (1 ≤ b) × (b ≤ 255)) path → SpellsBytes (spelling_of path) path
bytes_of [] h = no_byte
bytes_of (b ∷ path) h = go (bytes_of path h.1) (is_plain b) refl
  where
    go : SpellsBytes (spelling_of path) path → (t : Bool) → is_plain b ≡ t → SpellsBytes (cond t (b ∷ []) (37 ∷ pair_of b) ++ spelling_of path) (b ∷ path)
    go rest true is = plain b is rest
    go rest false is = escaped (digit_of (b / 16)) (digit_of (b % 16)) b (pair_read b h.0.1) (λ zero. let some = h.0.0 in omega arith) rest

pub hex_long : (bytes : List ℕ) → length (hex_of bytes) ≡ 2 * length bytes
hex_long [] = refl
hex_long (b ∷ bytes) = let rest = hex_long bytes in omega arith

byte_long : (b : ℕ) → length (spelled_byte b) ≤ 3
byte_long b = go (is_plain b)
  where
    go : (t : Bool) → length (cond t (b ∷ []) (37 ∷ pair_of b)) ≤ 3
    go true = omega arith
    go false = omega arith

path_long : (path : List ℕ) → length (spelling_of path) ≤ 3 * length path
path_long [] = omega arith
path_long (b ∷ path) =
    let rest = path_long path in
    let first = byte_long b in
    let whole = length-append (spelled_byte b) (spelling_of path) in
    omega arith

-- ---- flags

letter : Bool → ℕ → List ℕ
letter true b = b ∷ []
letter false b = []

abbrev letters_of : OpenFlags → Word
letters_of f = letter f.read 114 ++ letter f.write 119 ++ letter f.create 99 ++ letter f.exclusive 120 ++ letter f.truncate 116 ++ letter f.append 97

same_bool : Bool → Bool → Bool
same_bool true b = b
same_bool false b = not b

abbrev same_flags : OpenFlags → OpenFlags → Bool
same_flags f g = same_bool f.read g.read && same_bool f.write g.write && same_bool f.create g.create
    && same_bool f.exclusive g.exclusive && same_bool f.truncate g.truncate && same_bool f.append g.append

abbrev flags : Bool → Bool → Bool → Bool → Bool → Bool → OpenFlags
flags r w n x t a = record { read = r; write = w; create = n; exclusive = x; truncate = t; append = a }

abbrev has_letters : OpenFlags → Bool
has_letters f = not (any_flag f) || (is_flags (letters_of f) && same_flags (flags_of (letters_of f)) f)

abbrev every : (Bool → Bool) → Bool
every p = p true && p false

each : (p : Bool → Bool) → every p ≡ true → (b : Bool) → p b ≡ true
each p e true = (and_parts (p true) (p false) e).0
each p e false = (and_parts (p true) (p false) e).1

have_letters : (r w n x t a : Bool) → has_letters (flags r w n x t a) ≡ true
unfolding letter same_bool
have_letters r w n x t a =
    each (λ a. has_letters (flags r w n x t a))
    (each (λ t. every (λ a. has_letters (flags r w n x t a)))
    (each (λ x. every (λ t. every (λ a. has_letters (flags r w n x t a))))
    (each (λ n. every (λ x. every (λ t. every (λ a. has_letters (flags r w n x t a)))))
    (each (λ w. every (λ n. every (λ x. every (λ t. every (λ a. has_letters (flags r w n x t a))))))
    (each (λ r. every (λ w. every (λ n. every (λ x. every (λ t. every (λ a. has_letters (flags r w n x t a)))))))
    refl r) w) n) x) t) a

same_bool-is : (a b : Bool) → same_bool a b ≡ true → a ≡ b
unfolding same_bool
same_bool-is true b e = sym e
same_bool-is false true e = absurd (cc)
same_bool-is false false e = refl

same_flags-is : (f g : OpenFlags) → same_flags f g ≡ true → f ≡ g
same_flags-is f g e =
    let a = and_parts _ (same_bool f.append g.append) e in
    let t = and_parts _ (same_bool f.truncate g.truncate) a.0 in
    let x = and_parts _ (same_bool f.exclusive g.exclusive) t.0 in
    let n = and_parts _ (same_bool f.create g.create) x.0 in
    let w = and_parts (same_bool f.read g.read) (same_bool f.write g.write) n.0 in
    λ i. record {
      read = same_bool-is f.read g.read w.0 i;
      write = same_bool-is f.write g.write w.1 i;
      create = same_bool-is f.create g.create n.1 i;
      exclusive = same_bool-is f.exclusive g.exclusive x.1 i;
      truncate = same_bool-is f.truncate g.truncate t.1 i;
      append = same_bool-is f.append g.append a.1 i;
    }

implied : (a b : Bool) → IsTrue a → (not a || b) ≡ true → b ≡ true
implied true b h e = e
implied false b h e = absurd (cc)

letters_spell : (f : OpenFlags) → IsTrue (any_flag f) → SpellsFlags (letters_of f) f
letters_spell f some =
    let both = and_parts (is_flags (letters_of f)) (same_flags (flags_of (letters_of f)) f)
    (implied (any_flag f) _ some (have_letters f.read f.write f.create f.exclusive f.truncate f.append)) in
    flags_spelled (letters_of f) f (ap (λ t. cond t (Some (flags_of (letters_of f))) None) both.0 ∙ ap Some (same_flags-is (flags_of (letters_of f)) f both.1))

letter_long : (t : Bool) (b : ℕ) → length (letter t b) ≤ 1
unfolding letter
letter_long true b = omega arith
letter_long false b = omega arith

-- ---- lines

half_long : (n : ℕ) → n ≤ greatest_u32 → length (decimal n) ≤ 10
half_long n h = length-decimal-le 10 n (omega arith) (omega arith) (omega arith)

word_long : (n : ℕ) → n ≤ greatest_u64 → length (decimal n) ≤ 20
word_long n h = length-decimal-le 20 n (omega arith) (omega arith) (omega arith)

abbrev HasLine : Asked → Type 0
HasLine command = (line : List ℕ) × SpellsCommand line command

one_line : (name w : Word) (command : Asked) → IsCommand (name ∷ w ∷ []) command → length name ≤ 8 → length w ≤ 800 → HasLine command
one_line name w command is short few =
    let long = length-append name (32 ∷ w) in
    (line_of (name ∷ w ∷ []), record { words = name ∷ w ∷ []; are_words = is; line_is = refl; short = omega arith })

two_line : (name w x : Word) (command : Asked) → IsCommand (name ∷ w ∷ x ∷ []) command → length name + length w + length x ≤ 8207 → HasLine command
two_line name w x command is few =
    let behind = length-append w (32 ∷ x) in
    let long = length-append name (32 ∷ w ++ 32 ∷ x) in
    (line_of (name ∷ w ∷ x ∷ []), record { words = name ∷ w ∷ x ∷ []; are_words = is; line_is = refl; short = omega arith })

number : {least most : ℕ} (n : ℕ) → least ≤ n → n ≤ most → SpellsWithin least most (decimal n) n
number n low high = record { digits = refl; from = low; to = high }

half : (n : ℕ) → n ≤ greatest_u32 → SpellsWithin 0 greatest_u32 (decimal n) n
half n h = number n (omega arith) h

path_of : (path : List ℕ) → HasWord path → SpellsPath (spelling_of path) path
path_of path h = record { bytes = bytes_of path h.bytes; some = h.some }

path_short : (path : List ℕ) → HasWord path → length (spelling_of path) ≤ 765
path_short path h = let few = h.few in let long = path_long path in omega arith

two_paths : (name : Word) (path to : List ℕ) (command : Asked) → IsCommand (name ∷ spelling_of path ∷ spelling_of to ∷ []) command → length name ≤ 8
    → HasWord path → HasWord to → HasLine command
two_paths name path to command is short one two =
    let a = path_short path one in
    let b = path_short to two in
    two_line name (spelling_of path) (spelling_of to) command is (omega arith)

one_path : (name : Word) (path : List ℕ) (command : Asked) → IsCommand (name ∷ spelling_of path ∷ []) command → length name ≤ 8 → HasWord path → HasLine command
one_path name path command is short one = one_line name (spelling_of path) command is short (let a = path_short path one in omega arith)

one_half : (name : Word) (n : ℕ) (command : Asked) → IsCommand (name ∷ decimal n ∷ []) command → length name ≤ 8 → n ≤ greatest_u32 → HasLine command
one_half name n command is short one = one_line name (decimal n) command is short (let a = half_long n one in omega arith)

two_numbers : (name : Word) (h n : ℕ) (command : Asked) → IsCommand (name ∷ decimal h ∷ decimal n ∷ []) command → length name ≤ 8 → h ≤ greatest_u32
    → n ≤ greatest_u64 → HasLine command
two_numbers name h n command is short one two =
    let a = half_long h one in
    let b = word_long n two in
    two_line name (decimal h) (decimal n) command is (omega arith)

open_line : (path : List ℕ) (f : OpenFlags) → HasWord path → IsTrue (any_flag f) → HasLine (c.open_file path f)
open_line path f one some =
    let a = path_short path one in
    let letters = letters_spell f some in
    let few = letters.few in
    two_line _ (spelling_of path) (letters_of f) (c.open_file path f) (Commands.is_open (path_of path one) letters) (omega arith)

write_line : (h : ℕ) (bytes : List ℕ) → h ≤ greatest_u32 → HasDigits bytes → HasLine (c.write h bytes)
write_line h bytes one has =
    let a = half_long h one in
    let b = hex_long bytes in
    let few = has.few in
    two_line _ (decimal h) (hex_of bytes) (c.write h bytes)
    (Commands.is_write (half h one) (record { pairs = pairs_of bytes has.are_bytes; some = has.some; few = has.few })) (omega arith)

fill_line : (h n b : ℕ) → h ≤ greatest_u32 → 1 ≤ n → n ≤ most_filled → b ≤ 255 → HasLine (c.fill h n b)
fill_line h n b one low high byte =
    let words = name_fill ∷ decimal h ∷ decimal n ∷ pair_of b ∷ [] in
    let x = half_long h one in
    let y = word_long n (omega arith) in
    let last = length-append (decimal n) (32 ∷ pair_of b) in
    let behind = length-append (decimal h) (32 ∷ decimal n ++ 32 ∷ pair_of b) in (
      line_of words,
      record {
        words = words;
        are_words = Commands.is_fill (half h one) (number n low high) (pair (digit_of (b / 16)) (digit_of (b % 16)) b (pair_read b byte) no_pair);
        line_is = refl;
        short = omega arith;
      },
    )
  where
    name_fill : Word
    name_fill = 102 ∷ 105 ∷ 108 ∷ 108 ∷ []

pub has_line : (command : Asked) → IsSpellable command → HasLine command
has_line (c.open_file path f) h = open_line path f h.0 h.1
has_line (c.close n) h = one_half _ n (c.close n) (Commands.is_close (half n h)) (omega arith) h
has_line (c.read n count) h = two_numbers _ n count (c.read n count) (Commands.is_read (half n h.0) (number count h.1 h.2)) (omega arith) h.0
    (let few = h.2 in omega arith)
has_line (c.write n bytes) h = write_line n bytes h.0 h.1
has_line (c.fill n count b) h = fill_line n count b h.0 h.1 h.2 h.3
has_line (c.seek n to) h = two_numbers _ n to (c.seek n to) (Commands.is_seek (half n h.0) (number to (omega arith) h.1)) (omega arith) h.0 h.1
has_line (c.truncate n to) h = two_numbers _ n to (c.truncate n to) (Commands.is_truncate (half n h.0) (number to (omega arith) h.1)) (omega arith) h.0 h.1
has_line (c.fsync n) h = one_half _ n (c.fsync n) (Commands.is_fsync (half n h)) (omega arith) h
has_line (c.link path to) h = two_paths _ path to (c.link path to) (Commands.is_link (path_of path h.0) (path_of to h.1)) (omega arith) h.0 h.1
has_line (c.unlink path) h = one_path _ path (c.unlink path) (Commands.is_unlink (path_of path h)) (omega arith) h
has_line (c.rename path to) h = two_paths _ path to (c.rename path to) (Commands.is_rename (path_of path h.0) (path_of to h.1)) (omega arith) h.0 h.1
has_line (c.make_dir path) h = one_path _ path (c.make_dir path) (Commands.is_make_dir (path_of path h)) (omega arith) h
has_line (c.remove_dir path) h = one_path _ path (c.remove_dir path) (Commands.is_remove_dir (path_of path h)) (omega arith) h
has_line (c.open_dir path) h = one_path _ path (c.open_dir path) (Commands.is_open_dir (path_of path h)) (omega arith) h
has_line (c.read_dir n) h = one_half _ n (c.read_dir n) (Commands.is_read_dir (half n h)) (omega arith) h
has_line (c.rewind n) h = one_half _ n (c.rewind n) (Commands.is_rewind (half n h)) (omega arith) h
has_line (c.stat path) h = one_path _ path (c.stat path) (Commands.is_stat (path_of path h)) (omega arith) h
has_line (c.fstat n) h = one_half _ n (c.fstat n) (Commands.is_fstat (half n h)) (omega arith) h
has_line c.space h = (_, record { words = _; are_words = Commands.is_space; line_is = refl; short = omega arith })
has_line c.mask h = (_, record { words = _; are_words = Commands.is_mask; line_is = refl; short = omega arith })
has_line (c.set_mask n) h = one_half _ n (c.set_mask n) (Commands.is_set_mask (half n h)) (omega arith) h
has_line c.transact h = (_, record { words = _; are_words = Commands.is_transact; line_is = refl; short = omega arith })

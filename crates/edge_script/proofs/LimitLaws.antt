-- The commands that lines spell are of bytes, and within their limits.
use Rattle.std.proofs.Common.{◌≡◌, ℕ, ◌+◌, ◌-◌, ◌*◌, ◌<◌, ◌≤◌, Bool, true, false, ◌&&◌, cond, IsTrue, List, ◌⊎◌, inl, inr, ⊎_elim, Option, Some, None, refl, arith}
use Rattle.std.specs.Prelude.{nat_le}
use Rattle.std.proofs.lemmas.Bool.{leb-true}
use Rattle.std.proofs.lemmas.Bool.Decides.{nat_tests}
use Rattle.std.proofs.lemmas.List.Elements.{All-nil, All-cons}
use Rattle.edge_model.specs.Asked.{Asked}
use Rattle.edge_model.specs.Asking.{IsInLimits}
use Rattle.edge_model.specs.Bytes.{AreBytes, IsOfBytes, IsLineOfBytes}
use Rattle.edge_script.specs.Numbers.{Word}
use Rattle.edge_script.specs.Bytes.{digit_value, pair_value, joined, SpellsPairs, no_pair, pair, SpellsByte, is_plain, SpellsBytes, no_byte, plain, escaped}
use Rattle.edge_script.specs.Commands.{IsCommand, is_open, is_close, is_read, is_write, is_fill, is_seek, is_truncate, is_fsync, is_link, is_unlink, is_rename, is_make_dir, is_remove_dir, is_open_dir, is_read_dir, is_rewind, is_stat, is_fstat, is_space, is_mask, is_set_mask, is_transact}
use Rattle.edge_script.specs.Reading.{command_in}
use Rattle.edge_script.proofs.CommandLaws.{command_spelled}
use Rattle.edge_script.proofs.Tests.{and_parts}

-- ---- digits

picked : (test : Bool) (y x : ℕ) (rest : Option ℕ) → cond test (Some y) rest ≡ Some x → ((test ≡ true) × (y ≡ x)) ⊎ (rest ≡ Some x)
picked true y x rest e = inl (refl, (cc))
picked false y x rest e = inr e

between : (low high b : ℕ) → (nat_le low b && nat_le b high) ≡ true → (low ≤ b) × (b ≤ high)
between low high b h = let parts = and_parts (nat_le low b) (nat_le b high) h in (leb-true low b parts.0, leb-true b high parts.1)

digit_low : (b x : ℕ) → digit_value b ≡ Some x → x < 16
digit_low b x e = ⊎_elim
    (λ (one : ((nat_le 48 b && nat_le b 57) ≡ true) × (b - 48 ≡ x)). let range = between 48 57 b one.0 in let is = one.1 in omega arith)
    (λ later. ⊎_elim
    (λ (two : ((nat_le 65 b && nat_le b 70) ≡ true) × (b - 55 ≡ x)). let range = between 65 70 b two.0 in let is = two.1 in omega arith)
    (λ last. ⊎_elim
    (λ (three : ((nat_le 97 b && nat_le b 102) ≡ true) × (b - 87 ≡ x)). let range = between 97 102 b three.0 in let is = three.1 in omega arith)
    (λ (none : None ≡ Some x). absurd (cc))
    (picked (nat_le 97 b && nat_le b 102) (b - 87) x None last))
    (picked (nat_le 65 b && nat_le b 70) (b - 55) x _ later))
    (picked (nat_le 48 b && nat_le b 57) (b - 48) x _ e)

pair_low : (high low b : ℕ) → pair_value high low ≡ Some b → b < 256
pair_low high low b e = by (digit_value high) (digit_value low) refl refl e
  where
    by : (x y : Option ℕ) → digit_value high ≡ x → digit_value low ≡ y → joined x y ≡ Some b → b < 256
    by None y one two j = absurd (cc)
    by (Some h) None one two j = absurd (cc)
    by (Some h) (Some l) one two j =
        let few = digit_low high h one in
        let less = digit_low low l two in
        let is : 16 * h + l ≡ b = cc in
        omega arith

-- ---- bytes

plain_low : (b : ℕ) → IsTrue (is_plain b) → b < 256
plain_low b h = grind (arith, nat_tests)

pairs_low : {word : Word} {bytes : List ℕ} → SpellsPairs word bytes → AreBytes bytes
pairs_low no_pair = All-nil (λ byte. byte < 256)
pairs_low (pair {word} {bytes} high low b is rest) = All-cons (λ byte. byte < 256) b bytes (pair_low high low b is) (pairs_low rest)

byte_low : {word : Word} {b : ℕ} → SpellsByte word b → b < 256
byte_low (pair high low b is no_pair) = pair_low high low b is

bytes_low : {word : Word} {bytes : List ℕ} → SpellsBytes word bytes → AreBytes bytes
bytes_low no_byte = All-nil (λ byte. byte < 256)
bytes_low (plain {word} {bytes} b is rest) = All-cons (λ byte. byte < 256) b bytes (plain_low b is) (bytes_low rest)
bytes_low (escaped {word} {bytes} high low b is some rest) = All-cons (λ byte. byte < 256) b bytes (pair_low high low b is) (bytes_low rest)

-- ---- commands

pub of_bytes : {words : List Word} {command : Asked} → IsCommand words command → IsOfBytes command
of_bytes (is_open path flags) = bytes_low path.bytes
of_bytes (is_close h) = tt
of_bytes (is_read h n) = tt
of_bytes (is_write h hex) = pairs_low hex.pairs
of_bytes (is_fill h n b) = byte_low b
of_bytes (is_seek h n) = tt
of_bytes (is_truncate h n) = tt
of_bytes (is_fsync h) = tt
of_bytes (is_link path to) = (bytes_low path.bytes, bytes_low to.bytes)
of_bytes (is_unlink path) = bytes_low path.bytes
of_bytes (is_rename path to) = (bytes_low path.bytes, bytes_low to.bytes)
of_bytes (is_make_dir path) = bytes_low path.bytes
of_bytes (is_remove_dir path) = bytes_low path.bytes
of_bytes (is_open_dir path) = bytes_low path.bytes
of_bytes (is_read_dir h) = tt
of_bytes (is_rewind h) = tt
of_bytes (is_stat path) = bytes_low path.bytes
of_bytes (is_fstat h) = tt
of_bytes is_space = tt
of_bytes is_mask = tt
of_bytes (is_set_mask n) = tt
of_bytes is_transact = tt

pub in_limits : {words : List Word} {command : Asked} → IsCommand words command → IsInLimits command
in_limits (is_open path flags) = tt
in_limits (is_close h) = tt
in_limits (is_read h n) = (n.from, n.to)
in_limits (is_write h hex) = (hex.some, hex.few)
in_limits (is_fill h n b) = (n.from, n.to)
in_limits (is_seek h n) = tt
in_limits (is_truncate h n) = tt
in_limits (is_fsync h) = tt
in_limits (is_link path to) = tt
in_limits (is_unlink path) = tt
in_limits (is_rename path to) = tt
in_limits (is_make_dir path) = tt
in_limits (is_remove_dir path) = tt
in_limits (is_open_dir path) = tt
in_limits (is_read_dir h) = tt
in_limits (is_rewind h) = tt
in_limits (is_stat path) = tt
in_limits (is_fstat h) = tt
in_limits is_space = tt
in_limits is_mask = tt
in_limits (is_set_mask n) = tt
in_limits is_transact = tt

-- ---- lines

pub line_low : (line : List ℕ) → IsLineOfBytes (command_in line)
line_low line = by (command_in line) refl
  where
    by : (o : Option Asked) → command_in line ≡ o → IsLineOfBytes o
    by None e = tt
    by (Some command) e = of_bytes (command_spelled line command e).are_words

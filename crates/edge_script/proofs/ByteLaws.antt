-- A word spells bytes exactly where it is read as them.
use Rattle.std.proofs.Common.{◌≡◌, ℕ, ◌*◌, ◌≤◌, Bool, true, false, ◌&&◌, cond, eqb, IsTrue, List, [], ◌∷◌, ◌++◌, length, Option, Some, None, refl, sym, ap, ◌∙◌, subst, arith}
use Rattle.std.specs.Prelude.{nat_le, ◌≢◌}
use Rattle.std.proofs.lemmas.Bool.Decides.{nat_tests}
use Rattle.edge_script.proofs.Tests.{and_parts, chosen, le_of, of_le}
use Rattle.edge_script.specs.Numbers.{Word}
use Rattle.edge_script.specs.Bytes.{digit_value, pair_value, SpellsPairs, no_pair, pair, SpellsHex, SpellsByte, is_plain, SpellsBytes, no_byte, plain, escaped, SpellsPath, onto, pairs_in, within_read, hex_in, byte_in, plain_value, not_zero, bytes_in, path_in}
use Rattle.edge_script.specs.Reading.{split_at_space, behind_byte}

-- ---- one byte in front of others

pub record IsOnto (b : Option ℕ) (rest : Option (List ℕ)) (bytes : List ℕ) : Type 0 where
  pub first : ℕ
  pub others : List ℕ
  pub first_is : b ≡ Some first
  pub others_are : rest ≡ Some others
  pub bytes_are : first ∷ others ≡ bytes

pub onto_some : (b : Option ℕ) (rest : Option (List ℕ)) (bytes : List ℕ) → onto b rest ≡ Some bytes → IsOnto b rest bytes
onto_some None rest bytes e = absurd (cc)
onto_some (Some b) None bytes e = absurd (cc)
onto_some (Some b) (Some rest) bytes e = record { first = b; others = rest; first_is = refl; others_are = refl; bytes_are = (cc) }

-- ---- pairs

pub pairs_read : {word : Word} {bytes : List ℕ} → SpellsPairs word bytes → pairs_in word ≡ Some bytes
pairs_read no_pair = refl
pairs_read (pair high low b is rest) = λ i. onto (is i) (pairs_read rest i)

pub pairs_spelled : (word : Word) (bytes : List ℕ) → pairs_in word ≡ Some bytes → SpellsPairs word bytes
pairs_spelled [] bytes e = subst (SpellsPairs []) (nil e) no_pair
  where
    nil : Some [] ≡ Some bytes → [] ≡ bytes
    nil e = cc
pairs_spelled (high ∷ []) bytes e = absurd (cc)
pairs_spelled (high ∷ low ∷ word) bytes e =
    let o = onto_some (pair_value high low) (pairs_in word) bytes e in
    subst (SpellsPairs (high ∷ low ∷ word)) o.bytes_are (pair high low o.first o.first_is (pairs_spelled word o.others o.others_are))

pub byte_read : {word : Word} {b : ℕ} → SpellsByte word b → byte_in word ≡ Some b
byte_read (pair high low b is no_pair) = is

pub byte_spelled : (word : Word) (b : ℕ) → byte_in word ≡ Some b → SpellsByte word b
byte_spelled [] b e = absurd (cc)
byte_spelled (high ∷ []) b e = absurd (cc)
byte_spelled (high ∷ low ∷ []) b e = pair high low b e no_pair
byte_spelled (high ∷ low ∷ c ∷ word) b e = absurd (cc)

-- ---- hexadecimal digits

pub hex_read : {word : Word} {bytes : List ℕ} → SpellsHex word bytes → hex_in word ≡ Some bytes
hex_read {word} {bytes} spells =
    ap within_read (pairs_read spells.pairs)
    ∙ (λ i. cond (of_le 1 (length bytes) spells.some i && of_le (length bytes) 4096 spells.few i) (Some bytes) None)

pub hex_spelled : (word : Word) (bytes : List ℕ) → hex_in word ≡ Some bytes → SpellsHex word bytes
hex_spelled word bytes e = go (pairs_in word) refl e
  where
    go : (o : Option (List ℕ)) → pairs_in word ≡ o → within_read o ≡ Some bytes → SpellsHex word bytes
    go None is e = absurd (cc)
    go (Some some) is e =
        let c = chosen (nat_le 1 (length some) && nat_le (length some) 4096) some bytes e in
        let parts = and_parts (nat_le 1 (length some)) (nat_le (length some) 4096) c.0 in
        let read : pairs_in word ≡ Some bytes = is ∙ ap Some c.1 in
        record {
          pairs = pairs_spelled word bytes read;
          some = subst (λ (bs : List ℕ). 1 ≤ length bs) c.1 (le_of _ _ parts.0);
          few = subst (λ (bs : List ℕ). length bs ≤ 4096) c.1 (le_of _ _ parts.1);
        }

-- ---- paths

pub plain_is : (b : ℕ) → IsTrue (is_plain b) → plain_value b ≡ Some b
plain_is b h = ap (λ t. cond t (Some b) None) h

plain_no_percent : (b : ℕ) → IsTrue (is_plain b) → eqb b 37 ≡ false
plain_no_percent b h = grind (arith, nat_tests)

plain_no_space : (b : ℕ) → IsTrue (is_plain b) → eqb b 32 ≡ false
plain_no_space b h = grind (arith, nat_tests)

plain_step : (b : ℕ) (word : Word) → IsTrue (is_plain b) → bytes_in (b ∷ word) ≡ onto (Some b) (bytes_in word)
plain_step b [] h = ap (λ o. onto o (Some [])) (plain_is b h)
plain_step b (c ∷ []) h = ap (λ o. onto o (bytes_in (c ∷ []))) (plain_is b h)
plain_step b (c ∷ d ∷ word) h =
    ap (λ t. cond t (onto (not_zero (pair_value c d)) (bytes_in word)) (onto (plain_value b) (bytes_in (c ∷ d ∷ word)))) (plain_no_percent b h)
    ∙ ap (λ o. onto o (bytes_in (c ∷ d ∷ word))) (plain_is b h)

not_zero_is : (b : ℕ) → b ≢ 0 → not_zero (Some b) ≡ Some b
not_zero_is b h = ap (λ t. cond t None (Some b)) (other b h)
  where
    other : (b : ℕ) → b ≢ 0 → eqb b 0 ≡ false
    other b h = grind (arith, nat_tests)

pub bytes_read : {word : Word} {bytes : List ℕ} → SpellsBytes word bytes → bytes_in word ≡ Some bytes
bytes_read no_byte = refl
bytes_read (plain {word} {bytes} b is rest) = plain_step b word is ∙ ap (onto (Some b)) (bytes_read rest)
bytes_read (escaped high low b is some rest) = λ i. onto ((ap not_zero is ∙ not_zero_is b some) i) (bytes_read rest i)

plain_of : (b x : ℕ) → plain_value b ≡ Some x → IsTrue (is_plain b) × (b ≡ x)
plain_of b x e = let c = chosen (is_plain b) b x e in (c.0, c.1)

not_zero_of : (o : Option ℕ) (x : ℕ) → not_zero o ≡ Some x → (o ≡ Some x) × (x ≢ 0)
not_zero_of None x e = absurd (cc)
not_zero_of (Some b) x e = go (eqb b 0) refl e
  where
    go : (t : Bool) → eqb b 0 ≡ t → cond t None (Some b) ≡ Some x → (Some b ≡ Some x) × (x ≢ 0)
    go true is e = absurd (cc)
    go false is e = (e, λ zero. apart b x is e zero)
      where
        apart : (b x : ℕ) → eqb b 0 ≡ false → Some b ≡ Some x → x ≡ 0 → ⊥
        apart b x is e zero = let same : b ≡ x = cc in grind (arith, nat_tests)

percent_of : (b : ℕ) → eqb b 37 ≡ true → 37 ≡ b
percent_of b e = grind (arith, nat_tests)

one_plain : (b : ℕ) (word : Word) (bytes : List ℕ) → ((others : List ℕ) → bytes_in word ≡ Some others → SpellsBytes word others)
    → onto (plain_value b) (bytes_in word) ≡ Some bytes → SpellsBytes (b ∷ word) bytes
one_plain b word bytes spelled e =
    let o = onto_some (plain_value b) (bytes_in word) bytes e in
    let p = plain_of b o.first o.first_is in
    subst (SpellsBytes (b ∷ word)) (ap (λ (x : ℕ). x ∷ o.others) p.1 ∙ o.bytes_are) (plain b p.0 (spelled o.others o.others_are))

pub bytes_spelled : (word : Word) (bytes : List ℕ) → bytes_in word ≡ Some bytes → SpellsBytes word bytes
bytes_spelled [] bytes e = subst (SpellsBytes []) (nil e) no_byte
  where
    nil : Some [] ≡ Some bytes → [] ≡ bytes
    nil e = cc
bytes_spelled (b ∷ []) bytes e = one_plain b [] bytes (bytes_spelled []) e
bytes_spelled (b ∷ c ∷ []) bytes e = one_plain b (c ∷ []) bytes (bytes_spelled (c ∷ [])) e
bytes_spelled (b ∷ c ∷ d ∷ word) bytes e = go (bytes_spelled word) (bytes_spelled (c ∷ d ∷ word)) (eqb b 37) refl e
  where
    go : ((others : List ℕ) → bytes_in word ≡ Some others → SpellsBytes word others)
        → ((others : List ℕ) → bytes_in (c ∷ d ∷ word) ≡ Some others → SpellsBytes (c ∷ d ∷ word) others)
        → (t : Bool) → eqb b 37 ≡ t
        → cond t (onto (not_zero (pair_value c d)) (bytes_in word)) (onto (plain_value b) (bytes_in (c ∷ d ∷ word))) ≡ Some bytes
        → SpellsBytes (b ∷ c ∷ d ∷ word) bytes
    go behind next true is e =
        let o = onto_some (not_zero (pair_value c d)) (bytes_in word) bytes e in
        let n = not_zero_of (pair_value c d) o.first o.first_is in
        subst (λ (x : ℕ). SpellsBytes (x ∷ c ∷ d ∷ word) bytes) (percent_of b is)
        (subst (SpellsBytes (37 ∷ c ∷ d ∷ word)) o.bytes_are (escaped c d o.first n.0 n.1 (behind o.others o.others_are)))
    go behind next false is e = one_plain b (c ∷ d ∷ word) bytes next e

pub path_read : {word : Word} {path : List ℕ} → SpellsPath word path → path_in word ≡ Some path
path_read {word} {path} spells = go word (spells.bytes)
  where
    go : (word : Word) → SpellsBytes word path → path_in word ≡ Some path
    go [] b = absurd (none b)
      where
        none : SpellsBytes [] path → ⊥
        none b = let e : Some [] ≡ Some path = bytes_read b in let some = spells.some in let same : [] ≡ path = cc in let size = ap length same in omega arith
    go (x ∷ word) b = bytes_read b

pub path_spelled : (word : Word) (path : List ℕ) → path_in word ≡ Some path → SpellsPath word path
path_spelled [] path e = absurd (cc)
path_spelled (b ∷ word) path e =
    let bytes = bytes_spelled (b ∷ word) path e in
    record { bytes = bytes; some = some bytes }
  where
    some : {word : Word} {path : List ℕ} {b : ℕ} → SpellsBytes (b ∷ word) path → 1 ≤ length path
    some (plain b is rest) = omega arith
    some (escaped high low b is none rest) = omega arith

-- ---- the space behind a path

digit_no_space : (b v : ℕ) → digit_value b ≡ Some v → eqb b 32 ≡ false
digit_no_space b v e = grind (arith, nat_tests)

pair_digits : (high low b : ℕ) → pair_value high low ≡ Some b → (eqb high 32 ≡ false) × (eqb low 32 ≡ false)
pair_digits high low b e = go (digit_value high) refl (digit_value low) refl e
  where
    go : (h : Option ℕ) → digit_value high ≡ h → (l : Option ℕ) → digit_value low ≡ l → Rattle.edge_script.specs.Bytes.joined h l ≡ Some b
        → (eqb high 32 ≡ false) × (eqb low 32 ≡ false)
    go None hi l lo e = absurd (cc)
    go (Some x) hi None lo e = absurd (cc)
    go (Some x) hi (Some y) lo e = (digit_no_space high x hi, digit_no_space low y lo)

no_space_step : (b : ℕ) (bytes : List ℕ) → eqb b 32 ≡ false → split_at_space (b ∷ bytes) ≡ behind_byte b (split_at_space bytes)
no_space_step b bytes h = ap (λ t. cond t (Some ([], bytes)) (behind_byte b (split_at_space bytes))) h

pub path_ends : {word : Word} {bytes : List ℕ} → SpellsBytes word bytes → (rest : List ℕ) → split_at_space (word ++ 32 ∷ rest) ≡ Some (word, rest)
path_ends no_byte rest = refl
path_ends (plain {word} b is more) rest = no_space_step b (word ++ 32 ∷ rest) (plain_no_space b is) ∙ ap (behind_byte b) (path_ends more rest)
path_ends (escaped {word} high low b is some more) rest =
    let no = pair_digits high low b is in
    ap (behind_byte 37) (no_space_step high (low ∷ word ++ 32 ∷ rest) no.0
    ∙ ap (behind_byte high) (no_space_step low (word ++ 32 ∷ rest) no.1 ∙ ap (behind_byte low) (path_ends more rest)))

-- ---- how long a word of digits is

pub pairs_long : {word : Word} {bytes : List ℕ} → SpellsPairs word bytes → length word ≡ 2 * length bytes
pairs_long no_pair = refl
pairs_long (pair high low b is rest) = let more = pairs_long rest in omega arith

pub hex_none : (word : Word) → ((bytes : List ℕ) → SpellsHex word bytes → ⊥) → None ≡ hex_in word
hex_none word none = go (hex_in word) refl
  where
    go : (o : Option (List ℕ)) → hex_in word ≡ o → None ≡ hex_in word
    go None is = sym is
    go (Some bytes) is = absurd (none bytes (hex_spelled word bytes is))

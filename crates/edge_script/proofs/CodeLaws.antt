-- What is read so far and what is left, as the code goes.
use Rattle.std.proofs.Common.{◌≡◌, ℕ, zero, suc, ◌+◌, ◌-◌, ◌*◌, ◌<◌, ◌≤◌, Bool, true, false, cond, eqb, List, [], ◌∷◌, ◌++◌, length, take, drop, set, get_or, Option, Some, None, refl, sym, ap, ◌∙◌, arith, append_assoc}
use Rattle.std.specs.Prelude.{nat_lt, not, position}
use Rattle.std.specs.List.{position_or_len}
use Rattle.std.proofs.lemmas.Bool.Decides.{nat_tests}
use Rattle.std.proofs.lemmas.List.{take_more_set, take_rest, drop_more, ext_get_or, length-take-le, take-append-le}
use Rattle.std.proofs.Math.Seq.{take-append-add}
use borrow.Rule.Slice.PartMut.{put_mid, post_of}
use Rattle.edge_script.specs.Numbers.{Word}
use Rattle.edge_script.specs.Bytes.{pair_value, onto, in_front, pairs_in, plain_value, not_zero, bytes_in, with_rest, front_in}
use Rattle.edge_script.specs.Reading.{split_at_space, behind_byte}
use Rattle.edge_script.proofs.Tests.{chosen}

-- ---- bytes in front

pub in_front_none : (o : Option (List ℕ)) → o ≡ in_front [] o
in_front_none None = refl
in_front_none (Some bytes) = refl

pub in_front_onto : (front : List ℕ) (b : ℕ) (o : Option (List ℕ)) → in_front front (onto (Some b) o) ≡ in_front (front ++ b ∷ []) o
in_front_onto front b None = refl
in_front_onto front b (Some rest) = ap Some (sym (append_assoc front (b ∷ []) rest))

pub onto_none : (b : Option ℕ) → onto b None ≡ None
onto_none None = refl
onto_none (Some b) = refl

-- one more byte was read
pub one_more : (whole : Option (List ℕ)) (out : List ℕ) (n b : ℕ) (left rest : Option (List ℕ)) → n < length out → whole ≡ in_front (take n out) left
    → left ≡ onto (Some b) rest
    → whole ≡ in_front (take (n + 1) (set out n b)) rest
one_more whole out n b left rest inside so_far next =
    so_far ∙ ap (in_front (take n out)) next ∙ in_front_onto (take n out) b rest
    ∙ ap (λ (front : List ℕ). in_front front rest) (sym (take_more_set out n b inside))

-- ---- pairs

pub next_pair : (word : Word) (i : ℕ) → 2 * i + 1 < length word
    → pairs_in (drop (2 * i) word) ≡ onto (pair_value (get_or word (2 * i) 0) (get_or word (2 * i + 1) 0)) (pairs_in (drop (2 * (i + 1)) word))
next_pair word i inside =
    let first = drop_more word (2 * i) 0 (omega arith) in
    let second = drop_more word (2 * i + 1) 0 inside in
    let behind : 2 * i + 1 + 1 ≡ 2 * (i + 1) = omega arith in
    ap pairs_in (first ∙ ap (λ (rest : List ℕ). get_or word (2 * i) 0 ∷ rest) (second ∙ ap (λ (n : ℕ). get_or word (2 * i + 1) 0 ∷ drop n word) behind))

-- ---- bytes of a path

abbrev onto_front : Option (ℕ × List ℕ) → Option (List ℕ)
onto_front None = None
onto_front (Some front) = onto (Some front.0) (bytes_in front.1)

onto_with_rest : (o : Option ℕ) (rest : List ℕ) → onto o (bytes_in rest) ≡ onto_front (with_rest o rest)
onto_with_rest None rest = refl
onto_with_rest (Some b) rest = refl

by_front : (text : Word) → 0 < length text → bytes_in text ≡ onto_front (front_in text)
by_front [] some = absurd (omega arith)
by_front (b ∷ []) some = onto_with_rest (plain_value b) []
by_front (b ∷ c ∷ []) some = onto_with_rest (plain_value b) (c ∷ [])
by_front (b ∷ c ∷ d ∷ word) some = go (eqb b 37)
  where
    go : (t : Bool) → cond t (onto (not_zero (pair_value c d)) (bytes_in word)) (onto (plain_value b) (bytes_in (c ∷ d ∷ word)))
        ≡ onto_front (cond t (with_rest (not_zero (pair_value c d)) word) (with_rest (plain_value b) (c ∷ d ∷ word)))
    go true = onto_with_rest (not_zero (pair_value c d)) word
    go false = onto_with_rest (plain_value b) (c ∷ d ∷ word)

pub next_byte : (text behind : Word) (b : ℕ) → 0 < length text → front_in text ≡ Some (b, behind) → bytes_in text ≡ onto (Some b) (bytes_in behind)
next_byte text behind b some is = by_front text some ∙ ap onto_front is

pub no_byte_here : (text : Word) → 0 < length text → front_in text ≡ None → bytes_in text ≡ None
no_byte_here text some is = by_front text some ∙ ap onto_front is

rest_is : (o : Option ℕ) (rest : List ℕ) (front : ℕ × List ℕ) → with_rest o rest ≡ Some front → rest ≡ front.1
rest_is None rest front e = absurd (cc)
rest_is (Some b) rest front e = let same : (b, rest) ≡ front = some_is (b, rest) front e in λ i. (same i).1
  where
    some_is : (x y : ℕ × List ℕ) → Some x ≡ Some y → x ≡ y
    some_is x y e = cc

pub front_short : (text : Word) (front : ℕ × List ℕ) → front_in text ≡ Some front → length front.1 < length text
front_short [] front e = absurd (cc)
front_short (b ∷ []) front e = let size = ap length (rest_is (plain_value b) [] front e) in omega arith
front_short (b ∷ c ∷ []) front e = let size = ap length (rest_is (plain_value b) (c ∷ []) front e) in omega arith
front_short (b ∷ c ∷ d ∷ word) front e = go (eqb b 37) e
  where
    go : (t : Bool) → cond t (with_rest (not_zero (pair_value c d)) word) (with_rest (plain_value b) (c ∷ d ∷ word)) ≡ Some front
        → length front.1 < length (b ∷ c ∷ d ∷ word)
    go true e = let size = ap length (rest_is (not_zero (pair_value c d)) word front e) in omega arith
    go false e = let size = ap length (rest_is (plain_value b) (c ∷ d ∷ word) front e) in omega arith

-- ---- the first space

abbrev space : ℕ → Bool
space b = eqb b 32

-- the place of the first space, byte by byte
position_here : (b : ℕ) (text : List ℕ) → space b ≡ true → position_or_len space (b ∷ text) ≡ 0
position_here b text is = ap (λ t. cond (not t) (1 + position_or_len space text) 0) is

position_later : (b : ℕ) (text : List ℕ) → space b ≡ false → position_or_len space (b ∷ text) ≡ suc (position_or_len space text)
position_later b text is = ap (λ t. cond (not t) (1 + position_or_len space text) 0) is
    ∙ (let n : 1 + position_or_len space text ≡ suc (position_or_len space text) = omega arith in n)

split_here : (b : ℕ) (text : List ℕ) → space b ≡ true → split_at_space (b ∷ text) ≡ Some ([], text)
split_here b text is = ap (λ t. cond t (Some ([], text)) (behind_byte b (split_at_space text))) is

split_later : (b : ℕ) (text : List ℕ) → space b ≡ false → split_at_space (b ∷ text) ≡ behind_byte b (split_at_space text)
split_later b text is = ap (λ t. cond t (Some ([], text)) (behind_byte b (split_at_space text))) is

abbrev parts_at : List ℕ → ℕ → Option (List ℕ × List ℕ)
parts_at text k = Some (take k text, drop (k + 1) text)

parts_later : (b : ℕ) (text : List ℕ) (k : ℕ) → behind_byte b (parts_at text k) ≡ parts_at (b ∷ text) (suc k)
parts_later b text k = λ i. Some (b ∷ take k text, drop (e i) (b ∷ text))
  where
    e : suc (k + 1) ≡ suc k + 1
    e = omega arith

split_found : (text : List ℕ) → position_or_len space text < length text → split_at_space text ≡ parts_at text (position_or_len space text)
split_found [] inside = absurd (omega arith)
split_found (b ∷ text) inside = go (split_found text) (space b) refl
  where
    go : (position_or_len space text < length text → split_at_space text ≡ parts_at text (position_or_len space text))
        → (t : Bool) → space b ≡ t → split_at_space (b ∷ text) ≡ parts_at (b ∷ text) (position_or_len space (b ∷ text))
    go rest true is = split_here b text is ∙ ap (parts_at (b ∷ text)) (sym (position_here b text is))
    go rest false is =
        let later = position_later b text is in
        split_later b text is ∙ ap (behind_byte b) (rest (omega arith)) ∙ parts_later b text (position_or_len space text) ∙ ap (parts_at (b ∷ text)) (sym later)

split_missing : (text : List ℕ) → length text ≤ position_or_len space text → split_at_space text ≡ None
split_missing [] past = refl
split_missing (b ∷ text) past = go (split_missing text) (space b) refl
  where
    go : (length text ≤ position_or_len space text → split_at_space text ≡ None) → (t : Bool) → space b ≡ t → split_at_space (b ∷ text) ≡ None
    go rest true is = absurd (let here = position_here b text is in omega arith)
    go rest false is = let later = position_later b text is in split_later b text is ∙ ap (behind_byte b) (rest (omega arith))

lt_of : (a b : ℕ) → nat_lt a b ≡ true → a < b
lt_of a b e = grind (arith, nat_tests)

ge_of : (a b : ℕ) → nat_lt a b ≡ false → b ≤ a
ge_of a b e = grind (arith, nat_tests)

pub space_found : (text : List ℕ) (k : ℕ) → position space text ≡ Some k
    → Some (take k text, take (length text - (k + 1)) (drop (k + 1) text)) ≡ split_at_space text
space_found text k e =
    let c = chosen (nat_lt (position_or_len space text) (length text)) (position_or_len space text) k e in
    (λ i. Some (take k text, take_rest text (k + 1) i)) ∙ ap (parts_at text) (sym c.1) ∙ sym (split_found text (lt_of _ _ c.0))

pub space_missing : (text : List ℕ) → position space text ≡ None → split_at_space text ≡ None
space_missing text e = go (nat_lt (position_or_len space text) (length text)) refl e
  where
    go : (t : Bool) → nat_lt (position_or_len space text) (length text) ≡ t → cond t (Some (position_or_len space text)) None ≡ None
        → split_at_space text ≡ None
    go true is e = absurd (cc)
    go false is e = split_missing text (ge_of _ _ is)

-- ---- a word that has the bytes of a name

abbrev pub HasFrom : ℕ → List ℕ → List ℕ → Type 0
HasFrom k word [] = Unit {0}
HasFrom k word (b ∷ name) = (get_or word k 0 ≡ b) × HasFrom (k + 1) word name

has_at : (name : List ℕ) (k : ℕ) (word : List ℕ) → HasFrom k word name → (i : ℕ) → i < length name → get_or word (k + i) 0 ≡ get_or name i 0
has_at [] k word h i inside = absurd (omega arith)
has_at (b ∷ name) k word h zero inside = ap (λ (n : ℕ). get_or word n 0) (let n : k + 0 ≡ k = omega arith in n) ∙ h.0
has_at (b ∷ name) k word h (suc i) inside =
    ap (λ (n : ℕ). get_or word n 0) (let n : k + suc i ≡ k + 1 + i = omega arith in n) ∙ has_at name (k + 1) word h.1 i (omega arith)

pub is_name : (word name : List ℕ) → length word ≡ length name → HasFrom 0 word name → word ≡ name
is_name word name long h = ext_get_or 0 word name long (λ i inside. at i (omega arith))
  where
    at : (i : ℕ) → i < length name → get_or word i 0 ≡ get_or name i 0
    at i inside = ap (λ (n : ℕ). get_or word n 0) (let n : i ≡ 0 + i = omega arith in n) ∙ has_at name 0 word h i inside

-- a text behind a front
pub behind_front : (front text told : List ℕ) (at n : ℕ) → length front ≡ at → take n text ≡ told → take (at + n) (front ++ text) ≡ front ++ told
behind_front front text told at n long is =
    ap (λ (k : ℕ). take (k + n) (front ++ text)) (sym long) ∙ take-append-add front text n ∙ ap (λ (t : List ℕ). front ++ t) is

-- a text in the middle of a list
pub behind_mid : (xs ys told : List ℕ) (at k n : ℕ) → at ≤ length xs → n ≤ length ys → take n ys ≡ told
    → take (at + n) (put_mid at k xs ys) ≡ take at xs ++ told
behind_mid xs ys told at k n inside short is =
    behind_front (take at xs) (ys ++ post_of at k xs) told at n (length-take-le at xs inside) (take-append-le n ys (post_of at k xs) short ∙ is)

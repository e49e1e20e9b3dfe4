-- The bytes of a slot are those of an empty one, or of one entry at most, and which it is shows in its parts.
use Rattle.std.proofs.Common.{◌≡◌, ℕ, zero, suc, ◌+◌, ◌-◌, ◌^◌, ◌<◌, ◌≤◌, ◌==◌, inl, inr, Bool, true, false, not, cond, List, [], ◌∷◌, ◌++◌, length, take, drop, get_or, refl, sym, ap, ◌∙◌, arith, Some, None, length-take-le, length-drop}
use Rattle.std.specs.Prelude.{◌&&◌, ◌||◌, nat_le, nat_lt, replicate, unwrap_or, All}
use Rattle.std.specs.List.{list_all, list_any, position_or_len}
use Rattle.std.specs.Str.{bytes_eq}
use Rattle.std.proofs.lemmas.Bool.{eqb-true, cases_lt, lt-ltb, le-ltb, le-leb, leb-true, ltb-true}
use Rattle.std.proofs.lemmas.List.{take-append-drop, take_at, drop_at, ext_get_or, get_or-take, get_or_past, length-take, replicate-append-replicate}
use Rattle.std.proofs.lemmas.List.Elements.{All-same, All-take, All-drop, All-from_get_or}
use Rattle.std.proofs.lemmas.List.Sums.{prefix_len-le-length}
use Rattle.byteorder.specs.Endian.{little_from, little_bytes, little_number}
use Rattle.byteorder.specs.Numbers.{little_from-take, little_number-reads_back, length-bytes_low_first}
use Rattle.edge_base.specs.declared.geometry.Request.{Request}
use Rattle.edge_base.specs.layout.Places.{IsWithinLimits}
use Rattle.edge_base.specs.tree.NodeRules.{IsEntry}
use Rattle.edge_base.specs.tree.Slots.{Entry, slot_bytes, is_name, is_bad_name}
use Rattle.edge_slots.specs.Slot.{entry_of}

-- ---- tests

and_left : (a b : Bool) → (a && b) ≡ true → a ≡ true
and_left true b e = refl
and_left false b e = absurd (cc)

and_right : (a b : Bool) → (a && b) ≡ true → b ≡ true
and_right true b e = e
and_right false b e = absurd (cc)

or_left : (a b : Bool) → (a || b) ≡ false → a ≡ false
or_left false b e = refl
or_left true b e = absurd (cc)

or_right : (a b : Bool) → (a || b) ≡ false → b ≡ false
or_right false b e = e
or_right true b e = absurd (cc)

or_false : (a b : Bool) → a ≡ false → b ≡ false → (a || b) ≡ false
or_false false b e f = f
or_false true b e f = absurd (cc)

is_not : (b : Bool) → not b ≡ true → b ≡ false
is_not false e = refl
is_not true e = absurd (cc)

-- ---- zeros

-- the place of the first zero byte, or the end
abbrev pub first_zero : List ℕ → ℕ
first_zero text = position_or_len (λ b. b == 0) text

abbrev pub all_zero : List ℕ → Bool
all_zero bytes = list_all (λ b. b == 0) bytes

abbrev pub any_zero : List ℕ → Bool
any_zero bytes = list_any (λ b. b == 0) bytes

pub first_zero-is : (text : List ℕ) → unwrap_or (cond (nat_lt (first_zero text) (length text)) (Some (first_zero text)) None) (length text) ≡ first_zero text
first_zero-is text = elim (cases_lt (first_zero text) (length text)) [
  | inl found ↦ ap (λ (b : Bool). unwrap_or (cond b (Some (first_zero text)) None) (length text)) (lt-ltb _ _ found)
  | inr none ↦ ap (λ (b : Bool). unwrap_or (cond b (Some (first_zero text)) None) (length text)) (le-ltb _ _ none) ∙ omega (arith, prefix_len-le-length (λ b. not (b == 0)) text)
]

zeros : (b : List ℕ) → all_zero b ≡ true → b ≡ replicate (length b) 0
zeros [] e = refl
zeros (x ∷ b) e = λ i. eqb-true x 0 (and_left _ _ e) i ∷ zeros b (and_right _ _ e) i

pub zeros_pass : (n : ℕ) → all_zero (replicate n 0) ≡ true
zeros_pass zero = refl
zeros_pass (suc n) = zeros_pass n

within : (text : List ℕ) → first_zero text ≤ length text
within text = prefix_len-le-length (λ b. not (b == 0)) text

none_before_step : (x : ℕ) (text : List ℕ) (z : Bool) → (x == 0) ≡ z → any_zero (take (first_zero text) text) ≡ false → any_zero (take (cond (not z) (1 + first_zero text) 0) (x ∷ text)) ≡ false
none_before_step x text true is rest = refl
none_before_step x text false is rest =
    let next : 1 + first_zero text ≡ suc (first_zero text) = omega arith in
    ap (λ (n : ℕ). any_zero (take n (x ∷ text))) next ∙ ap (λ (b : Bool). b || any_zero (take (first_zero text) text)) is ∙ rest

-- before the first zero there is none
pub none_before : (text : List ℕ) → any_zero (take (first_zero text) text) ≡ false
none_before [] = refl
none_before (x ∷ text) = none_before_step x text (x == 0) refl (none_before text)

-- the first zero behind a name that has none
pub behind_name : (name : List ℕ) (n : ℕ) → any_zero name ≡ false → first_zero (name ++ replicate n 0) ≡ length name
behind_name [] zero e = refl
behind_name [] (suc n) e = refl
behind_name (x ∷ name) n e =
    ap (λ (b : Bool). cond (not b) (1 + first_zero (name ++ replicate n 0)) 0) (or_left _ _ e)
    ∙ (let rest : first_zero (name ++ replicate n 0) ≡ length name = behind_name name n (or_right (x == 0) (any_zero name) e) in omega arith)

-- ---- four bytes

digit : (b : List ℕ) (k : ℕ) → k < 4 → ((k : ℕ) → get_or b k 0 < 256) → get_or (little_bytes 4 (little_number 4 b)) k 0 ≡ get_or b k 0
digit b zero inside small = omega (arith, small 0, small 1, small 2, small 3)
digit b (suc zero) inside small = omega (arith, small 0, small 1, small 2, small 3)
digit b (suc (suc zero)) inside small = omega (arith, small 0, small 1, small 2, small 3)
digit b (suc (suc (suc zero))) inside small = omega (arith, small 0, small 1, small 2, small 3)
digit b (suc (suc (suc (suc k)))) inside small = absurd (omega arith)

pub four : (b : List ℕ) → length b ≡ 4 → ((k : ℕ) → get_or b k 0 < 256) → little_bytes 4 (little_number 4 b) ≡ b
four b len small = ext_get_or 0 _ _ (length-bytes_low_first 0 4 (little_number 4 b) ∙ sym len) (λ k inside. digit b k (let l = length-bytes_low_first 0 4 (little_number 4 b) in omega arith) small)

small_front : (b : List ℕ) (k : ℕ) → ((k : ℕ) → get_or b k 0 < 256) → get_or (take 4 b) k 0 < 256
small_front b k small = elim (cases_lt k 4) [
  | inl low ↦ omega (arith, small k, get_or-take 4 b k 0 low)
  | inr high ↦ omega (arith, get_or_past (take 4 b) k 0 (omega (arith, length-take 4 b)))
]

-- ---- a slot by its parts

-- Bytes of a slot are those of a number, a name up to the first zero, and the rest.
pub record AreParts (bytes : List ℕ) (number : ℕ) (name rest : List ℕ) : Type 0 where
  pub number_is : number ≡ little_number 4 (take 4 bytes)
  pub name_is : name ≡ take (first_zero (drop 4 bytes)) (drop 4 bytes)
  pub rest_is : rest ≡ drop (first_zero (drop 4 bytes)) (drop 4 bytes)

pub parts_of : (bytes front back name rest : List ℕ) (number at : ℕ) → front ≡ take 4 bytes → back ≡ drop 4 bytes → number ≡ little_number 4 front → at ≡ first_zero back
    → name ≡ take at back → rest ≡ drop at back → AreParts bytes number name rest
parts_of bytes front back name rest number at f b n a e r =
    let place : at ≡ first_zero (drop 4 bytes) = a ∙ ap first_zero b in
    record {
      number_is = n ∙ ap (little_number 4) f;
      name_is = e ∙ (λ i. take (place i) (b i));
      rest_is = r ∙ (λ i. drop (place i) (b i));
    }

pub spells : (g : Request) (bytes : List ℕ) (number : ℕ) (name rest : List ℕ) → length bytes ≡ 4 + g.name_max → ((k : ℕ) → get_or bytes k 0 < 256)
    → AreParts bytes number name rest → all_zero rest ≡ true → bytes ≡ slot_bytes g (Some (entry_of name number))
spells g bytes number name rest len small parts clear =
    let text = drop 4 bytes in
    let front : length (take 4 bytes) ≡ 4 = length-take-le 4 bytes (omega arith) in
    let long : length text ≡ g.name_max = length-drop 4 bytes ∙ omega arith in
    let word : little_bytes 4 number ≡ take 4 bytes = ap (little_bytes 4) parts.number_is ∙ four (take 4 bytes) front (λ k. small_front bytes k small) in
    let name_len : length name ≡ first_zero text = ap length parts.name_is ∙ length-take-le (first_zero text) text (within text) in
    let rest_len : length rest ≡ g.name_max - length name = ap length parts.rest_is ∙ length-drop (first_zero text) text ∙ omega arith in
    let pad : rest ≡ replicate (g.name_max - length name) 0 = zeros rest clear ∙ ap (λ (n : ℕ). replicate n 0) rest_len in
    let back : text ≡ name ++ replicate (g.name_max - length name) 0 = sym (take-append-drop (first_zero text) text) ∙ (λ i. sym parts.name_is i ++ sym parts.rest_is i) ∙ ap (λ (l : List ℕ). name ++ l) pad in
    sym (take-append-drop 4 bytes) ∙ (λ i. sym word i ++ back i)

-- no number, no name and zeros are an empty slot
pub spells_none : (g : Request) (bytes : List ℕ) (number : ℕ) (name rest : List ℕ) → length bytes ≡ 4 + g.name_max → ((k : ℕ) → get_or bytes k 0 < 256)
    → AreParts bytes number name rest → number ≡ 0 → name ≡ [] → all_zero rest ≡ true → bytes ≡ slot_bytes g None
spells_none g bytes number name rest len small parts n e clear =
    spells g bytes number name rest len small parts clear ∙ (λ i. slot_bytes g (Some (entry_of (e i) (n i)))) ∙ ap (λ (k : ℕ). replicate 4 0 ++ replicate k 0) (let whole : g.name_max - 0 ≡ g.name_max = omega arith in whole) ∙ replicate-append-replicate 4 g.name_max 0

-- the parts of bytes that spell a number below 2^32, a name without zeros, and zeros
pub record Reads (number : ℕ) (name rest : List ℕ) (n : ℕ) (text : List ℕ) : Type 0 where
  pub number_is : number ≡ n
  pub name_is : name ≡ text
  pub rest_is : all_zero rest ≡ true

pub reads : (bytes : List ℕ) (number : ℕ) (name rest : List ℕ) (n : ℕ) (text : List ℕ) (pad : ℕ) → AreParts bytes number name rest → n < 2 ^ 32 → any_zero text ≡ false
    → bytes ≡ little_bytes 4 n ++ (text ++ replicate pad 0) → Reads number name rest n text
reads bytes number name rest n text pad parts small bare e =
    let back : drop 4 bytes ≡ text ++ replicate pad 0 = ap (drop 4) e ∙ drop_at (little_bytes 4 n) (text ++ replicate pad 0) 4 (length-bytes_low_first 0 4 n) in
    let at : first_zero (drop 4 bytes) ≡ length text = ap first_zero back ∙ behind_name text pad bare in
    record {
      number_is = parts.number_is ∙ little_from-take 0 4 4 bytes (omega arith) ∙ ap (little_from 0 4) e ∙ little_number-reads_back 4 n (text ++ replicate pad 0) small;
      name_is = parts.name_is ∙ (λ i. take (at i) (back i)) ∙ take_at text (replicate pad 0) (length text) refl;
      rest_is = ap all_zero (parts.rest_is ∙ (λ i. drop (at i) (back i)) ∙ drop_at text (replicate pad 0) (length text) refl) ∙ zeros_pass pad;
    }

-- ---- names

-- what a name of an entry is
pub not_bad : (bad slash short : Bool) → (not bad && not slash && short) ≡ true → (bad || slash) ≡ false
not_bad false false short e = refl
not_bad false true short e = absurd (cc)
not_bad true slash short e = absurd (cc)

pub name_from : (bad slash short : Bool) → (bad || slash) ≡ false → short ≡ true → (not bad && not slash && short) ≡ true
name_from false false short e f = f
name_from false true short e f = absurd (cc)
name_from true slash short e f = absurd (cc)

last_false : (a b c d : Bool) → (a || b || c || d) ≡ false → d ≡ false
last_false false false false d e = e
last_false false false true d e = absurd (cc)
last_false false true c d e = absurd (cc)
last_false true b c d e = absurd (cc)

pub is_not_bad : (g : Request) (name : List ℕ) → is_name g name ≡ true → (is_bad_name name || list_any (λ b. b == 47) name) ≡ false
is_not_bad g name e = not_bad (is_bad_name name) (list_any (λ b. b == 47) name) (nat_le (length name) g.name_max) e

pub bare_name : (g : Request) (name : List ℕ) → is_name g name ≡ true → any_zero name ≡ false
bare_name g name e = last_false (bytes_eq name []) (bytes_eq name (46 ∷ [])) (bytes_eq name (46 ∷ 46 ∷ [])) (any_zero name) (or_left (is_bad_name name) (list_any (λ b. b == 47) name) (is_not_bad g name e))

-- whether no entry may have the number or the name
abbrev pub is_other : Request → ℕ → List ℕ → Bool
is_other g number name = not (nat_le 3 number && nat_lt number (2 + g.inodes)) || (is_bad_name name || list_any (λ b. b == 47) name)

range_from : (low high bad : Bool) → (not (low && high) || bad) ≡ false → (low ≡ true) × (high ≡ true) × (bad ≡ false)
range_from true true bad e = (refl, refl, e)
range_from true false bad e = absurd (cc)
range_from false high bad e = absurd (cc)

range_to : (low high bad : Bool) → low ≡ true → high ≡ true → bad ≡ false → (not (low && high) || bad) ≡ false
range_to true true bad e f h = h
range_to true false bad e f h = absurd (cc)
range_to false high bad e f h = absurd (cc)

pub allowed_from : (g : Request) (number : ℕ) (name : List ℕ) → is_other g number name ≡ false → length name ≤ g.name_max → All (λ b. b < 256) name → IsEntry g (entry_of name number)
allowed_from g number name e short bytes =
    let r = range_from (nat_le 3 number) (nat_lt number (2 + g.inodes)) (is_bad_name name || list_any (λ b. b == 47) name) e in
    record {
      bytes = bytes;
      name = name_from (is_bad_name name) (list_any (λ b. b == 47) name) (nat_le (length name) g.name_max) r.2 (le-leb (length name) g.name_max short);
      from = leb-true 3 number r.0;
      below = ltb-true number (2 + g.inodes) r.1;
    }

pub not_other : (g : Request) (e : Entry) → IsEntry g e → is_other g e.number e.name ≡ false
not_other g e allowed =
    range_to (nat_le 3 e.number) (nat_lt e.number (2 + g.inodes)) (is_bad_name e.name || list_any (λ b. b == 47) e.name)
    (le-leb 3 e.number allowed.from) (lt-ltb e.number (2 + g.inodes) allowed.below) (is_not_bad g e.name allowed.name)

pub entry_reads : (g : Request) (bytes : List ℕ) (number : ℕ) (name rest : List ℕ) (e : Entry) → IsWithinLimits g → AreParts bytes number name rest → IsEntry g e → bytes ≡ slot_bytes g (Some e)
    → Reads number name rest e.number e.name
entry_reads g bytes number name rest e limits parts allowed is =
    reads bytes number name rest e.number e.name (g.name_max - length e.name) parts (let top = limits.inodes in let below = allowed.below in omega arith) (bare_name g e.name allowed.name) is

pub none_reads : (g : Request) (bytes : List ℕ) (number : ℕ) (name rest : List ℕ) → AreParts bytes number name rest → bytes ≡ slot_bytes g None → Reads number name rest 0 []
none_reads g bytes number name rest parts is = reads bytes number name rest 0 [] g.name_max parts (omega arith) refl (is ∙ sym (replicate-append-replicate 4 g.name_max 0))

pub empty_list : (xs : List ℕ) → (length xs == 0) ≡ true → xs ≡ []
empty_list [] e = refl
empty_list (x ∷ xs) e = absurd (omega (arith, eqb-true (length (x ∷ xs)) 0 e))

pub name_fits : (bytes : List ℕ) (number most : ℕ) (name rest : List ℕ) → length bytes ≡ 4 + most → AreParts bytes number name rest → length name ≤ most
name_fits bytes number most name rest len parts =
    let text = drop 4 bytes in
    let long = length-drop 4 bytes in
    let short = within text in
    let e = ap length parts.name_is ∙ length-take-le (first_zero text) text short in
    omega arith

pub name_bytes : (bytes : List ℕ) (number : ℕ) (name rest : List ℕ) → ((k : ℕ) → get_or bytes k 0 < 256) → AreParts bytes number name rest → All (λ b. b < 256) name
name_bytes bytes number name rest small parts =
    All-same (λ b. b < 256) name (take (first_zero (drop 4 bytes)) (drop 4 bytes)) parts.name_is
    (All-take (λ b. b < 256) (first_zero (drop 4 bytes)) (drop 4 bytes) (All-drop (λ b. b < 256) 4 bytes (All-from_get_or (λ b. b < 256) bytes 0 (λ i h. small i))))

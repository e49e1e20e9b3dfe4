-- A write between two places of a block.
use Rattle.std.proofs.Common.{◌≡◌, ℕ, zero, suc, ◌+◌, ◌-◌, ◌*◌, ◌^◌, ◌<◌, ◌≤◌, min, max, List, [], ◌∷◌, ◌++◌, length, take, drop, get_or, map, set, refl, sym, ap, ◌∙◌, subst, arith, append-nil, append_assoc, get_or-set_same}
use Rattle.std.specs.Prelude.{slice_index}
use Rattle.std.specs.List.{range_with_len, flat_map}
use Rattle.std.proofs.lemmas.List.{length-take-le, length-drop, drop-drop, drop_all, get_or-drop, take-take, take-set-le, drop-set-lt, take_rest, take_at, drop_at}
use Rattle.std.proofs.lemmas.List.FromFn.{fill_by_all}
use borrow.Rule.Slice.PartMut.{put_mid}
use Rattle.byteorder.specs.Endian.{little_from, little_bytes, big_from, big_bytes}
use Rattle.byteorder.specs.Numbers.{little_number-reads_back, big_number-reads_back, length-bytes_low_first, length-bytes_high_first, little_from-take, big_from-take}
use Rattle.edge_base.specs.layout.Bytes.{number_at, numbers_at, signature_in}
use Rattle.edge_base.specs.layout.Word.{check_word_of}
use Rattle.edge_base.specs.layout.Spelling.{IsNode}
use Rattle.edge_nodes.specs.Writing.{ChangesOnly}

-- ---- what is read behind or before a place

little_from-drop : (m i n : ℕ) (xs : List ℕ) → little_from i n (drop m xs) ≡ little_from (m + i) n xs
little_from-drop m i zero xs = refl
little_from-drop m i (suc n) xs =
    let byte = get_or-drop m xs i 0 in
    let next : m + suc i ≡ suc (m + i) = omega arith in
    let rest = little_from-drop m (suc i) n xs ∙ ap (λ (k : ℕ). little_from k n xs) next in
    λ t. byte t + 256 * rest t

pub number_at-drop : (m i n : ℕ) (xs : List ℕ) → m ≤ i → number_at (i - m) n (drop m xs) ≡ number_at i n xs
unfolding number_at
number_at-drop m i n xs h = little_from-drop m (i - m) n xs ∙ ap (λ (k : ℕ). little_from k n xs) (omega arith)

pub number_at-back : (m i n : ℕ) (xs ys : List ℕ) → m ≤ i → drop m xs ≡ drop m ys → number_at i n xs ≡ number_at i n ys
number_at-back m i n xs ys h e = sym (number_at-drop m i n xs h) ∙ ap (number_at (i - m) n) e ∙ number_at-drop m i n ys h

pub number_at-front : (m i n : ℕ) (xs ys : List ℕ) → i + n ≤ m → take m xs ≡ take m ys → number_at i n xs ≡ number_at i n ys
unfolding number_at
number_at-front m i n xs ys h e = sym (little_from-take i n m xs h) ∙ ap (little_from i n) e ∙ little_from-take i n m ys h

pub signature_in-front : (m : ℕ) (xs ys : List ℕ) → 4 ≤ m → take m xs ≡ take m ys → signature_in xs ≡ signature_in ys
unfolding signature_in
signature_in-front m xs ys h e = sym (big_from-take 0 4 m xs (omega arith)) ∙ ap (big_from 0 4) e ∙ big_from-take 0 4 m ys (omega arith)

-- ---- changes

drop_further : (m k : ℕ) (xs ys : List ℕ) → m ≤ k → drop m xs ≡ drop m ys → drop k xs ≡ drop k ys
drop_further m k xs ys h e =
    let at : k ≡ m + (k - m) = omega arith in
    ap (λ (i : ℕ). drop i xs) at ∙ sym (drop-drop (k - m) m xs) ∙ ap (drop (k - m)) e ∙ drop-drop (k - m) m ys ∙ ap (λ (i : ℕ). drop i ys) (sym at)

take_nearer : (m k : ℕ) (xs ys : List ℕ) → k ≤ m → take m xs ≡ take m ys → take k xs ≡ take k ys
take_nearer m k xs ys h e = sym (take-take k m xs h) ∙ ap (take k) e ∙ take-take k m ys h

pub changes : (from to : ℕ) (old new : List ℕ) → take from new ≡ take from old → drop to new ≡ drop to old → ChangesOnly from to old new
changes from to old new f b = record {
  front = λ k h. take_nearer from k new old h f;
  back = λ k h. drop_further to k new old h b;
  before = λ i n h. number_at-front from i n new old h f;
  behind = λ i n h. number_at-back to i n new old h b;
  signature = λ h. signature_in-front from new old h f;
}

-- the list after n bytes were put at a place
abbrev pub with_bytes : ℕ → ℕ → List ℕ → List ℕ → List ℕ
with_bytes at n bytes xs = take at xs ++ (bytes ++ drop (at + n) xs)

pub with_bytes-changes : (at n : ℕ) (bytes xs : List ℕ) → at + n ≤ length xs → length bytes ≡ n → ChangesOnly at (at + n) xs (with_bytes at n bytes xs)
with_bytes-changes at n bytes xs inside len =
    let front : length (take at xs) ≡ at = length-take-le at xs (omega arith) in
    changes at (at + n) xs (with_bytes at n bytes xs)
    (take_at (take at xs) (bytes ++ drop (at + n) xs) at front)
    (sym (drop-drop n at (with_bytes at n bytes xs)) ∙ ap (drop n) (drop_at (take at xs) (bytes ++ drop (at + n) xs) at front) ∙ drop_at bytes (drop (at + n) xs) n len)

-- what a write through `&mut b[at..]` makes of the whole
pub put_mid-bytes : (at n : ℕ) (bytes xs ys : List ℕ) → at + n ≤ length xs → ys ≡ bytes ++ drop n (take (length xs - at) (drop at xs))
    → put_mid at (length xs - at) xs ys ≡ with_bytes at n bytes xs
put_mid-bytes at n bytes xs ys inside e =
    let rest : drop (length xs - at) (drop at xs) ≡ [] = drop_all _ (drop at xs) (let d = length-drop at xs in omega arith) in
    let whole : ys ≡ bytes ++ drop (at + n) xs = e ∙ ap (λ r. bytes ++ drop n r) (take_rest xs at) ∙ ap (λ r. bytes ++ r) (drop-drop n at xs) in
    ap (λ r. take at xs ++ (ys ++ r)) rest ∙ ap (λ r. take at xs ++ r) (append-nil ys ∙ whole)

pub put_changes : (at n : ℕ) (bytes xs ys : List ℕ) → at + n ≤ length xs → length bytes ≡ n → ys ≡ bytes ++ drop n (take (length xs - at) (drop at xs))
    → ChangesOnly at (at + n) xs (put_mid at (length xs - at) xs ys)
put_changes at n bytes xs ys inside len e = subst (ChangesOnly at (at + n) xs) (sym (put_mid-bytes at n bytes xs ys inside e)) (with_bytes-changes at n bytes xs inside len)

pub number_at-with_bytes : (at n x : ℕ) (xs : List ℕ) → at + n ≤ length xs → x < 256 ^ n → number_at at n (with_bytes at n (little_bytes n x) xs) ≡ x
unfolding number_at
number_at-with_bytes at n x xs inside small =
    let front : length (take at xs) ≡ at = length-take-le at xs (omega arith) in
    sym (number_at-drop at at n (with_bytes at n (little_bytes n x) xs) (omega arith))
    ∙ ap (λ (k : ℕ). little_from k n (drop at (with_bytes at n (little_bytes n x) xs))) (omega arith)
    ∙ ap (little_from 0 n) (drop_at (take at xs) (little_bytes n x ++ drop (at + n) xs) at front)
    ∙ little_number-reads_back n x (drop (at + n) xs) small

pub put_number : (at n x : ℕ) (xs ys : List ℕ) → at + n ≤ length xs → x < 256 ^ n → ys ≡ little_bytes n x ++ drop n (take (length xs - at) (drop at xs))
    → number_at at n (put_mid at (length xs - at) xs ys) ≡ x
put_number at n x xs ys inside small e = ap (number_at at n) (put_mid-bytes at n (little_bytes n x) xs ys inside e) ∙ number_at-with_bytes at n x xs inside small

pub put_number_changes : (at n x : ℕ) (xs ys : List ℕ) → at + n ≤ length xs → ys ≡ little_bytes n x ++ drop n (take (length xs - at) (drop at xs))
    → ChangesOnly at (at + n) xs (put_mid at (length xs - at) xs ys)
put_number_changes at n x xs ys inside e = put_changes at n (little_bytes n x) xs ys inside (length-bytes_low_first 0 n x) e

-- ---- a signature

pub signature_in-bytes : (x : ℕ) (xs ys : List ℕ) → x < 256 ^ 4 → ys ≡ big_bytes 4 x ++ drop 4 xs → signature_in ys ≡ x
unfolding signature_in
signature_in-bytes x xs ys small e = ap (big_from 0 4) e ∙ big_number-reads_back 4 x (drop 4 xs) small

pub signature_changes : (x : ℕ) (xs ys : List ℕ) → ys ≡ big_bytes 4 x ++ drop 4 xs → ChangesOnly 0 4 xs ys
signature_changes x xs ys e = changes 0 4 xs ys refl (ap (drop 4) e ∙ drop_at (big_bytes 4 x) (drop 4 xs) 4 (length-bytes_high_first 4 x))

-- ---- one byte

pub number_at-set : (at x : ℕ) (xs : List ℕ) → at < length xs → number_at at 1 (set xs at x) ≡ x
unfolding number_at
number_at-set at x xs inside = let e : get_or (set xs at x) at 0 ≡ x = get_or-set_same xs at x 0 inside in omega (arith, e)

pub set_changes : (at x : ℕ) (xs : List ℕ) → ChangesOnly at (at + 1) xs (set xs at x)
set_changes at x xs = changes at (at + 1) xs (set xs at x) (take-set-le at xs at x (omega arith)) (drop-set-lt (at + 1) xs at x (omega arith))

-- ---- numbers to the end

numbers_in : (es rest : List ℕ) (i : ℕ) → ((k : ℕ) → get_or es k 0 < 256 ^ 4) → i < length es → number_at (4 * i) 4 (flat_map (little_bytes 4) es ++ rest) ≡ get_or es i 0
unfolding number_at
numbers_in [] rest i small h = absurd (omega arith)
numbers_in (e ∷ es) rest zero small h = ap (little_from 0 4) (append_assoc (little_bytes 4 e) (flat_map (little_bytes 4) es) rest) ∙ little_number-reads_back 4 e (flat_map (little_bytes 4) es ++ rest) (small 0)
numbers_in (e ∷ es) rest (suc i) small h =
    let tail = flat_map (little_bytes 4) es ++ rest in
    let whole : little_from (4 * suc i) 4 ((little_bytes 4 e ++ flat_map (little_bytes 4) es) ++ rest) ≡ little_from (4 * suc i) 4 (little_bytes 4 e ++ tail)
    = ap (little_from (4 * suc i) 4) (append_assoc (little_bytes 4 e) (flat_map (little_bytes 4) es) rest) in
    whole ∙ sym (number_at-drop 4 (4 * suc i) 4 (little_bytes 4 e ++ tail) (omega arith))
    ∙ ap (little_from (4 * suc i - 4) 4) (drop_at (little_bytes 4 e) tail 4 (length-bytes_low_first 0 4 e))
    ∙ ap (λ (k : ℕ). little_from k 4 tail) (omega arith) ∙ numbers_in es rest i (λ k. small (suc k)) (omega arith)

pub numbers_at-put : (from : ℕ) (xs es ys : List ℕ) → from + 4 * length es ≡ length xs → ((k : ℕ) → get_or es k 0 < 256 ^ 4) → ys ≡ flat_map (little_bytes 4) es
    → numbers_at from (length es) (put_mid from (length xs - from) xs ys) ≡ es
numbers_at-put from xs es ys whole small e =
    let front : length (take from xs) ≡ from = length-take-le from xs (omega arith) in
    let rest = drop (length xs - from) (drop from xs) in
    let behind : drop from (put_mid from (length xs - from) xs ys) ≡ flat_map (little_bytes 4) es ++ rest = drop_at (take from xs) (ys ++ rest) from front ∙ ap (λ l. l ++ rest) e in
    sym (fill_by_all (λ i. number_at (from + 4 * i) 4 (put_mid from (length xs - from) xs ys)) es (length es) 0 refl
    (λ i h. sym (sym (number_at-drop from (from + 4 * i) 4 (put_mid from (length xs - from) xs ys) (omega arith))
    ∙ ap (number_at (from + 4 * i - from) 4) behind ∙ ap (λ (k : ℕ). number_at k 4 (flat_map (little_bytes 4) es ++ rest)) (omega arith) ∙ numbers_in es rest i small h)))

-- numbers behind a place from which on nothing changed
pub numbers_at-back : (m from n : ℕ) (xs ys : List ℕ) → m ≤ from → drop m xs ≡ drop m ys → numbers_at from n xs ≡ numbers_at from n ys
numbers_at-back m from n xs ys h e =
    ap (λ (f : ℕ → ℕ). map f (range_with_len 0 n)) (λ t i. number_at-back m (from + 4 * i) 4 xs ys (omega arith) e t)

-- ---- one change after another

pub later : {a b c d : ℕ} {xs ys zs : List ℕ} → ChangesOnly a b xs ys → ChangesOnly c d ys zs → ChangesOnly (min a c) (max b d) xs zs
later {a} {b} {c} {d} {xs} {ys} {zs} first second = record {
  front = λ k h. second.front k (omega arith) ∙ first.front k (omega arith);
  back = λ k h. second.back k (omega arith) ∙ first.back k (omega arith);
  before = λ i n h. second.before i n (omega arith) ∙ first.before i n (omega arith);
  behind = λ i n h. second.behind i n (omega arith) ∙ first.behind i n (omega arith);
  signature = λ h. second.signature (omega arith) ∙ first.signature (omega arith);
}

pub slice_index-back : (m k : ℕ) (xs ys : List ℕ) → m ≤ k → drop m xs ≡ drop m ys → slice_index xs k ≡ slice_index ys k
slice_index-back m k xs ys h e =
    let at : k ≡ m + (k - m) = omega arith in
    ap (slice_index xs) at ∙ sym (get_or-drop m xs (k - m) 0) ∙ ap (λ l. get_or l (k - m) 0) e ∙ get_or-drop m ys (k - m) 0 ∙ ap (slice_index ys) (sym at)

-- what `seal` leaves of a block whose header was written
pub sealed : (signature sequence : ℕ) (old new : List ℕ) → signature_in old ≡ signature → number_at 8 8 old ≡ sequence
    → number_at 4 4 new ≡ check_word_of (drop 8 new) → take 4 new ≡ take 4 old → drop 8 new ≡ drop 8 old → IsNode signature sequence new
sealed signature sequence old new sign number word front back = record {
  signature_is = signature_in-front 4 new old (omega arith) front ∙ sign;
  word_is = word;
  sequence_is = number_at-back 8 8 8 new old (omega arith) back ∙ number;
}

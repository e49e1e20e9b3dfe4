-- A sealed block differs from the block in bytes 4 to 7 alone.
use Rattle.std.proofs.Common.{◌≡◌, inl, inr, ℕ, ◌+◌, ◌-◌, ◌<◌, ◌≤◌, ◌^◌, Bool, true, List, ◌*◌, ◌++◌, length, take, drop, get_or, Fits, w8, lit<, refl, sym, ap, ◌∙◌, subst, arith, length-append}
use Rattle.std.specs.Borrow.{Bor}
use Rattle.std.specs.Prelude.{Option, None, Some, IfSome, slice_range, slice_index_or, fold, bit_xor, ◌==◌, ◌/◌, ◌%◌, if◌then◌else◌, false, [], ◌∷◌, suc, zero}
use Rattle.std.proofs.lemmas.Nat.{xor_of_32}
use Rattle.std.proofs.lemmas.List.{same_lists, drop_all, append-nil, length-take-le, length-take, length-drop, length-replicate, drop-drop, drop-take, take-take, take_at, drop_at, get_or_append_left, get_or-append_right, get_or-take, get_or-drop}
use Rattle.std.proofs.lemmas.Bool.{cases_lt, eq-eqb}
use borrow.Rule.Slice.PartMut.{put_mid}
use Rattle.byteorder.specs.Endian.{little_bytes, little_from}
use Rattle.byteorder.specs.Numbers.{length-bytes_low_first, little_number-reads_back}
use Rattle.edge_base.specs.layout.Word.{step, eight_steps, after_byte, check_word_of}
use Rattle.edge_base.specs.layout.Bytes.{number_at}
use Rattle.edge_cache.specs.Blocks.{put_at, changed_by, marked, given_bytes, sealed, word_holds_in}
use Rattle.edge_cache.specs.Kept.{made, as_read}
use Rattle.edge_cache.specs.declared.buffer.Word.{Word}
use Rattle.edge_cache.specs.declared.buffer.Word.TheVariants.{Due, Unknown, Holds, Differs}

pub length-put_at : (at : ℕ) (bytes b : List ℕ) → at + length bytes ≤ length b → length (put_at at bytes b) ≡ length b
length-put_at at bytes b h = omega (arith, length-append (take at b) (bytes ++ drop (at + length bytes) b), length-append bytes (drop (at + length bytes) b), length-take-le at b (omega arith), length-drop (at + length bytes) b)

pub take-put_at : (at n : ℕ) (bytes b : List ℕ) → at ≤ length b → n ≤ at → take n (put_at at bytes b) ≡ take n b
take-put_at at n bytes b h le =
    let front : length (take at b) ≡ at = length-take-le at b h in
    sym (take-take n at (put_at at bytes b) le) ∙ ap (take n) (take_at (take at b) (bytes ++ drop (at + length bytes) b) at front) ∙ take-take n at b le

drop-put_at-end : (at : ℕ) (bytes b : List ℕ) → at ≤ length b → drop (at + length bytes) (put_at at bytes b) ≡ drop (at + length bytes) b
drop-put_at-end at bytes b h =
    let front : length (take at b) ≡ at = length-take-le at b h in
    sym (drop-drop (length bytes) at (put_at at bytes b)) ∙ ap (drop (length bytes)) (drop_at (take at b) (bytes ++ drop (at + length bytes) b) at front) ∙ drop_at bytes (drop (at + length bytes) b) (length bytes) refl

pub drop-put_at : (at n : ℕ) (bytes b : List ℕ) → at ≤ length b → at + length bytes ≤ n → drop n (put_at at bytes b) ≡ drop n b
drop-put_at at n bytes b h le =
    let split : n ≡ (at + length bytes) + (n - (at + length bytes)) = omega arith in
    let one = drop-drop (n - (at + length bytes)) (at + length bytes) (put_at at bytes b) in
    let two = drop-drop (n - (at + length bytes)) (at + length bytes) b in
    ap (λ (k : ℕ). drop k (put_at at bytes b)) split ∙ sym one ∙ ap (drop (n - (at + length bytes))) (drop-put_at-end at bytes b h) ∙ two ∙ ap (λ (k : ℕ). drop k b) (sym split)

word_bytes : (x : ℕ) → length (little_bytes 4 x) ≡ 4
word_bytes x = length-bytes_low_first 0 4 x

pub length-sealed : (b : List ℕ) → 8 ≤ length b → length (sealed b) ≡ length b
unfolding sealed
length-sealed b h = length-put_at 4 (little_bytes 4 (check_word_of (drop 8 b))) b (let w = word_bytes (check_word_of (drop 8 b)) in omega arith)

pub take-sealed : (b : List ℕ) → 8 ≤ length b → take 4 (sealed b) ≡ take 4 b
unfolding sealed
take-sealed b h = take-put_at 4 4 (little_bytes 4 (check_word_of (drop 8 b))) b (omega arith) (omega arith)

pub drop-sealed : (n : ℕ) (b : List ℕ) → 8 ≤ length b → 8 ≤ n → drop n (sealed b) ≡ drop n b
unfolding sealed
drop-sealed n b h le = drop-put_at 4 n (little_bytes 4 (check_word_of (drop 8 b))) b (omega arith) (let w = word_bytes (check_word_of (drop 8 b)) in omega arith)

pub slice_behind-sealed : (at end : ℕ) (b : List ℕ) → 8 ≤ length b → 8 ≤ at → slice_range (sealed b) at end ≡ slice_range b at end
slice_behind-sealed at end b h le = ap (take (end - at)) (drop-sealed at b h le)

pub slice_front-sealed : (at end : ℕ) (b : List ℕ) → 8 ≤ length b → at ≤ end → end ≤ 4 → slice_range (sealed b) at end ≡ slice_range b at end
unfolding sealed
slice_front-sealed at end b h le four =
    let split : at + (end - at) ≡ end = omega arith in
    let w = little_bytes 4 (check_word_of (drop 8 b)) in
    sym (drop-take at (end - at) (put_at 4 w b)) ∙ ap (λ (k : ℕ). drop at (take k (put_at 4 w b))) split
    ∙ ap (drop at) (take-put_at 4 end w b (omega arith) four)
    ∙ ap (λ (k : ℕ). drop at (take k b)) (sym split) ∙ drop-take at (end - at) b

-- what is sealed does not depend on bytes 4 to 7
pub sealed-same : (x y : List ℕ) → take 4 x ≡ take 4 y → drop 8 x ≡ drop 8 y → sealed x ≡ sealed y
unfolding sealed
sealed-same x y front back =
    let len_x : 4 + length (little_bytes 4 (check_word_of (drop 8 x))) ≡ 8 = let l = word_bytes (check_word_of (drop 8 x)) in omega arith in
    let len_y : 4 + length (little_bytes 4 (check_word_of (drop 8 y))) ≡ 8 = let l = word_bytes (check_word_of (drop 8 y)) in omega arith in
    let at_x : drop (4 + length (little_bytes 4 (check_word_of (drop 8 x)))) x ≡ drop 8 x = ap (λ (k : ℕ). drop k x) len_x in
    let at_y : drop (4 + length (little_bytes 4 (check_word_of (drop 8 y)))) y ≡ drop 8 y = ap (λ (k : ℕ). drop k y) len_y in
    cc (front, back, at_x, at_y)

pub get_below : (at : ℕ) (bytes b : List ℕ) (k d : ℕ) → at ≤ length b → k < at → get_or (put_at at bytes b) k d ≡ get_or b k d
get_below at bytes b k d h lt =
    let front : length (take at b) ≡ at = length-take-le at b h in
    get_or_append_left (take at b) (bytes ++ drop (at + length bytes) b) d k (omega arith) ∙ get_or-take at b k d lt

pub get_inside : (at : ℕ) (bytes b : List ℕ) (k d : ℕ) → at ≤ length b → at ≤ k → k < at + length bytes → get_or (put_at at bytes b) k d ≡ get_or bytes (k - at) d
get_inside at bytes b k d h le lt =
    let front : length (take at b) ≡ at = length-take-le at b h in
    get_or-append_right (take at b) (bytes ++ drop (at + length bytes) b) at k d front le ∙ get_or_append_left bytes (drop (at + length bytes) b) d (k - at) (omega arith)

pub get_behind : (at : ℕ) (bytes b : List ℕ) (k d : ℕ) → at ≤ length b → at + length bytes ≤ k → get_or (put_at at bytes b) k d ≡ get_or b k d
get_behind at bytes b k d h le =
    let front : length (take at b) ≡ at = length-take-le at b h in
    get_or-append_right (take at b) (bytes ++ drop (at + length bytes) b) at k d front (omega arith)
    ∙ get_or-append_right bytes (drop (at + length bytes) b) (length bytes) (k - at) d refl (omega arith)
    ∙ get_or-drop (at + length bytes) b (k - at - length bytes) d
    ∙ ap (λ (i : ℕ). get_or b i d) (omega arith)

-- two lists that agree at a place agree there after the same write
put_agrees : (at : ℕ) (bytes x y : List ℕ) (k d : ℕ) → at ≤ length x → at ≤ length y → get_or x k d ≡ get_or y k d → get_or (put_at at bytes x) k d ≡ get_or (put_at at bytes y) k d
put_agrees at bytes x y k d hx hy e = elim (cases_lt k at) [
  | inl lt ↦ get_below at bytes x k d hx lt ∙ e ∙ sym (get_below at bytes y k d hy lt)
  | inr le ↦ elim (cases_lt k (at + length bytes)) [
    | inl lt ↦ get_inside at bytes x k d hx le lt ∙ sym (get_inside at bytes y k d hy le lt)
    | inr far ↦ get_behind at bytes x k d hx far ∙ e ∙ sym (get_behind at bytes y k d hy far)
  ]
]

front_agrees : (b : List ℕ) (k d : ℕ) → 8 ≤ length b → k < 4 → get_or (sealed b) k d ≡ get_or b k d
front_agrees b k d h lt = sym (get_or-take 4 (sealed b) k d lt) ∙ ap (λ (l : List ℕ). get_or l k d) (take-sealed b h) ∙ get_or-take 4 b k d lt

pub back_agrees : (b : List ℕ) (k d : ℕ) → 8 ≤ length b → get_or (sealed b) (8 + k) d ≡ get_or b (8 + k) d
back_agrees b k d h = sym (get_or-drop 8 (sealed b) k d) ∙ ap (λ (l : List ℕ). get_or l k d) (drop-sealed 8 b h (omega arith)) ∙ get_or-drop 8 b k d

pub sealed-put : (at : ℕ) (bytes b : List ℕ) → 8 ≤ length b → at + length bytes ≤ length b → sealed (put_at at bytes (sealed b)) ≡ sealed (put_at at bytes b)
sealed-put at bytes b h inside =
    let same = length-sealed b h in
    let new = put_at at bytes (sealed b) in
    let old = put_at at bytes b in
    let len_new : length new ≡ length (sealed b) = length-put_at at bytes (sealed b) (omega arith) in
    let len_old : length old ≡ length b = length-put_at at bytes b inside in
    let front : take 4 new ≡ take 4 old = same_lists (take 4 new) (take 4 old) (omega (arith, length-take 4 new, length-take 4 old))
    (λ k d lt. let small : k < 4 = omega (arith, length-take 4 new) in get_or-take 4 new k d small ∙ put_agrees at bytes (sealed b) b k d (omega arith) (omega arith) (front_agrees b k d h small) ∙ sym (get_or-take 4 old k d small)) in
    let back : drop 8 new ≡ drop 8 old = same_lists (drop 8 new) (drop 8 old) (omega (arith, length-drop 8 new, length-drop 8 old))
    (λ k d lt. get_or-drop 8 new k d ∙ put_agrees at bytes (sealed b) b (8 + k) d (omega arith) (omega arith) (back_agrees b k d h) ∙ sym (get_or-drop 8 old k d)) in
    sealed-same new old front back

-- ---- a sealed block has its check word

step_small : (w : ℕ) → w < 2 ^ 32 → step w < 2 ^ 32
step_small w h = elim (w % 2 == 1) as (λ (t : Bool). (if t then bit_xor (w / 2) 0xEDB88320 else w / 2) < 2 ^ 32) [
  | true ↦ xor_of_32 (w / 2) 0xEDB88320 (omega arith) (lit< tt)
  | false ↦ omega arith
]

eight_small : (w : ℕ) → w < 2 ^ 32 → eight_steps w < 2 ^ 32
unfolding eight_steps
eight_small w h = step_small _ (step_small _ (step_small _ (step_small _ (step_small _ (step_small _ (step_small _ (step_small w h)))))))

fold_small : (bs : List ℕ) (w : ℕ) → w < 2 ^ 32 → ((k : ℕ) → get_or bs k 0 < 2 ^ 32) → fold after_byte w bs < 2 ^ 32
fold_small [] w h small = h
fold_small (b ∷ bs) w h small = fold_small bs (after_byte w b) (eight_small (bit_xor w b) (xor_of_32 w b h (small 0))) (λ k. small (suc k))

word_small : (bs : List ℕ) → ((k : ℕ) → get_or bs k 0 < 2 ^ 32) → check_word_of bs < 2 ^ 32
unfolding check_word_of
word_small bs small = xor_of_32 (fold after_byte 0xFFFFFFFF bs) 0xFFFFFFFF (fold_small bs 0xFFFFFFFF (lit< tt) small) (lit< tt)

little_from-drop : (m i n : ℕ) (xs : List ℕ) → little_from i n (drop m xs) ≡ little_from (m + i) n xs
little_from-drop m i zero xs = refl
little_from-drop m i (suc n) xs =
    let byte = get_or-drop m xs i 0 in
    let next : m + suc i ≡ suc (m + i) = omega arith in
    let rest = little_from-drop m (suc i) n xs ∙ ap (λ (k : ℕ). little_from k n xs) next in
    λ t. byte t + 256 * rest t

put_number : (x : ℕ) (b : List ℕ) → 8 ≤ length b → x < 2 ^ 32 → number_at 4 4 (put_at 4 (little_bytes 4 x) b) ≡ x
unfolding number_at
put_number x b h small =
    let front : length (take 4 b) ≡ 4 = length-take-le 4 b (omega arith) in
    let rest = drop (4 + length (little_bytes 4 x)) b in
    sym (little_from-drop 4 0 4 (put_at 4 (little_bytes 4 x) b))
    ∙ ap (little_from 0 4) (drop_at (take 4 b) (little_bytes 4 x ++ rest) 4 front)
    ∙ little_number-reads_back 4 x rest small

sealed_word : (b : List ℕ) → 8 ≤ length b → ((k : ℕ) → Fits w8 (slice_index_or b k 0)) → number_at 4 4 (sealed b) ≡ check_word_of (drop 8 b)
unfolding sealed
sealed_word b h small = put_number (check_word_of (drop 8 b)) b h (word_small (drop 8 b) (λ k. subst (λ (n : ℕ). n < 2 ^ 32) (sym (get_or-drop 8 b k 0)) (let f : Fits w8 (get_or b (8 + k) 0) = small (8 + k) in omega arith)))

pub sealed-holds : (b : List ℕ) → 8 ≤ length b → ((k : ℕ) → Fits w8 (slice_index_or b k 0)) → word_holds_in (sealed b) ≡ true
unfolding word_holds_in
sealed-holds b h small = eq-eqb _ _ (sealed_word b h small ∙ ap check_word_of (sym (drop-sealed 8 b h (omega arith))))

-- ---- what a buffer gives

pub length_as_read : (w : Word) (b : List ℕ) → 8 ≤ length b → length (as_read w b) ≡ length b
length_as_read Due b h = length-sealed b h
length_as_read Unknown b h = refl
length_as_read Holds b h = refl
length_as_read Differs b h = refl

-- what a write through a part of the bytes leaves
pub put_mid_is : (at n : ℕ) (bytes b : List ℕ) → length bytes ≡ n → put_mid at n b bytes ≡ put_at at bytes b
put_mid_is at n bytes b e = ap (λ (l : List ℕ). take at b ++ (bytes ++ l)) (drop-drop n at b ∙ ap (λ (k : ℕ). drop (at + k) b) (sym e))

-- what was sealed before a write of a node makes no difference
pub sealed-read : (w : Word) (at : ℕ) (bytes b : List ℕ) → 8 ≤ length b → at + length bytes ≤ length b → sealed (put_at at bytes (as_read w b)) ≡ sealed (put_at at bytes b)
sealed-read Due at bytes b h inside = sealed-put at bytes b h inside
sealed-read Unknown at bytes b h inside = refl
sealed-read Holds at bytes b h inside = refl
sealed-read Differs at bytes b h inside = refl

pub sealed-is : (block w x : List ℕ) → w ≡ little_bytes 4 (check_word_of x) → x ≡ drop 8 block → put_at 4 w block ≡ sealed block
unfolding sealed
sealed-is block w x e at = ap (λ (l : List ℕ). put_at 4 l block) (e ∙ ap (λ (l : List ℕ). little_bytes 4 (check_word_of l)) at)

pub length_changed : (at : ℕ) (bytes : List ℕ) (node : Bool) (b : List ℕ) → 8 ≤ length b → at + length bytes ≤ length b → length (changed_by at bytes node b) ≡ length b
length_changed at bytes true b h inside = let l = length-put_at at bytes b inside in length-sealed (put_at at bytes b) (omega arith) ∙ l
length_changed at bytes false b h inside = length-put_at at bytes b inside

pub length_marked : (node : Bool) (b : List ℕ) → 8 ≤ length b → length (marked node b) ≡ length b
length_marked true b h = length-sealed b h
length_marked false b h = refl

length_given_bytes : (size : ℕ) (bytes : Option (Bor (List ℕ))) → IfSome bytes (λ s. length s.now ≡ size) → length (given_bytes size bytes) ≡ size
length_given_bytes size None whole = length-replicate size 0
length_given_bytes size (Some bytes) whole = whole

pub length_given : (size : ℕ) (bytes : Option (Bor (List ℕ))) (node : Bool) → 8 ≤ size → IfSome bytes (λ s. length s.now ≡ size) → length (marked node (given_bytes size bytes)) ≡ size
length_given size bytes node h whole = let l = length_given_bytes size bytes whole in length_marked node (given_bytes size bytes) (omega arith) ∙ l

-- bytes that are as many as the block has take the place of all of them
pub put_at-whole : (bytes b : List ℕ) → length bytes ≡ length b → put_at 0 bytes b ≡ bytes
put_at-whole bytes b e = ap (λ (l : List ℕ). bytes ++ l) (drop_all (0 + length bytes) b (omega arith)) ∙ append-nil bytes

-- a word as four bytes
pub word_put : (x : ℕ) (w old : List ℕ) → length old ≡ 4 → w ≡ little_bytes 4 x ++ drop 4 old → w ≡ little_bytes 4 x
word_put x w old four e = e ∙ ap (λ (l : List ℕ). little_bytes 4 x ++ l) (drop_all 4 old (omega arith)) ∙ append-nil (little_bytes 4 x)

pub kept_is : (block : ℕ) (x y : List ℕ) (changed : Bool) → x ≡ y → made block x changed ≡ made block y changed
kept_is block x y changed e = ap (λ (l : List ℕ). made block l changed) e

pub ruleset holds = (sealed-holds)

pub ruleset seals = (length_as_read, length-put_at, sealed-put, sealed-read, length-sealed, slice_behind-sealed, slice_front-sealed)

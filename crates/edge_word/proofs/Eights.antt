-- Eight bytes as a number of 64 bits, and the words that the tables hold for them.
use Rattle.std.proofs.Common.{◌≡◌, ℕ, zero, suc, ◌+◌, ◌*◌, ◌^◌, ◌<◌, List, [], ◌∷◌, length, get_or, drop, bit_xor, refl, ap, ◌∙◌, arith}
use Rattle.std.specs.Int.{w64, from_le_bytes, to_le_bytes, bytes_low_first}
use Rattle.std.specs.Int.Bits.{xor_zero_l}
use Rattle.std.proofs.Math.Seq.{drop-cons}
use Rattle.std.proofs.lemmas.List.{drop_all}
use Rattle.std.proofs.lemmas.Nat.{from_le_bytes-to_le_bytes_8}
use Rattle.edge_word.proofs.Steps.{turns, spelled, spelled-cons, turns-joined}
use Rattle.edge_word.proofs.Rows.{looked_up, looked_up-is}

spelled-from : (bytes : List ℕ) (i : ℕ) → i < length bytes → get_or bytes i 0 < 256
    → spelled (drop i bytes) ≡ spelled (drop (suc i) bytes) * 256 + get_or bytes i 0
spelled-from bytes i within small =
    ap spelled (drop-cons bytes i 0 within)
    ∙ spelled-cons (get_or bytes i 0) (drop (suc i) bytes) small

pub spelled-is : (bytes : List ℕ) → length bytes ≡ 8 → ((i : ℕ) → get_or bytes i 0 < 256)
    → spelled bytes ≡ from_le_bytes w64 bytes
spelled-is bytes l small =
    let e0 = spelled-from bytes 0 (omega arith) (small 0) in
    let e1 = spelled-from bytes 1 (omega arith) (small 1) in
    let e2 = spelled-from bytes 2 (omega arith) (small 2) in
    let e3 = spelled-from bytes 3 (omega arith) (small 3) in
    let e4 = spelled-from bytes 4 (omega arith) (small 4) in
    let e5 = spelled-from bytes 5 (omega arith) (small 5) in
    let e6 = spelled-from bytes 6 (omega arith) (small 6) in
    let e7 = spelled-from bytes 7 (omega arith) (small 7) in
    let e8 : spelled (drop 8 bytes) ≡ 0 = ap spelled (drop_all 8 bytes (omega arith)) in
    omega arith

low_first_small : (i k n j : ℕ) → get_or (bytes_low_first i k n) j 0 < 256
low_first_small i zero n j = omega arith
low_first_small zero (suc k) n zero = omega arith
low_first_small (suc i) (suc k) n zero = omega arith
low_first_small i (suc k) n (suc j) = low_first_small (suc i) k n j

-- a word of each table for a byte each, the last table for the first byte
abbrev pub eight_words : ℕ → ℕ → ℕ → ℕ → ℕ → ℕ → ℕ → ℕ → ℕ
eight_words a b c d e f g h =
    let three = bit_xor (bit_xor (looked_up 7 a) (looked_up 6 b)) (looked_up 5 c) in
    let six = bit_xor (bit_xor (bit_xor three (looked_up 4 d)) (looked_up 3 e)) (looked_up 2 f) in
    bit_xor (bit_xor six (looked_up 1 g)) (looked_up 0 h)

eight_words-spelled : (a b c d e f g h : ℕ)
    → a < 256 → b < 256 → c < 256 → d < 256 → e < 256 → f < 256 → g < 256 → h < 256
    → eight_words a b c d e f g h ≡ turns 8 (spelled (a ∷ b ∷ c ∷ d ∷ e ∷ f ∷ g ∷ h ∷ []))
eight_words-spelled a b c d e f g h la lb lc ld le lf lg lh =
    let bytes = a ∷ b ∷ c ∷ d ∷ e ∷ f ∷ g ∷ h ∷ [] in
    let ea = looked_up-is 7 a (omega arith) la in
    let eb = looked_up-is 6 b (omega arith) lb in
    let ec = looked_up-is 5 c (omega arith) lc in
    let ed = looked_up-is 4 d (omega arith) ld in
    let ee = looked_up-is 3 e (omega arith) le in
    let ef = looked_up-is 2 f (omega arith) lf in
    let eg = looked_up-is 1 g (omega arith) lg in
    let eh = looked_up-is 0 h (omega arith) lh in
    cc (turns-joined bytes 0, xor_zero_l (turns 8 a), xor_zero_l (turns 8 (spelled bytes)))

pub eight_words-is : (x : ℕ) (bytes : List ℕ) (a b c d e f g h : ℕ)
    → x < 2 ^ 64 → bytes ≡ to_le_bytes w64 x
    → a ≡ get_or bytes 0 0 → b ≡ get_or bytes 1 0 → c ≡ get_or bytes 2 0 → d ≡ get_or bytes 3 0
    → e ≡ get_or bytes 4 0 → f ≡ get_or bytes 5 0 → g ≡ get_or bytes 6 0 → h ≡ get_or bytes 7 0
    → eight_words a b c d e f g h ≡ turns 8 x
eight_words-is x bytes a b c d e f g h fits is ea eb ec ed ee ef eg eh =
    let small = low_first_small 0 8 x in
    let back : spelled (to_le_bytes w64 x) ≡ x =
    spelled-is (to_le_bytes w64 x) refl small ∙ from_le_bytes-to_le_bytes_8 x fits in
    let words = eight_words-spelled _ _ _ _ _ _ _ _
    (small 0) (small 1) (small 2) (small 3) (small 4) (small 5) (small 6) (small 7) in
    rw (ea, eb, ec, ed, ee, ef, eg, eh, is) (words ∙ ap (turns 8) back)

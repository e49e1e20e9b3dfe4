-- Why tables are enough: steps agree with exclusive-or, and eight of them move the bits above the
-- low byte down.
use Rattle.std.proofs.Common.{◌≡◌, ℕ, zero, suc, ◌+◌, ◌*◌, ◌/◌, ◌%◌, ◌^◌, ◌<◌, ◌==◌, if◌then◌else◌, Bool, true, false, List, [], ◌∷◌, length, fold, bit_xor, refl, sym, ap, ◌∙◌, arith}
use Rattle.std.specs.Int.Bits.{xor_assoc, xor_zero_l, xor_zero_r}
use Rattle.std.proofs.Math.Nat.{pow-suc}
use Rattle.std.proofs.lemmas.Nat.{xor_comm, xor_shr, xor_mod, xor_block}
use Rattle.edge_base.specs.layout.Word.{step, eight_steps, after_byte}

xor-swap : (a b c d : ℕ) → bit_xor (bit_xor a b) (bit_xor c d) ≡ bit_xor (bit_xor a c) (bit_xor b d)
xor-swap a b c d =
    xor_assoc a b (bit_xor c d)
    ∙ ap (bit_xor a) (sym (xor_assoc b c d) ∙ ap (λ (n : ℕ). bit_xor n d) (xor_comm b c))
    ∙ ap (bit_xor a) (xor_assoc c b d)
    ∙ sym (xor_assoc a c (bit_xor b d))

-- what a step adds for the bit that falls out
abbrev added : ℕ → ℕ
added bit = if bit == 1 then 0xEDB88320 else 0

if-added : (odd : Bool) (h p : ℕ)
    → (if odd then bit_xor h p else h) ≡ bit_xor h (if odd then p else 0)
if-added true h p = refl
if-added false h p = sym (xor_zero_r h)

step-is : (x : ℕ) → step x ≡ bit_xor (x / 2) (added (x % 2))
step-is x = if-added (x % 2 == 1) (x / 2) 0xEDB88320

added-xor : (a b : ℕ) → a < 2 → b < 2 → added (bit_xor a b) ≡ bit_xor (added a) (added b)
added-xor zero zero ha hb = refl
added-xor zero (suc zero) ha hb = refl
added-xor zero (suc (suc b)) ha hb = absurd (omega arith)
added-xor (suc zero) zero ha hb = refl
added-xor (suc zero) (suc zero) ha hb = refl
added-xor (suc zero) (suc (suc b)) ha hb = absurd (omega arith)
added-xor (suc (suc a)) b ha hb = absurd (omega arith)

step-xor : (x y : ℕ) → step (bit_xor x y) ≡ bit_xor (step x) (step y)
step-xor x y =
    let half : bit_xor x y / 2 ≡ bit_xor (x / 2) (y / 2) = xor_shr x y 1 in
    let bit : bit_xor x y % 2 ≡ bit_xor (x % 2) (y % 2) = xor_mod x y 1 in
    let sum = added-xor (x % 2) (y % 2) (omega arith) (omega arith) in
    let swapped = xor-swap (x / 2) (y / 2) (added (x % 2)) (added (y % 2)) in
    cc (step-is x, step-is y, step-is (bit_xor x y))

step-above : (h : ℕ) → step (h * 2) ≡ h
step-above h =
    let half : h * 2 / 2 ≡ h = omega arith in
    let even : h * 2 % 2 ≡ 0 = omega arith in
    step-is (h * 2) ∙ rw (half, even) (xor_zero_r h)

abbrev steps : ℕ → ℕ → ℕ
steps zero x = x
steps (suc k) x = steps k (step x)

steps-xor : (k x y : ℕ) → steps k (bit_xor x y) ≡ bit_xor (steps k x) (steps k y)
steps-xor zero x y = refl
steps-xor (suc k) x y = ap (steps k) (step-xor x y) ∙ steps-xor k (step x) (step y)

shift-suc : (h k : ℕ) → h * 2 ^ suc k ≡ h * 2 ^ k * 2
shift-suc h k = grind (arith, pow-suc)

steps-above : (k h : ℕ) → steps k (h * 2 ^ k) ≡ h
steps-above zero h = omega arith
steps-above (suc k) h =
    rw (shift-suc h k) (ap (steps k) (step-above (h * 2 ^ k)) ∙ steps-above k h)

eight_steps-xor : (x y : ℕ) → eight_steps (bit_xor x y) ≡ bit_xor (eight_steps x) (eight_steps y)
unfolding eight_steps
eight_steps-xor x y = steps-xor 8 x y

-- the bits above the low byte move down
eight_steps-above : (h l : ℕ) → eight_steps (bit_xor (h * 256) l) ≡ bit_xor h (eight_steps l)
unfolding eight_steps
eight_steps-above h l =
    steps-xor 8 (h * 256) l ∙ ap (λ (n : ℕ). bit_xor n (steps 8 l)) (steps-above 8 h)

-- a number is its bits above the low byte and the low byte
above-xor : (h l : ℕ) → l < 256 → bit_xor (h * 256) l ≡ h * 256 + l
above-xor h l small =
    let block : bit_xor (h * 256 + 0) (0 * 256 + l) ≡ bit_xor h 0 * 256 + bit_xor 0 l =
    xor_block 8 h 0 0 l (omega arith) small in
    grind (arith, xor_zero_l, xor_zero_r, block)

pub eight_steps-by_byte : (x : ℕ) → eight_steps x ≡ bit_xor (x / 256) (eight_steps (x % 256))
eight_steps-by_byte x =
    let parts : x ≡ bit_xor (x / 256 * 256) (x % 256) =
    omega (arith, above-xor (x / 256) (x % 256) (omega arith)) in
    ap eight_steps parts ∙ eight_steps-above (x / 256) (x % 256)

-- n times eight steps
abbrev pub turns : ℕ → ℕ → ℕ
turns zero x = x
turns (suc n) x = turns n (eight_steps x)

turns-xor : (n x y : ℕ) → turns n (bit_xor x y) ≡ bit_xor (turns n x) (turns n y)
turns-xor zero x y = refl
turns-xor (suc n) x y =
    ap (turns n) (eight_steps-xor x y) ∙ turns-xor n (eight_steps x) (eight_steps y)

-- the number that bytes spell, the first byte lowest
abbrev pub spelled : List ℕ → ℕ
spelled [] = 0
spelled (byte ∷ bytes) = bit_xor (spelled bytes * 256) byte

pub spelled-cons : (byte : ℕ) (bytes : List ℕ) → byte < 256
    → spelled (byte ∷ bytes) ≡ spelled bytes * 256 + byte
spelled-cons byte bytes small = above-xor (spelled bytes) byte small

-- the bytes may all go into the word before the steps
pub fold-turns : (bytes : List ℕ) (word : ℕ)
    → fold after_byte word bytes ≡ turns (length bytes) (bit_xor word (spelled bytes))
fold-turns [] word = sym (xor_zero_r word)
fold-turns (byte ∷ bytes) word =
    let high = spelled bytes * 256 in
    let moved : bit_xor word (bit_xor high byte) ≡ bit_xor high (bit_xor word byte) =
    sym (xor_assoc word high byte)
    ∙ ap (λ (n : ℕ). bit_xor n byte) (xor_comm word high)
    ∙ xor_assoc high word byte in
    let above = ap eight_steps moved ∙ eight_steps-above (spelled bytes) (bit_xor word byte) in
    fold-turns bytes (after_byte word byte)
    ∙ ap (turns (length bytes)) (xor_comm (after_byte word byte) (spelled bytes) ∙ sym above)

-- the word, and what the steps make of each byte at its place
abbrev pub joined : ℕ → List ℕ → ℕ
joined word [] = word
joined word (byte ∷ bytes) = joined (bit_xor word (turns (suc (length bytes)) byte)) bytes

pub turns-joined : (bytes : List ℕ) (word : ℕ)
    → bit_xor word (turns (length bytes) (spelled bytes)) ≡ joined word bytes
turns-joined [] word = xor_zero_r word
turns-joined (byte ∷ bytes) word =
    let n = length bytes in
    let low = turns n (eight_steps byte) in
    let high = turns n (spelled bytes) in
    let apart : turns n (eight_steps (spelled (byte ∷ bytes))) ≡ bit_xor low high =
    ap (turns n) (eight_steps-above (spelled bytes) byte)
    ∙ turns-xor n (spelled bytes) (eight_steps byte)
    ∙ xor_comm high low in
    ap (bit_xor word) apart
    ∙ sym (xor_assoc word low high)
    ∙ turns-joined bytes (bit_xor word low)

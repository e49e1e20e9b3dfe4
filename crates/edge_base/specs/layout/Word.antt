-- The check word of a list of bytes, one bit at a time.
use Rattle.std.specs.Prelude.{ℕ, ◌/◌, ◌%◌, ◌==◌, if◌then◌else◌, List, bit_xor, fold}

-- a shift right by one; where the bit shifted out was one, the polynomial is added
abbrev pub step : ℕ → ℕ
step word = if word % 2 == 1 then bit_xor (word / 2) 0xEDB88320 else word / 2

unfoldable pub eight_steps : ℕ → ℕ
eight_steps word = step (step (step (step (step (step (step (step word)))))))

-- the byte goes into the low eight bits, and then eight bits are shifted out
abbrev pub after_byte : ℕ → ℕ → ℕ
after_byte word byte = eight_steps (bit_xor word byte)

unfoldable pub check_word_of : List ℕ → ℕ
check_word_of bytes = bit_xor (fold after_byte 0xFFFFFFFF bytes) 0xFFFFFFFF

use Rattle.std.proofs.Common.{◌≡◌, ℕ, ◌^◌, ◌<◌, length, bit_xor, sym, ap, ◌∙◌, rules}
use Rattle.std.specs.Int.{w64, from_le_bytes}
use Rattle.std.proofs.lemmas.Nat.{xor_lt}
use Rattle.edge_word.proofs.Eights.{spelled-is, eight_words-is}
use Rattle.edge_word.proofs.Steps.{turns, spelled, fold-turns}
use Rattle.edge_word.proofs.Rows.{looked_up}
use Rattle.edge_word.proofs.word_after_eight.Goals as goal

pub returns : goal.returns
unfolding looked_up
returns c =
    let bytes = c.args.bytes in
    let number = c.from_le_bytes.result in
    let mixed = bit_xor c.from.result number in
    let eight : length bytes ≡ 8 = search rules in
    let spelt : spelled bytes ≡ from_le_bytes w64 bytes = spelled-is bytes eight (search rules) in
    let fits : mixed < 2 ^ 64 = xor_lt 64 c.from.result number (search rules) (search rules) in
    eight_words-is mixed _ _ _ _ _ _ _ _ _ fits c.to_le_bytes.ensures
    c.from-2.ensures c.from-3.ensures c.from-4.ensures c.from-5.ensures
    c.from-6.ensures c.from-7.ensures c.from-8.ensures c.from-9.ensures
    ∙ ap (λ (n : ℕ). turns 8 (bit_xor n number)) c.from.ensures
    ∙ ap (λ (n : ℕ). turns 8 (bit_xor c.args.word n)) (c.from_le_bytes.ensures ∙ sym spelt)
    ∙ ap (λ (n : ℕ). turns n (bit_xor c.args.word (spelled bytes))) (sym eight)
    ∙ sym (fold-turns bytes c.args.word)

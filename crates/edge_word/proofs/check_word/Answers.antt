use Rattle.std.proofs.Common.{◌≡◌, ℕ, zero, suc, ◌+◌, ◌*◌, ◌/◌, List, length, fold, take, drop, bit_xor, sym, ap, ◌∙◌, arith, rules}
use Rattle.std.specs.Simd.{first_chunks}
use Rattle.std.proofs.lemmas.List.{drop-drop, take-append-drop}
use Rattle.std.proofs.lemmas.List.Sums.{fold-append}
use Rattle.edge_base.specs.layout.Word.{after_byte, check_word_of}
use Rattle.edge_word.proofs.check_word.Goals as goal

-- chunks may be folded one after the other, and then what is left
fold-chunks : {A B : Type 0} (f : B → A → B) (n k : ℕ) (word : B) (bytes : List A)
    → fold f (fold (fold f) word (first_chunks n k bytes)) (drop (k * n) bytes) ≡ fold f word bytes
fold-chunks f n zero word bytes =
    let none : 0 * n ≡ 0 = omega arith in
    ap (λ (m : ℕ). fold f word (drop m bytes)) none
fold-chunks f n (suc k) word bytes =
    let more : suc k * n ≡ n + k * n = omega arith in
    let rest : drop (suc k * n) bytes ≡ drop (k * n) (drop n bytes) =
    ap (λ (m : ℕ). drop m bytes) more ∙ sym (drop-drop (k * n) n bytes) in
    let first = fold f word (take n bytes) in
    ap (fold f (fold (fold f) first (first_chunks n k (drop n bytes)))) rest
    ∙ fold-chunks f n k first (drop n bytes)
    ∙ sym (fold-append f word (take n bytes) (drop n bytes))
    ∙ ap (fold f word) (take-append-drop n bytes)

pub returns : goal.returns
unfolding check_word_of
returns c =
    let bytes = c.args.bytes.now in
    let count = length bytes / 8 in
    let chunks = c.as_chunks.result in
    let eights : c.fold-word.result ≡ fold (fold after_byte) 0xFFFFFFFF chunks.0.now =
    search rules in
    let rest : c.fold.result ≡ fold after_byte c.fold-word.result chunks.1.now = search rules in
    let front : chunks.0.now ≡ first_chunks 8 count bytes = c.as_chunks.ensures.front in
    let back : chunks.1.now ≡ drop (count * 8) bytes = c.as_chunks.ensures.back in
    let whole = fold-chunks after_byte 8 count 0xFFFFFFFF bytes in
    let word : c.fold.result ≡ fold after_byte 0xFFFFFFFF bytes = cc in
    ap (λ (n : ℕ). bit_xor n 0xFFFFFFFF) word

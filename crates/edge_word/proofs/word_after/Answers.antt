use Rattle.std.proofs.Common.{ℕ, ◌%◌, ◌/◌, bit_xor, sym, ap, ◌∙◌, arith}
use Rattle.std.proofs.lemmas.Nat.{and_mask}
use Rattle.edge_base.specs.layout.Word.{after_byte}
use Rattle.edge_word.proofs.Steps.{eight_steps-by_byte}
use Rattle.edge_word.proofs.Rows.{looked_up, looked_up-is}
use Rattle.edge_word.proofs.word_after.Goals as goal

pub returns : goal.returns
unfolding looked_up
returns c =
    let mixed = bit_xor c.args.word c.from.result in
    ap (λ (i : ℕ). bit_xor (mixed / 256) (looked_up 0 i)) (and_mask mixed 8)
    ∙ ap (bit_xor (mixed / 256)) (looked_up-is 0 (mixed % 256) (omega arith) (omega arith))
    ∙ sym (eight_steps-by_byte mixed)
    ∙ ap (after_byte c.args.word) c.from.ensures

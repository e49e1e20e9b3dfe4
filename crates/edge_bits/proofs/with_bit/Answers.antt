use Rattle.std.proofs.Common.{◌∙◌, ◌==◌, ℕ, sym, ap, w8}
use Rattle.std.proofs.lemmas.Nat.Bits.{bit_at_set_same, bit_at_set_other, bit_at_clear_same, bit_at_clear_other}
use Rattle.edge_bits.proofs.with_bit.Goals as goal

pub returns-then-on-clause-here : goal.returns-then-on-clause-here
returns-then-on-clause-here c = ap (λ (x : ℕ). x == 1) (bit_at_set_same w8 c.args.byte c.args.i c.requires) ∙ sym c.if-on.true

pub returns-then-on-clause-others : goal.returns-then-on-clause-others
returns-then-on-clause-others c = λ k lt far. bit_at_set_other w8 c.args.byte c.args.i c.requires k far

pub returns-else-on-clause-here : goal.returns-else-on-clause-here
returns-else-on-clause-here c = ap (λ (x : ℕ). x == 1) (bit_at_clear_same w8 c.args.byte c.args.i c.requires) ∙ sym c.if-on.false

pub returns-else-on-clause-others : goal.returns-else-on-clause-others
returns-else-on-clause-others c = λ k lt far. bit_at_clear_other w8 c.args.byte c.args.i c.requires k lt far

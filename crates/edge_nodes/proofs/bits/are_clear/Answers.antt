use Rattle.std.proofs.Common.{refl, sym, ◌∙◌, true, false}
use Rattle.edge_base.specs.layout.Bytes.{clear_from}
use Rattle.edge_nodes.proofs.BytesLaws.{clear_from-front}
use Rattle.edge_nodes.proofs.bits.are_clear.Goals as goal

pub loop-i-init : goal.loop-i-init
unfolding clear_from
loop-i-init c = refl

pub loop-i-preserved : goal.loop-i-preserved
loop-i-preserved c = clear_from-front c.args.from c.args.b.now c.loop-i.i _ false c.loop-i-test.true (sym c.if-bit_of.ensures) ∙ c.loop-i.invariant

pub returns-then-bit_of : goal.returns-then-bit_of
returns-then-bit_of c = clear_from-front c.args.from c.args.b.now c.loop-i.i _ true c.loop-i-test.true (sym c.if-bit_of.ensures) ∙ c.loop-i.invariant

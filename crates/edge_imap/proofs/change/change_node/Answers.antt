use Rattle.std.proofs.Common.{◌+◌, ◌/◌, refl, ◌∙◌, arith}
use Rattle.edge_nodes.proofs.WritingLaws.{set_changes}
use Rattle.edge_imap.proofs.BitLaws.{copy_byte}
use Rattle.edge_imap.proofs.change.change_node.Goals as goal

pub returns-clause-sequence : goal.returns-clause-sequence
returns-clause-sequence c = (set_changes (16 + c.args.change.bit / 8) c.with_bit.result c.change_sequence.new.b).before 8 8 (omega arith) ∙ c.change_sequence.ensures.here

pub returns-clause-changed : goal.returns-clause-changed
returns-clause-changed c =
    copy_byte c.args.change.bit c.with_bit.result c.args.change.used c.args.block.now c.change_sequence.new.b _ (omega (arith, c.requires, c.change_sequence.auto.b)) c.change_sequence.ensures.kept refl
    c.with_bit.ensures.here c.with_bit.ensures.others

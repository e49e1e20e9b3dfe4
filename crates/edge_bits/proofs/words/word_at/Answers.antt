use Rattle.std.proofs.Common.{◌-◌, ◌*◌, length, take, drop, inl, inr, arith, length-take, length-drop}
use Rattle.edge_bits.proofs.WordLaws.{HasBits-bytes}
use Rattle.edge_bits.proofs.words.word_at.Goals as goal

pub returns-then-rest-lt8 : goal.returns-then-rest-lt8
returns-then-rest-lt8 c =
    let bytes = c.args.bytes.now in
    HasBits-bytes bytes c.args.w (length (take (length bytes - 8 * c.args.w) (drop (8 * c.args.w) bytes))) c.read_uint.result (λ k. omega (arith, c.type_inv.bytes k)) c.read_uint.ensures (inr (omega (arith, length-drop (8 * c.args.w) bytes, length-take (length bytes - 8 * c.args.w) (drop (8 * c.args.w) bytes))))

pub returns-else-rest-lt8 : goal.returns-else-rest-lt8
returns-else-rest-lt8 c = HasBits-bytes c.args.bytes.now c.args.w 8 c.read_u64.result (λ k. omega (arith, c.type_inv.bytes k)) c.read_u64.ensures (inl (omega arith))

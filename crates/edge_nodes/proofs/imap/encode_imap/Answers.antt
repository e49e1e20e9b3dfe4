use Rattle.std.proofs.Common.{◌≡◌, drop, ap, ◌∙◌, arith}
use Rattle.edge_base.specs.layout.Bytes.{bit_in}
use Rattle.edge_nodes.proofs.BytesLaws.{bit_in-drop}
use Rattle.edge_nodes.proofs.WritingLaws.{changes, sealed}
use Rattle.edge_nodes.proofs.imap.encode_imap.Goals as goal

pub returns : goal.returns
returns c =
    let seal = changes 4 8 c.put_header.new.b c.seal.new.b c.seal.ensures.front c.seal.ensures.back in
    let bitmap : drop 16 c.seal.new.b ≡ c.args.bits.now = seal.back 16 (omega arith) ∙ c.put_header.ensures.kept.back 16 (omega arith) ∙ c.put_tail.ensures.tail in
    record {
      len = omega arith;
      in_range = c.requires.in_range;
      node = sealed _ _ c.put_header.new.b c.seal.new.b c.put_header.ensures.signature c.put_header.ensures.sequence c.seal.ensures.word c.seal.ensures.front c.seal.ensures.back;
      bitmap = bitmap;
      unused = λ i low high. bit_in-drop 16 c.seal.new.b i ∙ ap (λ l. bit_in 0 l i) bitmap ∙ c.requires.unused i low (omega arith);
    }

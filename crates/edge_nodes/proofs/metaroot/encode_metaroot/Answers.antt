use Rattle.std.proofs.Common.{◌≡◌, drop, ap, ◌∙◌, arith}
use Rattle.edge_base.specs.layout.Bytes.{bit_in}
use Rattle.edge_nodes.proofs.BytesLaws.{bit_in-drop}
use Rattle.edge_nodes.proofs.WritingLaws.{changes, sealed}
use Rattle.edge_nodes.proofs.metaroot.encode_metaroot.Goals as goal

pub returns : goal.returns
returns c =
    let counts = c.put_counts.ensures in
    let seal = changes 4 8 c.put_counts.new.b c.seal.new.b c.seal.ensures.front c.seal.ensures.back in
    let bitmap : drop 32 c.seal.new.b ≡ c.args.bits.now = seal.back 32 (omega arith) ∙ counts.kept.back 32 (omega arith) ∙ c.put_header.ensures.kept.back 32 (omega arith) ∙ c.put_tail.ensures.tail in
    record {
      len = omega arith;
      node = sealed _ _ c.put_counts.new.b c.seal.new.b (counts.kept.signature (omega arith) ∙ c.put_header.ensures.signature)
          (counts.kept.before 8 8 (omega arith) ∙ c.put_header.ensures.sequence) c.seal.ensures.word c.seal.ensures.front c.seal.ensures.back;
      free_blocks = seal.behind 16 4 (omega arith) ∙ counts.free_blocks;
      free_inodes = seal.behind 20 4 (omega arith) ∙ counts.free_inodes;
      next = seal.behind 24 4 (omega arith) ∙ counts.next;
      reserved = seal.behind 28 4 (omega arith) ∙ counts.reserved;
      bitmap = bitmap;
      unused = λ i low high. bit_in-drop 32 c.seal.new.b i ∙ ap (λ l. bit_in 0 l i) bitmap ∙ c.requires.unused i low (omega arith);
    }

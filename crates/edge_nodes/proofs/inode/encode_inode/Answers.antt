use Rattle.std.proofs.Common.{◌≡◌, ℕ, drop, ap, sym, ◌∙◌, arith}
use Rattle.edge_base.specs.layout.Bytes.{numbers_at}
use Rattle.edge_nodes.proofs.WritingLaws.{changes, sealed, numbers_at-back}
use Rattle.edge_nodes.proofs.inode.encode_inode.Goals as goal

pub returns : goal.returns
returns c =
    let head = c.put_head.ensures in
    let seal = changes 4 8 c.put_head.new.b c.seal.new.b c.seal.ensures.front c.seal.ensures.back in
    let tail : drop 32 c.seal.new.b ≡ drop 32 c.put_numbers.new.b = seal.back 32 (omega arith) ∙ head.kept.back 32 (omega arith) ∙ c.put_header.ensures.kept.back 32 (omega arith) in
    record {
      len = omega arith;
      node = sealed _ _ c.put_head.new.b c.seal.new.b (head.kept.signature (omega arith) ∙ c.put_header.ensures.signature)
          (head.kept.before 8 8 (omega arith) ∙ c.put_header.ensures.sequence) c.seal.ensures.word c.seal.ensures.front c.seal.ensures.back;
      size = seal.behind 16 8 (omega arith) ∙ head.size;
      mode = seal.behind 24 2 (omega arith) ∙ head.mode;
      links = seal.behind 26 2 (omega arith) ∙ head.links;
      some_link = c.requires.some_link;
      parent = seal.behind 28 4 (omega arith) ∙ head.parent;
      no_parent = c.requires.no_parent;
      entries_are = ap (λ (n : ℕ). numbers_at 32 n c.seal.new.b) (sym c.requires.count) ∙ numbers_at-back 32 32 _ c.seal.new.b c.put_numbers.new.b (omega arith) tail ∙ c.put_numbers.ensures.numbers;
    }

use Rattle.std.proofs.Common.{◌≡◌, ℕ, drop, ap, sym, ◌∙◌, arith}
use Rattle.edge_base.specs.layout.Bytes.{numbers_at}
use Rattle.edge_nodes.proofs.WritingLaws.{changes, sealed, numbers_at-back}
use Rattle.edge_nodes.proofs.pointer.encode_pointer.Goals as goal

pub returns : goal.returns
returns c =
    let owner = c.put_u32.ensures in
    let seal = changes 4 8 c.put_u32.new.b c.seal.new.b c.seal.ensures.front c.seal.ensures.back in
    let tail : drop 20 c.seal.new.b ≡ drop 20 c.put_numbers.new.b = seal.back 20 (omega arith) ∙ owner.kept.back 20 (omega arith) ∙ c.put_header.ensures.kept.back 20 (omega arith) in
    record {
      len = omega arith;
      node = sealed _ _ c.put_u32.new.b c.seal.new.b (owner.kept.signature (omega arith) ∙ c.put_header.ensures.signature ∙ c.signature_of.ensures)
          (owner.kept.before 8 8 (omega arith) ∙ c.put_header.ensures.sequence) c.seal.ensures.word c.seal.ensures.front c.seal.ensures.back;
      owner_is = seal.behind 16 4 (omega arith) ∙ owner.here;
      owner_from = c.requires.owner_from;
      owner_below = c.requires.owner_below;
      entries_are = ap (λ (n : ℕ). numbers_at 20 n c.seal.new.b) (sym c.requires.count) ∙ numbers_at-back 20 20 _ c.seal.new.b c.put_numbers.new.b (omega arith) tail ∙ c.put_numbers.ensures.numbers;
    }

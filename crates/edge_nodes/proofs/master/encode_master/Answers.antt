use Rattle.std.proofs.Common.{◌≡◌, drop, ap, ◌∙◌, arith}
use Rattle.edge_base.specs.layout.Spelling.{request_in, size_of_log}
use Rattle.edge_nodes.proofs.WritingLaws.{later, changes, sealed, slice_index-back}
use Rattle.edge_nodes.proofs.master.encode_master.Goals as goal

pub returns : goal.returns
unfolding request_in
returns c =
    let seal = changes 4 8 c.put_u8.new.b c.seal.new.b c.seal.ensures.front c.seal.ensures.back in
    let flags = c.put_u8.ensures in
    let from_geometry = later c.put_geometry.ensures.kept flags.kept in
    let from_time = later c.put_u32-2.ensures.kept from_geometry in
    let from_reserved = later c.put_u64.ensures.kept from_time in
    let from_version = later c.put_u32.ensures.kept from_reserved in
    let header = c.put_header.ensures in
    let rest : drop 48 c.seal.new.b ≡ drop 48 c.put_zeros.new.b = seal.back 48 (omega arith) ∙ from_version.back 48 (omega arith) ∙ header.kept.back 48 (omega arith) in
    let geometry = c.put_geometry.ensures.request in
    record {
      node = sealed _ _ c.put_u8.new.b c.seal.new.b (from_version.signature (omega arith) ∙ header.signature)
          (from_version.before 8 8 (omega arith) ∙ header.sequence) c.seal.ensures.word c.seal.ensures.front c.seal.ensures.back;
      version = seal.behind 16 4 (omega arith) ∙ from_reserved.before 16 4 (omega arith) ∙ c.put_u32.ensures.here;
      reserved = seal.behind 20 8 (omega arith) ∙ from_time.before 20 8 (omega arith) ∙ c.put_u64.ensures.here;
      time = seal.behind 28 4 (omega arith) ∙ from_geometry.before 28 4 (omega arith) ∙ c.put_u32-2.ensures.here;
      inodes = seal.behind 32 4 (omega arith) ∙ flags.kept.before 32 4 (omega arith) ∙ ap (λ r. r.inodes) geometry;
      blocks = seal.behind 36 4 (omega arith) ∙ flags.kept.before 36 4 (omega arith) ∙ ap (λ r. r.blocks) geometry;
      name_max = seal.behind 40 2 (omega arith) ∙ flags.kept.before 40 2 (omega arith) ∙ ap (λ r. r.name_max) geometry;
      direct = seal.behind 42 2 (omega arith) ∙ flags.kept.before 42 2 (omega arith) ∙ ap (λ r. r.direct) geometry;
      indirect = seal.behind 44 2 (omega arith) ∙ flags.kept.before 44 2 (omega arith) ∙ ap (λ r. r.indirect) geometry;
      block_size = ap size_of_log (seal.behind 46 1 (omega arith) ∙ flags.kept.before 46 1 (omega arith)) ∙ ap (λ r. r.block_size) geometry;
      geometry = c.block_size.ensures.geometry;
      flags = seal.behind 47 1 (omega arith) ∙ flags.here;
      rest = λ k h. slice_index-back 48 k c.seal.new.b c.put_zeros.new.b h rest ∙ c.put_zeros.ensures.zeros k h;
    }

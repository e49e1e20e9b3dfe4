-- Reading answers a metaroot exactly where the block spells it.
use Rattle.std.proofs.Common.{◌≡◌, ℕ, ◌==◌, List, drop, length, Ok, refl, ap}
use Rattle.std.proofs.lemmas.Bool.{eqb-true, eq-eqb}
use Rattle.edge_base.specs.declared.geometry.Request.{Request}
use Rattle.edge_base.specs.declared.node.Metaroot.{Metaroot}
use Rattle.edge_base.specs.declared.node.NodeFault.TheVariants.{WrongSignature, WrongWord, WrongField}
use Rattle.edge_base.specs.layout.Places.{root_bits_of}
use Rattle.edge_base.specs.layout.Word.{check_word_of}
use Rattle.edge_base.specs.layout.Bytes.{number_at, signature_in, clear_from}
use Rattle.edge_base.specs.layout.Spelling.{metaroot_signature, SpellsMetaroot, metaroot_fields, metaroot_in}
use Rattle.edge_nodes.proofs.BytesLaws.{clear_behind, clear_from-behind}
use Rattle.edge_nodes.proofs.HeaderLaws.{passed, passes}

pub spelled_metaroot : (g : Request) (b : List ℕ) (r : Metaroot) → length b ≡ g.block_size → metaroot_in g b ≡ Ok r → SpellsMetaroot g r (drop 32 b) b
unfolding metaroot_in metaroot_fields
spelled_metaroot g b r len e =
    let sign = passed (signature_in b == metaroot_signature) WrongSignature _ r e in
    let word = passed (number_at 4 4 b == check_word_of (drop 8 b)) WrongWord _ r sign.1 in
    let reserved = passed (number_at 28 4 b == 0) (WrongField 28) _ r word.1 in
    let clear = passed (clear_from (root_bits_of g) 32 b) (WrongField 32) _ r reserved.1 in
    let same : metaroot_fields b ≡ r = cc in
    record {
      len = len;
      node = record { signature_is = eqb-true _ _ sign.0; word_is = eqb-true _ _ word.0; sequence_is = ap (λ r. r.sequence) same };
      free_blocks = ap (λ r. r.free_blocks) same;
      free_inodes = ap (λ r. r.free_inodes) same;
      next = ap (λ r. r.next) same;
      reserved = eqb-true _ _ reserved.0;
      bitmap = refl;
      unused = clear_behind (root_bits_of g) 32 b clear.0;
    }

fields_of : (g : Request) (r : Metaroot) (bits b : List ℕ) → SpellsMetaroot g r bits b → metaroot_fields b ≡ r
unfolding metaroot_fields
fields_of g r bits b s i = record {
  sequence = s.node.sequence_is i;
  free_blocks = s.free_blocks i;
  free_inodes = s.free_inodes i;
  next = s.next i;
}

pub metaroot_in-spelled : (g : Request) (b : List ℕ) (r : Metaroot) (bits : List ℕ) → SpellsMetaroot g r bits b → metaroot_in g b ≡ Ok r
unfolding metaroot_in
metaroot_in-spelled g b r bits s =
    passes _ WrongSignature _ (Ok r) (eq-eqb _ _ s.node.signature_is)
    (passes _ WrongWord _ (Ok r) (eq-eqb _ _ s.node.word_is)
    (passes _ (WrongField 28) _ (Ok r) (eq-eqb _ _ s.reserved)
    (passes _ (WrongField 32) _ (Ok r) (clear_from-behind (root_bits_of g) 32 b s.unused)
    (ap Ok (fields_of g r bits b s)))))

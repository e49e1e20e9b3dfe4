-- Reading answers an imap node exactly where the block spells it.
use Rattle.std.proofs.Common.{◌≡◌, ◌<◌, ℕ, ◌==◌, List, drop, length, Ok, refl, ap}
use Rattle.std.proofs.lemmas.Bool.{eqb-true, eq-eqb}
use Rattle.edge_base.specs.declared.geometry.Request.{Request}
use Rattle.edge_base.specs.declared.node.NodeFault.TheVariants.{WrongSignature, WrongWord, WrongField}
use Rattle.edge_base.specs.layout.Places.{imap_nodes_of}
use Rattle.edge_base.specs.layout.Word.{check_word_of}
use Rattle.edge_base.specs.layout.Bytes.{number_at, signature_in, clear_from}
use Rattle.edge_base.specs.layout.Spelling.{imap_signature, bits_of_node, SpellsImap, imap_in}
use Rattle.edge_nodes.proofs.BytesLaws.{clear_behind, clear_from-behind}
use Rattle.edge_nodes.proofs.HeaderLaws.{passed, passes}

pub spelled_imap : (g : Request) (i : ℕ) (b : List ℕ) (sequence : ℕ) → i < imap_nodes_of g → length b ≡ g.block_size → imap_in g i b ≡ Ok sequence → SpellsImap g i sequence (drop 16 b) b
unfolding imap_in
spelled_imap g i b sequence inside len e =
    let sign = passed (signature_in b == imap_signature) WrongSignature _ sequence e in
    let word = passed (number_at 4 4 b == check_word_of (drop 8 b)) WrongWord _ sequence sign.1 in
    let clear = passed (clear_from (bits_of_node g i) 16 b) (WrongField 16) _ sequence word.1 in
    record {
      len = len;
      in_range = inside;
      node = record { signature_is = eqb-true _ _ sign.0; word_is = eqb-true _ _ word.0; sequence_is = cc };
      bitmap = refl;
      unused = clear_behind (bits_of_node g i) 16 b clear.0;
    }

pub imap_in-spelled : (g : Request) (i : ℕ) (b : List ℕ) (sequence : ℕ) (bits : List ℕ) → SpellsImap g i sequence bits b → imap_in g i b ≡ Ok sequence
unfolding imap_in
imap_in-spelled g i b sequence bits s =
    passes _ WrongSignature _ (Ok sequence) (eq-eqb _ _ s.node.signature_is)
    (passes _ WrongWord _ (Ok sequence) (eq-eqb _ _ s.node.word_is)
    (passes _ (WrongField 16) _ (Ok sequence) (clear_from-behind (bits_of_node g i) 16 b s.unused)
    (ap Ok s.node.sequence_is)))

-- Reading answers a master exactly where the block spells it.
use Rattle.std.proofs.Common.{◌≡◌, ℕ, ◌==◌, false, List, drop, length, Option, Some, None, Ok, refl, sym, ap, ◌∙◌}
use Rattle.std.specs.Prelude.{is_some}
use Rattle.std.proofs.lemmas.Bool.{eqb-true, eq-eqb}
use Rattle.edge_base.specs.declared.geometry.BadGeometry.{BadGeometry}
use Rattle.edge_base.specs.declared.node.Master.{Master}
use Rattle.edge_base.specs.declared.node.NodeFault.TheVariants.{WrongSignature, WrongWord, WrongField}
use Rattle.edge_base.specs.layout.Places.{bad_geometry}
use Rattle.edge_base.specs.layout.Word.{check_word_of}
use Rattle.edge_base.specs.layout.Bytes.{number_at, signature_in, is_zero}
use Rattle.edge_base.specs.layout.Spelling.{master_signature, SpellsMaster, request_in, master_in}
use Rattle.edge_nodes.proofs.BytesLaws.{zero_behind, is_zero-behind}
use Rattle.edge_nodes.proofs.HeaderLaws.{passed, held, passes, holds}

none : (o : Option BadGeometry) → is_some o ≡ false → o ≡ None
none None e = refl
none (Some x) e = absurd (cc)

pub spelled_master : (b : List ℕ) (m : Master) → master_in b ≡ Ok m → SpellsMaster m b
unfolding master_in request_in
spelled_master b m e =
    let sign = passed (signature_in b == master_signature) WrongSignature _ m e in
    let word = passed (number_at 4 4 b == check_word_of (drop 8 b)) WrongWord _ m sign.1 in
    let sequence = passed (number_at 8 8 b == 0) (WrongField 8) _ m word.1 in
    let version = passed (number_at 16 4 b == 1) (WrongField 16) _ m sequence.1 in
    let reserved = passed (number_at 20 8 b == 0) (WrongField 20) _ m version.1 in
    let geometry = held (is_some (bad_geometry (request_in b))) (WrongField 32) _ m reserved.1 in
    let flags = passed (number_at 47 1 b == 1) (WrongField 47) _ m geometry.1 in
    let rest = passed (is_zero 48 (length b) b) (WrongField 48) _ m flags.1 in
    let same : record { geometry = request_in b; time = number_at 28 4 b } ≡ m = cc in
    record {
      node = record { signature_is = eqb-true _ _ sign.0; word_is = eqb-true _ _ word.0; sequence_is = eqb-true _ _ sequence.0 };
      version = eqb-true _ _ version.0;
      reserved = eqb-true _ _ reserved.0;
      time = ap (λ m. m.time) same;
      inodes = ap (λ m. m.geometry.inodes) same;
      blocks = ap (λ m. m.geometry.blocks) same;
      name_max = ap (λ m. m.geometry.name_max) same;
      direct = ap (λ m. m.geometry.direct) same;
      indirect = ap (λ m. m.geometry.indirect) same;
      block_size = ap (λ m. m.geometry.block_size) same;
      geometry = ap (λ m. bad_geometry m.geometry) (sym same) ∙ none _ geometry.0;
      flags = eqb-true _ _ flags.0;
      rest = zero_behind 48 b rest.0;
    }

request_of : (m : Master) (b : List ℕ) → SpellsMaster m b → request_in b ≡ m.geometry
unfolding request_in
request_of m b s i = record {
  block_size = s.block_size i;
  blocks = s.blocks i;
  inodes = s.inodes i;
  name_max = s.name_max i;
  direct = s.direct i;
  indirect = s.indirect i;
}

pub master_in-spelled : (b : List ℕ) (m : Master) → SpellsMaster m b → master_in b ≡ Ok m
unfolding master_in
master_in-spelled b m s =
    let request = request_of m b s in
    let same : record { geometry = request_in b; time = number_at 28 4 b } ≡ m = λ i. record { geometry = request i; time = s.time i } in
    passes _ WrongSignature _ (Ok m) (eq-eqb _ _ s.node.signature_is)
    (passes _ WrongWord _ (Ok m) (eq-eqb _ _ s.node.word_is)
    (passes _ (WrongField 8) _ (Ok m) (eq-eqb _ _ s.node.sequence_is)
    (passes _ (WrongField 16) _ (Ok m) (eq-eqb _ _ s.version)
    (passes _ (WrongField 20) _ (Ok m) (eq-eqb _ _ s.reserved)
    (holds _ (WrongField 32) _ (Ok m) (ap is_some (ap bad_geometry request ∙ s.geometry))
    (passes _ (WrongField 47) _ (Ok m) (eq-eqb _ _ s.flags)
    (passes _ (WrongField 48) _ (Ok m) (is_zero-behind 48 b s.rest)
    (ap Ok same))))))))

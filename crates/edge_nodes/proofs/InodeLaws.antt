-- Reading answers an inode's head exactly where the block spells it.
use Rattle.std.proofs.Common.{◌≡◌, ℕ, ◌≤◌, ◌==◌, ◌||◌, ◌&&◌, ◌⊎◌, inl, inr, true, false, not, cond, List, drop, length, Ok, refl, sym, ap, subst, ◌∙◌, arith}
use Rattle.std.proofs.lemmas.Bool.{eqb-true, eq-eqb}
use Rattle.std.proofs.lemmas.Bool.Decides.{nat_tests}
use Rattle.edge_base.specs.declared.geometry.Request.{Request}
use Rattle.edge_base.specs.declared.node.Head.{Head}
use Rattle.edge_base.specs.declared.node.NodeType.{NodeType}
use Rattle.edge_base.specs.declared.node.NodeType.TheVariants.{File, Directory}
use Rattle.edge_base.specs.declared.node.NodeFault.TheVariants.{WrongSignature, WrongWord, WrongField}
use Rattle.edge_base.specs.layout.Places.{entries_of}
use Rattle.edge_base.specs.layout.Word.{check_word_of}
use Rattle.edge_base.specs.layout.Bytes.{number_at, numbers_at, signature_in}
use Rattle.edge_base.specs.layout.Spelling.{inode_signature, number_of_kind, SpellsInode, head_fields, inode_in}
use Rattle.edge_nodes.proofs.HeaderLaws.{passed, held, passes, holds}

-- the kind that a mode gives, as reading has it
abbrev kind_of : ℕ → NodeType
kind_of mode = cond (mode == 1) File Directory

two_modes : (mode : ℕ) → ((mode == 1) || (mode == 2)) ≡ true → (mode ≡ 1) ⊎ (mode ≡ 2)
two_modes mode e = grind (arith, nat_tests)

number_of_kind-kind_of : (mode : ℕ) → ((mode == 1) || (mode == 2)) ≡ true → mode ≡ number_of_kind (kind_of mode)
number_of_kind-kind_of mode e = elim (two_modes mode e) [
  | inl one ↦ subst (λ (m : ℕ). m ≡ number_of_kind (kind_of m)) (sym one) refl
  | inr two ↦ subst (λ (m : ℕ). m ≡ number_of_kind (kind_of m)) (sym two) refl
]

kind_of-number_of_kind : (kind : NodeType) → kind_of (number_of_kind kind) ≡ kind
kind_of-number_of_kind File = refl
kind_of-number_of_kind Directory = refl

is_kind : (kind : NodeType) → ((number_of_kind kind == 1) || (number_of_kind kind == 2)) ≡ true
is_kind File = refl
is_kind Directory = refl

some_links : (links : ℕ) → (links == 0) ≡ false → 1 ≤ links
some_links links e = grind (arith, nat_tests)

not_none : (links : ℕ) → 1 ≤ links → (links == 0) ≡ false
not_none links h = grind (arith, nat_tests)

parent_of_file : (mode parent : ℕ) → ((mode == 1) && not (parent == 0)) ≡ false → kind_of mode ≡ File → parent ≡ 0
parent_of_file mode parent e k = grind (arith, nat_tests)

no_parent_of_file : (kind : NodeType) (parent : ℕ) → (kind ≡ File → parent ≡ 0) → ((number_of_kind kind == 1) && not (parent == 0)) ≡ false
no_parent_of_file File parent h = ap (λ (p : ℕ). not (p == 0)) (h refl)
no_parent_of_file Directory parent h = refl

pub spelled_inode : (g : Request) (b : List ℕ) (head : Head) → length b ≡ g.block_size → inode_in b ≡ Ok head
    → SpellsInode g (number_at 8 8 b) head (numbers_at 32 (entries_of g) b) b
unfolding inode_in head_fields
spelled_inode g b head len e =
    let sign = passed (signature_in b == inode_signature) WrongSignature _ head e in
    let word = passed (number_at 4 4 b == check_word_of (drop 8 b)) WrongWord _ head sign.1 in
    let mode = passed ((number_at 24 2 b == 1) || (number_at 24 2 b == 2)) (WrongField 24) _ head word.1 in
    let links = held (number_at 26 2 b == 0) (WrongField 26) _ head mode.1 in
    let parent = held ((number_at 24 2 b == 1) && not (number_at 28 4 b == 0)) (WrongField 28) _ head links.1 in
    let same : head_fields b ≡ head = cc in
    record {
      len = len;
      node = record { signature_is = eqb-true _ _ sign.0; word_is = eqb-true _ _ word.0; sequence_is = refl };
      size = ap (λ h. h.size) same;
      mode = number_of_kind-kind_of _ mode.0 ∙ ap (λ h. number_of_kind h.kind) same;
      links = ap (λ h. h.links) same;
      some_link = subst (λ h. 1 ≤ h.links) same (some_links _ links.0);
      parent = ap (λ h. h.parent) same;
      no_parent = subst (λ h. h.kind ≡ File → h.parent ≡ 0) same (parent_of_file _ _ parent.0);
      entries_are = refl;
    }

fields_of : (g : Request) (sequence : ℕ) (head : Head) (entries b : List ℕ) → SpellsInode g sequence head entries b → head_fields b ≡ head
unfolding head_fields
fields_of g sequence head entries b s i = record {
  size = s.size i;
  kind = let e = ap kind_of s.mode ∙ kind_of-number_of_kind head.kind in e i;
  links = s.links i;
  parent = s.parent i;
}

pub inode_in-spelled : (g : Request) (b : List ℕ) (sequence : ℕ) (head : Head) (entries : List ℕ) → SpellsInode g sequence head entries b → inode_in b ≡ Ok head
unfolding inode_in
inode_in-spelled g b sequence head entries s =
    passes _ WrongSignature _ (Ok head) (eq-eqb _ _ s.node.signature_is)
    (passes _ WrongWord _ (Ok head) (eq-eqb _ _ s.node.word_is)
    (passes _ (WrongField 24) _ (Ok head) (ap (λ (m : ℕ). (m == 1) || (m == 2)) s.mode ∙ is_kind head.kind)
    (holds _ (WrongField 26) _ (Ok head) (ap (λ (n : ℕ). n == 0) s.links ∙ not_none head.links s.some_link)
    (holds _ (WrongField 28) _ (Ok head)
    (ap (λ (m : ℕ). (m == 1) && not (number_at 28 4 b == 0)) s.mode ∙ ap (λ (p : ℕ). (number_of_kind head.kind == 1) && not (p == 0)) s.parent
    ∙ no_parent_of_file head.kind head.parent s.no_parent)
    (ap Ok (fields_of g sequence head entries b s))))))

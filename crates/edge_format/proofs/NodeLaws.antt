-- The bitmap and the entries of a fresh image, as lists, and what its nodes spell.
use Rattle.std.proofs.Common.{◌≡◌, ℕ, suc, ◌-◌, ◌*◌, ◌≤◌, ◌==◌, inl, inr, Bool, true, false, cond, List, ◌∷◌, take, set, replicate, Ok, ap, ◌∙◌, arith}
use mir.Val.{bool_byte}
use Rattle.std.proofs.Math.Nat.{zero-mul}
use Rattle.std.proofs.lemmas.Bool.{ne_eqb, eqb-true, cases_Bool, and_left, and_right}
use Rattle.std.proofs.lemmas.List.{take-replicate}
use Rattle.edge_base.specs.declared.geometry.Request.{Request}
use Rattle.edge_base.specs.declared.node.Metaroot.{Metaroot}
use Rattle.edge_base.specs.layout.Places.{IsGeometry, entries_of, is_inline_of, imap_nodes_of, root_bits_of}
use Rattle.edge_base.specs.layout.Sizes.{node_bits}
use Rattle.edge_base.specs.layout.Bytes.{bit_in}
use Rattle.edge_base.specs.layout.Spelling.{SpellsMetaroot, SpellsImap, SpellsInode, bits_of_node}
use Rattle.edge_image.specs.Formatted.{first_metaroot, empty_root, HasFirstMetaroot, HasFirstImap, HasEmptyRoot}
use Rattle.edge_image.proofs.FormattedLaws.{only_first_bit}
use Rattle.edge_nodes.proofs.GeometryLaws.{limits, geometry_long}
use Rattle.edge_nodes.proofs.MetarootLaws.{metaroot_in-spelled}
use Rattle.edge_nodes.proofs.ImapLaws.{imap_in-spelled}
use Rattle.edge_nodes.proofs.InodeLaws.{inode_in-spelled}

-- the first bytes of a bitmap with its first byte alone
pub front_bits : (x k n m : ℕ) → k ≡ suc n → n ≤ m → take {A = ℕ} k (set (replicate (suc m) 0) 0 x) ≡ x ∷ replicate n 0
front_bits x k n m e short = ap (λ (i : ℕ). take {A = ℕ} i (set (replicate (suc m) 0) 0 x)) e ∙ ap (λ l. x ∷ l) (take-replicate n m 0 short)

-- a bool as a byte
pub bool_byte-cond : (b first : Bool) (x : ℕ) → x ≡ bool_byte b → b ≡ first → x ≡ cond first 1 0
bool_byte-cond true true x e same = e
bool_byte-cond false false x e same = e
bool_byte-cond true false x e same = absurd cc
bool_byte-cond false true x e same = absurd cc

-- the bits of a metaroot behind those that it has are clear
pub other_root_bits : (g : Request) (n : ℕ) (bits : List ℕ) → IsGeometry g → bits ≡ cond (is_inline_of g) 1 0 ∷ replicate n 0 → (i : ℕ) → root_bits_of g ≤ i → bit_in 0 bits i ≡ false
other_root_bits g n bits geometry e i from = only_first_bit (is_inline_of g) 0 bits n i e ∙ elim (cases_Bool (is_inline_of g)) [
  | inl inline ↦
      let l = limits g geometry in
      let room = l.room in
      let count : root_bits_of g ≡ g.blocks - 3 = ap (λ b. cond b (g.blocks - 3) (imap_nodes_of g)) inline in
      and_right (is_inline_of g) (i == 0) (ne_eqb i 0 (λ zero_is. omega arith))
  | inr external ↦ and_left (is_inline_of g) (i == 0) external
]

-- and so are those of an imap node
pub other_node_bits : (g : Request) (node n : ℕ) (bits : List ℕ) → IsGeometry g → bits ≡ cond (node == 0) 1 0 ∷ replicate n 0 → (i : ℕ) → bits_of_node g node ≤ i → bit_in 0 bits i ≡ false
other_node_bits g node n bits geometry e i from = only_first_bit (node == 0) 0 bits n i e ∙ elim (cases_Bool (node == 0)) [
  | inl first ↦
      let l = limits g geometry in
      let room = l.room in
      let long = (geometry_long g geometry).least in
      let is = eqb-true node 0 first in
      let none : node * node_bits g.block_size ≡ 0 = ap (λ (k : ℕ). k * node_bits g.block_size) is ∙ zero-mul (node_bits g.block_size) in
      and_right (node == 0) (i == 0) (ne_eqb i 0 (λ zero_is. omega arith))
  | inr other ↦ and_left (node == 0) (i == 0) other
]

pub has_metaroot : (g : Request) (r : Metaroot) (bits b : List ℕ) (n : ℕ) → SpellsMetaroot g r bits b → r ≡ first_metaroot g → bits ≡ cond (is_inline_of g) 1 0 ∷ replicate n 0 → HasFirstMetaroot g b
has_metaroot g r bits b n spells same e = record {
  spells = metaroot_in-spelled g b r bits spells ∙ ap Ok same;
  bits = λ k. only_first_bit (is_inline_of g) 32 b n k (spells.bitmap ∙ e);
}

pub has_imap : (g : Request) (node : ℕ) (bits b : List ℕ) (n : ℕ) → SpellsImap g node 1 bits b → bits ≡ cond (node == 0) 1 0 ∷ replicate n 0 → HasFirstImap g node b
has_imap g node bits b n spells e = record {
  spells = imap_in-spelled g node b 1 bits spells;
  bits = λ k. only_first_bit (node == 0) 16 b n k (spells.bitmap ∙ e);
}

pub has_root : (g : Request) (entries b : List ℕ) (count m : ℕ) → SpellsInode g 1 empty_root entries b → entries ≡ take count (replicate m 0) → count ≡ entries_of g → count ≤ m → HasEmptyRoot g b
has_root g entries b count m spells e same fits = record {
  spells = inode_in-spelled g b 1 empty_root entries spells;
  sequence = spells.node.sequence_is;
  entries = spells.entries_are ∙ e ∙ take-replicate count m 0 fits ∙ ap (λ (k : ℕ). replicate k 0) same;
}

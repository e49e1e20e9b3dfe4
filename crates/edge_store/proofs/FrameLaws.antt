-- The blocks of a node stay where they are while its pointer nodes say the same.
use Rattle.std.proofs.Common.{◌≡◌, ◌≢◌, ℕ, ◌+◌, ◌-◌, ◌/◌, ◌%◌, ◌<◌, ◌≤◌, Bool, true, false, cond, eqb, ltb, [], ◌∷◌, Option, refl, sym, ap, ◌∙◌, subst}
use Rattle.std.specs.Prelude.{slice_index}
use Rattle.std.proofs.lemmas.Bool.{eqb-false, ltb-false, le-ltb, cond-false, or_left, or_right}
use Rattle.std.proofs.lemmas.Map.{update_apart}
use Rattle.edge_base.specs.declared.form.Form.{Form}
use Rattle.edge_base.specs.declared.form.Form.TheVariants.{Plain, Indirect, Double}
use Rattle.edge_base.specs.declared.geometry.Request.{Request}
use Rattle.edge_base.specs.layout.Places.{entries_of, pointers_of, max_blocks_of}
use Rattle.edge_base.specs.tree.Positions.{Position, has, indirect_at, double_at, above_indirect, above_data, positions_of_form}
use Rattle.edge_base.proofs.PositionLaws.{same_position_equiv}
use Rattle.edge_store.specs.View.{View, Block, Inode, content, content_at, entries_in, entries_of_inode, with_block, with_inode}
use Rattle.edge_store.specs.Placed.{pointer_at, double_block, indirect_block, data_block, block_at}
use Rattle.edge_store.specs.Frames.{KeepsChain, KeepsPointers, IsNoNodeOf}
use Rattle.edge_store.proofs.DigitLaws.{table_below, indirect_below}

module _ (g : Request) (v w : View) where
  -- a block that is there says the same under a form
  abbrev Says : Form → ℕ → Type 0
  Says form b = b ≢ 0 → content_at w form b ≡ content_at v form b

  pointer_at-kept : (form : Form) (b place : ℕ) → Says form b → pointer_at w form b place ≡ pointer_at v form b place
  pointer_at-kept form b place says = by (eqb b 0) refl
    where
      by : (none : Bool) → eqb b 0 ≡ none → cond none 0 (slice_index (entries_in (content_at w form b)) place) ≡ cond none 0 (slice_index (entries_in (content_at v form b)) place)
      by true e = refl
      by false e = ap (λ c. slice_index (entries_in c) place) (says (eqb-false b 0 e))

  module _ (n : ℕ) (entries : entries_of_inode (w.inodes n) ≡ entries_of_inode (v.inodes n)) where
    double_block-kept : (d : ℕ) → double_block g w n d ≡ double_block g v n d
    unfolding double_block
    double_block-kept d = ap (λ es. slice_index es (g.direct + g.indirect + d)) entries

    indirect_block-kept : (j : ℕ) → (g.indirect ≤ j → Says Double (double_block g v n ((j - g.indirect) / pointers_of g))) → indirect_block g w n j ≡ indirect_block g v n j
    unfolding indirect_block
    indirect_block-kept j says = by (ltb j g.indirect) refl
      where
        by : (single : Bool) → ltb j g.indirect ≡ single
            → cond single (slice_index (entries_of_inode (w.inodes n)) (g.direct + j)) (pointer_at w Double (double_block g w n ((j - g.indirect) / pointers_of g)) ((j - g.indirect) % pointers_of g))
            ≡ cond single (slice_index (entries_of_inode (v.inodes n)) (g.direct + j)) (pointer_at v Double (double_block g v n ((j - g.indirect) / pointers_of g)) ((j - g.indirect) % pointers_of g))
        by true e = ap (λ es. slice_index es (g.direct + j)) entries
        by false e =
            ap (λ (b : ℕ). pointer_at w Double b ((j - g.indirect) % pointers_of g)) (double_block-kept _)
            ∙ pointer_at-kept Double _ _ (says (ltb-false j g.indirect e))

    data_block-kept : (i : ℕ) → (g.direct ≤ i → indirect_block g w n ((i - g.direct) / pointers_of g) ≡ indirect_block g v n ((i - g.direct) / pointers_of g))
        → (g.direct ≤ i → Says Indirect (indirect_block g v n ((i - g.direct) / pointers_of g))) → data_block g w n i ≡ data_block g v n i
    unfolding data_block
    data_block-kept i same says = by (ltb i g.direct) refl
      where
        by : (direct : Bool) → ltb i g.direct ≡ direct
            → cond direct (slice_index (entries_of_inode (w.inodes n)) i) (pointer_at w Indirect (indirect_block g w n ((i - g.direct) / pointers_of g)) ((i - g.direct) % pointers_of g))
            ≡ cond direct (slice_index (entries_of_inode (v.inodes n)) i) (pointer_at v Indirect (indirect_block g v n ((i - g.direct) / pointers_of g)) ((i - g.direct) % pointers_of g))
        by true e = ap (λ es. slice_index es i) entries
        by false e =
            let from = ltb-false i g.direct e in
            ap (λ (b : ℕ). pointer_at w Indirect b ((i - g.direct) % pointers_of g)) (same from)
            ∙ pointer_at-kept Indirect _ _ (says from)

-- ---- one position

-- the double-indirect node above an indirect one, and the indirect node above a data block
has-above_indirect : (g : Request) (n j : ℕ) → g.indirect ≤ j → has (above_indirect g n j) (double_at n ((j - g.indirect) / pointers_of g)) ≡ true
has-above_indirect g n j from =
    ap (λ ps. has ps (double_at n ((j - g.indirect) / pointers_of g))) (cond-false (ltb j g.indirect) [] _ (le-ltb j g.indirect from))
    ∙ or_left _ false (same_position_equiv.refl (double_at n ((j - g.indirect) / pointers_of g)))

above_data-behind : (g : Request) (n i : ℕ) → g.direct ≤ i → above_data g n i ≡ indirect_at n ((i - g.direct) / pointers_of g) ∷ above_indirect g n ((i - g.direct) / pointers_of g)
above_data-behind g n i from = cond-false (ltb i g.direct) [] _ (le-ltb i g.direct from)

has-above_data : (g : Request) (n i : ℕ) → g.direct ≤ i → has (above_data g n i) (indirect_at n ((i - g.direct) / pointers_of g)) ≡ true
has-above_data g n i from =
    ap (λ ps. has ps (indirect_at n ((i - g.direct) / pointers_of g))) (above_data-behind g n i from)
    ∙ or_left _ _ (same_position_equiv.refl (indirect_at n ((i - g.direct) / pointers_of g)))

has-above_data-indirect : (g : Request) (n i : ℕ) (q : Position) → g.direct ≤ i → has (above_indirect g n ((i - g.direct) / pointers_of g)) q ≡ true → has (above_data g n i) q ≡ true
has-above_data-indirect g n i q from h = ap (λ ps. has ps q) (above_data-behind g n i from) ∙ or_right _ (has (above_indirect g n ((i - g.direct) / pointers_of g)) q) h

pub block_at-kept : (g : Request) (v w : View) (p : Position) → KeepsChain g v w p → block_at g w p ≡ block_at g v p
block_at-kept g v w p kept = by p.number p.form p.index kept
  where
    by : (n : ℕ) (form : Form) (k : ℕ) → KeepsChain g v w (record { number = n; form = form; index = k }) → block_at g w (record { number = n; form = form; index = k }) ≡ block_at g v (record { number = n; form = form; index = k })
    by n Plain i kept = data_block-kept g v w n kept.entries i
        (λ from. indirect_block-kept g v w n kept.entries ((i - g.direct) / pointers_of g)
        (λ above.
        let top = double_at n (((i - g.direct) / pointers_of g - g.indirect) / pointers_of g) in
        kept.nodes top (has-above_data-indirect g n i top from (has-above_indirect g n ((i - g.direct) / pointers_of g) above))))
        (λ from. kept.nodes (indirect_at n ((i - g.direct) / pointers_of g)) (has-above_data g n i from))
    by n Indirect j kept = indirect_block-kept g v w n kept.entries j (λ from. kept.nodes (double_at n ((j - g.indirect) / pointers_of g)) (has-above_indirect g n j from))
    by n Double d kept = double_block-kept g v w n kept.entries d

-- ---- all positions of a node

module _ (g : Request) (v w : View) (n : ℕ) (kept : KeepsPointers g v w n) where
  abbrev doubles : ℕ
  doubles = entries_of g - g.direct - g.indirect

  pub double_block-pointers : (d : ℕ) → double_block g w n d ≡ double_block g v n d
  double_block-pointers d = double_block-kept g v w n kept.entries d

  pub indirect_block-pointers : (j : ℕ) → j < positions_of_form g Indirect → indirect_block g w n j ≡ indirect_block g v n j
  indirect_block-pointers j h =
      indirect_block-kept g v w n kept.entries j (λ from. kept.double ((j - g.indirect) / pointers_of g) (table_below g.indirect doubles (pointers_of g) j h from))

  pub data_block-pointers : (i : ℕ) → i < max_blocks_of g → data_block g w n i ≡ data_block g v n i
  data_block-pointers i h =
      let row : g.direct ≤ i → (i - g.direct) / pointers_of g < positions_of_form g Indirect = indirect_below g.direct g.indirect doubles (pointers_of g) i h in
      data_block-kept g v w n kept.entries i (λ from. indirect_block-pointers ((i - g.direct) / pointers_of g) (row from)) (λ from. kept.indirect ((i - g.direct) / pointers_of g) (row from))

  pub block_at-pointers : (p : Position) → p.number ≡ n → p.index < positions_of_form g p.form → block_at g w p ≡ block_at g v p
  block_at-pointers p same h =
      subst (λ (m : ℕ). block_at g w (record { number = m; form = p.form; index = p.index }) ≡ block_at g v (record { number = m; form = p.form; index = p.index })) (sym same) (by p.form p.index h)
    where
      by : (form : Form) (k : ℕ) → k < positions_of_form g form → block_at g w (record { number = n; form = form; index = k }) ≡ block_at g v (record { number = n; form = form; index = k })
      by Plain i h = data_block-pointers i h
      by Indirect j h = indirect_block-pointers j h
      by Double d h = double_block-pointers d

-- ---- changes

pub content_at-other : (v : View) (b : ℕ) (block : Option Block) (form : Form) (c : ℕ) → c ≢ b → content_at (with_block v b block) form c ≡ content_at v form c
content_at-other v b block form c apart = ap (content form) (update_apart v.blocks b block c apart)

-- a change of a block that is no pointer node of the node
pub KeepsPointers-with_block : (g : Request) (v : View) (n b : ℕ) (block : Option Block) → IsNoNodeOf g v n b → KeepsPointers g v (with_block v b block) n
KeepsPointers-with_block g v n b block none = record {
  entries = refl;
  indirect = λ j h there. content_at-other v b block Indirect (indirect_block g v n j) (none.indirect j h);
  double = λ d h there. content_at-other v b block Double (double_block g v n d) (none.double d h);
}

-- a change of another number's inode
pub KeepsPointers-with_inode : (g : Request) (v : View) (n m : ℕ) (inode : Option Inode) → n ≢ m → KeepsPointers g v (with_inode v m inode) n
KeepsPointers-with_inode g v n m inode apart = record {
  entries = ap entries_of_inode (update_apart v.inodes m inode n apart);
  indirect = λ j h there. refl;
  double = λ d h there. refl;
}

-- one change after another
pub KeepsPointers-trans : (g : Request) (v w u : View) (n : ℕ) → KeepsPointers g v w n → KeepsPointers g w u n → KeepsPointers g v u n
KeepsPointers-trans g v w u n one two = record {
  entries = two.entries ∙ one.entries;
  indirect = λ j h there. subst (λ (b : ℕ). b ≢ 0 → content_at u Indirect b ≡ content_at w Indirect b) (indirect_block-pointers g v w n one j h) (two.indirect j h) there ∙ one.indirect j h there;
  double = λ d h there. subst (λ (b : ℕ). b ≢ 0 → content_at u Double b ≡ content_at w Double b) (double_block-pointers g v w n one d) (two.double d h) there ∙ one.double d h there;
}

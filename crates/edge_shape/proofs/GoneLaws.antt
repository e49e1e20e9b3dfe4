-- What is left of a node where some of its pointers are gone.
use Rattle.std.proofs.Common.{◌≡◌, ◌≢◌, ℕ, ◌+◌, ◌-◌, ◌/◌, ◌%◌, ◌&&◌, ◌||◌, not, Bool, true, false, cond, eqb, ltb, refl, ap, ◌∙◌}
use Rattle.std.specs.Prelude.{slice_index}
use Rattle.std.proofs.lemmas.Bool.{eqb-true, eqb-false, or_left}
use Rattle.edge_base.specs.declared.form.Form.{Form}
use Rattle.edge_base.specs.declared.form.Form.TheVariants.{Plain, Indirect, Double}
use Rattle.edge_base.specs.declared.geometry.Request.{Request}
use Rattle.edge_base.specs.layout.Places.{pointers_of}
use Rattle.edge_base.specs.tree.Chains.{is_on_chain}
use Rattle.edge_store.specs.View.{View}
use Rattle.edge_store.specs.Placed.{entry_at, pointer_at, double_block, indirect_block, data_block, block_at}
use Rattle.edge_moves.specs.Sound.{numbered}
use Rattle.edge_shape.specs.Shape.{entries_at}
use Rattle.edge_shape.specs.Gone.{Pointers, gone_double, gone_indirect, gone_data, gone, Unlinks}

-- ---- where the blocks are

pick : (t : Bool) (x : ℕ) → (t ≡ false → x ≡ 0) → cond t 0 x ≡ 0
pick true x h = refl
pick false x h = h refl

module _ (g : Request) (v w : View) (n : ℕ) (taken : Pointers) (un : Unlinks g v w n taken) where
  pub double_left : (d : ℕ) → double_block g w n d ≡ cond (gone_double g taken d) 0 (double_block g v n d)
  unfolding double_block
  double_left d = un.entries (g.direct + g.indirect + d)

  -- a pointer of a node that is there or not, gone or not
  at_node : (form : Form) (b c place : ℕ) (lost cut : Bool) → b ≡ cond lost 0 c
      → (lost ≡ false → c ≢ 0 → slice_index (entries_at w form c) place ≡ cond cut 0 (slice_index (entries_at v form c) place))
      → pointer_at w form b place ≡ cond (lost || cut) 0 (pointer_at v form c place)
  at_node form b c place true cut is same = ap (λ (x : ℕ). pointer_at w form x place) is
  at_node form b c place false cut is same = ap (λ (x : ℕ). pointer_at w form x place) is ∙ by (eqb c 0) refl
    where
      none : (t : Bool) (z : ℕ) → z ≡ cond t z z
      none true z = refl
      none false z = refl

      by : (t : Bool) → eqb c 0 ≡ t → cond t 0 (slice_index (entries_at w form c) place) ≡ cond cut 0 (cond t 0 (slice_index (entries_at v form c) place))
      by true e = none cut 0
      by false e = same refl (eqb-false c 0 e)

  pub indirect_left : (j : ℕ) → indirect_block g w n j ≡ cond (gone_indirect g taken j) 0 (indirect_block g v n j)
  unfolding indirect_block
  indirect_left j = by (ltb j g.indirect)
    where
      by : (t : Bool) → cond t (entry_at w n (g.direct + j)) (pointer_at w Double (double_block g w n ((j - g.indirect) / pointers_of g)) ((j - g.indirect) % pointers_of g))
          ≡ cond (cond t (taken.entry (g.direct + j)) (gone_double g taken ((j - g.indirect) / pointers_of g) || taken.outer ((j - g.indirect) / pointers_of g) ((j - g.indirect) % pointers_of g))) 0
          (cond t (entry_at v n (g.direct + j)) (pointer_at v Double (double_block g v n ((j - g.indirect) / pointers_of g)) ((j - g.indirect) % pointers_of g)))
      by true = un.entries (g.direct + j)
      by false = at_node Double _ _ _ _ _ (double_left _) (λ kept there. un.outer ((j - g.indirect) / pointers_of g) ((j - g.indirect) % pointers_of g) kept there)

  pub data_left : (i : ℕ) → data_block g w n i ≡ cond (gone_data g taken i) 0 (data_block g v n i)
  unfolding data_block
  data_left i = by (ltb i g.direct)
    where
      by : (t : Bool) → cond t (entry_at w n i) (pointer_at w Indirect (indirect_block g w n ((i - g.direct) / pointers_of g)) ((i - g.direct) % pointers_of g))
          ≡ cond (cond t (taken.entry i) (gone_indirect g taken ((i - g.direct) / pointers_of g) || taken.inner ((i - g.direct) / pointers_of g) ((i - g.direct) % pointers_of g))) 0
          (cond t (entry_at v n i) (pointer_at v Indirect (indirect_block g v n ((i - g.direct) / pointers_of g)) ((i - g.direct) % pointers_of g)))
      by true = un.entries i
      by false = at_node Indirect _ _ _ _ _ (indirect_left _) (λ kept there. un.inner ((i - g.direct) / pointers_of g) ((i - g.direct) % pointers_of g) kept there)

  pub block_left : (form : Form) (k : ℕ) → block_at g w (numbered n form k) ≡ cond (gone g taken form k) 0 (block_at g v (numbered n form k))
  block_left Plain k = data_left k
  block_left Indirect k = indirect_left k
  block_left Double k = double_left k

-- ---- what is gone above is gone below

pub gone_below : (g : Request) (taken : Pointers) (form : Form) (k i : ℕ) → is_on_chain g form k i ≡ true → gone g taken form k ≡ true → gone_data g taken i ≡ true
gone_below g taken Plain k i on lost = ap (gone_data g taken) (eqb-true i k on) ∙ lost
gone_below g taken Indirect k i on lost = by (ltb i g.direct) on
  where
    by : (t : Bool) → (not t && (eqb ((i - g.direct) / pointers_of g) k)) ≡ true
        → cond t (taken.entry i) (gone_indirect g taken ((i - g.direct) / pointers_of g) || taken.inner ((i - g.direct) / pointers_of g) ((i - g.direct) % pointers_of g)) ≡ true
    by true h = absurd (let e : false ≡ true = h in cc)
    by false h = or_left _ _ (ap (gone_indirect g taken) (eqb-true _ k h) ∙ lost)
gone_below g taken Double k i on lost = by (ltb i g.direct) on
  where
    inner_by : (t : Bool) → (not t && (eqb (((i - g.direct) / pointers_of g - g.indirect) / pointers_of g) k)) ≡ true
        → cond t (taken.entry (g.direct + (i - g.direct) / pointers_of g)) (gone_double g taken (((i - g.direct) / pointers_of g - g.indirect) / pointers_of g) || taken.outer (((i - g.direct) / pointers_of g - g.indirect) / pointers_of g) (((i - g.direct) / pointers_of g - g.indirect) % pointers_of g)) ≡ true
    inner_by true h = absurd (let e : false ≡ true = h in cc)
    inner_by false h = or_left _ _ (ap (gone_double g taken) (eqb-true _ k h) ∙ lost)

    by : (t : Bool) → (not t && (not (ltb ((i - g.direct) / pointers_of g) g.indirect) && eqb (((i - g.direct) / pointers_of g - g.indirect) / pointers_of g) k)) ≡ true
        → cond t (taken.entry i) (gone_indirect g taken ((i - g.direct) / pointers_of g) || taken.inner ((i - g.direct) / pointers_of g) ((i - g.direct) % pointers_of g)) ≡ true
    by true h = absurd (let e : false ≡ true = h in cc)
    by false h = or_left _ _ (inner_by (ltb ((i - g.direct) / pointers_of g) g.indirect) h)

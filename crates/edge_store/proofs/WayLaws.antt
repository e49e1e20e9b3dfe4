-- The block at a data position is where its way leads, and the pointer nodes above it are on that way.
use Rattle.std.proofs.Common.{◌≡◌, ℕ, ◌+◌, ◌-◌, ◌*◌, ◌/◌, ◌%◌, ◌<◌, ◌≤◌, inl, inr, cond, ltb, List, [], ◌∷◌, map, sym, ap, ◌∙◌}
use Rattle.std.specs.Prelude.{slice_index}
use Rattle.std.proofs.lemmas.Bool.{lt-ltb, le-ltb, cond-true, cond-false, cases_lt}
use Rattle.edge_base.specs.declared.form.Form.TheVariants.{Indirect, Double}
use Rattle.edge_base.specs.declared.geometry.Request.{Request}
use Rattle.edge_base.specs.declared.way.Way.TheVariants as way
use Rattle.edge_base.specs.layout.Places.{entries_of, pointers_of, max_blocks_of, way_of}
use Rattle.edge_base.specs.tree.Positions.{indirect_at, above_data}
use Rattle.edge_store.specs.View.{View, entries_of_inode}
use Rattle.edge_store.specs.Placed.{pointer_at, double_block, indirect_block, data_block, block_at, follow, nodes_on}
use Rattle.edge_store.proofs.DigitLaws.{row_below, behind, some_pointers}

test_below : {A : Type 0} (a b : ℕ) (x y : A) → a < b → cond (ltb a b) x y ≡ x
test_below a b x y h = cond-true (ltb a b) x y (lt-ltb a b h)

test_from : {A : Type 0} (a b : ℕ) (x y : A) → b ≤ a → cond (ltb a b) x y ≡ y
test_from a b x y h = cond-false (ltb a b) x y (le-ltb a b h)

module _ (g : Request) (v : View) (n : ℕ) where
  abbrev k : ℕ
  k = pointers_of g

  abbrev entries : List ℕ
  entries = entries_of_inode (v.inodes n)

  -- ---- the three ways

  way-direct : (i : ℕ) → i < g.direct → way_of g i ≡ way.Direct i
  way-direct i h = test_below i g.direct _ _ h

  way-single : (i : ℕ) → g.direct ≤ i → i - g.direct < g.indirect * k → way_of g i ≡ way.Single (g.direct + (i - g.direct) / k) ((i - g.direct) % k)
  way-single i from h = test_from i g.direct _ _ from ∙ test_below (i - g.direct) (g.indirect * k) _ _ h

  way-double : (i : ℕ) → g.direct ≤ i → g.indirect * k ≤ i - g.direct
      → way_of g i ≡ way.Double (g.direct + g.indirect + (i - g.direct - g.indirect * k) / (k * k)) ((i - g.direct - g.indirect * k) % (k * k) / k) ((i - g.direct - g.indirect * k) % k)
  way-double i from past = test_from i g.direct _ _ from ∙ test_from (i - g.direct) (g.indirect * k) _ _ past

  -- ---- indirect nodes

  indirect_block-single : (j : ℕ) → j < g.indirect → indirect_block g v n j ≡ slice_index entries (g.direct + j)
  unfolding indirect_block
  indirect_block-single j h = test_below j g.indirect _ _ h

  indirect_block-double : (j : ℕ) → g.indirect ≤ j → indirect_block g v n j ≡ pointer_at v Double (double_block g v n ((j - g.indirect) / k)) ((j - g.indirect) % k)
  unfolding indirect_block
  indirect_block-double j h = test_from j g.indirect _ _ h

  data_block-direct : (i : ℕ) → i < g.direct → data_block g v n i ≡ slice_index entries i
  unfolding data_block
  data_block-direct i h = test_below i g.direct _ _ h

  data_block-behind : (i : ℕ) → g.direct ≤ i → data_block g v n i ≡ pointer_at v Indirect (indirect_block g v n ((i - g.direct) / k)) ((i - g.direct) % k)
  unfolding data_block
  data_block-behind i h = test_from i g.direct _ _ h

  -- ---- the tie

  module _ (some : 0 < k) where
    -- the indirect node above index i, where the way goes over a double-indirect node
    inner : (i : ℕ) → g.direct ≤ i → g.indirect * k ≤ i - g.direct
        → indirect_block g v n ((i - g.direct) / k) ≡ pointer_at v Double (slice_index entries (g.direct + g.indirect + (i - g.direct - g.indirect * k) / (k * k))) ((i - g.direct - g.indirect * k) % (k * k) / k)
    unfolding double_block
    inner i from past =
        let b = behind (i - g.direct) g.indirect k some past in
        indirect_block-double ((i - g.direct) / k) b.row_from
        ∙ (λ t. pointer_at v Double (slice_index entries (g.direct + g.indirect + b.table t)) (b.row t))

    single : (i : ℕ) → g.direct ≤ i → i - g.direct < g.indirect * k → data_block g v n i ≡ follow v entries (way_of g i)
    single i from h =
        data_block-behind i from
        ∙ ap (λ (b : ℕ). pointer_at v Indirect b ((i - g.direct) % k)) (indirect_block-single ((i - g.direct) / k) (row_below (i - g.direct) g.indirect k some h))
        ∙ ap (follow v entries) (sym (way-single i from h))

    double : (i : ℕ) → g.direct ≤ i → g.indirect * k ≤ i - g.direct → data_block g v n i ≡ follow v entries (way_of g i)
    double i from past =
        data_block-behind i from
        ∙ (λ t. pointer_at v Indirect (inner i from past t) ((behind (i - g.direct) g.indirect k some past).place t))
        ∙ ap (follow v entries) (sym (way-double i from past))

    pub data_block-way : (i : ℕ) → data_block g v n i ≡ follow v entries (way_of g i)
    data_block-way i = elim (cases_lt i g.direct) [
      | inl h ↦ data_block-direct i h ∙ ap (follow v entries) (sym (way-direct i h))
      | inr from ↦ elim (cases_lt (i - g.direct) (g.indirect * k)) [
        | inl h ↦ single i from h
        | inr past ↦ double i from past
      ]
    ]

    nodes-single : (i : ℕ) → g.direct ≤ i → i - g.direct < g.indirect * k → map (block_at g v) (above_data g n i) ≡ nodes_on v entries (way_of g i)
    nodes-single i from h =
        let row = row_below (i - g.direct) g.indirect k some h in
        ap (map (block_at g v)) (test_from i g.direct [] _ from ∙ ap (λ ps. indirect_at n ((i - g.direct) / k) ∷ ps) (test_below ((i - g.direct) / k) g.indirect [] _ row))
        ∙ ap (λ (b : ℕ). b ∷ []) (indirect_block-single ((i - g.direct) / k) row)
        ∙ ap (nodes_on v entries) (sym (way-single i from h))

    nodes-double : (i : ℕ) → g.direct ≤ i → g.indirect * k ≤ i - g.direct → map (block_at g v) (above_data g n i) ≡ nodes_on v entries (way_of g i)
    unfolding double_block
    nodes-double i from past =
        let b = behind (i - g.direct) g.indirect k some past in
        ap (map (block_at g v)) (test_from i g.direct [] _ from ∙ ap (λ ps. indirect_at n ((i - g.direct) / k) ∷ ps) (test_from ((i - g.direct) / k) g.indirect [] _ b.row_from))
        ∙ (λ t. inner i from past t ∷ slice_index entries (g.direct + g.indirect + b.table t) ∷ [])
        ∙ ap (nodes_on v entries) (sym (way-double i from past))

    pub nodes_on-way : (i : ℕ) → map (block_at g v) (above_data g n i) ≡ nodes_on v entries (way_of g i)
    nodes_on-way i = elim (cases_lt i g.direct) [
      | inl h ↦ ap (map (block_at g v)) (test_below i g.direct [] _ h) ∙ ap (nodes_on v entries) (sym (way-direct i h))
      | inr from ↦ elim (cases_lt (i - g.direct) (g.indirect * k)) [
        | inl h ↦ nodes-single i from h
        | inr past ↦ nodes-double i from past
      ]
    ]

-- ---- an index that a file may have

pointers : (g : Request) (i : ℕ) → i < max_blocks_of g → g.direct ≤ i → 0 < pointers_of g
pointers g i h from = some_pointers g.direct g.indirect (entries_of g - g.direct - g.indirect) (pointers_of g) i h from

pub data_block-follow : (g : Request) (v : View) (n i : ℕ) → i < max_blocks_of g → data_block g v n i ≡ follow v (entries_of_inode (v.inodes n)) (way_of g i)
data_block-follow g v n i h = elim (cases_lt i g.direct) [
  | inl low ↦ data_block-direct g v n i low ∙ ap (follow v (entries_of_inode (v.inodes n))) (sym (way-direct g v n i low))
  | inr from ↦ data_block-way g v n (pointers g i h from) i
]

pub above_data-nodes_on : (g : Request) (v : View) (n i : ℕ) → i < max_blocks_of g → map (block_at g v) (above_data g n i) ≡ nodes_on v (entries_of_inode (v.inodes n)) (way_of g i)
above_data-nodes_on g v n i h = elim (cases_lt i g.direct) [
  | inl low ↦ ap (map (block_at g v)) (test_below i g.direct [] _ low) ∙ ap (nodes_on v (entries_of_inode (v.inodes n))) (sym (way-direct g v n i low))
  | inr from ↦ nodes_on-way g v n (pointers g i h from) i
]

-- What a new size of a node counts: the chain of the data block that it is within, or what the cut behind it needs.
use Rattle.std.proofs.Common.{◌≡◌, ◌≢◌, ℕ, ◌+◌, ◌-◌, ◌*◌, ◌/◌, ◌%◌, ◌==◌, ◌&&◌, ◌<◌, ◌≤◌, not, Bool, true, false, cond, List, [], ◌∷◌, refl, sym, ap, ◌∙◌, arith}
use Rattle.edge_file.specs.Shortened.{has_rest}
use Rattle.std.proofs.lemmas.Bool.Decides.{nat_tests}
use Rattle.std.proofs.lemmas.Nat.{div-mul-add, div-add-mod', mod_below}
use Rattle.std.proofs.Math.Nat.{div-lt_iff_lt-mul}
use Rattle.edge_base.specs.declared.geometry.Request.{Request}
use Rattle.edge_base.specs.layout.Places.{max_blocks_of, max_size_of}
use Rattle.edge_base.specs.tree.Positions.{Position, data_at}
use Rattle.edge_base.specs.tree.Slots.{pieces}
use Rattle.edge_store.specs.Fresh.{fresh_count}
use Rattle.edge_store.specs.Placed.{data_block}
use Rattle.edge_store.specs.View.{View}
use Rattle.edge_moves.specs.Writable.{fresh_on_chain}
use Rattle.edge_shape.specs.Shape.{HasShape}
use Rattle.edge_shape.specs.Where.{cut_need}
use Rattle.edge_count.specs.Cuts.{removed}
use Rattle.edge_count.proofs.ChainLaws.{chain_count}
use Rattle.edge_count.proofs.NeedLaws.{fresh_cut}
use Rattle.edge_count.proofs.SizeLaws.{fresh_size-chain}
use Rattle.edge_space.specs.Changes.{is_longer, need_of_change, writes_of, removes_of}
use Rattle.edge_space.specs.declared.change.Change.TheVariants.{Size}

-- ---- numbers of blocks

-- a size within a block takes one block more than it fills
pub uneven_pieces : (b size : ℕ) → 0 < b → size % b ≢ 0 → pieces b size ≡ size / b + 1
uneven_pieces b size some uneven =
    let whole = div-add-mod' size b in
    let low : size % b < b = mod_below size b some in
    let next : (size / b + 1) * b ≡ size / b * b + b = grind arith in
    let split : size + (b - 1) ≡ (size / b + 1) * b + (size % b - 1) = omega arith in
    ap (λ m. m / b) split ∙ div-mul-add (size / b + 1) b (size % b - 1) (omega arith)

pub few_pieces : (b size m : ℕ) → 0 < b → size ≤ m * b → pieces b size ≤ m
few_pieces b size m some low =
    let next : (m + 1) * b ≡ m * b + b = grind arith in
    let less : (size + (b - 1)) / b < m + 1 = (div-lt_iff_lt-mul some).1 (let e : size + (b - 1) < (m + 1) * b = omega arith in e) in
    omega arith

-- ---- a size that is within a block

pub inside_uneven : (g : Request) (v : View) (n size : ℕ) → has_rest g v n size ≡ true → size % g.block_size ≢ 0
inside_uneven g v n size h = uneven_of (size % g.block_size) (not (data_block g v n (size / g.block_size) == 0)) h
  where
    uneven_of : (m : ℕ) (y : Bool) → (not (m == 0) && y) ≡ true → m ≢ 0
    uneven_of m y h e = grind (arith, nat_tests)

-- ---- what is counted

fresh_none : (g : Request) (c v : View) → fresh_count g c v [] [] ≡ 0
unfolding fresh_count
fresh_none g c v = refl

by_tests : (g : Request) (c v : View) (l i : Bool) (d : Position) (gone : List Position) (x y : ℕ)
    → (i ≡ true → fresh_count g c v (d ∷ []) gone ≡ x) → (i ≡ false → fresh_count g c v [] gone ≡ y)
    → fresh_count g c v (cond (l && i) (d ∷ []) []) (cond l gone []) ≡ cond l (cond i x y) 0
by_tests g c v true true d gone x y inside whole = inside refl
by_tests g c v true false d gone x y inside whole = whole refl
by_tests g c v false i d gone x y inside whole = fresh_none g c v

-- a size that is not less counts nothing
pub counted_longer : (g : Request) (c v : View) (n size : ℕ) (indices : ℕ → List ℕ) (left : ℕ) → is_longer v n size ≡ false
    → fresh_count g c v (writes_of g v (Size n size) left) (removes_of g v (Size n size) indices left) ≡ 0
counted_longer g c v n size indices left e = by (is_longer v n size) (has_rest g v n size) (data_at n (size / g.block_size)) (removed n (pieces g.block_size size) (indices n)) e
  where
    by : (l i : Bool) (d : Position) (gone : List Position) → l ≡ false → fresh_count g c v (cond (l && i) (d ∷ []) []) (cond l gone []) ≡ 0
    by true i d gone e = absurd (cc)
    by false i d gone e = fresh_none g c v

module _ (g : Request) (c v : View) (n size : ℕ) (indices : ℕ → List ℕ) (left : ℕ) (shape : HasShape g v n (indices n)) (some : 0 < g.block_size) (most : size ≤ max_size_of g) where
  abbrev blocks : ℕ
  blocks = pieces g.block_size size

  -- a block is cut in two
  inside : has_rest g v n size ≡ true → fresh_count g c v (data_at n (size / g.block_size) ∷ []) (removed n blocks (indices n)) ≡ fresh_on_chain g c v n (size / g.block_size)
  inside cut =
      let more : blocks ≡ size / g.block_size + 1 = uneven_pieces g.block_size size some (inside_uneven g v n size cut) in
      let last : blocks - 1 ≡ size / g.block_size = omega arith in
      let past : 0 < blocks = omega arith in
      ap (λ m. fresh_count g c v (data_at n m ∷ []) (removed n blocks (indices n))) (sym last)
      ∙ fresh_size-chain g c v n blocks (indices n) shape past (few_pieces g.block_size size (max_blocks_of g) some most)
      ∙ sym (chain_count g c v n (blocks - 1)) ∙ ap (fresh_on_chain g c v n) last

  pub counted_size : fresh_count g c v (writes_of g v (Size n size) left) (removes_of g v (Size n size) indices left) ≡ need_of_change g c v (Size n size) left
  counted_size = by_tests g c v (is_longer v n size) (has_rest g v n size) (data_at n (size / g.block_size)) (removed n blocks (indices n))
      (fresh_on_chain g c v n (size / g.block_size)) (cut_need g c v n blocks) inside (λ whole. fresh_cut g c v n blocks (indices n) shape)

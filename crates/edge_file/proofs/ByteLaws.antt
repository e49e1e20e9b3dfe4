-- The bytes of a node by its data blocks, and one run of bytes behind another.
use Rattle.std.proofs.Common.{◌≡◌, ℕ, zero, suc, ◌+◌, ◌*◌, ◌%◌, ◌<◌, ◌≤◌, List, ◌∷◌, ◌++◌, length, get_or, None, refl, sym, ap, ◌∙◌, arith}
use Rattle.std.specs.Prelude.{map, replicate, slice_index, slice_range}
use Rattle.std.specs.List.{range_with_len}
use Rattle.std.proofs.lemmas.List.{map-append, get_or-replicate, length-replicate}
use Rattle.std.proofs.lemmas.List.Edits.{get_or-between, length-between}
use Rattle.std.proofs.lemmas.Grind.{same_number_lists}
use Rattle.std.proofs.lemmas.List.FromFn.{length-map-range_with_len, get_or-map-range_with_len}
use Rattle.std.proofs.lemmas.Nat.{div-mul-add, mod-mul-add}
use Rattle.edge_base.specs.declared.form.Form.TheVariants.{Plain}
use Rattle.edge_base.specs.declared.geometry.Request.{Request}
use Rattle.edge_store.specs.Placed.{data_block}
use Rattle.edge_store.specs.View.{View, bytes_in, content, content_at}
use Rattle.edge_file.specs.Bytes.{byte_of, bytes_at}

-- ---- ranges

pub range-append : (a n m : ℕ) → range_with_len a (n + m) ≡ range_with_len a n ++ range_with_len (a + n) m
range-append a zero m = ap (λ x. range_with_len a x) (let e : zero + m ≡ m = omega arith in e) ∙ ap (λ x. range_with_len x m) (let e : a ≡ a + 0 = omega arith in e)
range-append a (suc n) m =
    let first : range_with_len a (suc n + m) ≡ a ∷ range_with_len (a + 1) (n + m) = ap (range_with_len a) (let e : suc n + m ≡ suc (n + m) = omega arith in e) in
    first ∙ ap (λ xs. a ∷ xs) (range-append (a + 1) n m) ∙ ap (λ x. a ∷ (range_with_len (a + 1) n ++ range_with_len x m)) (let e : a + 1 + n ≡ a + suc n = omega arith in e)

module _ (g : Request) (v : View) (n : ℕ) where
  pub bytes-append : (at len more : ℕ) → bytes_at g v n at (len + more) ≡ bytes_at g v n at len ++ bytes_at g v n (at + len) more
  unfolding bytes_at
  bytes-append at len more = ap (map (byte_of g v n)) (range-append at len more) ∙ map-append (byte_of g v n) (range_with_len at len) (range_with_len (at + len) more)

  pub length-bytes : (at len : ℕ) → length (bytes_at g v n at len) ≡ len
  unfolding bytes_at
  length-bytes at len = length-map-range_with_len (byte_of g v n) at len

  pub bytes-get : (at len k : ℕ) → k < len → get_or (bytes_at g v n at len) k 0 ≡ byte_of g v n (at + k)
  unfolding bytes_at
  bytes-get at len k low = get_or-map-range_with_len (byte_of g v n) at len k (at + k) 0 low refl

  -- ---- one block

  pub byte_in : (i k : ℕ) → k < g.block_size → byte_of g v n (i * g.block_size + k) ≡ slice_index (bytes_in (content_at v Plain (data_block g v n i))) k
  unfolding byte_of
  byte_in i k low =
      ap (λ (x : ℕ). slice_index (bytes_in (content_at v Plain (data_block g v n x))) ((i * g.block_size + k) % g.block_size)) (div-mul-add i g.block_size k low)
      ∙ ap (λ (x : ℕ). slice_index (bytes_in (content_at v Plain (data_block g v n i))) x) (mod-mul-add i g.block_size k low)

  -- a list whose items are those of the block from a place on has its bytes
  pub bytes_in_block : (i start : ℕ) (xs : List ℕ) → start + length xs ≤ g.block_size
      → ((k : ℕ) → k < length xs → get_or xs k 0 ≡ slice_index (bytes_in (content_at v Plain (data_block g v n i))) (start + k))
      → xs ≡ bytes_at g v n (i * g.block_size + start) (length xs)
  bytes_in_block i start xs fits each = same_number_lists xs (bytes_at g v n (i * g.block_size + start) (length xs)) (sym (length-bytes (i * g.block_size + start) (length xs)))
      (λ k low.
      let place : i * g.block_size + start + k ≡ i * g.block_size + (start + k) = omega arith in
      each k low ∙ sym (byte_in i (start + k) (omega arith)) ∙ ap (byte_of g v n) (sym place) ∙ sym (bytes-get (i * g.block_size + start) (length xs) k low))

  -- an absent block has zeros
  pub zeros_in_block : (i start len : ℕ) → start + len ≤ g.block_size → v.blocks (data_block g v n i) ≡ None → replicate len 0 ≡ bytes_at g v n (i * g.block_size + start) len
  zeros_in_block i start len fits none =
      let long : length (replicate len 0) ≡ len = length-replicate len 0 in
      bytes_in_block i start (replicate len 0) (omega (arith, long, fits))
      (λ k low. get_or-replicate len k 0 0 (omega (arith, long, low)) ∙ ap (λ o. slice_index (bytes_in (content Plain o)) (start + k)) (sym none))
      ∙ ap (bytes_at g v n (i * g.block_size + start)) long

  -- a part of a block that is there
  pub part_of_block : (i start len : ℕ) → start + len ≤ g.block_size → length (bytes_in (content_at v Plain (data_block g v n i))) ≡ g.block_size
      → slice_range (bytes_in (content_at v Plain (data_block g v n i))) start (start + len) ≡ bytes_at g v n (i * g.block_size + start) len
  part_of_block i start len fits full =
      let xs = bytes_in (content_at v Plain (data_block g v n i)) in
      let long : length (slice_range xs start (start + len)) ≡ len = length-between xs start (start + len) (omega arith) ∙ omega arith in
      bytes_in_block i start (slice_range xs start (start + len)) (omega arith) (λ k low. get_or-between xs start (start + len) k 0 (omega arith))
      ∙ ap (bytes_at g v n (i * g.block_size + start)) long

-- Files whose bytes a view holds, before and after a write, and after they were made shorter.
use Rattle.std.proofs.Common.{◌≡◌, ◌≢◌, ℕ, ◌+◌, ◌-◌, ◌*◌, ◌/◌, ◌%◌, ◌<◌, ◌≤◌, ◌&&◌, Bool, true, false, cond, min, inl, inr, List, ◌++◌, Option, Some, None, length, take, drop, length-append, length-take, length-drop, refl, sym, ap, ◌∙◌, subst, arith}
use Rattle.std.specs.Prelude.{◌↔◌, replicate, slice_index, nat_le, nat_lt}
use Rattle.std.proofs.lemmas.Bool.{cases_Bool, cases_lt}
use Rattle.std.proofs.lemmas.Grind.{same_number_lists}
use Rattle.std.proofs.lemmas.List.{get_or-append_right, get_or-drop, get_or-replicate, get_or-take, length-replicate}
use Rattle.std.proofs.lemmas.Nat.{div-add-mod', div-mul-add}
use Rattle.std.proofs.Math.ListN.{get_or-append, get_or-eq_default}
use Rattle.std.proofs.Math.Nat.{div-lt_iff_lt-mul, mod-lt, mul-le-mul_right}
use Rattle.edge_base.specs.declared.form.Form.TheVariants.{Plain}
use Rattle.edge_base.specs.declared.geometry.Request.{Request}
use Rattle.edge_base.specs.layout.Places.{entries_of, pointers_of, max_blocks_of, max_size_of}
use Rattle.edge_base.specs.tree.Nodes.{file, indices_of, padded, block_of}
use Rattle.edge_base.specs.tree.Positions.{Position, has, data_at, positions_of}
use Rattle.edge_base.proofs.ChainLaws.{has-positions_of-number}
use Rattle.edge_base.specs.tree.Slots.{pieces}
use Rattle.edge_store.specs.Placed.{block_at, data_block, HasPlaces, HoldsNode}
use Rattle.edge_store.specs.View.{View, Block, IsView, bytes, content, content_at, bytes_in, is_owned_by, is_spot, is_whole}
use Rattle.edge_store.proofs.ViewLaws.{unused_zero}
use Rattle.edge_shape.specs.Shape.{before}
use Rattle.edge_file.specs.Bytes.{byte_of, bytes_at, with_bytes, blocks_under}
use Rattle.edge_file.specs.Rewritten.{IsWritten}
use Rattle.edge_file.specs.Shortened.{IsShortened}
use Rattle.edge_file.proofs.ByteLaws.{byte_in, bytes-get, length-bytes}
use Rattle.edge_file.proofs.BlockLaws.{positions_first_of}
use Rattle.edge_file.specs.Writing.{SameBlocks}
use Rattle.edge_file.proofs.HeadLaws.{here}
use Rattle.edge_file.proofs.JoinLaws.{place_absent, place_in_range}
use Rattle.edge_file.proofs.RangeLaws.{lists, positions_alike}

pub padded_get : (g : Request) (content : List ℕ) (x r : ℕ) → r < g.block_size → slice_index (padded g (take g.block_size (drop x content))) r ≡ slice_index content (x + r)
padded_get g content x r low =
    let piece = take g.block_size (drop x content) in
    let long : length piece ≡ min g.block_size (length content - x) = length-take g.block_size (drop x content) ∙ ap (min g.block_size) (length-drop x content) in
    elim (cases_lt r (length piece)) [
      | inl within ↦
          get_or-append piece (replicate (g.block_size - length piece) 0) 0 r within
          ∙ get_or-take g.block_size (drop x content) r 0 low ∙ get_or-drop x content r 0
      | inr behind ↦
          get_or-append_right piece (replicate (g.block_size - length piece) 0) (length piece) r 0 refl behind
          ∙ get_or-replicate (g.block_size - length piece) (r - length piece) 0 0 (omega arith)
          ∙ sym (get_or-eq_default content 0 (omega (arith, long, behind, low)))
    ]

pub length-padded : (g : Request) (content : List ℕ) (x : ℕ) → length (padded g (take g.block_size (drop x content))) ≡ g.block_size
length-padded g content x =
    let piece = take g.block_size (drop x content) in
    let long : length piece ≡ min g.block_size (length (drop x content)) = length-take g.block_size (drop x content) in
    length-append piece (replicate (g.block_size - length piece) 0) ∙ ap (λ (k : ℕ). length piece + k) (length-replicate (g.block_size - length piece) 0) ∙ omega (arith, long)

-- byte r of block i
place_of_byte : (g : Request) (i r : ℕ) → i < max_blocks_of g → r < g.block_size → i * g.block_size + r < max_size_of g
place_of_byte g i r low fits =
    let next : (i + 1) * g.block_size ≤ max_blocks_of g * g.block_size = mul-le-mul_right g.block_size (omega arith) in
    let split : (i + 1) * g.block_size ≡ i * g.block_size + g.block_size = grind arith in
    omega arith

module _ (g : Request) (v : View) (n : ℕ) (text : List ℕ) (present : List Bool) (fits : g.direct + g.indirect ≤ entries_of g) (some : 0 < pointers_of g) (size : 0 < g.block_size) (view : IsView g v) (is : is_whole (v.inodes n) ≡ true)
    (holds : HoldsNode g v n (file text present)) (zeros : (k : ℕ) → lists (indices_of g (file text present)) (k / g.block_size) ≡ false → slice_index text k ≡ 0) where
  byte_at : (i r : ℕ) → i < max_blocks_of g → r < g.block_size → byte_of g v n (i * g.block_size + r) ≡ slice_index text (i * g.block_size + r)
  byte_at i r low low_r = byte_in g v n i r low_r ∙ elim (cases_Bool (lists (indices_of g (file text present)) i)) [
    | inl there ↦ ap (λ c. slice_index (bytes_in c) r) (holds.contents i there) ∙ padded_get g text (i * g.block_size) r low_r
    | inr none ↦
        let out : has (positions_of g n (indices_of g (file text present))) (data_at n i) ≡ false = positions_first_of g n (indices_of g (file text present)) i ∙ none in
        let absent : data_block g v n i ≡ 0 = place_absent g v n fits some view is (indices_of g (file text present)) holds.places (data_at n i) refl low out in
        ap (λ o. slice_index (bytes_in (content Plain o)) r) (ap v.blocks absent ∙ unused_zero g v view)
        ∙ sym (zeros (i * g.block_size + r) (ap (lists (indices_of g (file text present))) (div-mul-add i g.block_size r low_r) ∙ none))
  ]

  pub file_byte : (k : ℕ) → k < max_size_of g → byte_of g v n k ≡ slice_index text k
  file_byte k low = subst (λ (x : ℕ). byte_of g v n x ≡ slice_index text x) (div-add-mod' k g.block_size) (byte_at (k / g.block_size) (k % g.block_size) ((div-lt_iff_lt-mul size).1 low) (mod-lt k size))

  pub file_run : (at len : ℕ) → length text ≤ max_size_of g → at + len ≤ length text → bytes_at g v n at len ≡ take len (drop at text)
  file_run at len low within = same_number_lists (bytes_at g v n at len) (take len (drop at text)) (length-bytes g v n at len ∙ sym (length-take len (drop at text) ∙ ap (min len) (length-drop at text) ∙ omega arith))
      (λ k in_list.
      let low_k : k < len = subst (λ (m : ℕ). k < m) (length-bytes g v n at len) in_list in
      bytes-get g v n at len k low_k ∙ file_byte (at + k) (omega arith) ∙ sym (get_or-take len (drop at text) k 0 low_k ∙ get_or-drop at text k 0))

  -- ---- where the bytes are those of another text

  module _ (w : View) (view_w : IsView g w) (is_w : is_whole (w.inodes n) ≡ true) (after : List ℕ) (flags : List Bool) (places : HasPlaces g w n (indices_of g (file after flags)))
      (now : (k : ℕ) → k < max_size_of g → byte_of g w n k ≡ slice_index after k) where
    contents_after : (i : ℕ) → lists (indices_of g (file after flags)) i ≡ true → content_at w Plain (data_block g w n i) ≡ bytes (block_of g (file after flags) i)
    contents_after i there =
        let on : has (positions_of g n (indices_of g (file after flags))) (data_at n i) ≡ true = positions_first_of g n (indices_of g (file after flags)) i ∙ there in
        let low = place_in_range g w n fits some view_w is_w (indices_of g (file after flags)) places (data_at n i) on in
        by low (w.blocks (data_block g w n i)) refl (places.spots (data_at n i) on)
      where
        by : i < max_blocks_of g → (o : Option Block) → w.blocks (data_block g w n i) ≡ o → is_owned_by n (content Plain o) ≡ true → content Plain o ≡ bytes (block_of g (file after flags) i)
        by low None e h = absurd (let f : false ≡ true = h in cc)
        by low (Some block) e h = ap bytes (same_number_lists block.bytes (padded g (take g.block_size (drop (i * g.block_size) after)))
            (view_w.full_blocks (data_block g w n i) block e ∙ sym (length-padded g after (i * g.block_size)))
            (λ r in_list.
            let low_r : r < g.block_size = subst (λ (m : ℕ). r < m) (view_w.full_blocks (data_block g w n i) block e) in_list in
            ap (λ o. slice_index (bytes_in (content Plain o)) r) (sym e)
            ∙ sym (byte_in g w n i r low_r) ∙ now (i * g.block_size + r) (place_of_byte g i r low low_r) ∙ sym (padded_get g after (i * g.block_size) r low_r)))

  places_by : (w : View) (xs ys : List ℕ) → ((i : ℕ) → lists xs i ≡ lists ys i) → HasPlaces g w n xs → HasPlaces g w n ys
  places_by w xs ys same places =
      let alike = positions_alike g n xs ys same in
      record {
        places = λ p number low. subst (λ (t : Bool). (block_at g w p ≢ 0) ↔ (t ≡ true)) (alike p) (places.places p number low);
        spots = λ p h. places.spots p (alike p ∙ h);
      }

  pub file_written : (c w : View) (at : ℕ) (new : List ℕ) → IsView g w → is_whole (w.inodes n) ≡ true → IsWritten g c v w n at new (indices_of g (file text present))
      → (after : List ℕ) (flags : List Bool) → ((k : ℕ) → slice_index after k ≡ with_bytes (slice_index text) at new k)
      → ((i : ℕ) → lists (blocks_under g at (length new) ++ indices_of g (file text present)) i ≡ lists (indices_of g (file after flags)) i) → HoldsNode g w n (file after flags)
  file_written c w at new view_w is_w written after flags put blocks = record { places = places_after; contents = contents_after w view_w is_w after flags places_after now }
    where
      places_after : HasPlaces g w n (indices_of g (file after flags))
      places_after = places_by w (blocks_under g at (length new) ++ indices_of g (file text present)) (indices_of g (file after flags)) blocks written.rewritten.places

      now : (k : ℕ) → k < max_size_of g → byte_of g w n k ≡ slice_index after k
      now k low = written.bytes k low ∙ ap (cond (nat_le at k && nat_lt k (at + length new)) (slice_index new (k - at))) (file_byte k low) ∙ sym (put k)

  pub file_shortened : (c w : View) (size : ℕ) → IsShortened g c v w n size (indices_of g (file text present))
      → (after : List ℕ) (flags : List Bool) → ((k : ℕ) → slice_index after k ≡ cond (nat_lt k size) (slice_index text k) 0)
      → ((i : ℕ) → lists (before (pieces g.block_size size) (indices_of g (file text present))) i ≡ lists (indices_of g (file after flags)) i) → HoldsNode g w n (file after flags)
  file_shortened c w size short after flags put blocks =
      record { places = places_after; contents = contents_after w short.trimmed.shape.view short.trimmed.shape.inode after flags places_after now }
    where
      places_after : HasPlaces g w n (indices_of g (file after flags))
      places_after = places_by w (before (pieces g.block_size size) (indices_of g (file text present))) (indices_of g (file after flags)) blocks short.trimmed.shape.places

      now : (k : ℕ) → k < max_size_of g → byte_of g w n k ≡ slice_index after k
      now k low = short.bytes k low ∙ ap (λ (x : ℕ). cond (nat_lt k size) x 0) (file_byte k low) ∙ sym (put k)

-- ---- where no block changes

padded_alike : (g : Request) (text after : List ℕ) (x : ℕ) → ((k : ℕ) → slice_index after k ≡ slice_index text k) → padded g (take g.block_size (drop x text)) ≡ padded g (take g.block_size (drop x after))
padded_alike g text after x same = same_number_lists (padded g (take g.block_size (drop x text))) (padded g (take g.block_size (drop x after)))
    (length-padded g text x ∙ sym (length-padded g after x))
    (λ r in_list.
    let low_r : r < g.block_size = subst (λ (m : ℕ). r < m) (length-padded g text x) in_list in
    padded_get g text x r low_r ∙ sym (same (x + r)) ∙ sym (padded_get g after x r low_r))

pub file_lengthened : (g : Request) (c v w : View) (n : ℕ) (text after : List ℕ) (present flags : List Bool) → HoldsNode g v n (file text present) → SameBlocks v w n
    → ((k : ℕ) → slice_index after k ≡ slice_index text k) → ((i : ℕ) → lists (indices_of g (file text present)) i ≡ lists (indices_of g (file after flags)) i) → HoldsNode g w n (file after flags)
file_lengthened g c v w n text after present flags holds kept same blocks = record {
  places = record {
    places = λ p number low. subst (λ (t : Bool). (block_at g w p ≢ 0) ↔ (t ≡ true)) (alike p)
        (subst (λ (b : ℕ). (b ≢ 0) ↔ (has (positions_of g n (indices_of g (file text present))) p ≡ true)) (sym (stays p number)) (holds.places.places p number low));
    spots = λ p h.
        ap (λ (b : ℕ). is_spot w p.form n b) (stays p (has-positions_of-number g n (indices_of g (file after flags)) p h))
        ∙ ap (λ bs. is_owned_by n (content p.form (bs (block_at g v p)))) kept.blocks ∙ holds.places.spots p (alike p ∙ h);
  };
  contents = λ i there.
      ap (λ (b : ℕ). content_at w Plain b) (stays (data_at n i) refl) ∙ ap (λ bs. content Plain (bs (data_block g v n i))) kept.blocks
      ∙ holds.contents i (blocks i ∙ there) ∙ ap bytes (padded_alike g text after (i * g.block_size) same);
}
  where
    alike : (p : Position) → has (positions_of g n (indices_of g (file text present))) p ≡ has (positions_of g n (indices_of g (file after flags))) p
    alike = positions_alike g n (indices_of g (file text present)) (indices_of g (file after flags)) blocks

    stays : (p : Position) → p.number ≡ n → block_at g w p ≡ block_at g v p
    stays p number = here g c v v w n kept p number

-- A node that was written gets another head.
use Rattle.std.proofs.Common.{◌≡◌, ◌≢◌, ◌⊎◌, ℕ, ◌+◌, ◌/◌, ◌%◌, ◌&&◌, not, true, inl, inr, List, ◌++◌, length, sym, ap, ◌∙◌, refl, subst, arith}
use Rattle.std.specs.Prelude.{is_some, ◌↔◌, slice_index}
use Rattle.edge_base.specs.declared.form.Form.{Form}
use Rattle.edge_base.specs.declared.form.Form.TheVariants.{Plain}
use Rattle.edge_base.specs.declared.geometry.Request.{Request}
use Rattle.edge_base.specs.tree.Positions.{Position, has, count_of, data_at, positions_of}
use Rattle.edge_base.specs.tree.Slots.{pieces}
use Rattle.edge_base.proofs.ChainLaws.{has-positions_of-number}
use Rattle.edge_store.specs.Placed.{block_at, data_block}
use Rattle.edge_store.specs.View.{View, IsView, bytes_in, content, content_at, count_allocable, entries_of_inode, free_after, is_owned_by, is_spot, is_used, is_new, is_whole}
use Rattle.edge_store.proofs.FrameLaws.{block_at-kept}
use Rattle.edge_store.proofs.RoomLaws.{free_now-same}
use Rattle.edge_store.specs.State.{StoreState}
use Rattle.edge_moves.specs.Sound.{numbered}
use Rattle.edge_moves.specs.Writable.{Came}
use Rattle.edge_shape.specs.Shape.{HasShape, before}
use Rattle.edge_file.specs.Bytes.{byte_of, blocks_under}
use Rattle.edge_file.specs.Rewritten.{IsRewritten, IsWritten, fresh_on}
use Rattle.edge_file.specs.Shortened.{block_of_rest, IsTrimmed, IsShortened}
use Rattle.edge_file.specs.Writing.{SameBlocks, WritesBytes}

module _ (g : Request) (c v m w : View) (n : ℕ) (same : SameBlocks m w n) where
  pub here : (p : Position) → p.number ≡ n → block_at g w p ≡ block_at g m p
  here p number = block_at-kept g m w p (record {
    entries = subst (λ (k : ℕ). entries_of_inode (w.inodes k) ≡ entries_of_inode (m.inodes k)) (sym number) same.entries;
    nodes = λ q on there. ap (λ bs. content q.form (bs (block_at g m q))) same.blocks;
  })

  used : (b : ℕ) → is_used w b ≡ is_used m b
  used b = ap (λ bs. is_some (bs b)) same.blocks

  number_of : (xs : List ℕ) (p : Position) → has (positions_of g n xs) p ≡ true → p.number ≡ n
  number_of xs p h = has-positions_of-number g n xs p h

  came_head : (p : Position) → p.number ≡ n → ((block_at g m p ≡ block_at g v p) ⊎ Came c v m (block_at g v p) (block_at g m p)) → (block_at g w p ≡ block_at g v p) ⊎ Came c v w (block_at g v p) (block_at g w p)
  came_head p number (inl stayed) = inl (here p number ∙ stayed)
  came_head p number (inr came) = inr (record {
    fresh = ap v.blocks (here p number) ∙ came.fresh;
    gone = ap (λ bs. bs (block_at g v p)) same.blocks ∙ came.gone;
    was = came.was;
  })

  module _ (touched indices : List ℕ) (was : IsRewritten g c v m n touched indices) where
    spot_head : (p : Position) → has (positions_of g n (touched ++ indices)) p ≡ true → is_spot w p.form n (block_at g w p) ≡ true
    spot_head p h =
        ap (λ (b : ℕ). is_spot w p.form n b) (here p (number_of (touched ++ indices) p h))
        ∙ ap (λ bs. is_owned_by n (content p.form (bs (block_at g m p)))) same.blocks ∙ was.places.spots p h

    rewritten_head : IsRewritten g c v w n touched indices
    rewritten_head = record {
      places = record {
        places = λ p number low. subst (λ (b : ℕ). (b ≢ 0) ↔ (has (positions_of g n (touched ++ indices)) p ≡ true)) (sym (here p number)) (was.places.places p number low);
        spots = spot_head;
      };
      once = λ p q hp hq e. was.once p q hp hq (sym (here p (number_of (touched ++ indices) p hp)) ∙ e ∙ here q (number_of (touched ++ indices) q hq));
      dirty = λ p h. ap (is_new c w) (here p (number_of touched p h)) ∙ ap (λ t. t && not (is_used c (block_at g m p))) (used (block_at g m p)) ∙ was.dirty p h;
      came = λ p h. came_head p (number_of touched p h) (was.came p h);
      stays = λ p h out. here p (number_of indices p h) ∙ was.stays p h out;
      holds = λ p h out. ap (λ bs. bs (block_at g v p)) same.blocks ∙ was.holds p h out;
      inodes = λ x apart. same.others x apart ∙ was.inodes x apart;
      others = λ b there apart. ap (λ bs. bs b) same.blocks ∙ was.others b there apart;
      used = λ b none there. let r = was.used b none (sym (used b) ∙ there) in (r.0, r.1, here r.0 (number_of touched r.0 r.1) ∙ r.2);
      free = ap (λ (k : ℕ). k + fresh_on g c v n touched) (free_now-same g c m w used) ∙ was.free;
    }

  byte_head : (k : ℕ) → byte_of g w n k ≡ byte_of g m n k
  unfolding byte_of
  byte_head k =
      ap (λ (b : ℕ). slice_index (bytes_in (content_at w Plain b)) (k % g.block_size)) (here (data_at n (k / g.block_size)) (λ t. n))
      ∙ ap (λ bs. slice_index (bytes_in (content Plain (bs (data_block g m n (k / g.block_size))))) (k % g.block_size)) same.blocks

  pub written_head : (at : ℕ) (new indices : List ℕ) → IsWritten g c v m n at new indices → IsWritten g c v w n at new indices
  written_head at new indices was = record {
    rewritten = rewritten_head (blocks_under g at (length new)) indices was.rewritten;
    bytes = λ k low. byte_head k ∙ was.bytes k low;
  }

  -- ---- a node that was made shorter

  module _ (i : ℕ) (touched indices : List ℕ) (view_w : IsView g w) (is_w : is_whole (w.inodes n) ≡ true) (was : IsTrimmed g c v m n i touched indices) where
    abbrev rest : List ℕ
    rest = before i indices

    shape_head : HasShape g w n rest
    shape_head = record {
      geometry = was.shape.geometry;
      view = view_w;
      inode = is_w;
      places = record {
        places = λ p number low. subst (λ (b : ℕ). (b ≢ 0) ↔ (has (positions_of g n rest) p ≡ true)) (sym (here p number)) (was.shape.places.places p number low);
        spots = λ p h.
            ap (λ (b : ℕ). is_spot w p.form n b) (here p (number_of rest p h))
            ∙ ap (λ bs. is_owned_by n (content p.form (bs (block_at g m p)))) same.blocks ∙ was.shape.places.spots p h;
      };
      once = λ p q hp hq e. was.shape.once p q hp hq (sym (here p (number_of rest p hp)) ∙ e ∙ here q (number_of rest q hq));
    }

    place : (form : Form) (k : ℕ) → block_at g w (numbered n form k) ≡ block_at g m (numbered n form k)
    place form k = here (numbered n form k) refl

    same_after : free_after g w ≡ free_after g m
    unfolding free_after
    same_after = ap (λ bs. count_allocable g (λ b. not (is_some (bs b)))) same.blocks

    trimmed_head : IsTrimmed g c v w n i touched indices
    trimmed_head = record {
      shape = shape_head;
      holds = λ k member off. ap (λ bs. bs (data_block g v n k)) same.blocks ∙ was.holds k member off;
      dirty = λ form k h. ap (is_new c w) (place form k) ∙ ap (λ t. t && not (is_used c (block_at g m (numbered n form k)))) (used (block_at g m (numbered n form k))) ∙ was.dirty form k h;
      moved = λ form k h out. place form k ∙ was.moved form k h out;
      came = λ form k h. came_head (numbered n form k) refl (was.came form k h);
      dropped = λ form k h out. ap (λ bs. bs (block_at g v (numbered n form k))) same.blocks ∙ was.dropped form k h out;
      inodes = λ x apart. same.others x apart ∙ was.inodes x apart;
      others = λ b there far. ap (λ bs. bs b) same.blocks ∙ was.others b there far;
      used = λ b there none. let r = was.used b (sym (used b) ∙ there) none in (r.0, r.1, r.2, place r.0 r.1 ∙ r.3);
      after = was.after ∙ ap (λ (k : ℕ). k + count_of (positions_of g n rest)) (sym same_after);
    }

  pub shortened_head : (size : ℕ) (indices : List ℕ) → IsView g w → is_whole (w.inodes n) ≡ true → IsShortened g c v m n size indices → IsShortened g c v w n size indices
  shortened_head size indices view_w is_w was = record {
    trimmed = trimmed_head (pieces g.block_size size) (block_of_rest g v n size) indices view_w is_w was.trimmed;
    bytes = λ k low. byte_head k ∙ was.bytes k low;
    room =
        let e = free_now-same g c m w used in
        let h = was.room in
        omega (arith, e, h);
  }

-- a write after a call that only reads
pub written_from : (old mid new : StoreState) (n at : ℕ) (list : List ℕ) → mid.origin ≡ old.origin → mid.working ≡ old.working → mid.committed ≡ old.committed → WritesBytes mid new n at list → WritesBytes old new n at list
written_from old mid new n at list origin working committed written = rw (sym origin, sym working, sym committed) written

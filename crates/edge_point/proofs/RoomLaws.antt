-- The free blocks and numbers that a store keeps are those of its views.
use Rattle.std.proofs.Common.{◌≡◌, ℕ, ◌+◌, ◌<◌, ◌≤◌, ◌&&◌, Bool, true, false, not, cond, List, None, refl, sym, ap, ◌∙◌, arith}
use Rattle.std.specs.Prelude.{IsTrue, count_by, is_none, nat_le, nat_lt}
use Rattle.std.specs.List.{range_with_len}
use Rattle.std.proofs.lemmas.Bool.Decides.{nat_tests}
use Rattle.edge_alloc.specs.declared.Counts.{Counts}
use Rattle.edge_base.specs.declared.geometry.Request.{Request}
use Rattle.edge_base.specs.layout.Bitmap.{used_under}
use Rattle.edge_base.specs.layout.Places.{first_allocable_of, allocable_of, inode_place_of}
use Rattle.edge_cache.specs.Calls.{content_in}
use Rattle.edge_disk.specs.declared.disk.Disk.{Ghosts}
use Rattle.edge_image.specs.Image.{is_free as has_no_inode}
use Rattle.edge_image.specs.View.{inode_by}
use Rattle.edge_imap.proofs.CountLaws.{count-alike}
use Rattle.edge_imap.proofs.ListLaws.{counts_working}
use Rattle.edge_store.specs.View.{free_after, free_inodes, free_now, is_free, is_number, is_used, no_view}
use Rattle.edge_point.specs.Seen.{next_view, state_of}
use Rattle.edge_point.specs.Standing.{IsPoint}
use Rattle.edge_point.specs.declared.parts.Parts.{Parts}
use Rattle.edge_point.proofs.EndedLaws.{last_told, next_told}

pub within : (first len k : ℕ) → first ≤ k → k < first + len → (nat_le first k && nat_lt k (first + len)) ≡ true
within first len k from below = grind (arith, nat_tests)

none_by : (g : Request) (content : ℕ → List ℕ) (n : ℕ) (s t : Bool) → is_none (inode_by g content n s t) ≡ (not s && not t)
none_by g content n true true = refl
none_by g content n true false = refl
none_by g content n false true = refl
none_by g content n false false = refl

module _ {D : Type 0} (g : Ghosts D) (p : Parts D) (is : IsPoint g p) (live : p.live ≡ true) (shows : IsTrue (g.origin p.cache.disk).shows) where
  abbrev request : Request
  request = p.master.geometry

  abbrev content : ℕ → List ℕ
  content = content_in g p.cache

  pub now_free : p.imap.counts.free ≡ free_now request (state_of g p).committed (state_of g p).working
  unfolding free_now
  now_free = ap (λ (c : Counts). c.free) (is.told live shows).tied.counts
      ∙ ap (λ (r : Request). count_by (λ b. not (used_under r p.imap.committed content b) && not (used_under r p.imap.working content b))
      (range_with_len (first_allocable_of r) (allocable_of r))) is.imap
      ∙ sym (count-alike (λ b. not (used_under request p.imap.committed content b) && not (used_under request p.imap.working content b))
      (is_free (state_of g p).committed (state_of g p).working) (first_allocable_of request) (allocable_of request)
      (λ k from below. let may = within (first_allocable_of request) (allocable_of request) k from below in
      λ t. not (sym (last_told g p is live shows k may) t) && not (sym (next_told g p is live shows k may) t)))

  pub after_free : p.imap.counts.free + p.imap.counts.almost ≡ free_after request (state_of g p).working
  unfolding free_after
  after_free = counts_working p.imap content (is.told live shows).tied
      ∙ ap (λ (r : Request). count_by (λ b. not (used_under r p.imap.working content b)) (range_with_len (first_allocable_of r) (allocable_of r))) is.imap
      ∙ sym (count-alike (λ b. not (used_under request p.imap.working content b)) (λ b. not (is_used (state_of g p).working b))
      (first_allocable_of request) (allocable_of request)
      (λ k from below. ap not (sym (next_told g p is live shows k (within (first_allocable_of request) (allocable_of request) k from below)))))

  pub none_told : (n : ℕ) → is_number request n ≡ true
      → has_no_inode request (used_under request p.imap.working content) n ≡ is_none ((state_of g p).working.inodes n)
  none_told n number =
      let used = used_under request p.imap.working content in
      sym (ap (λ t. is_none ((cond t (next_view g p) no_view).inodes n)) shows
      ∙ ap (λ t. is_none (cond t (inode_by request content n (used (inode_place_of request n false)) (used (inode_place_of request n true))) None)) number
      ∙ none_by request content n (used (inode_place_of request n false)) (used (inode_place_of request n true)))

  pub numbers_free : p.numbers ≡ free_inodes request (state_of g p).working
  unfolding free_inodes
  numbers_free = (is.told live shows).numbers
      ∙ sym (count-alike (has_no_inode request (used_under request p.imap.working content)) (λ n. is_none ((state_of g p).working.inodes n)) 2 request.inodes
      (λ k from below. sym (none_told k (within 2 request.inodes k from below))))

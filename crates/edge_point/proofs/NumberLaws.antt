-- The count of the numbers without an inode, where one gets an inode or loses it.
use Rattle.std.proofs.Common.{◌≡◌, ◌≢◌, inl, inr, ℕ, zero, suc, ◌+◌, ◌<◌, ◌≤◌, ◌&&◌, not, Bool, true, false, ap, arith}
use Rattle.std.specs.Prelude.{IsTrue}
use Rattle.std.specs.List.{count_by, range_with_len}
use Rattle.std.proofs.lemmas.Bool.{cases_eq}
use Rattle.edge_base.specs.declared.geometry.Request.{Request}
use Rattle.edge_disk.specs.declared.disk.Disk.{Ghosts}
use Rattle.edge_image.specs.Image.{free_inodes_of, is_free}
use Rattle.edge_imap.proofs.CountLaws.{count-alike, count-cons, count-few, one}
use Rattle.edge_nodes.proofs.GeometryLaws.{limits}
use Rattle.edge_store.specs.View.{is_number}
use Rattle.edge_anchor.proofs.PlaceLaws.{number_within}
use Rattle.edge_point.specs.Changing.{Changes, IsPlaceFor, working_of}
use Rattle.edge_point.specs.Standing.{IsPoint}
use Rattle.edge_point.specs.declared.parts.Parts.{Parts}
use Rattle.edge_point.proofs.RoomLaws.{within}
use Rattle.edge_point.proofs.WorkingLaws.{other_used}

-- tests that agree on a range but at one number of it
pub count_within : (p q : ℕ → Bool) (a n b : ℕ) → a ≤ b → b < a + n → ((k : ℕ) → a ≤ k → k < a + n → k ≢ b → q k ≡ p k)
    → count_by q (range_with_len a n) + one (p b) ≡ count_by p (range_with_len a n) + one (q b)
count_within p q a zero b on lt same = absurd (omega arith)
count_within p q a (suc n) b on lt same = elim (cases_eq a b) [
  | inl e ↦
      let rest = count-alike p q (a + 1) n (λ k from to. same k (omega arith) (omega arith) (λ f. omega (arith, e, f, from))) in
      let old : one (p a) ≡ one (p b) = ap (λ (k : ℕ). one (p k)) e in
      let new : one (q a) ≡ one (q b) = ap (λ (k : ℕ). one (q k)) e in
      omega (arith, count-cons q a (range_with_len (a + 1) n), count-cons p a (range_with_len (a + 1) n), rest, old, new)
  | inr far ↦
      let above : a + 1 ≤ b = omega (arith, far) in
      let rest = count_within p q (a + 1) n b above (omega arith) (λ k from below off. same k (omega arith) (omega arith) off) in
      let first : one (q a) ≡ one (p a) = ap one (same a (omega arith) (omega arith) far) in
      omega (arith, count-cons q a (range_with_len (a + 1) n), count-cons p a (range_with_len (a + 1) n), rest, first)
]

pub few_numbers : (r : Request) (used : ℕ → Bool) → free_inodes_of r used ≤ r.inodes
few_numbers r used = count-few (is_free r used) 2 r.inodes

module _ {D : Type 0} (g : Ghosts D) (IsSuch : ℕ → Type 0) (p q : Parts D) (is : IsPoint g p) (live : p.live ≡ true) (c : Changes g IsSuch p q)
    (n : ℕ) (number : is_number p.master.geometry n ≡ true) (only : (k : ℕ) → IsSuch k → IsPlaceFor p.master.geometry n k)
    (shows : IsTrue (g.origin p.cache.disk).shows) where
  abbrev request : Request
  request = p.master.geometry

  numbers_turn : free_inodes_of request (working_of g q) + one (is_free request (working_of g p) n)
      ≡ free_inodes_of request (working_of g p) + one (is_free request (working_of g q) n)
  numbers_turn =
      let own = number_within request (limits request is.geometry) n number in
      count_within (is_free request (working_of g p)) (is_free request (working_of g q)) 2 request.inodes n own.0 own.1 (λ k from below far.
      let is_one : is_number request k ≡ true = within 2 request.inodes k from below in
      λ t. not (other_used g IsSuch p q is live c n number only shows k false is_one far t)
      && not (other_used g IsSuch p q is live c n number only shows k true is_one far t))

  pub one_more : is_free request (working_of g p) n ≡ false → is_free request (working_of g q) n ≡ true
      → free_inodes_of request (working_of g q) ≡ free_inodes_of request (working_of g p) + 1
  one_more had has = let turn = numbers_turn in let before = ap one had in let after = ap one has in omega (arith, turn, before, after)

  pub one_less : is_free request (working_of g p) n ≡ true → is_free request (working_of g q) n ≡ false
      → free_inodes_of request (working_of g q) + 1 ≡ free_inodes_of request (working_of g p)
  one_less had has = let turn = numbers_turn in let before = ap one had in let after = ap one has in omega (arith, turn, before, after)

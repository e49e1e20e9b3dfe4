-- What the calls below answer, for a change.
use Rattle.std.proofs.Common.{◌≡◌, ℕ, ◌+◌, ◌-◌, ◌/◌, ◌<◌, ◌≤◌, true, false, Bool, cond, Some, None, List, refl, sym, ap, ◌∙◌}
use Rattle.edge_file.specs.Shortened.{has_rest, shortening_need}
use Rattle.std.specs.Prelude.{Result, Ok, Err, IfOk}
use Rattle.std.proofs.lemmas.Bool.{cond-true, cond-false}
use Rattle.edge_base.specs.layout.Places.{IsGeometry, IsWithinLimits, max_blocks_of, max_size_of}
use Rattle.edge_base.specs.outside.Below.{Origin}
use Rattle.edge_base.specs.tree.Slots.{pieces}
use Rattle.edge_store.specs.State.{StoreState, Told}
use Rattle.edge_store.specs.View.{IsView}
use Rattle.edge_moves.proofs.SlotLaws.{some_pointers_fit}
use Rattle.edge_shape.specs.Where.{cut_need}
use Rattle.edge_cut.specs.Through.{IsCutNeed}
use Rattle.edge_file.proofs.StepLaws.{some_bytes}
use Rattle.edge_space.specs.Answers.{IsNeedOf, IsFreshInside, IsShorteningNeed, IsFreshOf, count_of_change}
use Rattle.edge_space.specs.Changes.{is_longer, need_of_change, IsWithin, AreLeft, AreShaped}
use Rattle.edge_space.specs.Counts.{IsFreshRun}
use Rattle.edge_space.specs.declared.change.Change.{Change}
use Rattle.edge_space.specs.declared.change.Change.TheVariants.{Bytes, Size, Slots}
use Rattle.edge_space.proofs.BytesLaws.{fresh_bytes, room_bytes}
use Rattle.edge_space.proofs.SizeLaws.{counted_size}
use Rattle.edge_space.proofs.SlotLaws.{counted_slots}

-- ---- a change

-- so many blocks are left where its nodes have their shape
left_of : (s : StoreState) (change : Change) (indices : ℕ → List ℕ) (left : ℕ) → AreShaped s.origin.request s.working change indices left → AreLeft s.origin.request s.working change left
left_of s (Bytes n at len) indices left shaped = tt
left_of s (Size n size) indices left shaped = tt
left_of s (Slots put None) indices left shaped = tt
left_of s (Slots put (Some clear)) indices left shaped = shaped.0

-- the fresh positions of the change are what it takes then
pub counted : (s : StoreState) (change : Change) (indices : ℕ → List ℕ) (left : ℕ) → IsGeometry s.origin.request → IsWithinLimits s.origin.request → IsView s.origin.request s.working
    → IsWithin s.origin.request change → AreShaped s.origin.request s.working change indices left
    → need_of_change s.origin.request s.committed s.working change left ≡ count_of_change s change indices left
counted s (Bytes n at len) indices left geometry limits view within shaped = sym (room_bytes s.origin.request s.committed s.working n at len)
counted s (Size n size) indices left geometry limits view within shaped =
    let r = s.origin.request in
    sym (counted_size r s.committed s.working n size indices left shaped (some_bytes r (some_pointers_fit r geometry)) within)
counted s (Slots put clear) indices left geometry limits view within shaped =
    sym (counted_slots s.origin.request s.committed s.working put clear indices left geometry limits view within.0 within.1 shaped)

pub fresh_answer : {E : Type 0} (s : StoreState) (change : Change) (result : Result ℕ E) → IsGeometry s.origin.request → IsWithinLimits s.origin.request
    → (Told s → IsView s.origin.request s.working) → IsWithin s.origin.request change → IfOk result (IsNeedOf s change) → IfOk result (IsFreshOf s change)
fresh_answer s change (Ok need) geometry limits view within is = λ told indices left shaped.
    is told left (left_of s change indices left shaped) ∙ counted s change indices left geometry limits (view told) within shaped
fresh_answer s change (Err fault) geometry limits view within is = is

-- ---- bytes

pub bytes_answer : {E : Type 0} (s : StoreState) (n at len first count : ℕ) (result : Result ℕ E) → IsGeometry s.origin.request → 0 < len → at + len ≤ max_size_of s.origin.request
    → first ≡ at / s.origin.request.block_size → first + count ≡ (at + len - 1) / s.origin.request.block_size + 1 → first + count ≤ max_blocks_of s.origin.request
    → IfOk result (IsFreshRun s n first count) → IfOk result (IsNeedOf s (Bytes n at len))
bytes_answer s n at len first count (Ok fresh) geometry some end is_first is_end low run =
    let r = s.origin.request in
    let some_k = some_pointers_fit r geometry in
    λ told left are. run told ∙ sym (fresh_bytes r n at len first count (some_bytes r some_k) some end is_first is_end s.committed s.working low some_k) ∙ room_bytes r s.committed s.working n at len
bytes_answer s n at len first count (Err fault) geometry some end is_first is_end low run = run

-- ---- a size

module _ (s : StoreState) (n size : ℕ) where
  pub behind_inside : (fresh : ℕ) → IsFreshInside s n size (Some fresh) → IsShorteningNeed s n size fresh
  behind_inside fresh found = λ told. found_some (has_rest s.origin.request s.working n size) fresh _ _ (found told)
    where
      found_some : (t : Bool) (x k y : ℕ) → Some x ≡ cond t (Some k) None → x ≡ cond t k y
      found_some true x k y e = let h : Some x ≡ Some k = e in cc
      found_some false x k y e = absurd (let h : Some x ≡ None = e in cc)

  -- the cut is counted in a store that has the same views
  pub behind_whole : {E : Type 0} (mid : StoreState) (blocks : ℕ) (result : Result ℕ E) → mid.origin ≡ s.origin → mid.committed ≡ s.committed → mid.working ≡ s.working
      → blocks ≡ pieces s.origin.request.block_size size → IsFreshInside s n size None → IfOk result (IsCutNeed mid n blocks) → IfOk result (IsShorteningNeed s n size)
  behind_whole mid blocks (Ok fresh) origin committed working is found need = λ told.
      let told_mid : Told mid = ap (λ (o : Origin). o.tells) origin ∙ told in
      need told_mid ∙ (λ i. cut_need (origin i).request (committed i) (working i) n (is i)) ∙ found_none (has_rest s.origin.request s.working n size) _ _ (found told)
    where
      found_none : (t : Bool) (k y : ℕ) → None ≡ cond t (Some k) None → y ≡ cond t k y
      found_none true k y e = absurd (let h : None ≡ Some k = e in cc)
      found_none false k y e = refl
  behind_whole mid blocks (Err fault) origin committed working is found need = need

  pub size_shorter : {E : Type 0} (mid : StoreState) (result : Result ℕ E) → mid.origin ≡ s.origin → mid.committed ≡ s.committed → mid.working ≡ s.working
      → (Told s → is_longer s.working n size ≡ true) → IfOk result (IsShorteningNeed mid n size) → IfOk result (IsNeedOf s (Size n size))
  size_shorter mid (Ok fresh) origin committed working past need = λ told left are.
      let told_mid : Told mid = ap (λ (o : Origin). o.tells) origin ∙ told in
      need told_mid ∙ (λ i. shortening_need (origin i).request (committed i) (working i) n size) ∙ sym (cond-true (is_longer s.working n size) _ 0 (past told))
  size_shorter mid (Err fault) origin committed working past need = need

  pub size_longer : (Told s → is_longer s.working n size ≡ false) → IsNeedOf s (Size n size) 0
  size_longer low = λ told left are. sym (cond-false (is_longer s.working n size) _ 0 (low told))

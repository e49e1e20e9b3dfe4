-- What the laws of a disk in memory cite: its candidates are whole blocks, and the shown bytes are one of them.
use Rattle.std.specs.Prelude.{◌≡◌, ◌==◌, ◌<◌, ℕ, List, [], ◌∷◌, length, map, filter, take, Contains, Vec, refl}
use Rattle.std.proofs.Common.{sym, subst}
use Rattle.std.proofs.Math.Nat.{suc_inj, zero-lt-suc}
use Rattle.std.proofs.lemmas.List.{length-map, nil_from_length}
use Rattle.std.proofs.lemmas.List.Elements.{All-nil, All-cons, All-map, All-filter, All-take, All-contains, All-get_or}
use Rattle.std.specs.List.{All}
use Rattle.std.specs.declared.alloc.Global.{Global}
use Rattle.edge_disk.specs.declared.slot.Slot.{Slot}
use Rattle.edge_disk.specs.Slots.{block_in, remembered, IsBlock, AllBlocksHave, AllSlotsHave}

pub block_bytes : (n : ℕ) (image : List (Vec ℕ Global)) (b : ℕ) → b < length image → AllBlocksHave n image → IsBlock n (block_in image b)
block_bytes n image b in_range whole =
    let bytes_of : Vec ℕ Global → List ℕ = λ v. v.items in
    let P : List ℕ → Type 0 = IsBlock n in
    All-get_or P (map bytes_of image) b [] (subst (λ (m : ℕ). b < m) (sym (length-map image bytes_of)) in_range) (All-map P bytes_of image whole)

remembered_bytes : (n b used : ℕ) (slots : List Slot) → AllSlotsHave n slots
    → All (IsBlock n) (remembered b (take used slots))
remembered_bytes n b used slots whole =
    let is_ours = λ (s : Slot). s.block == b in
    let Whole : Slot → Type 0 = λ s. IsBlock n s.bytes.items in
    All-map (IsBlock n) (λ (s : Slot). s.bytes.items) (filter is_ours (take used slots))
    (All-filter is_ours Whole (take used slots) (All-take Whole used slots whole))

pub candidate_bytes : (n : ℕ) (image : List (Vec ℕ Global)) (used : ℕ) (slots : List Slot) (b : ℕ) (c : List ℕ) → b < length image
    → AllBlocksHave n image → AllSlotsHave n slots
    → Contains (block_in image b ∷ remembered b (take used slots)) c → IsBlock n c
candidate_bytes n image used slots b c in_range whole_blocks whole_slots may =
    let P : List ℕ → Type 0 = IsBlock n in
    let extra = remembered b (take used slots) in
    All-contains P (block_in image b ∷ extra) c (All-cons P (block_in image b) extra
    (block_bytes n image b in_range whole_blocks) (remembered_bytes n b used slots whole_slots)) may

pub shown_is_candidate : (x : List ℕ) (extra : List (List ℕ)) → Contains (x ∷ extra) x
shown_is_candidate x extra = (0, zero-lt-suc (length extra), refl)

-- where there is one candidate, it is the shown bytes
pub only_shown : (x : List ℕ) (extra : List (List ℕ)) (c : List ℕ) → length (x ∷ extra) ≡ 1 → Contains (x ∷ extra) c → c ≡ x
only_shown x extra c one may =
    let P : List ℕ → Type 0 = λ y. y ≡ x in
    let alone : extra ≡ [] = nil_from_length extra (suc_inj one) in
    All-contains P (x ∷ []) c (All-cons P x [] refl (All-nil P)) (subst (λ (l : List (List ℕ)). Contains (x ∷ l) c) alone may)

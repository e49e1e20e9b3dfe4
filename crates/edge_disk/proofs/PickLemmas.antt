-- The image in which each block holds the candidate that is picked for it.
use Rattle.std.proofs.Common.{◌≡◌, ◌≢◌, inl, inr, ℕ, zero, suc, ◌<◌, ◌+◌, ◌-◌, ◌*◌, ◌/◌, ◌==◌, List, [], ◌∷◌, ◌++◌, length, drop, map, filter, get_or, slice_index, slice_get, slice_range, unwrap_or, Option, None, option_map, length-append, refl, sym, ◌∙◌, ap, subst, arith}
use Rattle.std.proofs.Math.Nat.{mul-le-mul_right, mul-div_cancel}
use Rattle.std.proofs.lemmas.Bool.{cases_eq}
use Rattle.std.proofs.lemmas.Bool.Decides.{nat_tests}
use Rattle.std.proofs.lemmas.List.{take-append-le, take_all, drop_at, get_or_default}
use Rattle.std.proofs.lemmas.Option.{slice_get-map, unwrap_or-slice_get}
use Rattle.std.proofs.lemmas.Slice.{between_is}
use Rattle.std.specs.Prelude.{Contains, IsTrue}
use Rattle.edge_disk.specs.declared.slot.Slot.{Slot}
use Rattle.edge_base.specs.layout.Sizes.{is_block_size}
use Rattle.edge_disk.specs.CandidateLaws.{candidate_bytes}
use Rattle.edge_disk.specs.declared.memory.MemoryDisk.{MemoryDisk}
use Rattle.edge_disk.specs.Image.{image_in, IsPermitted, IsPlain}
use Rattle.edge_disk.specs.Memory.{origin_of, candidates_of, may_hold_of, is_sure_of, picked_of}
use Rattle.edge_disk.specs.Slots.{remembered}

abbrev bytes_of : Slot → List ℕ
bytes_of s = s.bytes.items

-- what `nth` finds among the slots of block b is the candidate at that place
at_place : (b : ℕ) (slots : List Slot) (i : ℕ) (o : Option Slot) → o ≡ slice_get (filter (λ (s : Slot). s.block == b) slots) i → unwrap_or (option_map bytes_of o) [] ≡ get_or (remembered b slots) i []
at_place b slots i o e =
    let ours = filter (λ (s : Slot). s.block == b) slots in
    ap (λ (x : Option Slot). unwrap_or (option_map bytes_of x) []) e ∙ ap (λ (x : Option (List ℕ)). unwrap_or x []) (sym (slice_get-map bytes_of ours i)) ∙ unwrap_or-slice_get (map bytes_of ours) i []

-- of all candidates the shown bytes x come first
behind_shown : (x : List ℕ) (b : ℕ) (slots : List Slot) (pick : ℕ) (o : Option Slot) → pick ≢ 0 → o ≡ slice_get (filter (λ (s : Slot). s.block == b) slots) (pick - 1) → unwrap_or (option_map bytes_of o) [] ≡ get_or (x ∷ remembered b slots) pick []
behind_shown x b slots zero o more e = absurd (more refl)
behind_shown x b slots (suc i) o more e = at_place b slots i o (e ∙ ap (slice_get (filter (λ (s : Slot). s.block == b) slots)) (omega arith))

pub past : (x : List ℕ) (b : ℕ) (slots : List Slot) (pick : ℕ) → pick ≢ 0 → None ≡ slice_get (filter (λ (t : Slot). t.block == b) slots) (pick - 1) → [] ≡ get_or (x ∷ remembered b slots) pick []
past x b slots pick more e = behind_shown x b slots pick None more e

-- one block more
here : (n k : ℕ) (bytes block : List ℕ) → length bytes ≡ k * n → length block ≡ n → slice_range (bytes ++ block) (k * n) (k * n + n) ≡ block
here n k bytes block whole long = between_is (bytes ++ block) (k * n) (k * n + n) ∙ ap (drop (k * n)) (take_all (k * n + n) (bytes ++ block) (omega (arith, whole, long, length-append bytes block))) ∙ drop_at bytes block (k * n) whole

before : (n k b : ℕ) (bytes block : List ℕ) → length bytes ≡ k * n → b < k → slice_range (bytes ++ block) (b * n) (b * n + n) ≡ slice_range bytes (b * n) (b * n + n)
before n k b bytes block whole lower = between_is (bytes ++ block) (b * n) (b * n + n) ∙ ap (drop (b * n)) (take-append-le (b * n + n) bytes block (omega (arith, whole, mul-le-mul_right {m = b + 1} {n = k} n (omega (arith, lower))))) ∙ sym (between_is bytes (b * n) (b * n + n))

pub more_blocks : (n k : ℕ) (f : ℕ → List ℕ) (bytes block : List ℕ) → length bytes ≡ k * n → length block ≡ n → block ≡ f k → ((b : ℕ) → b < k → slice_range bytes (b * n) (b * n + n) ≡ f b)
    → (b : ℕ) → b < k + 1 → slice_range (bytes ++ block) (b * n) (b * n + n) ≡ f b
more_blocks n k f bytes block whole long is so_far b lower = elim (cases_eq b k) [
  | inl e ↦ subst (λ (j : ℕ). slice_range (bytes ++ block) (j * n) (j * n + n) ≡ f j) (sym e) (here n k bytes block whole long ∙ is)
  | inr far ↦ before n k b bytes block whole (omega (arith, lower, far)) ∙ so_far b (omega (arith, lower, far))
]

pub is_candidate : (xs : List (List ℕ)) (i : ℕ) → i < length xs → Contains xs (get_or xs i [])
is_candidate xs i lower = (i, lower, get_or_default xs i (get_or xs i []) [] lower)

-- the candidate that is picked is one, and a whole block
pub picked_is_candidate : (d : MemoryDisk) (pick : List ℕ) (b : ℕ) → slice_index pick b < length (candidates_of d b) → may_hold_of d b (picked_of d pick b)
picked_is_candidate d pick b there = is_candidate (candidates_of d b) (slice_index pick b) there

pub picked_is_whole : (d : MemoryDisk) (pick : List ℕ) (b : ℕ) → b < length d.image.items → slice_index pick b < length (candidates_of d b) → length (picked_of d pick b) ≡ d.block_size
picked_is_whole d pick b in_range there = (candidate_bytes d.block_size d.image.items d.used d.slots.items b (picked_of d pick b) in_range d.whole_blocks d.whole_slots (picked_is_candidate d pick b there)).0

some_bytes : (n : ℕ) → IsTrue (is_block_size n) → 0 < n
some_bytes n known = grind (arith, nat_tests)

pub is_permitted : (d : MemoryDisk) (pick bytes : List ℕ) → length bytes ≡ length d.image.items * d.block_size
    → ((b : ℕ) → b < length d.image.items → slice_range bytes (b * d.block_size) (b * d.block_size + d.block_size) ≡ picked_of d pick b)
    → ((b : ℕ) → b < length d.image.items → slice_index pick b < length (candidates_of d b))
    → IsPermitted (origin_of d) (may_hold_of d) (is_sure_of d) (image_in d.block_size bytes)
is_permitted d pick bytes whole picked there = record {
  blocks = ap (λ (n : ℕ). n / d.block_size) whole ∙ mul-div_cancel (length d.image.items) (some_bytes d.block_size d.known_size);
  block_size = refl;
  whole = λ b in_range. ap length (picked b in_range) ∙ picked_is_whole d pick b in_range (there b in_range);
  only = λ b in_range sure. subst (may_hold_of d b) (sym (picked b in_range)) (picked_is_candidate d pick b (there b in_range));
}

pub is_plain : (d : MemoryDisk) (pick bytes : List ℕ) → ((b : ℕ) → b < length d.image.items → slice_range bytes (b * d.block_size) (b * d.block_size + d.block_size) ≡ picked_of d pick b)
    → ((b : ℕ) → b < length d.image.items → slice_index pick b < length (candidates_of d b)) → IsPlain (origin_of d) (may_hold_of d) (image_in d.block_size bytes)
is_plain d pick bytes picked there b low in_range = inl (subst (may_hold_of d b) (sym (picked b in_range)) (picked_is_candidate d pick b (there b in_range)))

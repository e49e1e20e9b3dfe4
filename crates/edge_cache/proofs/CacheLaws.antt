-- What a cache keeps of its disk, over the steps of its calls.
use Rattle.std.proofs.Common.{◌≡◌, ◌≢◌, inl, inr, ⊎_elim, ℕ, zero, suc, ◌+◌, ◌-◌, ◌<◌, ◌≤◌, ◌==◌, Bool, true, false, List, [], ◌∷◌, length, take, set, get_or, Option, Some, None, refl, sym, ap, ◌∙◌, subst, arith}
use Rattle.std.specs.Prelude.{Result, Ok, Err, OnOk, IsTrue, not, filter, Contains, if◌then◌else◌}
use Rattle.std.specs.List.{remove}
use Rattle.std.proofs.lemmas.Bool.{cases_eq, cases_lt, eq-eqb}
use Rattle.std.proofs.lemmas.List.{map-set, length-set, get_or-set_same, get_or-set_other, get_or-take, set-get_or, take-map, take_all, length-take, get_or_default}
use Rattle.std.proofs.lemmas.List.Edits.{length-remove, get_or-remove_below, get_or-remove_above}
use Rattle.edge_cache.specs.Kept.{Kept, made}
use Rattle.edge_cache.specs.Places.{nothing, kept_at, blocks_of, fronted, IsNew, AllApart, AllHave}
use Rattle.edge_cache.specs.Given.{waiting, or_shown, except, GivesUp}
use Rattle.edge_cache.specs.Cached.{Cached, IsCache, content, list_of, used_last, KeepsListed, IsClean}
use Rattle.edge_cache.specs.Calls.{content_in, HasWholeBlocks, Gives, OnlyGivesUp, OnlyChanges, StaysClean}
use Rattle.edge_cache.specs.declared.shelf.TheConstants.{BUFFERS}
use Rattle.edge_cache.proofs.PlaceLaws.{new_at, apart_take, apart_front, map_remove, new_from_each}
use Rattle.edge_cache.proofs.GivenLaws.{not_eq, given_by, given_some, waiting_at, waiting_here, waiting_next, waiting_none, waiting_new, waiting_take, waiting_set_other, block_map, length_blocks, changed_some, none_after, gives_none, gives_on}
use Rattle.edge_base.specs.outside.Below.{SameBelow}
use Rattle.edge_disk.specs.Disk.{Origin}
use Rattle.edge_disk.specs.declared.disk.Disk.{Ghosts}

-- ---- lists of blocks

pub blocks_set : (ks : List Kept) (p : ℕ) (new : Kept) → p < length ks → new.block ≡ (kept_at ks p).block → blocks_of (set ks p new) ≡ blocks_of ks
blocks_set ks p new lt same = map-set (λ (k : Kept). k.block) ks p new ∙ ap (set (blocks_of ks) p) (same ∙ sym (block_map ks p lt)) ∙ set-get_or (blocks_of ks) p 0

pub blocks_take : (ks : List Kept) (n : ℕ) → blocks_of (take n ks) ≡ take n (blocks_of ks)
blocks_take ks n = sym (take-map (λ (k : Kept). k.block) n ks)

filter_new : (b : ℕ) (xs : List ℕ) → IsNew b xs → filter (λ x. not (x == b)) xs ≡ xs
filter_new b [] h = refl
filter_new b (x ∷ xs) h = ap (λ (t : Bool). if not t then x ∷ filter (λ x. not (x == b)) xs else filter (λ x. not (x == b)) xs) (not_eq x b h.0) ∙ ap (λ l. x ∷ l) (filter_new b xs h.1)

filter_at : (b : ℕ) (xs : List ℕ) (p : ℕ) → AllApart xs → p < length xs → get_or xs p 0 ≡ b → filter (λ x. not (x == b)) xs ≡ remove xs p
filter_at b [] p apart lt e = absurd (omega arith)
filter_at b (x ∷ xs) zero apart lt e =
    ap (λ (t : Bool). if not t then x ∷ filter (λ x. not (x == b)) xs else filter (λ x. not (x == b)) xs) (eq-eqb x b e) ∙ filter_new b xs (subst (λ (y : ℕ). IsNew y xs) e apart.0)
filter_at b (x ∷ xs) (suc p) apart lt e =
    let far : x ≢ b = λ f. new_at x xs p 0 apart.0 (omega arith) (e ∙ sym f) in
    ap (λ (t : Bool). if not t then x ∷ filter (λ x. not (x == b)) xs else filter (λ x. not (x == b)) xs) (not_eq x b far) ∙ ap (λ l. x ∷ l) (filter_at b xs p apart.1 (omega arith) e)

-- the list after a block of it was used
pub used_fronted : (ks : List Kept) (p b : ℕ) → AllApart (blocks_of ks) → length ks ≤ BUFFERS → p < length ks → (kept_at ks p).block ≡ b → list_of (fronted ks p) ≡ used_last b (list_of ks)
used_fronted ks p b apart few lt e =
    let xs = blocks_of ks in
    let at : get_or xs p 0 ≡ b = block_map ks p lt ∙ e in
    let inside : p < length xs = omega (arith, length_blocks ks) in
    let filtered = filter_at b xs p apart inside at in
    let short : length (b ∷ remove xs p) ≤ BUFFERS = omega (arith, length-remove xs p inside, length_blocks ks) in
    ap (λ (n : ℕ). n ∷ blocks_of (remove ks p)) e ∙ ap (λ l. b ∷ l) (map_remove (λ (k : Kept). k.block) ks p) ∙ sym (ap (λ l. take BUFFERS (b ∷ l)) filtered ∙ take_all BUFFERS (b ∷ remove xs p) short)

-- and after another block came
pub used_added : (b : ℕ) (old mid : List ℕ) → IsNew b old → mid ≡ take (BUFFERS - 1) old → b ∷ mid ≡ used_last b old
used_added b old mid h e = ap (λ l. b ∷ l) e ∙ sym (ap (λ l. take BUFFERS (b ∷ l)) (filter_new b old h))

-- ---- what is kept

-- buffers of the same blocks and bytes, some of which were given up
pub cache_same : (origin : Origin) (size : ℕ) (old new : List Kept) (s t : ℕ → List ℕ) (m n : ℕ → List ℕ → Type 0) (u v : ℕ → Type 0)
    → IsCache origin s size old → length new ≡ length old → ((i : ℕ) → (kept_at new i).block ≡ (kept_at old i).block) → ((i : ℕ) → (kept_at new i).bytes ≡ (kept_at old i).bytes) → blocks_of new ≡ blocks_of old
    → GivesUp origin.shows (waiting old) (waiting new) s t m n u v → IsCache origin t size new
cache_same origin size old new s t m n u v was len block bytes blocks g = record {
  size_is = was.size_is;
  few = omega (arith, was.few);
  apart = apart;
  in_range = λ i lt. subst (λ (x : ℕ). x < origin.blocks) (sym (block i)) (was.in_range i (omega arith));
  same = λ tells i lt off. by_flag tells i lt off (kept_at old i).changed refl;
}
  where
    apart : AllApart (blocks_of new)
    apart = subst AllApart (sym blocks) was.apart

    by_flag : IsTrue origin.shows → (i : ℕ) → i < length new → (kept_at new i).changed ≡ false → (f : Bool) → (kept_at old i).changed ≡ f → t (kept_at new i).block ≡ (kept_at new i).bytes
    by_flag tells i lt off true e =
        let b = (kept_at new i).block in
        let some : waiting old b ≡ Some (kept_at old i).bytes = waiting_at old i b was.apart (omega arith) (sym (block i)) ∙ given_some (kept_at old i) e in
        let none : waiting new b ≡ None = waiting_at new i b apart lt refl ∙ ap (λ (f : Bool). if f then Some (kept_at new i).bytes else None) off in
        g.written tells b (kept_at old i).bytes some none ∙ sym (bytes i)
    by_flag tells i lt off false e =
        let b = (kept_at new i).block in
        let none : waiting old b ≡ None = waiting_at old i b was.apart (omega arith) (sym (block i)) ∙ ap (λ (f : Bool). if f then Some (kept_at old i).bytes else None) e in
        let stayed : t b ≡ s b = ⊎_elim (λ h. h) (λ w. absurd (cc (none, w))) (g.shown b) in
        stayed ∙ ap s (block i) ∙ was.same tells i (omega arith) e ∙ sym (bytes i)

settled : Kept → Kept
settled k = made k.block k.bytes false

settled_block : (ks : List Kept) (p i : ℕ) → p < length ks → (kept_at (set ks p (made (kept_at ks p).block (kept_at ks p).bytes false)) i).block ≡ (kept_at ks i).block
settled_block ks p i lt = elim (cases_eq i p) [
  | inl e ↦ ap (λ (j : ℕ). (kept_at (set ks p (made (kept_at ks p).block (kept_at ks p).bytes false)) j).block) e ∙ ap (λ (k : Kept). k.block) (get_or-set_same ks p (made (kept_at ks p).block (kept_at ks p).bytes false) nothing lt) ∙ ap (λ (j : ℕ). (kept_at ks j).block) (sym e)
  | inr far ↦ ap (λ (k : Kept). k.block) (get_or-set_other ks p i (made (kept_at ks p).block (kept_at ks p).bytes false) nothing far)
]

settled_bytes : (ks : List Kept) (p i : ℕ) → p < length ks → (kept_at (set ks p (made (kept_at ks p).block (kept_at ks p).bytes false)) i).bytes ≡ (kept_at ks i).bytes
settled_bytes ks p i lt = elim (cases_eq i p) [
  | inl e ↦ ap (λ (j : ℕ). (kept_at (set ks p (made (kept_at ks p).block (kept_at ks p).bytes false)) j).bytes) e ∙ ap (λ (k : Kept). k.bytes) (get_or-set_same ks p (made (kept_at ks p).block (kept_at ks p).bytes false) nothing lt) ∙ ap (λ (j : ℕ). (kept_at ks j).bytes) (sym e)
  | inr far ↦ ap (λ (k : Kept). k.bytes) (get_or-set_other ks p i (made (kept_at ks p).block (kept_at ks p).bytes false) nothing far)
]

-- the buffer of a place was written
pub cache_written : (origin origin' : Origin) (size size' p : ℕ) (old new : List Kept) (s t : ℕ → List ℕ) (m n : ℕ → List ℕ → Type 0) (u v : ℕ → Type 0)
    → IsCache origin s size old → origin' ≡ origin → size' ≡ size → p < length old → new ≡ set old p (made (kept_at old p).block (kept_at old p).bytes false)
    → GivesUp origin.shows (waiting old) (waiting new) s t m n u v → IsCache origin' t size' new
cache_written origin origin' size size' p old new s t m n u v was eo es lt e g =
    subst (λ (o : Origin). IsCache o t size' new) (sym eo) (subst (λ (z : ℕ). IsCache origin t z new) (sym es)
    (cache_same origin size old new s t m n u v was (ap length e ∙ length-set old p _) (λ i. ap (λ l. (kept_at l i).block) e ∙ settled_block old p i lt) (λ i. ap (λ l. (kept_at l i).bytes) e ∙ settled_bytes old p i lt)
    (ap blocks_of e ∙ blocks_set old p _ lt refl) g))

-- nothing is held otherwise
pub cache_stays : (origin origin' : Origin) (size size' : ℕ) (old new : List Kept) (s t : ℕ → List ℕ) (m n : ℕ → List ℕ → Type 0) (u v : ℕ → Type 0)
    → IsCache origin s size old → origin' ≡ origin → size' ≡ size → new ≡ old → GivesUp origin.shows (waiting old) (waiting new) s t m n u v → IsCache origin' t size' new
cache_stays origin origin' size size' old new s t m n u v was eo es e g =
    subst (λ (o : Origin). IsCache o t size' new) (sym eo) (subst (λ (z : ℕ). IsCache origin t z new) (sym es)
    (cache_same origin size old new s t m n u v was (ap length e) (λ i. ap (λ l. (kept_at l i).block) e) (λ i. ap (λ l. (kept_at l i).bytes) e) (ap blocks_of e) g))

pub cache_take : (origin : Origin) (size size' n : ℕ) (s : ℕ → List ℕ) (ks new : List Kept) → IsCache origin s size ks → size' ≡ size → new ≡ take n ks → IsCache origin s size' new
cache_take origin size size' n s ks new was es e = subst (λ l. IsCache origin s size' l) (sym e) (record {
  size_is = es ∙ was.size_is;
  few = omega (arith, was.few, length-take n ks);
  apart = subst AllApart (sym (blocks_take ks n)) (apart_take (blocks_of ks) n was.apart);
  in_range = λ i lt. let low : i < n = omega (arith, length-take n ks) in subst (λ (k : Kept). k.block < origin.blocks) (sym (get_or-take n ks i nothing low)) (was.in_range i (omega (arith, length-take n ks)));
  same = λ tells i lt off. let low : i < n = omega (arith, length-take n ks) in
      let at = get_or-take n ks i nothing low in
      ap (λ (k : Kept). s k.block) at ∙ was.same tells i (omega (arith, length-take n ks)) (sym (ap (λ (k : Kept). k.changed) at) ∙ off) ∙ sym (ap (λ (k : Kept). k.bytes) at);
})

-- dropping buffers that are not changed gives up nothing
pub gives_take : (shows : Bool) (ks mid new : List Kept) (n : ℕ) (s t : ℕ → List ℕ) (m o : ℕ → List ℕ → Type 0) (u v : ℕ → Type 0) → new ≡ take n mid → ((i : ℕ) → n ≤ i → i < length mid → (kept_at mid i).changed ≡ false)
    → GivesUp shows (waiting ks) (waiting mid) s t m o u v → GivesUp shows (waiting ks) (waiting new) s t m o u v
gives_take shows ks mid new n s t m o u v e off g =
    subst (λ (w : ℕ → Option (List ℕ)). GivesUp shows (waiting ks) w s t m o u v) (sym (λ i b. (ap (λ l. waiting l b) e ∙ waiting_take mid n b off) i)) g

-- ---- a block is found

pub content_at : (origin : Origin) (size : ℕ) (s : ℕ → List ℕ) (ks : List Kept) (p b : ℕ) → IsCache origin s size ks → IsTrue origin.shows → p < length ks → (kept_at ks p).block ≡ b → content ks s b ≡ (kept_at ks p).bytes
content_at origin size s ks p b was tells lt e = by_flag (kept_at ks p).changed refl
  where
    by_flag : (f : Bool) → (kept_at ks p).changed ≡ f → content ks s b ≡ (kept_at ks p).bytes
    by_flag true on = ap (λ w. or_shown w (s b)) (waiting_at ks p b was.apart lt e ∙ given_some (kept_at ks p) on)
    by_flag false off = ap (λ w. or_shown w (s b)) (waiting_at ks p b was.apart lt e ∙ ap (λ (t : Bool). if t then Some (kept_at ks p).bytes else None) off) ∙ ap s (sym e) ∙ was.same tells p lt off

length_fronted : (ks : List Kept) (p : ℕ) → p < length ks → length (fronted ks p) ≡ length ks
length_fronted ks p lt = let l = length-remove ks p lt in omega arith

-- each element of the list with one of them first was there before
from_fronted : (ks : List Kept) (p i : ℕ) → p < length ks → i < length (fronted ks p) → (j : ℕ) × (j < length ks) × (kept_at (fronted ks p) i ≡ kept_at ks j)
from_fronted ks p zero at lt = (p, at, refl)
from_fronted ks p (suc i) at lt = elim (cases_lt i p) [
  | inl below ↦ (i, omega arith, get_or-remove_below ks p nothing i below at)
  | inr above ↦ (i + 1, let l = length-remove ks p at in omega arith, get_or-remove_above ks p nothing i above at)
]

pub cache_fronted : (origin : Origin) (size size' p : ℕ) (s : ℕ → List ℕ) (ks new : List Kept) → IsCache origin s size ks → size' ≡ size → p < length ks → new ≡ fronted ks p → IsCache origin s size' new
cache_fronted origin size size' p s ks new was es lt e = subst (λ l. IsCache origin s size' l) (sym e) (record {
  size_is = es ∙ was.size_is;
  few = omega (arith, was.few, length_fronted ks p lt);
  apart =
      subst AllApart (ap (λ l. (kept_at ks p).block ∷ l) (sym (map_remove (λ (k : Kept). k.block) ks p)))
      (subst (λ (n : ℕ). AllApart (n ∷ remove (blocks_of ks) p)) (block_map ks p lt) (apart_front (blocks_of ks) p 0 was.apart (omega (arith, length_blocks ks))));
  in_range = λ i at. let f = from_fronted ks p i lt at in subst (λ (k : Kept). k.block < origin.blocks) (sym f.2) (was.in_range f.0 f.1);
  same = λ tells i at off. let f = from_fronted ks p i lt at in
      ap (λ (k : Kept). s k.block) f.2 ∙ was.same tells f.0 f.1 (sym (ap (λ (k : Kept). k.changed) f.2) ∙ off) ∙ sym (ap (λ (k : Kept). k.bytes) f.2);
})

-- ---- a block is added

pub cache_added : (origin origin' : Origin) (size size' : ℕ) (s t : ℕ → List ℕ) (k : Kept) (ks new : List Kept)
    → IsCache origin s size ks → origin' ≡ origin → size' ≡ size → t ≡ s → length ks < BUFFERS → IsNew k.block (blocks_of ks) → k.block < origin.blocks → (IsTrue origin.shows → k.changed ≡ false → s k.block ≡ k.bytes) → new ≡ k ∷ ks → IsCache origin' t size' new
cache_added origin origin' size size' s t k ks new was eo es et room apart low is e =
    subst (λ (o : Origin). IsCache o t size' new) (sym eo) (subst (λ (f : ℕ → List ℕ). IsCache origin f size' new) (sym et) (subst (λ l. IsCache origin s size' l) (sym e) (record {
      size_is = es ∙ was.size_is;
      few = omega arith;
      apart = (apart, was.apart);
      in_range = in_range;
      same = same;
    })))
  where
    in_range : (i : ℕ) → i < length (k ∷ ks) → (kept_at (k ∷ ks) i).block < origin.blocks
    in_range zero at = low
    in_range (suc i) at = was.in_range i (omega arith)

    same : IsTrue origin.shows → (i : ℕ) → i < length (k ∷ ks) → (kept_at (k ∷ ks) i).changed ≡ false → s (kept_at (k ∷ ks) i).block ≡ (kept_at (k ∷ ks) i).bytes
    same tells zero at off = is tells off
    same tells (suc i) at off = was.same tells i (omega arith) off

pub new_block : (ks : List Kept) (b : ℕ) → ((k : ℕ) → k < length ks → (kept_at ks k).block ≢ b) → IsNew b (blocks_of ks)
new_block ks b h = new_from_each b (blocks_of ks) (λ k lt e. h k (omega (arith, length_blocks ks)) (sym (block_map ks k (omega (arith, length_blocks ks))) ∙ e))

-- another block's buffer that is not changed makes no difference
pub waiting_added : (k : Kept) (ks : List Kept) (b : ℕ) → k.changed ≡ false → IsNew k.block (blocks_of ks) → waiting (k ∷ ks) b ≡ waiting ks b
waiting_added k ks b off new = elim (cases_eq k.block b) [
  | inl e ↦ waiting_here k ks b e ∙ ap (λ (t : Bool). if t then Some k.bytes else None) off ∙ sym (waiting_new ks b (subst (λ (n : ℕ). IsNew n (blocks_of ks)) e new))
  | inr far ↦ waiting_next k ks b far
]

-- a block that no buffer holds is shown as it was
pub shown_new : (shows : Bool) (w : ℕ → Option (List ℕ)) (ks : List Kept) (s t : ℕ → List ℕ) (m n : ℕ → List ℕ → Type 0) (u v : ℕ → Type 0) (b : ℕ) → IsNew b (list_of ks) → GivesUp shows (waiting ks) w s t m n u v → t b ≡ content ks s b
shown_new shows w ks s t m n u v b absent g =
    let none = waiting_new ks b absent in
    ⊎_elim (λ e. e) (λ h. absurd (cc (none, h))) (g.shown b) ∙ sym (ap (λ x. or_shown x (s b)) none)

-- ---- the list

pub listed_new : (b : ℕ) (xs : List ℕ) → Contains xs b → IsNew b xs → ⊥
listed_new b xs listed new = new_at b xs listed.0 b new listed.1 listed.2

pub listed_first : (ks : List Kept) (b : ℕ) → 0 < length ks → (kept_at ks 0).block ≡ b → Contains (list_of ks) b
listed_first [] b some e = absurd (omega arith)
listed_first (k ∷ ks) b some e = (0, omega arith, e)

pub listed_behind : (b : ℕ) (xs : List ℕ) (k : ℕ) → k ≢ b → Contains (b ∷ xs) k → Contains xs k
listed_behind b xs k far (zero, lt, e) = absurd (far (sym e))
listed_behind b xs k far (suc i, lt, e) = (i, omega arith, e)

pub waiting_first : (ks : List Kept) (b : ℕ) → 0 < length ks → (kept_at ks 0).block ≡ b → waiting ks b ≡ given_by (kept_at ks 0)
waiting_first [] b some e = absurd (omega arith)
waiting_first (k ∷ ks) b some e = waiting_here k ks b e

-- the last buffer was written and given up
pub keeps_taken : (ks new : List Kept) (p : ℕ) (x : Kept) → AllApart (blocks_of ks) → p < length ks → x.block ≡ (kept_at ks p).block → new ≡ take p (set ks p x) → KeepsListed ks new
keeps_taken ks new p x apart lt same e k listed =
    let i = listed.0 in
    let set_in = set ks p x in
    let len : length new ≡ length (take p set_in) = ap length e in
    let inside : i < length new = omega (arith, listed.1, length_blocks new) in
    let low : i < p = omega (arith, inside, len, length-take p set_in) in
    let here : kept_at new i ≡ kept_at ks i = ap (λ l. kept_at l i) e ∙ get_or-take p set_in i nothing low ∙ get_or-set_other ks p i x nothing (λ f. omega arith) in
    let block : (kept_at new i).block ≡ k = sym (block_map new i inside) ∙ sym (get_or_default (blocks_of new) i k 0 listed.1) ∙ listed.2 in
    let apart_new : AllApart (blocks_of new) = subst (λ l. AllApart (blocks_of l)) (sym e) (subst AllApart (sym (blocks_take set_in p)) (apart_take (blocks_of set_in) p (subst AllApart (sym (blocks_set ks p x lt same)) apart))) in
    waiting_at new i k apart_new inside block ∙ ap given_by here ∙ sym (waiting_at ks i k apart (omega arith) (sym (ap (λ (y : Kept). y.block) here) ∙ block))

-- ---- contents

-- what waits is a whole block
waiting_length : (n : ℕ) (ks : List Kept) (b : ℕ) (c : List ℕ) → AllHave n ks → waiting ks b ≡ Some c → length c ≡ n
waiting_length n [] b c all e = absurd (cc (waiting_none b, e))
waiting_length n (k ∷ ks) b c all e = elim (cases_eq k.block b) [
  | inl here ↦ let is = changed_some k c (sym (waiting_here k ks b here) ∙ e) in sym (ap length is.1) ∙ all 0 (omega arith)
  | inr far ↦ waiting_length n ks b c (λ i lt. all (suc i) (omega arith)) (sym (waiting_next k ks b far) ∙ e)
]

pub content_gives : (shows : Bool) (w x : ℕ → Option (List ℕ)) (s t : ℕ → List ℕ) (m n : ℕ → List ℕ → Type 0) (u v : ℕ → Type 0) → GivesUp shows w x s t m n u v → IsTrue shows → (k : ℕ) → or_shown (x k) (t k) ≡ or_shown (w k) (s k)
content_gives shows w x s t m n u v g tells k = by_both (w k) (x k) refl refl
  where
    by_both : (a b : Option (List ℕ)) → w k ≡ a → x k ≡ b → or_shown (x k) (t k) ≡ or_shown (w k) (s k)
    by_both None None p q = ap (λ o. or_shown o (t k)) q ∙ ⊎_elim (λ e. e) (λ e. absurd (cc (p, e))) (g.shown k) ∙ sym (ap (λ o. or_shown o (s k)) p)
    by_both None (Some c) p q = absurd (cc (p, g.fewer k c q))
    by_both (Some c) None p q = ap (λ o. or_shown o (t k)) q ∙ g.written tells k c p q ∙ sym (ap (λ o. or_shown o (s k)) p)
    by_both (Some c) (Some e) p q = ap (λ o. or_shown o (t k)) (q ∙ sym (g.fewer k e q) ∙ p) ∙ ap (λ o. or_shown o (s k)) (sym p)

-- one call after another that give up buffers
pub gives_after : (o mid : Origin) (w x y : ℕ → Option (List ℕ)) (s t r : ℕ → List ℕ) (m n q : ℕ → List ℕ → Type 0) (u v z : ℕ → Type 0)
    → mid ≡ o → GivesUp o.shows w x s t m n u v → GivesUp mid.shows x y t r n q v z → GivesUp o.shows w y s r m q u z
gives_after o mid w x y s t r m n q u v z e a b = gives_on _ _ _ _ _ _ _ _ _ _ _ _ _ a (subst (λ (k : Origin). GivesUp k.shows x y t r n q v z) e b)

-- ---- calls

pub on_ok : {T E : Type 0} {P Q : Type 0} (r : Result T E) → (P → Q) → OnOk r P → OnOk r Q
on_ok (Ok v) f p = f p
on_ok (Err e) f p = tt

-- two lists of which the same waits
pub same_gives : (shows : Bool) (old new : List Kept) (s t : ℕ → List ℕ) (m n : ℕ → List ℕ → Type 0) (u v : ℕ → Type 0) → t ≡ s → SameBelow m n u v → ((k : ℕ) → waiting new k ≡ waiting old k)
    → GivesUp shows (waiting old) (waiting new) s t m n u v
same_gives shows old new s t m n u v e below same =
    subst (λ (w : ℕ → Option (List ℕ)). GivesUp shows (waiting old) w s t m n u v) (λ i k. sym (same k) i) (gives_none shows (waiting old) s t m n u v e below)

module _ {D : Type 0} (g : Ghosts D) where
  pub whole_contents : (c : Cached D) (size : ℕ) → ((d : D) (b : ℕ) → IsTrue (g.origin d).shows → b < (g.origin d).blocks → length (g.shown d b) ≡ (g.origin d).block_size) → size ≡ (g.origin c.disk).block_size → AllHave size c.held
      → HasWholeBlocks g c
  whole_contents c size law e all = λ tells k low. by_wait tells k low (waiting c.held k) refl
    where
      by_wait : IsTrue (g.origin c.disk).shows → (k : ℕ) → k < (g.origin c.disk).blocks → (w : Option (List ℕ)) → waiting c.held k ≡ w → length (content_in g c k) ≡ (g.origin c.disk).block_size
      by_wait tells k low None is = ap (λ x. length (or_shown x (g.shown c.disk k))) is ∙ law c.disk k tells low
      by_wait tells k low (Some bytes) is = ap (λ x. length (or_shown x (g.shown c.disk k))) is ∙ waiting_length size c.held k bytes all is ∙ e

  pub only_gives : (old new : Cached D) → Gives g old new → KeepsListed old.held new.held → OnlyGivesUp g old new
  only_gives old new given keeps = record { gives = given; contents = content_gives _ _ _ _ _ _ _ _ _ given; buffers = keeps }

  -- a call that leaves the disk and what waits
  pub only_same : (old new : Cached D) → new.disk ≡ old.disk → ((k : ℕ) → waiting new.held k ≡ waiting old.held k) → OnlyGivesUp g old new
  only_same old new e same =
      let same_below : SameBelow (g.may_hold old.disk) (g.may_hold old.disk) (g.is_sure old.disk) (g.is_sure old.disk) = record { adds_none = λ k c h. h; stays = λ k c h. h; sure = λ k h. h; sure_stays = λ k h. h } in
      let here = same_gives (g.origin old.disk).shows old.held new.held (g.shown old.disk) (g.shown old.disk) (g.may_hold old.disk) (g.may_hold old.disk) (g.is_sure old.disk) (g.is_sure old.disk) refl same_below same in
      only_gives old new
      (subst (λ (d : D). GivesUp (g.origin old.disk).shows (waiting old.held) (waiting new.held) (g.shown old.disk) (g.shown d) (g.may_hold old.disk) (g.may_hold d) (g.is_sure old.disk) (g.is_sure d)) (sym e) here)
      (λ k listed. same k)

  -- and then one that reads the disk alone
  pub only_then : (old mid new : Cached D) → OnlyGivesUp g old mid → g.shown new.disk ≡ g.shown mid.disk → SameBelow (g.may_hold mid.disk) (g.may_hold new.disk) (g.is_sure mid.disk) (g.is_sure new.disk)
      → ((k : ℕ) → waiting new.held k ≡ waiting mid.held k) → ((k : ℕ) → Contains (list_of new.held) k → waiting mid.held k ≡ waiting old.held k) → OnlyGivesUp g old new
  only_then old mid new o e below same stays =
      only_gives old new
      (gives_on _ _ _ _ _ _ _ _ _ _ _ _ _ o.gives (same_gives (g.origin old.disk).shows mid.held new.held (g.shown mid.disk) (g.shown new.disk) (g.may_hold mid.disk) (g.may_hold new.disk) (g.is_sure mid.disk) (g.is_sure new.disk) e below same))
      (λ k listed. same k ∙ stays k listed)

  pub stays_clean : (old new : Cached D) → OnlyGivesUp g old new → IsClean old.held → StaysClean g old new
  stays_clean old new o clean = record {
    clean = λ b. none_after _ _ _ _ _ _ _ _ _ o.gives b (clean b);
    candidates = record {
      adds_none = λ k c h. ⊎_elim (λ m. m) (λ w. absurd (cc (clean k, w))) (o.gives.adds k c h);
      stays = λ k c h. o.gives.stays k c (clean k) h;
      sure = λ k h. o.gives.sure k (clean k) h;
      sure_stays = λ k h. o.gives.sure_stays k (clean k) h;
    };
  }

  -- a change of block b behind a call that only gives up
  pub only_changes : (old mid new : Cached D) (b : ℕ) → OnlyGivesUp g old mid → waiting mid.held b ≡ waiting old.held b → new.disk ≡ mid.disk
      → ((k : ℕ) → k ≢ b → waiting new.held k ≡ waiting mid.held k) → ((k : ℕ) → k ≢ b → Contains (list_of new.held) k → Contains (list_of mid.held) k) → OnlyChanges g b old new
  only_changes old mid new b o here e there listed = record {
    gives = subst (λ (d : D). GivesUp (g.origin old.disk).shows (waiting old.held) (except b (waiting old.held) (waiting new.held)) (g.shown old.disk) (g.shown d) (g.may_hold old.disk) (g.may_hold d) (g.is_sure old.disk) (g.is_sure d)) (sym e)
        (subst (λ (w : ℕ → Option (List ℕ)). GivesUp (g.origin old.disk).shows (waiting old.held) w (g.shown old.disk) (g.shown mid.disk) (g.may_hold old.disk) (g.may_hold mid.disk) (g.is_sure old.disk) (g.is_sure mid.disk)) (λ i k. sym (waits k) i) o.gives);
    contents = λ tells k far. ap (λ w. or_shown w (g.shown new.disk k)) (there k far) ∙ ap (λ (d : D). or_shown (waiting mid.held k) (g.shown d k)) e ∙ o.contents tells k;
    buffers = λ k far on. there k far ∙ o.buffers k (listed k far on);
  }
    where
      waits : (k : ℕ) → except b (waiting old.held) (waiting new.held) k ≡ waiting mid.held k
      waits k = elim (cases_eq k b) [
        | inl is ↦ ap (λ (t : Bool). if t then waiting old.held k else waiting new.held k) (eq-eqb k b is) ∙ ap (waiting old.held) is ∙ sym here ∙ ap (waiting mid.held) (sym is)
        | inr far ↦ ap (λ (t : Bool). if t then waiting old.held k else waiting new.held k) (not_eq k b far) ∙ there k far
      ]

-- ---- the block that was used last is changed

pub set_first_block : (ks : List Kept) (new : Kept) → 0 < length ks → waiting (set ks 0 new) new.block ≡ given_by new
set_first_block [] new lt = absurd (omega arith)
set_first_block (k ∷ ks) new lt = waiting_here new ks new.block refl

pub set_first_other : (ks : List Kept) (new : Kept) (b : ℕ) → new.block ≡ (kept_at ks 0).block → b ≢ new.block → waiting (set ks 0 new) b ≡ waiting ks b
set_first_other ks new b same far = waiting_set_other ks 0 b new (λ e. far (sym e ∙ sym same)) (λ e. far (sym e))

pub cache_put : (origin : Origin) (size size' : ℕ) (s : ℕ → List ℕ) (new : Kept) (ks out : List Kept)
    → IsCache origin s size ks → size' ≡ size → 0 < length ks → new.block ≡ (kept_at ks 0).block → new.changed ≡ true → out ≡ set ks 0 new → IsCache origin s size' out
cache_put origin size size' s new ks out was es lt same on e = subst (λ l. IsCache origin s size' l) (sym e) (record {
  size_is = es ∙ was.size_is;
  few = omega (arith, was.few, length-set ks 0 new);
  apart = subst AllApart (sym (blocks_set ks 0 new lt same)) was.apart;
  in_range = λ i at. elim (cases_eq i 0) [
    | inl z ↦ subst (λ (n : ℕ). n < origin.blocks) (sym (ap (λ (j : ℕ). (kept_at (set ks 0 new) j).block) z ∙ ap (λ (k : Kept). k.block) (get_or-set_same ks 0 new nothing lt) ∙ same)) (was.in_range 0 lt)
    | inr far ↦ subst (λ (k : Kept). k.block < origin.blocks) (sym (get_or-set_other ks 0 i new nothing far)) (was.in_range i (omega (arith, length-set ks 0 new)))
  ];
  same = λ tells i at off. elim (cases_eq i 0) [
    | inl z ↦ absurd (cc (off, ap (λ (j : ℕ). (kept_at (set ks 0 new) j).changed) z ∙ ap (λ (k : Kept). k.changed) (get_or-set_same ks 0 new nothing lt), on))
    | inr far ↦ let o = get_or-set_other ks 0 i new nothing far in ap (λ (k : Kept). s k.block) o ∙ was.same tells i (omega (arith, length-set ks 0 new)) (sym (ap (λ (k : Kept). k.changed) o) ∙ off) ∙ sym (ap (λ (k : Kept). k.bytes) o)
  ];
})

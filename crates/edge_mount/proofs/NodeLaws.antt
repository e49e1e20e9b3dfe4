-- Live imap nodes, counts that were taken, and the metaroot that was found.
use Rattle.std.proofs.Common.{◌≡◌, ℕ, zero, suc, ◌+◌, ◌<◌, ◌≤◌, ◌||◌, ◌&&◌, Bool, true, false, not, List, Option, Some, None, refl, sym, ap, subst, ◌∙◌, inl, inr, arith}
use Rattle.std.specs.Prelude.{count_by, is_ok}
use Rattle.std.specs.List.{list_any, range_with_len}
use Rattle.std.proofs.lemmas.Bool.{cases_eq}
use Rattle.edge_alloc.specs.declared.Counts.{Counts}
use Rattle.edge_base.specs.declared.geometry.Request.{Request}
use Rattle.edge_base.specs.layout.Bitmap.{live_place, used_under}
use Rattle.edge_base.specs.layout.Places.{imap_nodes_of, first_allocable_of, allocable_of}
use Rattle.edge_base.specs.layout.Spelling.{imap_in}
use Rattle.edge_image.specs.Image.{Live, free_blocks_of, has_bad_imap, spells_imap}
use Rattle.edge_imap.specs.Bitmaps.{Bitmaps, HasNodes, IsTied, working_use}
use Rattle.edge_imap.proofs.LoadLaws.{node_is_ok}
use Rattle.edge_mount.specs.Live.{FindsLive, live_bytes}
use Rattle.edge_mount.specs.Mounting.{live_at}
use Rattle.edge_mount.specs.declared.live.LiveRoot.{LiveRoot}

-- ---- imap nodes

or_true : (x y : Bool) → y ≡ true → (x || y) ≡ true
or_true true y e = refl
or_true false y e = e

any_of : (p : ℕ → Bool) (a n i : ℕ) → a ≤ i → i < a + n → p i ≡ true → list_any p (range_with_len a n) ≡ true
any_of p a zero i from below e = absurd (omega arith)
any_of p a (suc n) i from below e = elim (cases_eq i a) [
  | inl here ↦ let first : p a ≡ true = ap p (sym here) ∙ e in λ t. first t || list_any p (range_with_len (a + 1) n)
  | inr far ↦ or_true (p a) (list_any p (range_with_len (a + 1) n)) (any_of p (a + 1) n i (omega arith) (omega arith) e)
]

any_none : (p : ℕ → Bool) (a n : ℕ) → ((i : ℕ) → a ≤ i → i < a + n → p i ≡ false) → list_any p (range_with_len a n) ≡ false
any_none p a zero none = refl
any_none p a (suc n) none =
    let first = none a (omega arith) (omega arith) in
    let rest = any_none p (a + 1) n (λ i from below. none i (omega arith) (omega arith)) in
    λ t. first t || rest t

pub first_is_bad : (g : Request) (roots : List ℕ) (content : ℕ → List ℕ) (i : ℕ) → i < imap_nodes_of g
    → is_ok (imap_in g i (content (live_place g roots i))) ≡ false → has_bad_imap g roots content ≡ true
first_is_bad g roots content i below none =
    any_of (λ k. not (spells_imap g k (content (live_place g roots k)))) 0 (imap_nodes_of g) i (omega arith) (omega arith) (ap not none)

pub nodes_are_good : (g : Request) (roots : List ℕ) (content : ℕ → List ℕ) → HasNodes g roots content → has_bad_imap g roots content ≡ false
nodes_are_good g roots content nodes = any_none (λ k. not (spells_imap g k (content (live_place g roots k)))) 0 (imap_nodes_of g)
    (λ i from below. ap not (node_is_ok g i (content (live_place g roots i)) (nodes i (omega arith))))

-- ---- counts

twice : (x : Bool) → (not x && not x) ≡ not x
twice true = refl
twice false = refl

-- where both lists are the same, the free blocks are those that it does not use
pub free_of_one : (m : Bitmaps) (content : ℕ → List ℕ) → m.committed ≡ m.working → IsTied m content
    → m.counts.free ≡ free_blocks_of m.geometry (working_use m content)
free_of_one m content same tied =
    let range = range_with_len (first_allocable_of m.geometry) (allocable_of m.geometry) in
    ap (λ (c : Counts). c.free) tied.counts
    ∙ ap (λ (roots : List ℕ). count_by (λ b. not (used_under m.geometry roots content b) && not (working_use m content b)) range) same
    ∙ (λ t. count_by (λ b. twice (working_use m content b) t) range)

-- ---- a bitmap that was loaded

module _ (m : Bitmaps) (g : Request) (bits : List ℕ) (content : ℕ → List ℕ) (geometry : m.geometry ≡ g) (working : m.working ≡ bits) where
  pub nodes_of_loaded : IsTied m content → HasNodes g bits content
  nodes_of_loaded tied = subst (λ (w : List ℕ). HasNodes g w content) working (subst (λ (r : Request). HasNodes r m.working content) geometry tied.working)

  pub free_of_loaded : m.committed ≡ bits → IsTied m content → m.counts.free ≡ free_blocks_of g (used_under g bits content)
  free_of_loaded committed tied = free_of_one m content (committed ∙ sym working) tied ∙ (λ t. free_blocks_of (geometry t) (used_under (geometry t) (working t) content))

-- ---- the live metaroot

pub none_found : (found : Option Live) (one two bytes : List ℕ) → FindsLive found one two None bytes → found ≡ None
none_found None one two bytes finds = refl
none_found (Some live) one two bytes finds = absurd (let e = finds.0 in cc)

pub live_found : (found : Option Live) (one two bytes : List ℕ) (l : LiveRoot) → FindsLive found one two (Some l) bytes
    → (found ≡ Some (live_at l.place l.root)) × (bytes ≡ live_bytes (live_at l.place l.root) one two)
live_found None one two bytes l finds = absurd (let e : Some l ≡ None = finds in cc)
live_found (Some live) one two bytes l finds =
    let e : l ≡ record { place = live.place; root = live.root } = let f = finds.0 in cc in
    let same : live_at l.place l.root ≡ live = ap (λ (x : LiveRoot). live_at x.place x.root) e in
    (ap Some (sym same), finds.1 ∙ ap (λ (x : Live). live_bytes x one two) (sym same))

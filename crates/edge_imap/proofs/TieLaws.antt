-- What a change of a bit does to the bits of a root, the nodes, and the tie.
use Rattle.std.proofs.Common.{◌≡◌, ◌≢◌, inl, inr, ⊎_elim, ℕ, ◌+◌, ◌-◌, ◌/◌, ◌%◌, ◌<◌, ◌≤◌, ◌==◌, Bool, true, false, cond, List, length, get_or, refl, sym, ap, ◌∙◌, subst, arith}
use Rattle.std.specs.Prelude.{not, if◌then◌else◌, Result, Ok, Err, OnErr, IsOk, IsTrue}
use Rattle.std.specs.Int.{bit_at}
use Rattle.std.proofs.lemmas.Bool.{cases_eq, cases_lt, eq-eqb}
use mathlib.Core.Bool.{beq}
use Rattle.edge_base.specs.declared.geometry.Request.{Request}
use Rattle.edge_base.specs.layout.Bitmap.{bit_under, used_under, live_place}
use Rattle.edge_base.specs.layout.Bytes.{bit_in}
use Rattle.edge_base.specs.layout.Places.{is_inline_of, imap_nodes_of, imap_place_of, table_start_of, first_allocable_of, root_bits_of, IsWithinLimits}
use Rattle.edge_base.specs.layout.Sizes.{node_bits}
use Rattle.edge_base.specs.layout.Spelling.{bits_of_node}
use Rattle.edge_alloc.specs.declared.Counts.{Counts}
use Rattle.edge_cache.proofs.GivenLaws.{not_eq}
use Rattle.edge_imap.specs.Bitmaps.{Bitmaps, bitmaps, ChangesUse, IsRootBits, IsNode, HasNodes, IsTied, IsLive, IsNamed, IsNamedFor, SameNodes, spare_place, node_of, bits_of, counts_settled, counts_after, first_bit, committed_use, working_use}
use Rattle.edge_cache.specs.Blocks.{word_holds_in}
use Rattle.edge_cache.specs.Cached.{Cached}
use Rattle.edge_cache.specs.Calls.{content_in}
use Rattle.edge_disk.specs.declared.disk.Disk.{Ghosts}
use Rattle.edge_imap.specs.declared.fault.ImapFault.{ImapFault}
use Rattle.edge_imap.specs.Reading.{ChangesBit, TellsWhy, NeverDamaged}
use Rattle.edge_imap.proofs.BitLaws.{bit_is, IsLong, long_blocks, node_below, place_apart, spare_apart, bit_under-same, contents_same, committed_stays}
use Rattle.edge_imap.proofs.CountLaws.{counts_same, counts_settle, counts_change}

-- ---- results

pub on_err : {T E P : Type 0} (r : Result T E) → P → OnErr r P
on_err (Ok v) p = tt
on_err (Err e) p = p

pub err_map : {T E P Q : Type 0} (r : Result T E) → (P → Q) → OnErr r P → OnErr r Q
err_map (Ok v) f p = tt
err_map (Err e) f p = f p

-- ---- truth values

pub same_flags : (a b : Bool) → beq a b ≡ true → a ≡ b
same_flags true true e = refl
same_flags true false e = absurd (cc e)
same_flags false true e = absurd (cc e)
same_flags false false e = refl

pub other_flags : (a b : Bool) → beq a b ≡ false → b ≡ not a
other_flags true true e = absurd (cc e)
other_flags true false e = refl
other_flags false true e = refl
other_flags false false e = absurd (cc e)

pub not_self : (a : Bool) → a ≡ not a → ⊥
not_self true e = cc e
not_self false e = cc e

pub flag_other : (a b : Bool) → beq a b ≡ false → a ≡ not b
flag_other true true e = absurd (cc e)
flag_other true false e = refl
flag_other false true e = refl
flag_other false false e = absurd (cc e)

pub not_ok : {T E : Type 0} (r : Result T E) (e : E) → r ≡ Err e → IsOk r → ⊥
not_ok (Ok v) e is ok = cc is
not_ok (Err x) e is ok = cc ok

-- the bits of one byte
pub byte_bit : (b : List ℕ) (i : ℕ) → i < 8 → bit_in 0 b i ≡ (bit_at (get_or b 0 0) i == 1)
byte_bit b i low =
    let at : 0 + i / 8 ≡ 0 = omega arith in
    let same : i % 8 ≡ i = omega arith in
    bit_is 0 b i ∙ (λ z. bit_at (get_or b (at z) 0) (same z) == 1)

-- the same change, of numbers that are equal
pub change_at : (n m a b p q x y : ℕ) (used : Bool) (f h : ℕ → List ℕ) → n ≡ m → a ≡ b → p ≡ q → x ≡ y → ChangesBit n a used (f p) (h x) → ChangesBit m b used (f q) (h y)
change_at n m a b p q x y used f h e1 e2 e3 e4 c =
    subst (λ (z : ℕ). ChangesBit m b used (f q) (h z)) e4 (subst (λ (z : ℕ). ChangesBit m b used (f z) (h x)) e3 (subst (λ (z : ℕ). ChangesBit m z used (f p) (h x)) e2 (subst (λ (z : ℕ). ChangesBit z a used (f p) (h x)) e1 c)))

-- ---- the bits of a root

pub root_bits_inline : (g : Request) → is_inline_of g ≡ true → root_bits_of g ≡ g.blocks - 3
root_bits_inline g e = ap (λ t. cond t (g.blocks - 3) (imap_nodes_of g)) e

pub root_bits_external : (g : Request) → is_inline_of g ≡ false → root_bits_of g ≡ imap_nodes_of g
root_bits_external g e = ap (λ t. cond t (g.blocks - 3) (imap_nodes_of g)) e

-- an inline bitmap has no nodes
pub no_nodes : (g : Request) → is_inline_of g ≡ true → imap_nodes_of g ≡ 0
no_nodes g e = ap (λ t. cond t 0 ((g.blocks - 3 + node_bits g.block_size + 1) / (node_bits g.block_size + 2))) e

pub roots_changed : (g : Request) (old new : List ℕ) (b : ℕ) → IsRootBits g old → length new ≡ length old → ((k : ℕ) → k ≢ b → bit_in 0 new k ≡ bit_in 0 old k) → b < root_bits_of g → IsRootBits g new
roots_changed g old new b was len others low = record {
  len = omega (arith, was.len, len);
  unused = λ i from to. others i (λ e. omega (arith, e, from, low)) ∙ was.unused i from (omega (arith, to, len));
}

-- ---- nodes

-- the pair that has a bit
pub node_inside : (g : Request) (bit : ℕ) → IsWithinLimits g → is_inline_of g ≡ false → bit < bits_of g → node_of g bit < imap_nodes_of g
node_inside g bit limits external low = node_below g bit (long_blocks g.block_size limits.block_size) external low

-- a bit of the bitmap is one of those that its node holds
pub bit_within : (g : Request) (bit : ℕ) → IsLong g.block_size → bit < bits_of g → bit % node_bits g.block_size < bits_of_node g (node_of g bit)
bit_within g bit long low =
    let some : 0 < node_bits g.block_size = omega (arith, long.least) in
    omega (arith, some, low)

-- other nodes are where they were, and as they were
pub nodes_turned : (g : Request) (roots next : List ℕ) (old new : ℕ → List ℕ) (node : ℕ) → HasNodes g roots old → IsNode g node (new (live_place g next node))
    → ((j : ℕ) → j ≢ node → bit_in 0 next j ≡ bit_in 0 roots j) → ((k : ℕ) → k ≢ live_place g next node → new k ≡ old k) → HasNodes g next new
nodes_turned g roots next old new node was here places others j low = elim (cases_eq j node) [
  | inl e ↦ subst (λ (i : ℕ). IsNode g i (new (live_place g next i))) (sym e) here
  | inr far ↦
      let place : live_place g next j ≡ live_place g roots j = ap (imap_place_of g j) (places j far) in
      let same : new (live_place g next j) ≡ old (live_place g roots j) = others (live_place g next j) (place_apart g j node (bit_in 0 next j) (bit_in 0 next node) far) ∙ ap old place in
      subst (IsNode g j) (sym same) (was j low)
]

pub nodes_stay : (g : Request) (roots : List ℕ) (old new : ℕ → List ℕ) (node : ℕ) → HasNodes g roots old → ((k : ℕ) → k ≢ spare_place g roots node → new k ≡ old k) → HasNodes g roots new
nodes_stay g roots old new node was others j low = subst (IsNode g j) (sym (others (live_place g roots j) (spare_apart g roots j node))) (was j low)

pub no_nodes_needed : (g : Request) (roots : List ℕ) (content : ℕ → List ℕ) → is_inline_of g ≡ true → HasNodes g roots content
no_nodes_needed g roots content inline j low = absurd (omega (arith, low, no_nodes g inline))

pub nodes_same : (g : Request) (roots : List ℕ) (old new : ℕ → List ℕ) → ((k : ℕ) → new k ≡ old k) → HasNodes g roots old → HasNodes g roots new
nodes_same g roots old new same was j low = subst (IsNode g j) (sym (same (live_place g roots j))) (was j low)

word_holds_node : (g : Request) (j : ℕ) (b : List ℕ) → IsNode g j b → word_holds_in b ≡ true
unfolding word_holds_in
word_holds_node g j b n = eq-eqb _ _ n.node.word_is

-- a node of a tied bitmap is not damaged
pub never_damaged : {D T : Type 0} (d : Ghosts D) (m : Bitmaps) (old new : Cached D) (r : Result T ImapFault) → TellsWhy d (IsNamed m) old new r → IsTrue (d.origin old.disk).shows → IsTied m (content_in d old) → NeverDamaged r
never_damaged d m old new r why tells tied damage is =
    let met = why.damaged damage is in
    ⊎_elim (λ l. holds m.committed tied.committed l (met.differs tells)) (λ l. holds m.working tied.working l (met.differs tells)) met.block
  where
    holds : (roots : List ℕ) → HasNodes m.geometry roots (content_in d old) → IsLive m.geometry roots damage.block → word_holds_in (content_in d old damage.block) ≡ false → ⊥
    holds roots nodes live differs = cc (word_holds_node m.geometry live.0 (content_in d old (live_place m.geometry roots live.0)) (nodes live.0 live.1), ap (λ (b : ℕ). word_holds_in (content_in d old b)) live.2, differs)

-- the live place of the pair that holds a bit is a live place
pub named_for : (m : Bitmaps) (bit k : ℕ) → IsNamedFor m bit k → IsNamed m k
named_for m bit k h = ⊎_elim (λ l. inl (node_of m.geometry bit, l.0, l.1)) (λ l. inr (node_of m.geometry bit, l.0, l.1)) h

-- ---- the tie

-- contents that stay keep the tie
pub tie_same : (m : Bitmaps) (old new : ℕ → List ℕ) → ((k : ℕ) → new k ≡ old k) → IsTied m old → IsTied m new
tie_same m old new same t = subst (λ (c : ℕ → List ℕ). IsTied m c) (λ i k. sym (same k) i) t

-- and so do those at the places of imap nodes
pub tie_stays : (m : Bitmaps) (old new : ℕ → List ℕ) → IsLong m.geometry.block_size → SameNodes m.geometry old new → IsTied m old → IsTied m new
tie_stays m old new long same t = record {
  committed = λ j low. subst (IsNode m.geometry j) (sym (same j (bit_in 0 m.committed j) low)) (t.committed j low);
  working = λ j low. subst (IsNode m.geometry j) (sym (same j (bit_in 0 m.working j) low)) (t.working j low);
  counts = t.counts ∙ sym (counts_same m.geometry (committed_use m old) (working_use m old) (committed_use m new) (working_use m new) (uses m.committed) (uses m.working));
}
  where
    uses : (roots : List ℕ) (k : ℕ) → first_allocable_of m.geometry ≤ k → k < m.geometry.blocks → used_under m.geometry roots new k ≡ used_under m.geometry roots old k
    uses roots k from below =
        bit_under-same m.geometry roots old new (k - table_start_of m.geometry)
        (λ external. same (node_of m.geometry (k - table_start_of m.geometry)) (bit_in 0 roots (node_of m.geometry (k - table_start_of m.geometry)))
        (node_below m.geometry (k - table_start_of m.geometry) long external (omega (arith, from, below))))

-- the working list became that of the last point
pub tie_settled : (m : Bitmaps) (counts : Counts) (content : ℕ → List ℕ) → m.geometry.blocks ≤ 4194304 → counts ≡ counts_settled m.counts → IsTied m content → IsTied (bitmaps m.geometry m.working m.working counts) content
tie_settled m counts content few is t = record {
  committed = t.working;
  working = t.working;
  counts = is ∙ counts_settle m.geometry (committed_use m content) (working_use m content) m.counts few t.counts;
}

-- one bit by the lists is one block by the used blocks
pub use_changes : (g : Request) (bit : ℕ) (used : Bool) (old new : ℕ → Bool) → ((i : ℕ) → new i ≡ (if i == bit then used else old i))
    → ChangesUse g (table_start_of g + bit) used (λ b. old (b - table_start_of g)) (λ b. new (b - table_start_of g))
use_changes g bit used old new changes = record {
  here = let at : table_start_of g + bit - table_start_of g ≡ bit = omega arith in ap new at ∙ changes bit ∙ ap (λ (t : Bool). if t then used else old bit) (eq-eqb bit bit refl);
  others = λ k from far.
      let off : k - table_start_of g ≢ bit = λ e. far (omega (arith, e, from)) in
      changes (k - table_start_of g) ∙ ap (λ (t : Bool). if t then used else old (k - table_start_of g)) (not_eq (k - table_start_of g) bit off);
}

-- a bit that has the value already
pub has_already : (old new : ℕ → Bool) (bit : ℕ) (used : Bool) → ((i : ℕ) → new i ≡ old i) → old bit ≡ used → (i : ℕ) → new i ≡ (if i == bit then used else old i)
has_already old new bit used same is i = elim (cases_eq i bit) [
  | inl e ↦ same i ∙ ap old e ∙ is ∙ sym (ap (λ (t : Bool). if t then used else old i) (eq-eqb i bit e))
  | inr far ↦ same i ∙ sym (ap (λ (t : Bool). if t then used else old i) (not_eq i bit far))
]

-- a node that moved was where the last point has it
pub was_live : (a b c : Bool) → a ≢ b → a ≡ not c → b ≡ c
was_live true true c far e = absurd (far refl)
was_live true false true far e = absurd (cc e)
was_live true false false far e = refl
was_live false true true far e = refl
was_live false true false far e = absurd (cc e)
was_live false false c far e = absurd (far refl)

-- a bit was changed in the working list, and the counts with it
pub tie_set : (g : Request) (c w v : List ℕ) (old new : ℕ → List ℕ) (bit : ℕ) (used was : Bool) (counts next : Counts) → g.blocks ≤ 4194304 → bit < bits_of g
    → IsTied (bitmaps g c w counts) old → HasNodes g c new → HasNodes g v new
    → ((i : ℕ) → bit_under g c new i ≡ bit_under g c old i) → ((i : ℕ) → bit_under g v new i ≡ (if i == bit then used else bit_under g w old i))
    → bit_under g c old bit ≡ was → bit_under g w old bit ≡ not used
    → (bit < first_bit g → next ≡ counts) → (first_bit g ≤ bit → next ≡ counts_after counts was used) → IsTied (bitmaps g c v next) new
tie_set g c w v old new bit used was counts next few low tied nodes_c nodes_v stays changes is had table allocable = record {
  committed = nodes_c;
  working = nodes_v;
  counts = elim (cases_lt bit (first_bit g)) [
    | inl below ↦ table below ∙ tied.counts ∙ sym (counts_same g (used_under g c old) (used_under g w old) (used_under g c new) (used_under g v new) (λ k on lt. committed k) (λ k on lt. others k on (λ e. omega (arith, below, on, e))))
    | inr above ↦ allocable above ∙ counts_change g (used_under g c old) (used_under g w old) (used_under g c new) (used_under g v new) (table_start_of g + bit) few (omega (arith, above)) (omega (arith, low))
        (λ k on. committed k) (λ k on far. others k on far) counts was used tied.counts (at (bit_under g c old) ∙ is) (at (bit_under g w old) ∙ had)
        (at (bit_under g v new) ∙ changes bit ∙ ap (λ (t : Bool). if t then used else bit_under g w old bit) (eq-eqb bit bit refl))
  ];
}
  where
    at : (f : ℕ → Bool) → f (table_start_of g + bit - table_start_of g) ≡ f bit
    at f = let same : table_start_of g + bit - table_start_of g ≡ bit = omega arith in ap f same

    committed : (k : ℕ) → used_under g c new k ≡ used_under g c old k
    committed k = stays (k - table_start_of g)

    others : (k : ℕ) → first_allocable_of g ≤ k → k ≢ table_start_of g + bit → used_under g v new k ≡ used_under g w old k
    others k on far =
        let off : k - table_start_of g ≢ bit = λ e. far (omega (arith, e, on)) in
        changes (k - table_start_of g) ∙ ap (λ (t : Bool). if t then used else bit_under g w old (k - table_start_of g)) (not_eq (k - table_start_of g) bit off)

-- what a change of a bit leaves, for both kinds of bitmap
module _ (g : Request) (c w v : List ℕ) (old new : ℕ → List ℕ) (bit : ℕ) (others : is_inline_of g ≡ false → (k : ℕ) → k ≢ spare_place g c (node_of g bit) → new k ≡ old k) (same : is_inline_of g ≡ true → (k : ℕ) → new k ≡ old k) where
  pub committed_kept : (i : ℕ) → bit_under g c new i ≡ bit_under g c old i
  committed_kept i = by_kind (is_inline_of g) refl
    where
      by_kind : (t : Bool) → is_inline_of g ≡ t → bit_under g c new i ≡ bit_under g c old i
      by_kind true e = contents_same g c old new (same e) i
      by_kind false e = committed_stays g c old new (node_of g bit) (others e) i

  pub nodes_kept : HasNodes g c old → HasNodes g c new
  nodes_kept was = by_kind (is_inline_of g) refl
    where
      by_kind : (t : Bool) → is_inline_of g ≡ t → HasNodes g c new
      by_kind true e = no_nodes_needed g c new e
      by_kind false e = nodes_stay g c old new (node_of g bit) was (others e)

  pub nodes_changed : HasNodes g w old → (is_inline_of g ≡ false → IsNode g (node_of g bit) (new (live_place g v (node_of g bit)))) → (is_inline_of g ≡ false → (j : ℕ) → j ≢ node_of g bit → bit_in 0 v j ≡ bit_in 0 w j)
      → (is_inline_of g ≡ false → bit_in 0 v (node_of g bit) ≡ not (bit_in 0 c (node_of g bit))) → HasNodes g v new
  nodes_changed was here places place = by_kind (is_inline_of g) refl
    where
      by_kind : (t : Bool) → is_inline_of g ≡ t → HasNodes g v new
      by_kind true e = no_nodes_needed g v new e
      by_kind false e = nodes_turned g w v old new (node_of g bit) was (here e) (places e) (λ k far. others e k (λ h. far (h ∙ ap (imap_place_of g (node_of g bit)) (sym (place e)))))

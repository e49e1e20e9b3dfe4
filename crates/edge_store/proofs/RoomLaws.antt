-- How many blocks and numbers are free after a change.
use Rattle.std.proofs.Common.{◌≡◌, ◌≢◌, ◌⊎◌, ℕ, zero, suc, ◌+◌, ◌<◌, ◌≤◌, ◌&&◌, not, Bool, true, false, cond, refl, sym, ap, ◌∙◌, subst, arith, inl, inr, Option, Some, None}
use Rattle.std.specs.Prelude.{is_some, is_none}
use Rattle.std.specs.List.{count_by, range_with_len}
use Rattle.std.proofs.lemmas.List.Sums.{sum_by-cons}
use Rattle.std.proofs.lemmas.Bool.{cases_eq, and_parts}
use Rattle.std.proofs.lemmas.Bool.Decides.{nat_tests}
use Rattle.edge_base.specs.declared.form.Form.{Form}
use Rattle.edge_base.specs.declared.geometry.Request.{Request}
use Rattle.edge_base.specs.declared.node.Head.{Head}
use Rattle.edge_base.specs.layout.Places.{first_allocable_of, allocable_of}
use Rattle.edge_store.specs.View.{View, Inode, is_free, is_used, is_allocable, is_number, is_owned_by, empty_inode, with_block, with_inode, free_now, free_after, free_inodes}
use Rattle.edge_store.specs.Effects.{IsLeastFree, IsFresh, Taken, Copied, BlockDropped, InodeDropped}
use Rattle.edge_store.proofs.ViewLaws.{used_of, used_alike, empty_is_owned, with_block_here, with_block_apart, with_inode_here, with_inode_apart}

-- ---- counts over a range

abbrev flag : Bool → ℕ
flag t = cond t 1 0

count_same : (f h : ℕ → Bool) (a n : ℕ) → ((k : ℕ) → a ≤ k → h k ≡ f k) → count_by h (range_with_len a n) ≡ count_by f (range_with_len a n)
count_same f h a zero same = refl
count_same f h a (suc n) same =
    let here = sum_by-cons (λ b. cond (f b) 1 0) a (range_with_len (a + 1) n) in
    let there = sum_by-cons (λ b. cond (h b) 1 0) a (range_with_len (a + 1) n) in
    let rest = count_same f h (a + 1) n (λ k low. same k (omega arith)) in
    let first : flag (h a) ≡ flag (f a) = ap flag (same a (omega arith)) in
    there ∙ (λ i. first i + rest i) ∙ sym here

-- one number of the range passes no more
count_less : (f h : ℕ → Bool) (b : ℕ) → f b ≡ true → h b ≡ false → ((k : ℕ) → k ≢ b → h k ≡ f k)
    → (a n : ℕ) → a ≤ b → b < a + n → count_by h (range_with_len a n) + 1 ≡ count_by f (range_with_len a n)
count_less f h b was gone same a zero low high = absurd (omega arith)
count_less f h b was gone same a (suc n) low high =
    let here = sum_by-cons (λ b. cond (f b) 1 0) a (range_with_len (a + 1) n) in
    let there = sum_by-cons (λ b. cond (h b) 1 0) a (range_with_len (a + 1) n) in
    elim (cases_eq b a) [
      | inl e ↦
          let one : flag (f a) ≡ 1 = ap flag (ap f (sym e) ∙ was) in
          let none : flag (h a) ≡ 0 = ap flag (ap h (sym e) ∙ gone) in
          let rest = count_same f h (a + 1) n (λ k past. same k (λ (is : k ≡ b). omega arith)) in
          omega (arith, here, there, one, none, rest)
      | inr far ↦
          let first : flag (h a) ≡ flag (f a) = ap flag (same a (λ (is : a ≡ b). far (sym is))) in
          let rest = count_less f h b was gone same (a + 1) n (let neq : b ≢ a = far in omega arith) (omega arith) in
          omega (arith, here, there, first, rest)
    ]

first_or_none : (p : ℕ → Bool) (a : ℕ) → (p a ≡ true) ⊎ (p a ≡ false)
first_or_none p a = elim (p a) as (λ t. (t ≡ true) ⊎ (t ≡ false)) [ true ↦ inl refl | false ↦ inr refl ]

-- where some are counted, one passes
some_counted : (p : ℕ → Bool) (a n : ℕ) → 0 < count_by p (range_with_len a n) → (b : ℕ) × (a ≤ b) × (b < a + n) × (p b ≡ true)
some_counted p a zero some = absurd (let none : 0 < 0 = some in omega arith)
some_counted p a (suc n) some =
    let step = sum_by-cons (λ b. cond (p b) 1 0) a (range_with_len (a + 1) n) in
    elim (first_or_none p a) [
      | inl is ↦ (a, omega arith, omega arith, is)
      | inr is ↦
          let none : flag (p a) ≡ 0 = ap flag is in
          let rest = some_counted p (a + 1) n (omega (arith, step, none)) in
          (rest.0, omega (arith, rest.1), omega (arith, rest.2), rest.3)
    ]

-- where one passes, some are counted
counts_some : (p : ℕ → Bool) (b : ℕ) → p b ≡ true → (a n : ℕ) → a ≤ b → b < a + n → 0 < count_by p (range_with_len a n)
counts_some p b is a zero low high = absurd (omega arith)
counts_some p b is a (suc n) low high =
    let step = sum_by-cons (λ b. cond (p b) 1 0) a (range_with_len (a + 1) n) in
    elim (cases_eq b a) [
      | inl e ↦ let one : flag (p a) ≡ 1 = ap flag (ap p (sym e) ∙ is) in omega (arith, step, one)
      | inr far ↦
          let rest = counts_some p b is (a + 1) n (let neq : b ≢ a = far in omega arith) (omega arith) in
          omega (arith, step, rest)
    ]

none_where : {A : Type 0} (o : Option A) → not (is_some o) ≡ true → o ≡ None
none_where None e = refl
none_where (Some x) e = absurd (let f : false ≡ true = e in cc)

-- ---- blocks

-- where a block is free, there is one
pub room_somewhere : (g : Request) (c v : View) → 0 < free_now g c v → (b : ℕ) × IsFresh g c v b
unfolding free_now
room_somewhere g c v room =
    let found = some_counted (is_free c v) (first_allocable_of g) (allocable_of g) room in
    let b : ℕ = found.0 in
    let parts = and_parts (not (is_used c b)) (not (is_used v b)) found.3 in
    let low : first_allocable_of g ≤ b = found.1 in
    let high : b < first_allocable_of g + allocable_of g = found.2 in
    (b, record { allocable = grind (arith, nat_tests); unused = none_where (v.blocks b) parts.1; uncommitted = none_where (c.blocks b) parts.0 })

pub inside : (g : Request) (b : ℕ) → is_allocable g b ≡ true → (first_allocable_of g ≤ b) × (b < first_allocable_of g + allocable_of g)
inside g b h =
    let low : first_allocable_of g ≤ b = grind (arith, nat_tests) in
    let high : b < first_allocable_of g + allocable_of g = grind (arith, nat_tests) in
    (low, high)

-- From v to w one allocable block is used more.
pub record UsesOneMore (g : Request) (v w : View) (b : ℕ) : Type 0 where
  pub allocable : is_allocable g b ≡ true
  pub unused : v.blocks b ≡ None
  pub used : is_used w b ≡ true
  pub others : (k : ℕ) → k ≢ b → is_used w k ≡ is_used v k

pub free_now-less : (g : Request) (c v w : View) (b : ℕ) → UsesOneMore g v w b → c.blocks b ≡ None → free_now g c w + 1 ≡ free_now g c v
unfolding free_now
free_now-less g c v w b more none =
    let r = inside g b more.allocable in
    let was : is_free c v b ≡ true = (λ i. not (is_some (none i)) && not (is_some (more.unused i))) in
    let gone : is_free c w b ≡ false = (λ i. not (is_some (none i)) && not (more.used i)) in
    count_less (is_free c v) (is_free c w) b was gone (λ k far. ap (λ t. not (is_used c k) && not t) (more.others k far)) (first_allocable_of g) (allocable_of g) r.0 r.1

-- a block of the last point is not free in either case
pub free_now-old : (g : Request) (c v w : View) (b : ℕ) → is_used c b ≡ true → ((k : ℕ) → k ≢ b → is_used w k ≡ is_used v k) → free_now g c w ≡ free_now g c v
unfolding free_now
free_now-old g c v w b old others =
    count_same (is_free c v) (is_free c w) (first_allocable_of g) (allocable_of g) (λ k low. elim (cases_eq k b) [
      | inl e ↦ subst (λ (j : ℕ). is_free c w j ≡ is_free c v j) (sym e) ((λ i. not (old i) && not (is_used w b)) ∙ sym (λ i. not (old i) && not (is_used v b)))
      | inr far ↦ ap (λ t. not (is_used c k) && not t) (others k far)
    ])

pub free_now-same : (g : Request) (c v w : View) → ((k : ℕ) → is_used w k ≡ is_used v k) → free_now g c w ≡ free_now g c v
unfolding free_now
free_now-same g c v w same = count_same (is_free c v) (is_free c w) (first_allocable_of g) (allocable_of g) (λ k low. ap (λ t. not (is_used c k) && not t) (same k))

pub free_after-less : (g : Request) (v w : View) (b : ℕ) → UsesOneMore g v w b → free_after g w + 1 ≡ free_after g v
unfolding free_after
free_after-less g v w b more =
    let r = inside g b more.allocable in
    let was : not (is_used v b) ≡ true = ap (λ o. not (is_some o)) more.unused in
    let gone : not (is_used w b) ≡ false = ap not more.used in
    count_less (λ k. not (is_used v k)) (λ k. not (is_used w k)) b was gone (λ k far. ap not (more.others k far)) (first_allocable_of g) (allocable_of g) r.0 r.1

-- after a point both views are one
both_unused : (t : Bool) → (not t && not t) ≡ not t
both_unused true = refl
both_unused false = refl

pub free_now-point : (g : Request) (v : View) → free_now g v v ≡ free_after g v
unfolding free_now free_after
free_now-point g v = count_same (λ b. not (is_used v b)) (is_free v v) (first_allocable_of g) (allocable_of g) (λ k low. both_unused (is_used v k))

-- ---- taking, copying and dropping

taken_more : (g : Request) (c v w : View) (form : Form) (owner b : ℕ) → Taken g c v w form owner b → UsesOneMore g v w b
taken_more g c v w form owner b t = record {
  allocable = t.fresh.allocable;
  unused = t.fresh.unused;
  used = used_of form (w.blocks b) owner (ap (is_owned_by owner) t.content ∙ empty_is_owned g form owner);
  others = λ k far. ap is_some (ap (λ (u : View). u.blocks k) t.working ∙ with_block_apart v b (w.blocks b) k far);
}

pub taken_now : (g : Request) (c v w : View) (form : Form) (owner b : ℕ) → Taken g c v w form owner b → free_now g c w + 1 ≡ free_now g c v
taken_now g c v w form owner b t = free_now-less g c v w b (taken_more g c v w form owner b t) t.fresh.uncommitted

pub taken_after : (g : Request) (c v w : View) (form : Form) (owner b : ℕ) → Taken g c v w form owner b → free_after g w + 1 ≡ free_after g v
taken_after g c v w form owner b t = free_after-less g v w b (taken_more g c v w form owner b t)

-- from a view without the block to one with it
dropped_more : (g : Request) (v w : View) (b : ℕ) → is_allocable g b ≡ true → is_used v b ≡ true → BlockDropped v w b → UsesOneMore g w v b
dropped_more g v w b fits used e = record {
  allocable = fits;
  unused = ap (λ (u : View). u.blocks b) e ∙ with_block_here v b None;
  used = used;
  others = λ k far. sym (ap is_some (ap (λ (u : View). u.blocks k) e ∙ with_block_apart v b None k far));
}

pub dropped_new : (g : Request) (c v w : View) (b : ℕ) → is_allocable g b ≡ true → is_used v b ≡ true → c.blocks b ≡ None → BlockDropped v w b → free_now g c v + 1 ≡ free_now g c w
dropped_new g c v w b fits used new e = free_now-less g c w v b (dropped_more g v w b fits used e) new

pub dropped_old : (g : Request) (c v w : View) (b : ℕ) → is_used c b ≡ true → BlockDropped v w b → free_now g c w ≡ free_now g c v
dropped_old g c v w b old e = free_now-old g c v w b old (λ k far. ap is_some (ap (λ (u : View). u.blocks k) e ∙ with_block_apart v b None k far))

pub dropped_after : (g : Request) (v w : View) (b : ℕ) → is_allocable g b ≡ true → is_used v b ≡ true → BlockDropped v w b → free_after g v + 1 ≡ free_after g w
dropped_after g v w b fits used e = free_after-less g w v b (dropped_more g v w b fits used e)

module _ (g : Request) (c v w : View) (form : Form) (from b : ℕ) (used : is_used v from ≡ true) (t : Copied g c v w form from b) where
  -- after the new block is taken, and before the old one is dropped
  abbrev both : View
  both = with_block v b (w.blocks b)

  far_apart : b ≢ from
  far_apart e = let wrong : true ≡ false = sym used ∙ ap is_some (ap v.blocks (sym e) ∙ t.fresh.unused) in cc

  both_more : UsesOneMore g v both b
  both_more = record {
    allocable = t.fresh.allocable;
    unused = t.fresh.unused;
    used = ap is_some (with_block_here v b (w.blocks b)) ∙ used_alike form (w.blocks b) (v.blocks from) t.content used;
    others = λ k far. ap is_some (with_block_apart v b (w.blocks b) k far);
  }

  still_used : is_used both from ≡ true
  still_used = ap is_some (with_block_apart v b (w.blocks b) from (λ e. far_apart (sym e))) ∙ used

  pub copied_old : is_used c from ≡ true → free_now g c w + 1 ≡ free_now g c v
  copied_old old = ap (λ (n : ℕ). n + 1) (dropped_old g c both w from old t.working) ∙ free_now-less g c v both b both_more t.fresh.uncommitted

  pub copied_new : is_allocable g from ≡ true → c.blocks from ≡ None → free_now g c w ≡ free_now g c v
  copied_new fits new = sym (dropped_new g c both w from fits still_used new t.working) ∙ free_now-less g c v both b both_more t.fresh.uncommitted

  pub copied_after : is_allocable g from ≡ true → free_after g w ≡ free_after g v
  copied_after fits = sym (dropped_after g both w from fits still_used t.working) ∙ free_after-less g v both b both_more

-- ---- numbers

-- From v to w one number more has an inode.
pub record HasOneMore (g : Request) (v w : View) (n : ℕ) : Type 0 where
  pub number : is_number g n ≡ true
  pub absent : v.inodes n ≡ None
  pub there : is_some (w.inodes n) ≡ true
  pub others : (k : ℕ) → k ≢ n → w.inodes k ≡ v.inodes k

none_of : {A : Type 0} (o : Option A) → is_some o ≡ true → is_none o ≡ false
none_of None e = absurd (let f : false ≡ true = e in cc)
none_of (Some x) e = refl

pub free_inodes-less : (g : Request) (v w : View) (n : ℕ) → HasOneMore g v w n → free_inodes g w + 1 ≡ free_inodes g v
unfolding free_inodes
free_inodes-less g v w n more =
    let is = more.number in
    let low : 2 ≤ n = grind (arith, nat_tests) in
    let high : n < 2 + g.inodes = grind (arith, nat_tests) in
    count_less (λ k. is_none (v.inodes k)) (λ k. is_none (w.inodes k)) n (ap is_none more.absent) (none_of (w.inodes n) more.there) (λ k far. ap is_none (more.others k far)) 2 g.inodes low high

pub free_inodes-same : (g : Request) (v w : View) → w.inodes ≡ v.inodes → free_inodes g w ≡ free_inodes g v
unfolding free_inodes
free_inodes-same g v w same = ap (λ (inodes : ℕ → Option Inode). count_by (λ k. is_none (inodes k)) (range_with_len 2 g.inodes)) same

pub made_less : (g : Request) (v w : View) (head : Head) (n : ℕ) → IsLeastFree g v n → w ≡ with_inode v n (Some (empty_inode g head)) → free_inodes g w + 1 ≡ free_inodes g v
made_less g v w head n free e = free_inodes-less g v w n (record {
  number = free.number;
  absent = free.absent;
  there = ap is_some (ap (λ (u : View). u.inodes n) e ∙ with_inode_here v n (Some (empty_inode g head)));
  others = λ k far. ap (λ (u : View). u.inodes k) e ∙ with_inode_apart v n (Some (empty_inode g head)) k far;
})

pub inode_dropped_more : (g : Request) (v w : View) (n : ℕ) → is_number g n ≡ true → is_some (v.inodes n) ≡ true → InodeDropped v w n → free_inodes g v + 1 ≡ free_inodes g w
inode_dropped_more g v w n is there e = free_inodes-less g w v n (record {
  number = is;
  absent = ap (λ (u : View). u.inodes n) e ∙ with_inode_here v n None;
  there = there;
  others = λ k far. sym (ap (λ (u : View). u.inodes k) e ∙ with_inode_apart v n None k far);
})

-- a number without an inode is counted
pub some_free_inode : (g : Request) (v : View) (n : ℕ) → is_number g n ≡ true → v.inodes n ≡ None → 0 < free_inodes g v
unfolding free_inodes
some_free_inode g v n is absent =
    let low : 2 ≤ n = grind (arith, nat_tests) in
    let high : n < 2 + g.inodes = grind (arith, nat_tests) in
    counts_some (λ k. is_none (v.inodes k)) n (ap is_none absent) 2 g.inodes low high

pub no_free_inode : (g : Request) (v : View) → free_inodes g v ≡ 0 → (n : ℕ) → is_number g n ≡ true → v.inodes n ≢ None
no_free_inode g v none n is absent = let some = some_free_inode g v n is absent in omega arith

-- What the kept numbers say after a change.
use Rattle.std.proofs.Common.{◌≡◌, ◌≢◌, ℕ, zero, suc, ◌+◌, ◌-◌, ◌<◌, ◌≤◌, ◌&&◌, not, Bool, true, false, cond, min, refl, sym, ap, ◌∙◌, subst, arith, inl, inr, List, Option, Some, None}
use mir.Val.{bool_byte}
use Rattle.std.specs.Prelude.{is_some, is_none}
use Rattle.std.specs.List.{count_by, range_with_len}
use Rattle.std.proofs.lemmas.Bool.{cases_eq, eq-eqb}
use Rattle.std.proofs.lemmas.Bool.Decides.{nat_tests}
use Rattle.std.proofs.lemmas.List.FromFn.{length-range_with_len}
use Rattle.std.proofs.lemmas.List.Sums.{count_by-le-length, sum_by-cons}
use Rattle.edge_base.specs.declared.form.Form.{Form}
use Rattle.edge_base.specs.declared.form.Form.TheVariants.{Plain}
use Rattle.edge_base.specs.declared.geometry.Request.{Request}
use Rattle.edge_base.specs.declared.node.Head.{Head}
use Rattle.edge_base.specs.layout.Places.{first_allocable_of, allocable_of}
use Rattle.edge_plain.specs.Counts.{IsCounted}
use Rattle.edge_store.specs.Effects.{IsLeastFree, HeadSet, EntrySet, PointerSet, BytesSet, Taken, Copied, BlockDropped, InodeDropped}
use Rattle.edge_store.specs.View.{View, Inode, whole, broken, no_view, empty_inode, is_owned_by, is_spot, with_head, with_entry, is_allocable, is_free, is_number, is_used, with_block, with_inode, free_now, free_after, free_inodes}
use Rattle.edge_store.proofs.RoomLaws.{inside, taken_now, taken_after, copied_old, copied_new, copied_after, dropped_old, dropped_new, dropped_after, free_now-same, free_now-point, free_inodes-same, made_less, inode_dropped_more}
use Rattle.edge_store.proofs.ViewLaws.{used_of, with_block_apart, with_inode_here, with_inode_apart}

-- ---- counts over a range

abbrev pub flag : Bool → ℕ
flag t = cond t 1 0

count_same : (f h : ℕ → Bool) → ((k : ℕ) → h k ≡ f k) → (a n : ℕ) → count_by h (range_with_len a n) ≡ count_by f (range_with_len a n)
count_same f h same a n = λ i. count_by (λ k. same k i) (range_with_len a n)

count_all : (f : ℕ → Bool) → ((k : ℕ) → f k ≡ true) → (a n : ℕ) → count_by f (range_with_len a n) ≡ n
count_all f all a zero = refl
count_all f all a (suc n) =
    let first : flag (f a) ≡ 1 = ap flag (all a) in
    let rest = count_all f all (a + 1) n in
    let step = sum_by-cons (λ b. cond (f b) 1 0) a (range_with_len (a + 1) n) in
    omega (arith, first, rest, step)

few : (f : ℕ → Bool) (a n : ℕ) → count_by f (range_with_len a n) ≤ n
few f a n = omega (arith, count_by-le-length f (range_with_len a n), length-range_with_len a n)

pub free_now-few : (g : Request) (c v : View) → free_now g c v ≤ allocable_of g
unfolding free_now
free_now-few g c v = few (is_free c v) (first_allocable_of g) (allocable_of g)

pub free_after-few : (g : Request) (v : View) → free_after g v ≤ allocable_of g
unfolding free_after
free_after-few g v = few (λ b. not (is_used v b)) (first_allocable_of g) (allocable_of g)

pub free_inodes-few : (g : Request) (v : View) → free_inodes g v ≤ g.inodes
unfolding free_inodes
free_inodes-few g v = few (λ n. is_none (v.inodes n)) 2 g.inodes

free_after-same : (g : Request) (v w : View) → ((k : ℕ) → is_used w k ≡ is_used v k) → free_after g w ≡ free_after g v
unfolding free_after
free_after-same g v w same = count_same (λ b. not (is_used v b)) (λ b. not (is_used w b)) (λ k. ap not (same k)) (first_allocable_of g) (allocable_of g)

free_inodes-alike : (g : Request) (v w : View) → ((k : ℕ) → is_none (w.inodes k) ≡ is_none (v.inodes k)) → free_inodes g w ≡ free_inodes g v
unfolding free_inodes
free_inodes-alike g v w same = count_same (λ n. is_none (v.inodes n)) (λ n. is_none (w.inodes n)) same 2 g.inodes

-- ---- what is free below a block or a number

none_where : {A : Type 0} (o : Option A) → is_none o ≡ true → o ≡ None
none_where None e = refl
none_where (Some x) e = absurd (let f : false ≡ true = e in cc)

unused_where : {A : Type 0} (o : Option A) → is_some o ≡ false → o ≡ None
unused_where None e = refl
unused_where (Some x) e = absurd (let f : true ≡ false = e in cc)

-- a truth value as a number
pub as_number : (b d : Bool) → b ≡ d → bool_byte b ≡ flag d
as_number b d same = ap bool_byte same ∙ elim d as (λ t. bool_byte t ≡ flag t) [ true ↦ refl | false ↦ refl ]

free_alike : (c v w : View) (k : ℕ) → is_used w k ≡ is_used v k → is_free c w k ≡ is_free c v k
free_alike c v w k same = ap (λ t. not (is_used c k) && not t) same

module _ (g : Request) (c v w : View) (now after numbers first_block first_number : ℕ) (counted : IsCounted g c v now after numbers first_block first_number) where
  -- a change that uses no block more or less, and gives or takes no inode
  pub counted_same : ((k : ℕ) → is_used w k ≡ is_used v k) → ((k : ℕ) → is_none (w.inodes k) ≡ is_none (v.inodes k)) → IsCounted g c w now after numbers first_block first_number
  counted_same blocks inodes = record {
    now_is = counted.now_is ∙ sym (free_now-same g c v w blocks);
    after_is = counted.after_is ∙ sym (free_after-same g v w blocks);
    numbers_is = counted.numbers_is ∙ sym (free_inodes-alike g v w inodes);
    block_from = counted.block_from;
    blocks_below = λ k low high. free_alike c v w k (blocks k) ∙ counted.blocks_below k low high;
    number_from = counted.number_from;
    numbers_below = λ k is high none. counted.numbers_below k is high (none_where (v.inodes k) (sym (inodes k) ∙ ap is_none none));
  }

  -- the numbers stay where the inodes do
  below_kept : w.inodes ≡ v.inodes → (k : ℕ) → is_number g k ≡ true → k < first_number → w.inodes k ≢ None
  below_kept same k is high none = counted.numbers_below k is high (ap (λ (inodes : ℕ → Option Inode). inodes k) (sym same) ∙ none)

  pub counted_taken : (form : Form) (owner b : ℕ) → Taken g c v w form owner b → ((k : ℕ) → first_allocable_of g ≤ k → k < b → is_free c v k ≡ false)
      → IsCounted g c w (now - 1) (after - 1) numbers b first_number
  counted_taken form owner b t least =
      let same : w.inodes ≡ v.inodes = ap (λ (u : View). u.inodes) t.working in
      let less = taken_now g c v w form owner b t in
      let less_after = taken_after g c v w form owner b t in
      record {
        now_is = omega (arith, counted.now_is, less);
        after_is = omega (arith, counted.after_is, less_after);
        numbers_is = counted.numbers_is ∙ sym (free_inodes-same g v w same);
        block_from = (inside g b t.fresh.allocable).0;
        blocks_below = λ k low high. free_alike c v w k (ap is_some (ap (λ (u : View). u.blocks k) t.working ∙ with_block_apart v b (w.blocks b) k (let far : k ≢ b = omega arith in far))) ∙ least k low high;
        number_from = counted.number_from;
        numbers_below = below_kept same;
      }

  -- a block that is dropped and that the last point uses is not free afterwards
  held_below : (old : ℕ) (lowest from : ℕ) → ((k : ℕ) → first_allocable_of g ≤ k → k < old → is_free c v k ≡ false) → lowest ≡ cond (is_used c from) old (min old from)
      → ((k : ℕ) → k < old → k ≢ from → is_used w k ≡ is_used v k) → (k : ℕ) → first_allocable_of g ≤ k → k < lowest → is_free c w k ≡ false
  held_below old lowest from none is same k low high = by_use (is_used c from) refl
    where
      by_use : (t : Bool) → is_used c from ≡ t → is_free c w k ≡ false
      by_use true held =
          let at : lowest ≡ old = is ∙ ap (λ t. cond t old (min old from)) held in
          elim (cases_eq k from) [
            | inl here ↦ ap (λ t. not t && not (is_used w k)) (ap (is_used c) here ∙ held)
            | inr away ↦ let below : k < old = omega arith in free_alike c v w k (same k below away) ∙ none k low below
          ]
      by_use false free =
          let at : lowest ≡ min old from = is ∙ ap (λ t. cond t old (min old from)) free in
          let below : k < old = omega arith in
          let away : k ≢ from = omega arith in
          free_alike c v w k (same k below away) ∙ none k low below

  -- the lesser of two blocks, or the first of them, is no lesser than what neither is lesser than
  lesser_from : (t : Bool) (low old from lowest : ℕ) → low ≤ old → low ≤ from → lowest ≡ cond t old (min old from) → low ≤ lowest
  lesser_from true low old from lowest a b is = let at : lowest ≡ old = is in omega arith
  lesser_from false low old from lowest a b is = let at : lowest ≡ min old from = is in omega arith

  module _ (form : Form) (from b lowest : ℕ) (used : is_used v from ≡ true) (fits : is_allocable g from ≡ true) (t : Copied g c v w form from b)
      (least : (k : ℕ) → first_allocable_of g ≤ k → k < b → is_free c v k ≡ false) (is : lowest ≡ cond (is_used c from) b (min b from)) where
    copied : (left : ℕ) → left ≡ free_now g c w → IsCounted g c w left after numbers lowest first_number
    copied left left_is =
        let same : w.inodes ≡ v.inodes = ap (λ (u : View). u.inodes) t.working in
        let low_b = (inside g b t.fresh.allocable).0 in
        let low_from = (inside g from fits).0 in
        record {
          now_is = left_is;
          after_is = counted.after_is ∙ sym (copied_after g c v w form from b used t fits);
          numbers_is = counted.numbers_is ∙ sym (free_inodes-same g v w same);
          block_from = lesser_from (is_used c from) (first_allocable_of g) b from lowest low_b low_from is;
          blocks_below = held_below b lowest from least is (λ k below away.
              let far : k ≢ b = omega arith in
              ap is_some (ap (λ (u : View). u.blocks k) t.working ∙ with_block_apart (with_block v b (w.blocks b)) from None k away ∙ with_block_apart v b (w.blocks b) k far));
          number_from = counted.number_from;
          numbers_below = below_kept same;
        }

    pub counted_copied_old : is_used c from ≡ true → IsCounted g c w (now - 1) after numbers lowest first_number
    counted_copied_old old = copied (now - 1) (let less = copied_old g c v w form from b used t old in omega (arith, counted.now_is, less))

    pub counted_copied_new : c.blocks from ≡ None → IsCounted g c w now after numbers lowest first_number
    counted_copied_new new = copied now (counted.now_is ∙ sym (copied_new g c v w form from b used t fits new))

    pub counted_copied : (one : ℕ) → one ≡ flag (is_used c from) → IsCounted g c w (now - one) after numbers lowest first_number
    counted_copied one is_one = by_use (is_used c from) refl
      where
        by_use : (old : Bool) → is_used c from ≡ old → IsCounted g c w (now - one) after numbers lowest first_number
        by_use true old =
            let e : one ≡ 1 = is_one ∙ ap flag old in
            subst (λ (k : ℕ). IsCounted g c w (now - k) after numbers lowest first_number) (sym e) (counted_copied_old old)
        by_use false old =
            let e : now - one ≡ now = let z : one ≡ 0 = is_one ∙ ap flag old in omega arith in
            subst (λ (k : ℕ). IsCounted g c w k after numbers lowest first_number) (sym e) (counted_copied_new (unused_where (c.blocks from) old))

    -- as many blocks are free as the count goes down by
    pub copied_enough : 0 < free_now g c v → (one : ℕ) → one ≡ flag (is_used c from) → one ≤ now
    copied_enough room one is_one = by_use (is_used c from) refl
      where
        by_use : (old : Bool) → is_used c from ≡ old → one ≤ now
        by_use true old = let e : one ≡ 1 = is_one ∙ ap flag old in omega (arith, counted.now_is)
        by_use false old = let e : one ≡ 0 = is_one ∙ ap flag old in omega arith

  module _ (b lowest : ℕ) (used : is_used v b ≡ true) (fits : is_allocable g b ≡ true) (t : BlockDropped v w b)
      (is : lowest ≡ cond (is_used c b) first_block (min first_block b)) where
    dropped : (left : ℕ) → left ≡ free_now g c w → IsCounted g c w left (after + 1) numbers lowest first_number
    dropped left left_is =
        let same : w.inodes ≡ v.inodes = ap (λ (u : View). u.inodes) t in
        let low_b = (inside g b fits).0 in
        let more = dropped_after g v w b fits used t in
        record {
          now_is = left_is;
          after_is = omega (arith, counted.after_is, more);
          numbers_is = counted.numbers_is ∙ sym (free_inodes-same g v w same);
          block_from = lesser_from (is_used c b) (first_allocable_of g) first_block b lowest counted.block_from low_b is;
          blocks_below = held_below first_block lowest b counted.blocks_below is (λ k below away. ap is_some (ap (λ (u : View). u.blocks k) t ∙ with_block_apart v b None k away));
          number_from = counted.number_from;
          numbers_below = below_kept same;
        }

    pub counted_dropped_old : is_used c b ≡ true → IsCounted g c w now (after + 1) numbers lowest first_number
    counted_dropped_old old = dropped now (counted.now_is ∙ sym (dropped_old g c v w b old t))

    pub counted_dropped_new : c.blocks b ≡ None → IsCounted g c w (now + 1) (after + 1) numbers lowest first_number
    counted_dropped_new new = dropped (now + 1) (ap (λ (n : ℕ). n + 1) counted.now_is ∙ dropped_new g c v w b fits used new t)

    pub counted_dropped : (one : ℕ) → one ≡ flag (not (is_used c b)) → IsCounted g c w (now + one) (after + 1) numbers lowest first_number
    counted_dropped one is_one = by_use (is_used c b) refl
      where
        by_use : (old : Bool) → is_used c b ≡ old → IsCounted g c w (now + one) (after + 1) numbers lowest first_number
        by_use true old =
            let e : now + one ≡ now = let z : one ≡ 0 = is_one ∙ ap (λ t. flag (not t)) old in omega arith in
            subst (λ (k : ℕ). IsCounted g c w k (after + 1) numbers lowest first_number) (sym e) (counted_dropped_old old)
        by_use false old =
            let e : one ≡ 1 = is_one ∙ ap (λ t. flag (not t)) old in
            subst (λ (k : ℕ). IsCounted g c w (now + k) (after + 1) numbers lowest first_number) (sym e) (counted_dropped_new (unused_where (c.blocks b) old))

  -- where the blocks stay
  module _ (same : w.blocks ≡ v.blocks) where
    used_alike : (k : ℕ) → is_used w k ≡ is_used v k
    used_alike k = ap (λ blocks. is_some (blocks k)) same

    pub counted_numbers : (left lowest : ℕ) → left ≡ free_inodes g w → 2 ≤ lowest → ((k : ℕ) → is_number g k ≡ true → k < lowest → w.inodes k ≢ None)
        → IsCounted g c w now after left first_block lowest
    counted_numbers left lowest left_is from below = record {
      now_is = counted.now_is ∙ sym (free_now-same g c v w used_alike);
      after_is = counted.after_is ∙ sym (free_after-same g v w used_alike);
      numbers_is = left_is;
      block_from = counted.block_from;
      blocks_below = λ k low high. free_alike c v w k (used_alike k) ∙ counted.blocks_below k low high;
      number_from = from;
      numbers_below = below;
    }

  pub counted_made : (head : Head) (n : ℕ) → IsLeastFree g v n → w ≡ with_inode v n (Some (empty_inode g head)) → IsCounted g c w now after (numbers - 1) first_block n
  counted_made head n free e =
      let less = made_less g v w head n free e in
      counted_numbers (ap (λ (u : View). u.blocks) e) (numbers - 1) n (omega (arith, counted.numbers_is, less)) (two_of n free.number)
      (λ k is high none. free.least k is high (sym (ap (λ (u : View). u.inodes k) e ∙ with_inode_apart v n (Some (empty_inode g head)) k (let far : k ≢ n = omega arith in far)) ∙ none))
    where
      two_of : (n : ℕ) → is_number g n ≡ true → 2 ≤ n
      two_of n is = grind (arith, nat_tests)

  pub counted_inode_dropped : (n lowest : ℕ) → is_number g n ≡ true → is_some (v.inodes n) ≡ true → InodeDropped v w n → lowest ≡ min first_number n
      → IsCounted g c w now after (numbers + 1) first_block lowest
  counted_inode_dropped n lowest is there e lowest_is =
      let more = inode_dropped_more g v w n is there e in
      let two : 2 ≤ n = grind (arith, nat_tests) in
      counted_numbers (ap (λ (u : View). u.blocks) e) (numbers + 1) lowest (ap (λ (k : ℕ). k + 1) counted.numbers_is ∙ more) (omega (arith, counted.number_from))
      (λ k number high none. counted.numbers_below k number (omega arith) (sym (ap (λ (u : View). u.inodes k) e ∙ with_inode_apart v n None k (let far : k ≢ n = omega arith in far)) ∙ none))

-- ---- changes that use no block more or less, and give or take no inode

head_alike : (o : Option Inode) (head : Head) → is_none (with_head o head) ≡ is_none o
head_alike None head = refl
head_alike (Some (whole old entries)) head = refl
head_alike (Some (broken damage)) head = refl

entry_alike : (o : Option Inode) (e to : ℕ) → is_none (with_entry o e to) ≡ is_none o
entry_alike None e to = refl
entry_alike (Some (whole head entries)) e to = refl
entry_alike (Some (broken damage)) e to = refl

-- an inode that is there before and after
inode_alike : (v w : View) (n : ℕ) (o : Option Inode) → w ≡ with_inode v n o → is_none o ≡ is_none (v.inodes n) → (k : ℕ) → is_none (w.inodes k) ≡ is_none (v.inodes k)
inode_alike v w n o e same k = elim (cases_eq k n) [
  | inl here ↦ ap (λ (j : ℕ). is_none (w.inodes j)) here ∙ ap is_none (ap (λ (u : View). u.inodes n) e ∙ with_inode_here v n o) ∙ same ∙ sym (ap (λ (j : ℕ). is_none (v.inodes j)) here)
  | inr far ↦ ap is_none (ap (λ (u : View). u.inodes k) e ∙ with_inode_apart v n o k far)
]

-- a block that is used before and after
block_alike : (v w : View) (b : ℕ) → w ≡ with_block v b (w.blocks b) → is_used w b ≡ true → is_used v b ≡ true → (k : ℕ) → is_used w k ≡ is_used v k
block_alike v w b e used was k = elim (cases_eq k b) [
  | inl here ↦ ap (is_used w) here ∙ used ∙ sym (ap (is_used v) here ∙ was)
  | inr far ↦ ap is_some (ap (λ (u : View). u.blocks k) e ∙ with_block_apart v b (w.blocks b) k far)
]

module _ (g h : Request) (c v w : View) (now after numbers first_block first_number : ℕ) (same : h ≡ g) (counted : IsCounted g c v now after numbers first_block first_number) where
  -- of an equal geometry
  pub moved : (c2 v2 : View) (a b n f m : ℕ) → IsCounted g c2 v2 a b n f m → IsCounted h c2 v2 a b n f m
  moved c2 v2 a b n f m x = subst (λ (r : Request). IsCounted r c2 v2 a b n f m) (sym same) x

  pub counted_head_set : (n : ℕ) (head : Head) → HeadSet v w n head → IsCounted h c w now after numbers first_block first_number
  counted_head_set n head e = moved c w _ _ _ _ _ (counted_same g c v w _ _ _ _ _ counted (λ k. ap (λ (u : View). is_used u k) e) (inode_alike v w n _ e (head_alike (v.inodes n) head)))

  pub counted_entry_set : (n i to : ℕ) → EntrySet v w n i to → IsCounted h c w now after numbers first_block first_number
  counted_entry_set n i to e = moved c w _ _ _ _ _ (counted_same g c v w _ _ _ _ _ counted (λ k. ap (λ (u : View). is_used u k) e) (inode_alike v w n _ e (entry_alike (v.inodes n) i to)))

  -- a block that is still owned
  pub counted_block_set : (form : Form) (x b : ℕ) → is_spot v form x b ≡ true → is_spot w form x b ≡ true → w ≡ with_block v b (w.blocks b) → IsCounted h c w now after numbers first_block first_number
  counted_block_set form x b was is e =
      moved c w _ _ _ _ _ (counted_same g c v w _ _ _ _ _ counted (block_alike v w b e (used_of form (w.blocks b) x is) (used_of form (v.blocks b) x was)) (λ k. ap (λ (u : View). is_none (u.inodes k)) e))

  pub counted_pointer_set : (form : Form) (owner b i to : ℕ) → is_spot v form owner b ≡ true → PointerSet v w form owner b i to → IsCounted h c w now after numbers first_block first_number
  counted_pointer_set form owner b i to was set = counted_block_set form owner b was (ap (is_owned_by owner) set.content ∙ eq-eqb owner owner refl) set.working

  pub counted_bytes_set : (x b at : ℕ) (new : List ℕ) → is_spot v Plain x b ≡ true → BytesSet v w b at new → IsCounted h c w now after numbers first_block first_number
  counted_bytes_set x b at new was set = counted_block_set Plain x b was (ap (is_owned_by x) set.content) set.working

-- after a point both views are one
pub counted_point : (g : Request) (c v : View) (now after numbers first_block first_number : ℕ) → IsCounted g c v now after numbers first_block first_number
    → IsCounted g v v after after numbers (first_allocable_of g) first_number
counted_point g c v now after numbers first_block first_number counted = record {
  now_is = counted.after_is ∙ sym (free_now-point g v);
  after_is = counted.after_is;
  numbers_is = counted.numbers_is;
  block_from = omega arith;
  blocks_below = λ k low high. absurd (omega arith);
  number_from = counted.number_from;
  numbers_below = counted.numbers_below;
}

-- where no block is free
count_none : (f : ℕ → Bool) (a n : ℕ) → ((k : ℕ) → a ≤ k → k < a + n → f k ≡ false) → count_by f (range_with_len a n) ≡ 0
count_none f a zero none = refl
count_none f a (suc n) none =
    let first : flag (f a) ≡ 0 = ap flag (none a (omega arith) (omega arith)) in
    let rest = count_none f (a + 1) n (λ k low high. none k (omega arith) (omega arith)) in
    let step = sum_by-cons (λ b. cond (f b) 1 0) a (range_with_len (a + 1) n) in
    omega (arith, first, rest, step)

pub no_free : (g : Request) (c v : View) → ((k : ℕ) → first_allocable_of g ≤ k → k < first_allocable_of g + allocable_of g → is_free c v k ≡ false) → free_now g c v ≡ 0
unfolding free_now
no_free g c v none = count_none (is_free c v) (first_allocable_of g) (allocable_of g) none

-- ---- as a store is made

module _ (g : Request) (some : 1 ≤ g.inodes) (head : Head) where
  abbrev first_view : View
  first_view = with_inode no_view 2 (Some (empty_inode g head))

  free_now-first : free_now g first_view first_view ≡ allocable_of g
  unfolding free_now
  free_now-first = count_all (is_free first_view first_view) (λ k. refl) (first_allocable_of g) (allocable_of g)

  free_inodes-none : free_inodes g no_view ≡ g.inodes
  unfolding free_inodes
  free_inodes-none = count_all (λ n. is_none (no_view.inodes n)) (λ k. refl) 2 g.inodes

  no_less : (k : ℕ) → is_number g k ≡ true → k < 2 → ⊥
  no_less k is low = let from : 2 ≤ k = grind (arith, nat_tests) in omega arith

  pub counted_first : IsCounted g first_view first_view (allocable_of g) (allocable_of g) (g.inodes - 1) (first_allocable_of g) 2
  counted_first =
      let least : IsLeastFree g no_view 2 = record { number = grind (arith, nat_tests); absent = refl; least = λ k is low none. no_less k is low } in
      let less = made_less g no_view first_view head 2 least refl in
      record {
        now_is = sym free_now-first;
        after_is = sym (sym (free_now-point g first_view) ∙ free_now-first);
        numbers_is = omega (arith, less, free_inodes-none);
        block_from = omega arith;
        blocks_below = λ k low high. absurd (omega arith);
        number_from = omega arith;
        numbers_below = λ k is low none. no_less k is low;
      }

-- the same of equal views and numbers
pub counted_eq : (g h : Request) (c c2 v v2 : View) (a a2 b b2 n n2 f f2 m : ℕ) → h ≡ g → c2 ≡ c → v2 ≡ v → a2 ≡ a → b2 ≡ b → n2 ≡ n → f2 ≡ f
    → IsCounted g c v a b n f m → IsCounted h c2 v2 a2 b2 n2 f2 m
counted_eq g h c c2 v v2 a a2 b b2 n n2 f f2 m eg ec ev ea eb en ef x = rw (eg, ec, ev, ea, eb, en, ef) x

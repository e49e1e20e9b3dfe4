-- What making blocks new takes from the free blocks, and where their pointers lead then, on every view.
use Rattle.std.proofs.Common.{◌≡◌, ◌≢◌, ℕ, ◌+◌, ◌<◌, ◌≤◌, ◌&&◌, not, Bool, true, false, cond, eqb, inl, inr, length, Option, Some, None, refl, sym, ap, ◌∙◌, subst, arith}
use Rattle.std.specs.Prelude.{is_some, slice_index, slice_set, Ok}
use Rattle.std.proofs.lemmas.Bool.{cases_eq, cases_Bool, and_parts, eq-eqb}
use Rattle.edge_base.specs.declared.form.Form.{Form}
use Rattle.edge_base.specs.declared.form.Form.TheVariants.{Plain, Indirect, Double}
use Rattle.edge_base.specs.declared.geometry.Request.{Request}
use Rattle.edge_base.specs.declared.node.Head.{Head}
use Rattle.edge_base.specs.declared.way.Way.{Way}
use Rattle.edge_base.specs.declared.way.Way.TheVariants as way
use Rattle.edge_base.specs.layout.Places.{entries_of, pointers_of}
use Rattle.edge_store.specs.Damages.{form_of_entry, form_under}
use Rattle.edge_store.specs.Placed.{entry_at, pointer_at}
use Rattle.edge_store.specs.View.{View, IsView, Inode, whole, broken, content, content_at, pointers, entries_in, entries_of_inode, head_of_inode, is_owned_by, is_spot, is_used, is_new, is_whole, with_entry, free_now}
use Rattle.edge_store.proofs.ViewLaws.{used_of, used_alike, unused_zero, entries_of_whole, with_block_apart}
use Rattle.edge_store.proofs.RoomLaws.{free_now-same}
use Rattle.std.proofs.lemmas.Map.{update_here, update_apart}
use Rattle.edge_moves.specs.Renewal.{cost, held_by, IsMoved, EntryMoved, EntryRenewed, PointerMoved, PointerRenewed, WayRenewed, direct, single, double, SameHeads}
use Rattle.edge_moves.proofs.StepLaws.{pointer_is, held_pointer, not_zero}
use Rattle.edge_moves.proofs.FactLaws.{set_here, set_head, set_whole}
use Rattle.edge_moves.proofs.ArriveLaws.{held_some}

-- ---- costs

cost_new : (c v : View) (x : ℕ) → is_new c v x ≡ true → cost c v x ≡ 0
cost_new c v x h = ap (λ t. cond t 0 1) h

cost_old : (c v : View) (x : ℕ) → is_new c v x ≡ false → cost c v x ≡ 1
cost_old c v x h = ap (λ t. cond t 0 1) h

cost_most : (c v : View) (x : ℕ) → cost c v x ≤ 1
cost_most c v x = by (is_new c v x)
  where
    by : (t : Bool) → ◌≤◌ (cond t 0 1) 1
    by true = omega arith
    by false = omega arith

-- what is new in one view is new in another → it costs no more there
no_more : (c v w : View) (x : ℕ) → (is_new c v x ≡ true → is_new c w x ≡ true) → cost c w x ≤ cost c v x
no_more c v w x still = elim (cases_Bool (is_new c v x)) [
  | inl new ↦ let a = cost_new c w x (still new) in omega arith
  | inr old ↦ let a = cost_old c v x old in let b = cost_most c w x in omega arith
]

cost_unused : (c v : View) (x : ℕ) → v.blocks x ≡ None → cost c v x ≡ 1
cost_unused c v x none = cost_old c v x (λ i. is_some (none i) && not (is_used c x))

-- ---- a block that moved

module _ (g : Request) (c v w : View) (f : Form) (n from b : ℕ) (was : IsMoved g c v w f n from b) where
  moved_still : (x : ℕ) → is_new c v x ≡ true → is_new c w x ≡ true
  moved_still x new = elim (cases_eq x b) [
    | inl is ↦ ap (is_new c w) is ∙ was.is_new
    | inr far ↦ elim (cases_eq x from) [
      | inl is ↦ absurd (let h : true ≡ false = sym new ∙ ap (is_new c v) is ∙ was.was in cc)
      | inr away ↦ (λ i. is_some (was.others x far away i) && not (is_used c x)) ∙ new
    ]
  ]

  moved_pointer : (s : ℕ) → f ≢ Plain → s < pointers_of g → pointer_at w f b s ≡ pointer_at v f from s
  moved_pointer s node low = pointer_is w f b s (not_zero g b was.fresh.allocable) ∙ ap (λ x. slice_index (entries_in x) s) was.content ∙ held_pointer g v f n from s node low

-- ---- an entry

module _ (g : Request) (c v w : View) (n e b : ℕ) where
  set_blocks : (was : EntryMoved g c v w n e b) → w.blocks ≡ was.between.blocks
  set_blocks was = ap (λ (u : View). u.blocks) was.set

  pub entry_free : EntryRenewed g c v w n e b → free_now g c w + cost c v (entry_at v n e) ≡ free_now g c v
  entry_free (inl kept) = let a = cost_new c v (entry_at v n e) kept.is_new in let f = ap (free_now g c) kept.view in omega arith
  entry_free (inr was) =
      let a = cost_old c v (entry_at v n e) was.moved.was in
      let same = free_now-same g c was.between w (λ k i. is_some (set_blocks was i k)) in
      let f = was.moved.free in omega arith

  pub entry_no_more : EntryRenewed g c v w n e b → (x : ℕ) → cost c w x ≤ cost c v x
  entry_no_more (inl kept) x = no_more c v w x (λ new. ap (λ (u : View). is_new c u x) kept.view ∙ new)
  entry_no_more (inr was) x = no_more c v w x (λ new. (λ i. is_some (set_blocks was i x) && not (is_used c x)) ∙ moved_still g c v was.between (form_of_entry g e) n (entry_at v n e) b was.moved x new)

  pub entry_pointer : EntryRenewed g c v w n e b → (s : ℕ) → form_of_entry g e ≢ Plain → s < pointers_of g → pointer_at w (form_of_entry g e) b s ≡ pointer_at v (form_of_entry g e) (entry_at v n e) s
  entry_pointer (inl kept) s node low = (λ i. pointer_at (kept.view i) (form_of_entry g e) (kept.same i) s)
  entry_pointer (inr was) s node low =
      (λ i. cond (eqb b 0) 0 (slice_index (entries_in (content (form_of_entry g e) (set_blocks was i b))) s))
      ∙ moved_pointer g c v was.between (form_of_entry g e) n (entry_at v n e) b was.moved s node low

  pub entry_new : EntryRenewed g c v w n e b → is_new c w b ≡ true
  entry_new (inl kept) = (λ i. is_new c (kept.view i) (kept.same i)) ∙ kept.is_new
  entry_new (inr was) = (λ i. is_some (set_blocks was i b) && not (is_used c b)) ∙ was.moved.is_new

  set_inode : (was : EntryMoved g c v w n e b) → w.inodes n ≡ with_entry (v.inodes n) e b
  set_inode was = ap (λ (u : View). u.inodes n) was.set ∙ update_here was.between.inodes n (with_entry (was.between.inodes n) e b) ∙ ap (λ (o : ℕ → Option Inode). with_entry (o n) e b) was.moved.inodes

  pub entry_leads : IsView g v → is_whole (v.inodes n) ≡ true → e < entries_of g → EntryRenewed g c v w n e b → b ≡ entry_at w n e
  entry_leads view is low (inl kept) = kept.same ∙ ap (λ (u : View). entry_at u n e) (sym kept.view)
  entry_leads view is low (inr was) =
      let all = entries_of_whole g v n view is in
      let long : e < length (entries_of_inode (v.inodes n)) = omega arith in
      sym (ap (λ o. slice_index (entries_of_inode o) e) (set_inode was) ∙ set_here (v.inodes n) e b is long)

  pub entry_readable : is_whole (v.inodes n) ≡ true → EntryRenewed g c v w n e b → is_whole (w.inodes n) ≡ true
  entry_readable is (inl kept) = ap (λ (u : View). is_whole (u.inodes n)) kept.view ∙ is
  entry_readable is (inr was) = ap is_whole (set_inode was) ∙ set_whole (v.inodes n) e b is

-- ---- a pointer

module _ (g : Request) (c v w : View) (h : Form) (n top i b : ℕ) (view : IsView g v) (top_new : is_new c v top ≡ true) where
  top_used : is_used v top ≡ true
  top_used = (and_parts (is_used v top) (not (is_used c top)) top_new).0

  top_some : top ≢ 0
  top_some none = let f : true ≡ false = sym top_used ∙ ap (is_used v) none ∙ ap is_some (unused_zero g v view) in cc

  module _ (was : PointerMoved g c v w h n top i b) where
    b_top : b ≢ top
    b_top same = let f : false ≡ true = ap is_some (sym was.moved.fresh.unused ∙ ap v.blocks same) ∙ top_used in cc

    from_top : pointer_at v h top i ≢ top
    from_top same = let f : true ≡ false = sym top_new ∙ ap (is_new c v) (sym same) ∙ was.moved.was in cc

    beside : (k : ℕ) → k ≢ top → w.blocks k ≡ was.between.blocks k
    beside k away = ap (λ (u : View). u.blocks k) was.set.working ∙ with_block_apart was.between top (w.blocks top) k away

    top_mid : was.between.blocks top ≡ v.blocks top
    top_mid = was.moved.others top (λ same. b_top (sym same)) (λ same. from_top (sym same))

    set_there : content_at w h top ≡ pointers (Ok (record { owner = n; entries = slice_set (entries_in (content_at v h top)) i b }))
    set_there = was.set.content ∙ ap (λ o. pointers (Ok (record { owner = n; entries = slice_set (entries_in (content h o)) i b }))) top_mid

    owned : is_spot w h n top ≡ true
    owned = ap (is_owned_by n) set_there ∙ eq-eqb n n refl

    used_w : is_used w top ≡ true
    used_w = used_of h (w.blocks top) n owned

    used_same : (k : ℕ) → is_used w k ≡ is_used was.between k
    used_same k = elim (cases_eq k top) [
      | inl is ↦ ap (is_used w) is ∙ used_w ∙ sym (ap (is_used was.between) is ∙ ap is_some top_mid ∙ top_used)
      | inr away ↦ ap is_some (beside k away)
    ]

  pub pointer_free : PointerRenewed g c v w h n top i b → free_now g c w + cost c v (pointer_at v h top i) ≡ free_now g c v
  pointer_free (inl kept) = let a = cost_new c v (pointer_at v h top i) kept.is_new in let f = ap (free_now g c) kept.view in omega arith
  pointer_free (inr was) =
      let a = cost_old c v (pointer_at v h top i) was.moved.was in
      let same = free_now-same g c was.between w (used_same was) in
      let f = was.moved.free in omega arith

  pub pointer_no_more : PointerRenewed g c v w h n top i b → (x : ℕ) → cost c w x ≤ cost c v x
  pointer_no_more (inl kept) x = no_more c v w x (λ new. ap (λ (u : View). is_new c u x) kept.view ∙ new)
  pointer_no_more (inr was) x = no_more c v w x (λ new. ap (λ t. t && not (is_used c x)) (used_same was x) ∙ moved_still g c v was.between (form_under h) n (pointer_at v h top i) b was.moved x new)

  pub pointer_pointer : PointerRenewed g c v w h n top i b → (s : ℕ) → form_under h ≢ Plain → s < pointers_of g → pointer_at w (form_under h) b s ≡ pointer_at v (form_under h) (pointer_at v h top i) s
  pointer_pointer (inl kept) s under place = (λ t. pointer_at (kept.view t) (form_under h) (kept.same t) s)
  pointer_pointer (inr was) s under place =
      ap (λ o. cond (eqb b 0) 0 (slice_index (entries_in (content (form_under h) o)) s)) (beside was b (b_top was))
      ∙ moved_pointer g c v was.between (form_under h) n (pointer_at v h top i) b was.moved s under place

  pub pointer_new : PointerRenewed g c v w h n top i b → is_new c w b ≡ true
  pointer_new (inl kept) = (λ t. is_new c (kept.view t) (kept.same t)) ∙ kept.is_new
  pointer_new (inr was) = ap (λ o. is_some o && not (is_used c b)) (beside was b (b_top was)) ∙ was.moved.is_new

  pub pointer_inodes : PointerRenewed g c v w h n top i b → w.inodes ≡ v.inodes
  pointer_inodes (inl kept) = ap (λ (u : View). u.inodes) kept.view
  pointer_inodes (inr was) = ap (λ (u : View). u.inodes) was.set.working ∙ was.moved.inodes

-- ---- a block below two that were made new

unused_pointer : (v : View) (f : Form) (x s : ℕ) → v.blocks x ≡ None → pointer_at v f x s ≡ 0
unused_pointer v f x s none = by (eqb x 0)
  where
    past : (f : Form) → slice_index (entries_in (content f None)) s ≡ 0
    past Plain = refl
    past Indirect = refl
    past Double = refl

    by : (t : Bool) → cond t 0 (slice_index (entries_in (content_at v f x)) s) ≡ 0
    by true = refl
    by false = ap (λ o. slice_index (entries_in (content f o)) s) none ∙ past f

module _ (g : Request) (c v m l : View) (n e outer place top node : ℕ) (view_v : IsView g v) (view_m : IsView g m) (form : form_of_entry g e ≡ Double) (low_outer : outer < pointers_of g) (low : place < pointers_of g)
    (first : EntryRenewed g c v m n e top) (second : PointerRenewed g c m l Double n top outer node) where
  top_new_m : is_new c m top ≡ true
  top_new_m = entry_new g c v m n e top first

  -- the indirect node, as it was
  abbrev x : ℕ
  x = pointer_at v Double (entry_at v n e) outer

  x_is : pointer_at m Double top outer ≡ x
  x_is = subst (λ (f : Form). f ≢ Plain → pointer_at m f top outer ≡ pointer_at v f (entry_at v n e) outer) form (λ some. entry_pointer g c v m n e top first outer some low_outer) (λ (e : Double ≡ Plain). cc)

  abbrev y : ℕ
  y = pointer_at v Indirect x place

  nothing : (b : ℕ) → v.blocks x ≡ None → cost c l b ≤ cost c v y
  nothing b none =
      let a = ap (cost c v) (unused_pointer v Indirect x place none) ∙ cost_unused c v 0 (unused_zero g v view_v) in
      let m = cost_most c l b in omega arith

  -- a block that is copied is used
  copied_used : x ≢ 0 → m.blocks x ≡ None → ⊥
  copied_used some none = by second
    where
      gone : is_used m x ≡ true → ⊥
      gone used = let f : true ≡ false = sym used ∙ ap is_some none in cc

      by : PointerRenewed g c m l Double n top outer node → ⊥
      by (inl kept) = gone ((and_parts (is_used m x) (not (is_used c x)) (ap (is_new c m) (sym x_is) ∙ kept.is_new)).0)
      by (inr was) =
          let same : content_at was.between Indirect node ≡ content_at m Indirect x = was.moved.content ∙ ap (held_by g m Indirect n) x_is ∙ sym (held_some g m Indirect n x some) in
          let used = (and_parts (is_used was.between node) (not (is_used c node)) was.moved.is_new).0 in
          gone (used_alike Indirect (m.blocks x) (was.between.blocks node) (sym same) used)

  same_at : m.blocks x ≡ v.blocks x → pointer_at m Indirect x place ≡ y
  same_at same = ap (λ o. cond (eqb x 0) 0 (slice_index (entries_in (content Indirect o)) place)) same

  third_is : pointer_at l Indirect node place ≡ pointer_at m Indirect x place
  third_is = pointer_pointer g c m l Double n top outer node view_m top_new_m second place (λ (e : Indirect ≡ Plain). cc) low ∙ ap (λ (b : ℕ). pointer_at m Indirect b place) x_is

  no_more_third : m.blocks x ≡ v.blocks x → cost c l (pointer_at l Indirect node place) ≤ cost c v y
  no_more_third same =
      let is : pointer_at l Indirect node place ≡ y = third_is ∙ same_at same in
      let a = ap (cost c l) is in
      let b = pointer_no_more g c m l Double n top outer node view_m top_new_m second y in
      let d = entry_no_more g c v m n e top first y in omega arith

  third_cost : cost c l (pointer_at l Indirect node place) ≤ cost c v y
  third_cost = by first
    where
      by : EntryRenewed g c v m n e top → cost c l (pointer_at l Indirect node place) ≤ cost c v y
      by (inl kept) = no_more_third (ap (λ (u : View). u.blocks x) kept.view)
      by (inr was) = elim (cases_eq x top) [
        | inl is ↦ nothing (pointer_at l Indirect node place) (ap v.blocks is ∙ was.moved.fresh.unused)
        | inr far ↦ elim (cases_eq x (entry_at v n e)) [
          | inl is ↦ elim (cases_eq x 0) [
            | inl none ↦ nothing (pointer_at l Indirect node place) (ap v.blocks none ∙ unused_zero g v view_v)
            | inr some ↦ absurd (copied_used some (ap m.blocks is ∙ (λ t. set_blocks g c v m n e top was t (entry_at v n e)) ∙ was.moved.gone))
          ]
          | inr away ↦ no_more_third ((λ t. set_blocks g c v m n e top was t x) ∙ was.moved.others x far away)
        ]
      ]

  -- so there is room for the third where there was room for all
  pub third_room : cost c v (entry_at v n e) + cost c v x + cost c v y ≤ free_now g c v → cost c l (pointer_at l Indirect node place) ≤ free_now g c l
  third_room room =
      let a = entry_free g c v m n e top first in
      let b = pointer_free g c m l Double n top outer node view_m top_new_m second in
      let d = ap (cost c m) x_is in
      let f = entry_no_more g c v m n e top first x in
      let h = third_cost in omega arith

-- ---- inodes

no_change : (v w : View) (n : ℕ) → w.inodes ≡ v.inodes → SameHeads v w n
no_change v w n same = record { others = λ x away. ap (λ (o : ℕ → Option Inode). o x) same; head = ap (λ (o : ℕ → Option Inode). head_of_inode (o n)) same }

then_heads : (u v w : View) (n : ℕ) → SameHeads u v n → SameHeads v w n → SameHeads u w n
then_heads u v w n one two = record { others = λ x away. two.others x away ∙ one.others x away; head = two.head ∙ one.head }

module _ (g : Request) (c : View) (n : ℕ) where
  entry_heads : (v w : View) (e b : ℕ) → EntryRenewed g c v w n e b → SameHeads v w n
  entry_heads v w e b (inl kept) = no_change v w n (ap (λ (u : View). u.inodes) kept.view)
  entry_heads v w e b (inr was) = record {
    others = λ x away. ap (λ (u : View). u.inodes x) was.set ∙ update_apart was.between.inodes n (with_entry (was.between.inodes n) e b) x away ∙ ap (λ (o : ℕ → Option Inode). o x) was.moved.inodes;
    head = ap head_of_inode (set_inode g c v w n e b was) ∙ set_head (v.inodes n) e b;
  }

  pointer_heads : (v w : View) (h : Form) (top i b : ℕ) → PointerRenewed g c v w h n top i b → SameHeads v w n
  pointer_heads v w h top i b (inl kept) = no_change v w n (ap (λ (u : View). u.inodes) kept.view)
  pointer_heads v w h top i b (inr was) = no_change v w n (ap (λ (u : View). u.inodes) was.set.working ∙ was.moved.inodes)

  pub way_heads : (v w : View) (on : Way) (b : ℕ) → WayRenewed g c v w n on b → SameHeads v w n
  way_heads v w (way.Direct _) _ (direct e b low form step) = entry_heads v w e b step
  way_heads v w (way.Single _ _) _ (single e place top b m view_m low low_place form first second) = then_heads v m w n (entry_heads v m e top first) (pointer_heads m w Indirect top place b second)
  way_heads v w (way.Double _ _ _) _ (double e outer place top node b m l view_m view_l low low_outer low_place form first second third) =
      then_heads v l w n (then_heads v m l n (entry_heads v m e top first) (pointer_heads m l Double top outer node second)) (pointer_heads l w Indirect node place b third)

pub whole_by_head : (o p : Option Inode) → head_of_inode p ≡ head_of_inode o → is_whole o ≡ true → is_whole p ≡ true
whole_by_head o (Some (whole head entries)) same is = refl
whole_by_head (Some (whole head entries)) None same is = absurd (let f : ◌≡◌ {A = Option Head} None (Some head) = same in cc)
whole_by_head (Some (whole head entries)) (Some (broken d)) same is = absurd (let f : ◌≡◌ {A = Option Head} None (Some head) = same in cc)
whole_by_head None None same is = is
whole_by_head None (Some (broken d)) same is = absurd (let f : false ≡ true = is in cc)
whole_by_head (Some (broken d)) None same is = absurd (let f : false ≡ true = is in cc)
whole_by_head (Some (broken d)) (Some (broken e)) same is = absurd (let f : false ≡ true = is in cc)

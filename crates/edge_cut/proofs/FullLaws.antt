-- Pointer nodes that have a pointer, and trees of which each has one.
use Rattle.std.proofs.Common.{◌≡◌, ◌≢◌, ◌⊎◌, ℕ, ◌<◌, ◌==◌, not, Bool, true, false, cond, length, take, Option, Some, None, refl, sym, ap, ◌∙◌, subst, arith, inl, inr}
use Rattle.std.specs.Prelude.{slice_index}
use Rattle.std.specs.List.{list_any}
use Rattle.std.proofs.lemmas.Bool.{cases_lt}
use Rattle.std.proofs.lemmas.List.{get_or_past, get_or-set_other}
use Rattle.edge_base.specs.declared.form.Form.{Form}
use Rattle.edge_base.specs.declared.form.Form.TheVariants.{Plain, Indirect, Double}
use Rattle.edge_store.specs.Damages.{form_under}
use Rattle.edge_store.specs.Effects.{EntrySet}
use Rattle.edge_store.specs.Placed.{entry_at}
use Rattle.edge_store.specs.View.{View, Block, Inode, whole, broken, content, entries_in, entries_of_inode, with_entry}
use Rattle.edge_store.proofs.ViewLaws.{with_inode_here}
use Rattle.edge_shape.specs.Shape.{entries_at}
use Rattle.edge_shape.specs.Where.{some_in}
use Rattle.edge_shape.proofs.ListLaws.{list_there, some_in-found, some_true}
use Rattle.edge_cut.specs.Dropped.{without, has_pointer, IsFull}
use Rattle.edge_cut.proofs.DropLaws.{DropsSoFar, in_trees, take_all}

-- ---- a pointer that is there

pub there_pointer : (v : View) (form : Form) (b k : ℕ) → slice_index (entries_at v form b) k ≢ 0 → has_pointer v form b ≡ true
there_pointer v form b k there = elim (cases_lt k (length (entries_at v form b))) [
  | inl low ↦ list_there (λ c. not (c == 0)) (entries_at v form b) k low (some_true (slice_index (entries_at v form b) k) there)
  | inr past ↦ absurd (there (get_or_past (entries_at v form b) k 0 past))
]

pub some_pointer : (v : View) (form : Form) (b from upto : ℕ) → some_in (entries_at v form b) from upto ≡ true → has_pointer v form b ≡ true
some_pointer v form b from upto some =
    let r = some_in-found (entries_at v form b) from upto some in
    there_pointer v form b r.0 r.3

pub there_below : (v : View) (form : Form) (b k m : ℕ) → m ≡ length (entries_at v form b) → slice_index (entries_at v form b) k ≢ 0 → k < m
there_below v form b k m all there = elim (cases_lt k m) [
  | inl low ↦ low
  | inr past ↦ absurd (there (get_or_past (entries_at v form b) k 0 (omega (arith, all, past))))
]

-- after all pointers were gone through
pub all_pointer : (v : View) (form : Form) (b k : ℕ) → k ≡ length (entries_at v form b) → false ≡ not (list_any (λ c. not (c == 0)) (take k (entries_at v form b))) → has_pointer v form b ≡ true
all_pointer v form b k all h = ap (list_any (λ c. not (c == 0))) (sym (take_all (entries_at v form b) k all)) ∙ by _ h
  where
    by : (t : Bool) → false ≡ not t → t ≡ true
    by true e = refl
    by false e = absurd (let f : false ≡ true = e in cc)

pub full_node_of : (v : View) (form : Form) (b : ℕ) → form ≢ Plain → has_pointer v form b ≡ true
    → ((k : ℕ) → slice_index (entries_at v form b) k ≢ 0 → IsFull v (form_under form) (slice_index (entries_at v form b) k)) → IsFull v form b
full_node_of v Plain b node some below = absurd (node refl)
full_node_of v Indirect b node some below = some
full_node_of v Double b node some below = (some, below)

pub full_plain : (v : View) (form : Form) (b : ℕ) → form ≡ Plain → IsFull v form b
full_plain v Plain b is = tt
full_plain v Indirect b is = absurd (let h : Indirect ≡ Plain = is in cc)
full_plain v Double b is = absurd (let h : Double ≡ Plain = is in cc)

-- ---- a view that has lost blocks

module _ (v w : View) (less : (x : ℕ) → (w.blocks x ≡ v.blocks x) ⊎ (w.blocks x ≡ None)) where
  there_same : (form : Form) (b : ℕ) → has_pointer w form b ≡ true → entries_at w form b ≡ entries_at v form b
  there_same form b some = by (less b)
    where
      none : (form : Form) → list_any (λ c. not (c == 0)) (entries_in (content form None)) ≡ false
      none Plain = refl
      none Indirect = refl
      none Double = refl

      by : (w.blocks b ≡ v.blocks b) ⊎ (w.blocks b ≡ None) → entries_at w form b ≡ entries_at v form b
      by (inl same) = ap (λ o. entries_in (content form o)) same
      by (inr gone) = absurd (let h : true ≡ false = sym some ∙ ap (λ o. list_any (λ c. not (c == 0)) (entries_in (content form o))) gone ∙ none form in cc)

  pub had_pointer : (form : Form) (b : ℕ) → has_pointer w form b ≡ true → has_pointer v form b ≡ true
  had_pointer form b some = ap (list_any (λ c. not (c == 0))) (sym (there_same form b some)) ∙ some

  pub was_full : (form : Form) (b : ℕ) → IsFull w form b → IsFull v form b
  was_full Plain b full = tt
  was_full Indirect b full = had_pointer Indirect b full
  was_full Double b full = (
    had_pointer Double b full.0,
    λ k there.
        let same = ap (λ xs. slice_index xs k) (there_same Double b full.0) in
        let some = full.1 k (λ none. there (sym same ∙ none)) in
        had_pointer Indirect (slice_index (entries_at v Double b) k) (ap (has_pointer w Indirect) (sym same) ∙ some),
  )

pub less_without : (v : View) (gone : ℕ → Bool) (x : ℕ) → ((without v gone).blocks x ≡ v.blocks x) ⊎ ((without v gone).blocks x ≡ None)
less_without v gone x = by (gone x)
  where
    by : (t : Bool) → (cond t None (v.blocks x) ≡ v.blocks x) ⊎ (cond t None (v.blocks x) ≡ None)
    by true = inr refl
    by false = inl refl

pub less_twice : (u v w : View) (x : ℕ) → (v.blocks x ≡ u.blocks x) ⊎ (v.blocks x ≡ None) → (w.blocks x ≡ v.blocks x) ⊎ (w.blocks x ≡ None) → (w.blocks x ≡ u.blocks x) ⊎ (w.blocks x ≡ None)
less_twice u v w x (inl a) (inl b) = inl (b ∙ a)
less_twice u v w x (inr a) (inl b) = inr (b ∙ a)
less_twice u v w x a (inr b) = inr b

-- while pointers are gone through
pub less_so_far : (v w : View) (form : Form) (owner b top k : ℕ) (none_yet : Bool) → DropsSoFar v w form owner b top k none_yet
    → (x : ℕ) → (w.blocks x ≡ v.blocks x) ⊎ (w.blocks x ≡ None)
less_so_far v w form owner b top k none_yet so_far x =
    subst (λ (u : View). (u.blocks x ≡ v.blocks x) ⊎ (u.blocks x ≡ None)) (sym so_far.working) (less_without v (in_trees v (form_under form) (take k (entries_at v form b))) x)

-- a tree is dropped, and its entry set to 0
pub less_entry : (now read mid after : View) (gone : ℕ → Bool) (n k : ℕ) → read ≡ now → mid ≡ without read gone → EntrySet mid after n k 0
    → (x : ℕ) → (after.blocks x ≡ now.blocks x) ⊎ (after.blocks x ≡ None)
less_entry now read mid after gone n k same dropped set x =
    subst (λ (u : View). (after.blocks x ≡ u.blocks x) ⊎ (after.blocks x ≡ None)) same
    (subst (λ (o : Option Block). (o ≡ read.blocks x) ⊎ (o ≡ None)) (sym (ap (λ (u : View). u.blocks x) set ∙ ap (λ (u : View). u.blocks x) dropped)) (less_without read gone x))

entry_other : (o : Option Inode) (k e to : ℕ) → e ≢ k → slice_index (entries_of_inode (with_entry o k to)) e ≡ slice_index (entries_of_inode o) e
entry_other None k e to away = refl
entry_other (Some (broken damage)) k e to away = refl
entry_other (Some (whole head entries)) k e to away = get_or-set_other entries k e to 0 away

pub later_entry : (mid after : View) (n k e to : ℕ) → e ≢ k → EntrySet mid after n k to → entry_at after n e ≡ entry_at mid n e
later_entry mid after n k e to away set =
    ap (λ (u : View). entry_at u n e) set ∙ ap (λ o. slice_index (entries_of_inode o) e) (with_inode_here mid n (with_entry (mid.inodes n) k to)) ∙ entry_other (mid.inodes n) k e to away

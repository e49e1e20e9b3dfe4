-- The entries of an inode cut one by one.
use Rattle.std.proofs.Common.{◌≡◌, ◌≢◌, ℕ, ◌+◌, ◌<◌, ◌≤◌, ◌&&◌, Bool, true, false, cond, leb, ltb, length, Option, Some, None, refl, sym, ap, ◌∙◌, arith, inl, inr}
use Rattle.std.specs.Prelude.{slice_index, slice_set, is_some}
use Rattle.std.proofs.lemmas.Bool.{cases_eq, le-ltb}
use Rattle.std.proofs.lemmas.Bool.Decides.{nat_tests}
use Rattle.std.proofs.lemmas.List.{get_or-set_same, get_or-set_other}
use Rattle.edge_base.specs.declared.form.Form.{Form}
use Rattle.edge_base.specs.declared.geometry.Request.{Request}
use Rattle.edge_base.specs.layout.Places.{entries_of}
use Rattle.edge_store.specs.Damages.{form_of_entry}
use Rattle.edge_store.specs.Effects.{EntrySet}
use Rattle.edge_store.specs.Placed.{entry_at}
use Rattle.edge_store.specs.View.{View, Inode, whole, broken, entries_of_inode, head_of_inode, is_whole, with_entry, IsView}
use Rattle.edge_store.proofs.ViewLaws.{unused_zero, entries_of_whole, with_inode_here, with_inode_apart}
use Rattle.edge_moves.specs.Renewal.{SameHeads}
use Rattle.edge_moves.proofs.FactLaws.{set_head, set_whole}
use Rattle.edge_shape.specs.Trees.{in_tree, IsSoundTree, IsSoundInode}
use Rattle.edge_shape.specs.Cutting.{CutEntries}
use Rattle.edge_cut.specs.Dropped.{without}
use Rattle.edge_cut.proofs.SameLaws.{SameTree, tree-same, tree_sound-same}

entries_set : (o : Option Inode) (e to : ℕ) → is_whole o ≡ true → entries_of_inode (with_entry o e to) ≡ slice_set (entries_of_inode o) e to
entries_set None e to h = absurd (let f : false ≡ true = h in cc)
entries_set (Some (broken damage)) e to h = absurd (let f : false ≡ true = h in cc)
entries_set (Some (whole head entries)) e to h = refl

module _ (g : Request) (v now : View) (n from k : ℕ) (so_far : CutEntries g v now n from k) (view_v : IsView g v) (view : IsView g now) (lower : from ≤ k) (low : k < entries_of g)
    (sound : IsSoundInode g v n from) where
  abbrev form : Form
  form = form_of_entry g k

  pub entry_here : entry_at now n k ≡ entry_at v n k
  entry_here = so_far.entry k ∙ ap (λ t. cond (leb from k && t) 0 (entry_at v n k)) (le-ltb k k (omega arith)) ∙ ap (λ t. cond t 0 (entry_at v n k)) (and_false (leb from k))
    where
      and_false : (t : Bool) → (t && false) ≡ false
      and_false true = refl
      and_false false = refl

  zero_same : now.blocks 0 ≡ v.blocks 0
  zero_same = unused_zero g now view ∙ sym (unused_zero g v view_v)

  pub entry_tree : entry_at v n k ≢ 0 → SameTree v now form (entry_at v n k)
  entry_tree there x some under = so_far.kept x (λ d from_d before there_d. sound.apart d k from_d before low there_d there x some under)

  pub entry_sound : entry_at v n k ≢ 0 → IsSoundTree g now form n (entry_at v n k)
  entry_sound there = tree_sound-same g v now form n (entry_at v n k) view_v there zero_same (entry_tree there) (sound.children k lower low there)

  in_range : (j : ℕ) → j ≢ k → (leb from j && ltb j (k + 1)) ≡ (leb from j && ltb j k)
  in_range j away = ap (λ t. leb from j && t) (by j away)
    where
      by : (j : ℕ) → j ≢ k → ltb j (k + 1) ≡ ltb j k
      by j away = grind (arith, nat_tests)

  within : (leb from k && ltb k (k + 1)) ≡ true
  within = grind (arith, nat_tests)

  pub entry_absent : entry_at v n k ≡ 0 → CutEntries g v now n from (k + 1)
  entry_absent absent = record {
    others = so_far.others;
    inode = so_far.inode;
    head = so_far.head;
    entry = λ j. elim (cases_eq j k) [
      | inl e ↦ ap (entry_at now n) e ∙ entry_here ∙ absent ∙ sym (ap (λ t. cond t 0 (entry_at v n j)) (ap (λ (m : ℕ). leb from m && ltb m (k + 1)) e ∙ within))
      | inr away ↦ so_far.entry j ∙ ap (λ t. cond t 0 (entry_at v n j)) (sym (in_range j away))
    ];
    dropped = λ j x from_j below_j there under. elim (cases_eq j k) [
      | inl e ↦ absurd (there (ap (entry_at v n) e ∙ absent))
      | inr away ↦ so_far.dropped j x from_j (omega arith) there under
    ];
    kept = λ x none. so_far.kept x (λ j from_j before there. none j from_j (omega arith) there);
  }

  -- the tree at hand is dropped, and the entry set to 0
  module _ (mid after : View) (there : entry_at v n k ≢ 0) (dropped : mid ≡ without now (in_tree now form (entry_at v n k)))
      (set : EntrySet mid after n k 0) where
    abbrev b : ℕ
    b = entry_at v n k

    same_tree : (x : ℕ) → in_tree now form b x ≡ in_tree v form b x
    same_tree x = tree-same v now form b x there zero_same (entry_tree there)

    after_at : (x : ℕ) → after.blocks x ≡ cond (in_tree v form b x) None (now.blocks x)
    after_at x = ap (λ (u : View). u.blocks x) set ∙ ap (λ (u : View). u.blocks x) dropped ∙ ap (λ t. cond t None (now.blocks x)) (same_tree x)

    mid_inodes : mid.inodes ≡ now.inodes
    mid_inodes = ap (λ (u : View). u.inodes) dropped

    inode_n : after.inodes n ≡ with_entry (now.inodes n) k 0
    inode_n = ap (λ (u : View). u.inodes n) set ∙ with_inode_here mid n (with_entry (mid.inodes n) k 0) ∙ (λ i. with_entry (mid_inodes i n) k 0)

    entries_after : entries_of_inode (after.inodes n) ≡ slice_set (entries_of_inode (now.inodes n)) k 0
    entries_after = ap entries_of_inode inode_n ∙ entries_set (now.inodes n) k 0 so_far.inode

    long : k < length (entries_of_inode (now.inodes n))
    long = let all = entries_of_whole g now n view so_far.inode in omega arith

    pub entry_cut : CutEntries g v after n from (k + 1)
    entry_cut = record {
      others = λ m away. ap (λ (u : View). u.inodes m) set ∙ with_inode_apart mid n (with_entry (mid.inodes n) k 0) m away ∙ (λ i. mid_inodes i m) ∙ so_far.others m away;
      inode = ap is_whole inode_n ∙ set_whole (now.inodes n) k 0 so_far.inode;
      head = ap head_of_inode inode_n ∙ set_head (now.inodes n) k 0 ∙ so_far.head;
      entry = λ j. elim (cases_eq j k) [
        | inl is ↦ ap (λ xs. slice_index xs j) entries_after ∙ ap (slice_index (slice_set (entries_of_inode (now.inodes n)) k 0)) is ∙ get_or-set_same (entries_of_inode (now.inodes n)) k 0 0 long
            ∙ sym (ap (λ t. cond t 0 (entry_at v n j)) (ap (λ (m : ℕ). leb from m && ltb m (k + 1)) is ∙ within))
        | inr away ↦ ap (λ xs. slice_index xs j) entries_after ∙ get_or-set_other (entries_of_inode (now.inodes n)) k j 0 0 away ∙ so_far.entry j ∙ ap (λ t. cond t 0 (entry_at v n j)) (sym (in_range j away))
      ];
      dropped = λ j x from_j below_j there_j under. elim (cases_eq j k) [
        | inl is ↦ after_at x ∙ ap (λ t. cond t None (now.blocks x)) (ap (λ (m : ℕ). in_tree v (form_of_entry g m) (entry_at v n m) x) (sym is) ∙ under)
        | inr away ↦ after_at x ∙ gone (in_tree v form b x) x (so_far.dropped j x from_j (omega arith) there_j under)
      ];
      kept = λ x none. after_at x ∙ ap (λ t. cond t None (now.blocks x)) (none k lower (omega arith) there) ∙ so_far.kept x (λ j from_j before there_j. none j from_j (omega arith) there_j);
    }
      where
        gone : (t : Bool) (x : ℕ) → now.blocks x ≡ None → cond t None (now.blocks x) ≡ None
        gone true x h = refl
        gone false x h = h

-- ---- an entry set, whatever the inode

some_set : (o : Option Inode) (e to : ℕ) → is_some o ≡ true → is_some (with_entry o e to) ≡ true
some_set None e to h = h
some_set (Some (broken damage)) e to h = refl
some_set (Some (whole head entries)) e to h = refl

pub some_after : (mid after : View) (n e to : ℕ) → EntrySet mid after n e to → is_some (mid.inodes n) ≡ true → is_some (after.inodes n) ≡ true
some_after mid after n e to set there =
    ap (λ (u : View). is_some (u.inodes n)) set ∙ ap is_some (with_inode_here mid n (with_entry (mid.inodes n) e to)) ∙ some_set (mid.inodes n) e to there

pub heads_after : (v now mid after : View) (n e to : ℕ) → SameHeads v now n → mid.inodes ≡ now.inodes → EntrySet mid after n e to → SameHeads v after n
heads_after v now mid after n e to heads same set = record {
  others = λ m away. ap (λ (u : View). u.inodes m) set ∙ with_inode_apart mid n (with_entry (mid.inodes n) e to) m away ∙ (λ i. same i m) ∙ heads.others m away;
  head = ap (λ (u : View). head_of_inode (u.inodes n)) set ∙ ap head_of_inode (with_inode_here mid n (with_entry (mid.inodes n) e to)) ∙ set_head (mid.inodes n) e to ∙ ap (λ (o : ℕ → Option Inode). head_of_inode (o n)) same ∙ heads.head;
}

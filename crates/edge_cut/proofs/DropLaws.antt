-- Blocks dropped from a view, with what hangs under them.
use Rattle.std.proofs.Common.{◌≡◌, ◌≢◌, ℕ, ◌+◌, ◌<◌, ◌==◌, ◌||◌, not, Bool, true, false, cond, List, [], ◌∷◌, length, take, Option, None, refl, sym, ap, ◌∙◌, subst, arith}
use Rattle.std.specs.Prelude.{slice_index, nat_eq}
use Rattle.std.specs.List.{list_any}
use Rattle.std.proofs.lemmas.Bool.{eqb-true, or_right}
use Rattle.std.proofs.lemmas.Bool.Decides.{nat_tests}
use Rattle.std.proofs.lemmas.List.Folds.{list_any_more}
use Rattle.edge_base.specs.declared.form.Form.{Form}
use Rattle.edge_base.specs.declared.form.Form.TheVariants.{Plain, Indirect, Double}
use Rattle.edge_base.specs.declared.geometry.Request.{Request}
use Rattle.edge_base.specs.layout.Places.{pointers_of}
use Rattle.edge_store.specs.Damages.{form_under}
use Rattle.edge_store.specs.View.{View, Block, content, content_at, entries_in, is_owned_by, is_spot, with_block, IsView}
use Rattle.edge_store.proofs.ViewLaws.{unused_zero}
use Rattle.edge_moves.proofs.FactLaws.{full_node}
use Rattle.edge_shape.specs.Shape.{entries_at}
use Rattle.edge_shape.specs.Trees.{in_tree, in_indirect}
use Rattle.edge_shape.proofs.SpotLaws.{tree_of_zero}
use Rattle.edge_cut.specs.Dropped.{without}

-- how deep the trees under a block of a form are
abbrev pub rank : Form → ℕ
rank Plain = 0
rank Indirect = 1
rank Double = 2

-- whether x is in one of the trees under these blocks of a form
abbrev pub in_trees : View → Form → List ℕ → ℕ → Bool
in_trees v form bs x = list_any (λ b. in_tree v form b x) bs

-- While the pointers of block b are gone through, from v to w: all trees under the first k are dropped.
pub record DropsSoFar (v w : View) (form : Form) (owner b top k : ℕ) (none_yet : Bool) : Type 0 where
  pub working : w ≡ without v (in_trees v (form_under form) (take k (entries_at v form b)))
  pub hollow : none_yet ≡ not (list_any (λ c. not (c == 0)) (take k (entries_at v form b)))
  pub unchanged : none_yet ≡ true → w ≡ v
  pub spot : 0 < k → is_spot v form owner b ≡ true
  pub kept : w.blocks top ≡ v.blocks top

-- ---- views without some blocks

pub without-same : (v : View) (s t : ℕ → Bool) → ((x : ℕ) → cond (s x) None (v.blocks x) ≡ cond (t x) None (v.blocks x)) → without v s ≡ without v t
without-same v s t h = λ i. record v { blocks = λ b. h b i }

pub without-without : (v : View) (s t : ℕ → Bool) → without (without v s) t ≡ without v (λ x. s x || t x)
without-without v s t = λ i. record v { blocks = λ b. by (s b) (t b) (v.blocks b) i }
  where
    by : (one two : Bool) (o : Option Block) → cond two None (cond one None o) ≡ cond (one || two) None o
    by true true o = refl
    by true false o = refl
    by false two o = refl

pub with_block-without : (v : View) (b : ℕ) → with_block v b None ≡ without v (λ x. x == b)
with_block-without v b = λ i. record v { blocks = λ x. by x i }
  where
    same : (a c : ℕ) → nat_eq a c ≡ (c == a)
    same a c = grind (arith, nat_tests)

    by : (x : ℕ) → cond (nat_eq b x) None (v.blocks x) ≡ cond (x == b) None (v.blocks x)
    by x = ap (λ t. cond t None (v.blocks x)) (same b x)

-- a block with form and owner in a view without some blocks is none of these
pub spot-without : (v : View) (t : ℕ → Bool) (form : Form) (owner b : ℕ) → is_spot (without v t) form owner b ≡ true → (t b ≡ false) × (is_spot v form owner b ≡ true)
spot-without v t form owner b h = by (t b) refl h
  where
    none : (form : Form) → is_owned_by owner (content form None) ≡ true → false ≡ true
    none form h = h

    by : (one : Bool) → t b ≡ one → is_owned_by owner (content form (cond one None (v.blocks b))) ≡ true → (t b ≡ false) × (is_spot v form owner b ≡ true)
    by true e h = absurd (let f : false ≡ true = none form h in cc)
    by false e h = (e, h)

pub content-without : (v : View) (t : ℕ → Bool) (form : Form) (b : ℕ) → t b ≡ false → content_at (without v t) form b ≡ content_at v form b
content-without v t form b h = ap (λ s. content form (cond s None (v.blocks b))) h

-- ---- one pointer more

-- the tree under a block that stays is as before
pub in_tree-without : (v : View) (t : ℕ → Bool) (form : Form) (b x : ℕ) → form ≢ Double → t b ≡ false → in_tree (without v t) form b x ≡ in_tree v form b x
in_tree-without v t Plain b x shallow h = refl
in_tree-without v t Indirect b x shallow h = ap (λ c. (x == b) || list_any (λ d. x == d) (entries_in c)) (content-without v t Indirect b h)
in_tree-without v t Double b x shallow h = absurd (shallow refl)

pub below_shallow : (form : Form) → form_under form ≢ Double
below_shallow Plain e = cc
below_shallow Indirect e = cc
below_shallow Double e = cc

module _ (g : Request) (v w : View) (form : Form) (owner b top k : ℕ) (hollow : Bool) (so_far : DropsSoFar v w form owner b top k hollow) (view : IsView g v) (node : form ≢ Plain) (low : k < pointers_of g)
    (spot : is_spot w form owner b ≡ true) where
  abbrev gone : ℕ → Bool
  gone = in_trees v (form_under form) (take k (entries_at v form b))

  abbrev es : List ℕ
  es = entries_at v form b

  was_spot : (gone b ≡ false) × (is_spot v form owner b ≡ true)
  was_spot = spot-without v gone form owner b (subst (λ (u : View). is_spot u form owner b ≡ true) so_far.working spot)

  -- the pointers are read as they were
  pub same_pointers : entries_at w form b ≡ es
  same_pointers = ap (λ (u : View). entries_at u form b) so_far.working ∙ ap entries_in (content-without v gone form b was_spot.0)

  long : k < length es
  long = let all = full_node g v form owner b node view was_spot.1 in omega arith

  more_gone : (x : ℕ) → in_trees v (form_under form) (take (k + 1) es) x ≡ (gone x || in_tree v (form_under form) (slice_index es k) x)
  more_gone x = list_any_more (λ c. in_tree v (form_under form) c x) es k 0 long

  more_there : list_any (λ c. not (c == 0)) (take (k + 1) es) ≡ (list_any (λ c. not (c == 0)) (take k es) || not (slice_index es k == 0))
  more_there = list_any_more (λ c. not (c == 0)) es k 0 long

  -- a place without pointer
  pub one_absent : slice_index es k ≡ 0 → DropsSoFar v w form owner b top (k + 1) hollow
  one_absent absent = record {
    working = so_far.working ∙ without-same v gone (in_trees v (form_under form) (take (k + 1) es))
        (λ x. at x (gone x) (x == 0) refl ∙ ap (λ t. cond t None (v.blocks x)) (sym (more_gone x ∙ ap (λ (c : ℕ). gone x || in_tree v (form_under form) c x) absent
        ∙ ap (λ t. gone x || t) (tree_of_zero v (form_under form) x (unused_zero g v view) (below_shallow form)))));
    hollow = so_far.hollow ∙ sym (ap not (more_there ∙ ap (λ (c : ℕ). list_any (λ d. not (d == 0)) (take k es) || not (c == 0)) absent ∙ or_false (list_any (λ d. not (d == 0)) (take k es))));
    unchanged = so_far.unchanged;
    spot = λ some. was_spot.1;
    kept = so_far.kept;
  }
    where
      or_false : (t : Bool) → (t || false) ≡ t
      or_false true = refl
      or_false false = refl

      at : (x : ℕ) (one zero_too : Bool) → (x == 0) ≡ zero_too → cond one None (v.blocks x) ≡ cond (one || zero_too) None (v.blocks x)
      at x true z e = refl
      at x false false e = refl
      at x false true e = ap v.blocks (eqb-true x 0 e) ∙ unused_zero g v view

  -- a tree dropped
  pub one_dropped : (after : View) (owner_below : ℕ) → slice_index es k ≢ 0 → is_spot w (form_under form) owner_below (slice_index es k) ≡ true
      → after ≡ without w (in_tree w (form_under form) (slice_index es k)) → after.blocks top ≡ w.blocks top → DropsSoFar v after form owner b top (k + 1) false
  one_dropped after owner_below there child dropped kept =
      let c = slice_index es k in
      let stays = spot-without v gone (form_under form) owner_below c (subst (λ (u : View). is_spot u (form_under form) owner_below c ≡ true) so_far.working child) in
      record {
        working = dropped ∙ ap (λ (u : View). without u (in_tree u (form_under form) c)) so_far.working
            ∙ (λ i. without (without v gone) (λ x. in_tree-without v gone (form_under form) c x (below_shallow form) stays.0 i))
            ∙ without-without v gone (in_tree v (form_under form) c)
            ∙ (λ i. without v (λ x. sym (more_gone x) i));
        hollow = sym (ap not (more_there ∙ or_right (list_any (λ d. not (d == 0)) (take k es)) (not (c == 0)) (there_true c there)));
        unchanged = λ e. absurd (let h : false ≡ true = e in cc);
        spot = λ some. was_spot.1;
        kept = kept ∙ so_far.kept;
      }
    where
      there_true : (c : ℕ) → c ≢ 0 → not (c == 0) ≡ true
      there_true c h = grind (arith, nat_tests)

-- before the first pointer
pub drops_none : (v : View) (form : Form) (owner b top : ℕ) → DropsSoFar v v form owner b top 0 true
drops_none v form owner b top = record {
  working = λ i. record v { blocks = λ x. v.blocks x };
  hollow = refl;
  unchanged = λ e. refl;
  spot = λ some. absurd (omega arith);
  kept = refl;
}

pub take_all : (xs : List ℕ) (m : ℕ) → m ≡ length xs → take m xs ≡ xs
take_all [] m h = ap (λ (j : ℕ). take j []) h
take_all (x ∷ xs) m h = ap (λ (j : ℕ). take j (x ∷ xs)) h ∙ ap (λ ys. x ∷ ys) (take_all xs (length xs) refl)

-- after all pointers
pub drops_all : (g : Request) (v w : View) (form : Form) (owner b top k : ℕ) (hollow : Bool) → DropsSoFar v w form owner b top k hollow → IsView g v → form ≢ Plain → k ≡ pointers_of g
    → is_spot w form owner b ≡ true → with_block w b None ≡ without v (in_tree v form b)
drops_all g v w form owner b top k hollow so_far view node all spot =
    let es = entries_at v form b in
    let gone = in_trees v (form_under form) (take k es) in
    let was = spot-without v gone form owner b (subst (λ (u : View). is_spot u form owner b ≡ true) so_far.working spot) in
    let long = full_node g v form owner b node view was.1 in
    with_block-without w b
    ∙ ap (λ (u : View). without u (λ x. x == b)) so_far.working
    ∙ without-without v gone (λ x. x == b)
    ∙ (λ i. without v (λ x. in_trees v (form_under form) (take_all es k (all ∙ sym long) i) x || (x == b)))
    ∙ (λ i. without v (λ x. by form node x i))
  where
    swap : (s t : Bool) → (s || t) ≡ (t || s)
    swap true true = refl
    swap true false = refl
    swap false true = refl
    swap false false = refl

    by : (f : Form) → f ≢ Plain → (x : ℕ) → (in_trees v (form_under f) (entries_at v f b) x || (x == b)) ≡ in_tree v f b x
    by Plain node x = absurd (node refl)
    by Indirect node x = swap (list_any (λ c. x == c) (entries_at v Indirect b)) (x == b)
    by Double node x = swap (list_any (λ c. in_indirect v c x) (entries_at v Double b)) (x == b)

-- a block under which nothing hangs
pub drops_plain : (v : View) (form : Form) (b : ℕ) → form ≡ Plain → with_block v b None ≡ without v (in_tree v form b)
drops_plain v Plain b is = with_block-without v b
drops_plain v Indirect b is = absurd (let h : Indirect ≡ Plain = is in cc)
drops_plain v Double b is = absurd (let h : Double ≡ Plain = is in cc)

-- dropping changes no inode
pub same_inodes : (v w : View) (form : Form) (owner b top k : ℕ) (none_yet : Bool) → DropsSoFar v w form owner b top k none_yet → w.inodes ≡ v.inodes
same_inodes v w form owner b top k none_yet so_far = ap (λ (u : View). u.inodes) so_far.working

-- a block in a view that has lost others too
pub was_spot_all : (v w : View) (form other : Form) (owner b c top k : ℕ) (none_yet : Bool) → DropsSoFar v w form owner b top k none_yet → is_spot w other owner c ≡ true → is_spot v other owner c ≡ true
was_spot_all v w form other owner b c top k none_yet so_far spot =
    (spot-without v (in_trees v (form_under form) (take k (entries_at v form b))) other owner c (subst (λ (u : View). is_spot u other owner c ≡ true) so_far.working spot)).1

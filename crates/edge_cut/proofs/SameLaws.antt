-- What hangs under a block where all blocks of it are the same.
use Rattle.std.proofs.Common.{◌≡◌, ◌≢◌, ℕ, ◌<◌, ◌==◌, ◌||◌, Bool, true, false, List, [], ◌∷◌, refl, sym, ap, ◌∙◌, subst, arith, inl, inr}
use Rattle.std.specs.Prelude.{slice_index}
use Rattle.std.specs.List.{list_any}
use Rattle.std.proofs.lemmas.Bool.{cases_eq, eq-eqb, or_left, or_right}
use Rattle.std.proofs.lemmas.Bool.Decides.{nat_tests}
use Rattle.edge_base.specs.declared.form.Form.{Form}
use Rattle.edge_base.specs.declared.form.Form.TheVariants.{Plain, Indirect, Double}
use Rattle.edge_base.specs.declared.geometry.Request.{Request}
use Rattle.edge_base.specs.layout.Places.{pointers_of}
use Rattle.edge_store.specs.View.{View, entries_in, is_owned_by, is_spot, IsView}
use Rattle.edge_moves.proofs.FactLaws.{full_node}
use Rattle.edge_shape.specs.Shape.{entries_at}
use Rattle.edge_shape.specs.Trees.{in_tree, in_indirect, IsSoundList, IsSoundTree}
use Rattle.edge_shape.proofs.ListLaws.{list_there}
use Rattle.edge_shape.proofs.SpotLaws.{content-same}
use Rattle.edge_cut.proofs.DropLaws.{below_shallow}
use Rattle.edge_cut.proofs.SoundLaws.{among, itself_in}

-- a tree whose blocks all are the same
abbrev pub SameTree : View → View → Form → ℕ → Type 0
SameTree v w form b = (x : ℕ) → x ≢ 0 → in_tree v form b x ≡ true → w.blocks x ≡ v.blocks x

pub in_tree-same : (v w : View) (form : Form) (b x : ℕ) → form ≢ Double → b ≢ 0 → SameTree v w form b → in_tree w form b x ≡ in_tree v form b x
in_tree-same v w Plain b x shallow some same = refl
in_tree-same v w Indirect b x shallow some same = ap (λ c. (x == b) || list_any (λ d. x == d) (entries_in c)) (content-same v w Indirect b (same b some (itself_in v Indirect b)))
in_tree-same v w Double b x shallow some same = absurd (shallow refl)

pub sound-same : (g : Request) (v w : View) (form : Form) (owner b : ℕ) → form ≢ Double → b ≢ 0 → SameTree v w form b → IsSoundTree g v form owner b → IsSoundTree g w form owner b
sound-same g v w Double owner b shallow some same sound = absurd (shallow refl)
sound-same g v w Plain owner b shallow some same sound = ap (is_owned_by owner) (content-same v w Plain b (same b some (itself_in v Plain b))) ∙ sound
sound-same g v w Indirect owner b shallow some same sound =
    let here = content-same v w Indirect b (same b some (itself_in v Indirect b)) in
    let list = sound.list in
    let full = entries_at v Indirect b in
    record {
      spot = ap (is_owned_by owner) here ∙ sound.spot;
      list = subst (λ c. IsSoundList g (λ d. is_spot w Plain owner d ≡ true) (λ c x. x == c) b (entries_in c)) (sym here) (record {
        some = list.some;
        link = list.link;
        children = λ k low there. ap (is_owned_by owner) (content-same v w Plain (slice_index full k) (same (slice_index full k) there (or_right (slice_index full k == b) (list_any (λ c. slice_index full k == c) full) (among full k there)))) ∙ list.children k low there;
        apart = list.apart;
        itself = list.itself;
      });
    }

-- ---- the same for trees of any depth

indirect-same : (v w : View) (c x : ℕ) → w.blocks c ≡ v.blocks c → in_indirect w c x ≡ in_indirect v c x
indirect-same v w c x h = ap (λ d. (x == c) || list_any (λ y. x == y) (entries_in d)) (content-same v w Indirect c h)

any_same : (one two : ℕ → Bool) (es : List ℕ) → ((c : ℕ) → list_any (λ d. c == d) es ≡ true → two c ≡ one c) → list_any two es ≡ list_any one es
any_same one two [] h = refl
any_same one two (e ∷ es) h = λ i. h e (or_left (e == e) (list_any (λ d. e == d) es) (eq-eqb e e refl)) i || any_same one two es (λ c m. h c (or_right (c == e) (list_any (λ d. c == d) es) m)) i

any_from : (test : ℕ → Bool) (es : List ℕ) (c : ℕ) → list_any (λ d. c == d) es ≡ true → test c ≡ true → list_any test es ≡ true
any_from test [] c m h = m
any_from test (e ∷ es) c m h = elim (cases_eq c e) [
  | inl is ↦ or_left (test e) (list_any test es) (subst (λ (d : ℕ). test d ≡ true) is h)
  | inr away ↦ or_right (test e) (list_any test es) (any_from test es c (rest (c == e) (list_any (λ d. c == d) es) m (apart c e away)) h)
]
  where
    apart : (a b : ℕ) → a ≢ b → (a == b) ≡ false
    apart a b away = grind (arith, nat_tests)

    rest : (s t : Bool) → (s || t) ≡ true → s ≡ false → t ≡ true
    rest true t h other = absurd (let e : true ≡ false = other in cc)
    rest false t h other = h

-- an indirect node under a double one is in its tree
under_double : (v : View) (b c x : ℕ) → list_any (λ d. c == d) (entries_at v Double b) ≡ true → in_indirect v c x ≡ true → in_tree v Double b x ≡ true
under_double v b c x m h = or_right (x == b) (list_any (λ d. in_indirect v d x) (entries_at v Double b)) (any_from (λ d. in_indirect v d x) (entries_at v Double b) c m h)

same_below : (v w : View) (b c : ℕ) → w.blocks 0 ≡ v.blocks 0 → SameTree v w Double b → list_any (λ d. c == d) (entries_at v Double b) ≡ true → w.blocks c ≡ v.blocks c
same_below v w b c none same m = elim (cases_eq c 0) [
  | inl zero_c ↦ ap w.blocks zero_c ∙ none ∙ sym (ap v.blocks zero_c)
  | inr some ↦ same c some (under_double v b c c m (itself_in v Indirect c))
]

pub tree-same : (v w : View) (form : Form) (b x : ℕ) → b ≢ 0 → w.blocks 0 ≡ v.blocks 0 → SameTree v w form b → in_tree w form b x ≡ in_tree v form b x
tree-same v w Plain b x some none same = refl
tree-same v w Indirect b x some none same = indirect-same v w b x (same b some (itself_in v Indirect b))
tree-same v w Double b x some none same =
    ap (λ c. (x == b) || list_any (λ d. in_indirect w d x) (entries_in c)) (content-same v w Double b (same b some (itself_in v Double b)))
    ∙ ap (λ t. (x == b) || t) (any_same (λ c. in_indirect v c x) (λ c. in_indirect w c x) (entries_at v Double b) (λ c m. indirect-same v w c x (same_below v w b c none same m)))

pub tree_sound-same : (g : Request) (v w : View) (form : Form) (owner b : ℕ) → IsView g v → b ≢ 0 → w.blocks 0 ≡ v.blocks 0 → SameTree v w form b → IsSoundTree g v form owner b → IsSoundTree g w form owner b
tree_sound-same g v w Plain owner b view some none same sound = sound-same g v w Plain owner b (below_shallow Indirect) some same sound
tree_sound-same g v w Indirect owner b view some none same sound = sound-same g v w Indirect owner b (below_shallow Double) some same sound
tree_sound-same g v w Double owner b view some none same sound =
    let here = content-same v w Double b (same b some (itself_in v Double b)) in
    let list = sound.list in
    let full = entries_at v Double b in
    let long = full_node g v Double owner b (λ (e : Double ≡ Plain). cc) view sound.spot in
    let member : (k : ℕ) → k < pointers_of g → list_any (λ c. slice_index full k == c) full ≡ true = λ k low. list_there (λ c. slice_index full k == c) full k (omega (arith, long)) (eq-eqb (slice_index full k) (slice_index full k) refl) in
    let tree : (k x : ℕ) → k < pointers_of g → in_indirect w (slice_index full k) x ≡ in_indirect v (slice_index full k) x = λ k x low. indirect-same v w (slice_index full k) x (same_below v w b (slice_index full k) none same (member k low)) in
    record {
      spot = ap (is_owned_by owner) here ∙ sound.spot;
      list = subst (λ c. IsSoundList g (λ c. IsSoundTree g w Indirect owner c) (λ c x. in_indirect w c x) b (entries_in c)) (sym here) (record {
        some = list.some;
        link = list.link;
        children = λ k low there. sound-same g v w Indirect owner (slice_index full k) (below_shallow Double) there
            (λ x far under. same x far (under_double v b (slice_index full k) x (member k low) under)) (list.children k low there);
        apart = λ j k before low there x far under. tree j x (omega arith) ∙ list.apart j k before low there x far (sym (tree k x low) ∙ under);
        itself = λ k low. tree k b low ∙ list.itself k low;
      });
    }

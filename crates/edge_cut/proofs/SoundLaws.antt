-- A sound tree is dropped without damage.
use Rattle.std.proofs.Common.{◌≡◌, ◌≢◌, ℕ, zero, suc, ◌+◌, ◌<◌, ◌≤◌, ◌==◌, not, Bool, true, false, List, [], ◌∷◌, length, take, refl, sym, ap, ◌∙◌, subst, arith}
use Rattle.std.specs.Prelude.{slice_index}
use Rattle.std.specs.List.{list_any}
use Rattle.std.proofs.lemmas.Bool.{eq-eqb, or_left, or_right, or_from}
use Rattle.std.proofs.lemmas.List.Folds.{list_any_more}
use Rattle.edge_base.specs.declared.form.Form.{Form}
use Rattle.edge_base.specs.declared.form.Form.TheVariants.{Plain, Indirect, Double}
use Rattle.edge_base.specs.declared.geometry.Request.{Request}
use Rattle.edge_base.specs.layout.Places.{pointers_of}
use Rattle.edge_store.specs.Damages.{form_under}
use Rattle.edge_store.specs.View.{View, entries_in, is_owned_by, is_spot, is_link, IsView}
use Rattle.edge_moves.proofs.FactLaws.{full_node}
use Rattle.edge_shape.specs.Shape.{entries_at}
use Rattle.edge_shape.specs.Trees.{in_tree, in_indirect, IsSoundList, IsSoundNode, IsSoundTree}
use Rattle.edge_cut.specs.Dropped.{without}
use Rattle.edge_cut.proofs.DropLaws.{in_trees, DropsSoFar, content-without, in_tree-without, below_shallow, take_all}

pub itself_in : (v : View) (form : Form) (b : ℕ) → in_tree v form b b ≡ true
itself_in v Plain b = eq-eqb b b refl
itself_in v Indirect b = or_left (b == b) (list_any (λ c. b == c) (entries_at v Indirect b)) (eq-eqb b b refl)
itself_in v Double b = or_left (b == b) (list_any (λ c. in_indirect v c b) (entries_at v Double b)) (eq-eqb b b refl)

pub sound_node : (g : Request) (v : View) (form : Form) (owner b : ℕ) → form ≢ Plain → IsSoundTree g v form owner b → IsSoundNode g v form owner (IsSoundTree g v (form_under form) owner) b
sound_node g v Plain owner b node sound = absurd (node refl)
sound_node g v Indirect owner b node sound = sound
sound_node g v Double owner b node sound = sound

pub none_before : (test : ℕ → Bool) (es : List ℕ) (k : ℕ) → k ≤ length es → ((j : ℕ) → j < k → test (slice_index es j) ≡ false) → list_any test (take k es) ≡ false
none_before test es zero low none = refl
none_before test es (suc k) low none =
    ap (λ (n : ℕ). list_any test (take n es)) (let e : suc k ≡ k + 1 = omega arith in e)
    ∙ list_any_more test es k 0 (omega arith)
    ∙ or_from _ _ (none_before test es k (omega arith) (λ j h. none j (omega arith))) (none k (omega arith))

pub among : (es : List ℕ) (k : ℕ) → slice_index es k ≢ 0 → list_any (λ c. slice_index es k == c) es ≡ true
among [] k there = absurd (there refl)
among (e ∷ es) zero there = or_left (e == e) (list_any (λ c. e == c) es) (eq-eqb e e refl)
among (e ∷ es) (suc k) there = or_right (slice_index es k == e) (list_any (λ c. slice_index es k == c) es) (among es k there)

-- what is sound stays so where no block of it is dropped
pub sound-without : (g : Request) (v : View) (t : ℕ → Bool) (form : Form) (owner b : ℕ) → form ≢ Double → b ≢ 0 → ((x : ℕ) → x ≢ 0 → in_tree v form b x ≡ true → t x ≡ false)
    → IsSoundTree g v form owner b → IsSoundTree g (without v t) form owner b
sound-without g v t Double owner b shallow some away sound = absurd (shallow refl)
sound-without g v t Plain owner b shallow some away sound = ap (is_owned_by owner) (content-without v t Plain b (away b some (eq-eqb b b refl))) ∙ sound
sound-without g v t Indirect owner b shallow some away sound =
    let here = away b some (or_left (b == b) (list_any (λ c. b == c) (entries_at v Indirect b)) (eq-eqb b b refl)) in
    let same = content-without v t Indirect b here in
    let list = sound.list in
    let full = entries_at v Indirect b in
    record {
      spot = ap (is_owned_by owner) same ∙ sound.spot;
      list = subst (λ c. IsSoundList g (λ d. is_spot (without v t) Plain owner d ≡ true) (λ c x. x == c) b (entries_in c)) (sym same) (record {
        some = list.some;
        link = list.link;
        children = λ k low there.
            let under = or_right (slice_index full k == b) (list_any (λ c. slice_index full k == c) full) (among full k there) in
            ap (is_owned_by owner) (content-without v t Plain (slice_index full k) (away (slice_index full k) there under)) ∙ list.children k low there;
        apart = list.apart;
        itself = list.itself;
      });
    }

module _ (g : Request) (v w : View) (form : Form) (owner b top k : ℕ) (none_yet : Bool) (so_far : DropsSoFar v w form owner b top k none_yet) (view : IsView g v) (node : form ≢ Plain)
    (sound : IsSoundNode g v form owner (IsSoundTree g v (form_under form) owner) b) where
  abbrev es : List ℕ
  es = entries_at v form b

  abbrev gone : ℕ → Bool
  gone = in_trees v (form_under form) (take k es)

  long : length es ≡ pointers_of g
  long = full_node g v form owner b node view sound.spot

  stays : k ≤ pointers_of g → gone b ≡ false
  stays low = none_before (λ c. in_tree v (form_under form) c b) es k (omega (arith, long)) (λ j h. sound.list.itself j (omega arith))

  pub node_stays : k ≤ pointers_of g → is_spot w form owner b ≡ true
  node_stays low = ap (λ (u : View). is_spot u form owner b) so_far.working ∙ ap (is_owned_by owner) (content-without v gone form b (stays low)) ∙ sound.spot

  pub link_stays : k < pointers_of g → is_link g (slice_index (entries_at w form b) k) ≡ true
  link_stays low = ap (λ (u : View). is_link g (slice_index (entries_at u form b) k)) so_far.working
      ∙ ap (λ c. is_link g (slice_index (entries_in c) k)) (content-without v gone form b (stays (omega arith)))
      ∙ sound.list.link k low

  pub child_stays : k < pointers_of g → slice_index es k ≢ 0 → IsSoundTree g w (form_under form) owner (slice_index es k)
  child_stays low there = subst (λ (u : View). IsSoundTree g u (form_under form) owner (slice_index es k)) (sym so_far.working)
      (sound-without g v gone (form_under form) owner (slice_index es k) (below_shallow form) there
      (λ x some under. none_before (λ c. in_tree v (form_under form) c x) es k (omega (arith, long)) (λ j h. sound.list.apart j k h low there x some under))
      (sound.list.children k low there))

  pub some_there : k ≡ pointers_of g → none_yet ≡ false
  some_there all = so_far.hollow ∙ ap (λ xs. not (list_any (λ c. not (c == 0)) xs)) (take_all es k (all ∙ sym long)) ∙ ap not sound.list.some

  -- whatever is not under a pointer that is left was not under it before
  pub child_top : k < pointers_of g → slice_index es k ≢ 0 → (x : ℕ) → in_tree v (form_under form) (slice_index es k) x ≡ false → in_tree w (form_under form) (slice_index es k) x ≡ false
  child_top low there x away = ap (λ (u : View). in_tree u (form_under form) (slice_index es k) x) so_far.working
      ∙ in_tree-without v gone (form_under form) (slice_index es k) x (below_shallow form)
      (none_before (λ c. in_tree v (form_under form) c (slice_index es k)) es k (omega (arith, long)) (λ j h. sound.list.apart j k h low there (slice_index es k) there (itself_in v (form_under form) (slice_index es k))))
      ∙ away

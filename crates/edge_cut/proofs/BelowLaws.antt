-- What hangs below a pointer node while it is dropped.
use Rattle.std.proofs.Common.{◌≡◌, ◌≢◌, ℕ, zero, suc, ◌<◌, ◌==◌, ◌||◌, not, Bool, true, false, List, [], ◌∷◌, refl, sym, ap, ◌∙◌, arith}
use Rattle.std.specs.Prelude.{slice_index}
use Rattle.std.specs.List.{list_any}
use Rattle.std.proofs.lemmas.Bool.{or_left, or_right}
use Rattle.std.proofs.lemmas.Bool.Decides.{nat_tests}
use Rattle.edge_base.specs.declared.form.Form.{Form}
use Rattle.edge_base.specs.declared.form.Form.TheVariants.{Plain, Indirect, Double}
use Rattle.edge_base.specs.declared.geometry.Request.{Request}
use Rattle.edge_base.specs.layout.Places.{pointers_of}
use Rattle.edge_store.specs.Damages.{IsLinked, form_under}
use Rattle.edge_store.specs.Placed.{pointer_at}
use Rattle.edge_store.specs.View.{View, is_spot, is_allocable, IsView}
use Rattle.edge_store.proofs.ViewLaws.{unused_zero}
use Rattle.edge_moves.proofs.FactLaws.{full_node}
use Rattle.edge_shape.specs.Shape.{entries_at}
use Rattle.edge_shape.specs.Trees.{in_tree, IsSoundTree}
use Rattle.edge_cut.specs.Dropped.{IsAtEntry, StaysLinked, top_below}
use Rattle.edge_cut.proofs.DropLaws.{rank, DropsSoFar, take_all}
use Rattle.edge_cut.proofs.LastLaws.{double_at_entry, below_stays}
use Rattle.edge_cut.proofs.SoundLaws.{itself_in}

pub rank_below : (form : Form) → form ≢ Plain → rank (form_under form) < rank form
rank_below Plain node = absurd (node refl)
rank_below Indirect node = omega arith
rank_below Double node = omega arith

pub not_zero : (g : Request) (b : ℕ) → is_allocable g b ≡ true → b ≢ 0
not_zero g b h e = grind (arith, nat_tests)

-- a block is not one that its tree does not have
pub not_top : (v : View) (form : Form) (b top : ℕ) → b ≢ 0 → (top ≢ 0 → in_tree v form b top ≡ false) → b ≢ top
not_top v form b top some away is =
    let none : in_tree v form b top ≡ false = away (λ zero_top. some (is ∙ zero_top)) in
    let h : true ≡ false = sym (itself_in v form b) ∙ ap (in_tree v form b) is ∙ none in cc

-- ---- links

pub hangs_below : (g : Request) (v : View) (n : ℕ) (form : Form) (b top place block : ℕ) → form_under form ≢ Plain → IsLinked g v n form b → is_spot v form n b ≡ true → place < pointers_of g
    → block ≡ pointer_at v form b place → StaysLinked g v n (top_below form b top) (form_under form) block
hangs_below g v n Plain b top place block node linked spot low is = absurd (node refl)
hangs_below g v n Indirect b top place block node linked spot low is = absurd (node refl)
hangs_below g v n Double b top place block node linked spot low is = below_stays g v n b place block (double_at_entry g v n Double b linked refl) spot low is

pub top_at_entry : (g : Request) (v : View) (n : ℕ) (form : Form) (b top : ℕ) → (top ≢ 0 → IsAtEntry g v n Double top) → IsLinked g v n form b → top_below form b top ≢ 0
    → IsAtEntry g v n Double (top_below form b top)
top_at_entry g v n Plain b top at linked some = at some
top_at_entry g v n Indirect b top at linked some = at some
top_at_entry g v n Double b top at linked some = double_at_entry g v n Double b linked refl

-- the block that has to stay, after what a block leads to was dropped
pub top_kept : (g : Request) (v w : View) (form : Form) (b top : ℕ) → IsView g v → IsView g w → (form ≡ Double → top ≡ 0) → w.blocks (top_below form b top) ≡ v.blocks (top_below form b top) → w.blocks top ≡ v.blocks top
top_kept g v w Plain b top view_v view_w highest kept = kept
top_kept g v w Indirect b top view_v view_w highest kept = kept
top_kept g v w Double b top view_v view_w highest kept = ap w.blocks (highest refl) ∙ unused_zero g w view_w ∙ sym (unused_zero g v view_v) ∙ sym (ap v.blocks (highest refl))

-- ---- no pointer at all

all_zero : (es : List ℕ) → list_any (λ c. not (c == 0)) es ≡ false → (i : ℕ) → slice_index es i ≡ 0
all_zero [] none i = refl
all_zero (e ∷ es) none zero = first (e == 0) (list_any (λ c. not (c == 0)) es) refl none
  where
    first : (t u : Bool) → (e == 0) ≡ t → (not t || u) ≡ false → e ≡ 0
    first true u is h = grind (arith, nat_tests)
    first false u is h = absurd (let f : true ≡ false = h in cc)
all_zero (e ∷ es) none (suc i) = all_zero es (rest (not (e == 0)) (list_any (λ c. not (c == 0)) es) none) i
  where
    rest : (t u : Bool) → (t || u) ≡ false → u ≡ false
    rest true u h = absurd (let f : true ≡ false = h in cc)
    rest false u h = h

pub none_there : (g : Request) (v w : View) (form : Form) (owner b top k : ℕ) (none_yet : Bool) → DropsSoFar v w form owner b top k none_yet → IsView g v → form ≢ Plain → 0 < pointers_of g → k ≡ pointers_of g
    → none_yet ≡ true → (is_spot v form owner b ≡ true) × ((i : ℕ) → slice_index (entries_at v form b) i ≡ 0)
none_there g v w form owner b top k none_yet so_far view node some all hollow =
    let spot = so_far.spot (omega (arith, all)) in
    let long = full_node g v form owner b node view spot in
    let none : not (list_any (λ c. not (c == 0)) (entries_at v form b)) ≡ true = sym (ap (λ xs. not (list_any (λ c. not (c == 0)) xs)) (take_all (entries_at v form b) k (all ∙ sym long))) ∙ sym so_far.hollow ∙ hollow in
    (spot, all_zero (entries_at v form b) (flip (list_any (λ c. not (c == 0)) (entries_at v form b)) none))
  where
    flip : (t : Bool) → not t ≡ true → t ≡ false
    flip true h = absurd (let f : false ≡ true = h in cc)
    flip false h = refl

-- ---- sound trees

-- what hangs in a place of a sound node has neither the node, where it is double-indirect, nor the block top
pub child_away : (g : Request) (v : View) (form : Form) (owner b top k : ℕ) → IsView g v → form ≢ Plain → IsSoundTree g v form owner b → (top ≢ 0 → in_tree v form b top ≡ false) → k < pointers_of g
    → slice_index (entries_at v form b) k ≢ 0 → top_below form b top ≢ 0 → in_tree v (form_under form) (slice_index (entries_at v form b) k) (top_below form b top) ≡ false
child_away g v Plain owner b top k view node sound away low there some = absurd (node refl)
child_away g v Double owner b top k view node sound away low there some = sound.list.itself k low
child_away g v Indirect owner b top k view node sound away low there some =
    apart (top == slice_index (entries_at v Indirect b) k) (list_any (λ c. top == c) (entries_at v Indirect b)) (top == b) (away some) (λ is. member (entries_at v Indirect b) k there is)
  where
    apart : (t any here : Bool) → (here || any) ≡ false → (t ≡ true → any ≡ true) → t ≡ false
    apart true any true h f = absurd (let e : true ≡ false = h in cc)
    apart true any false h f = absurd (let e : true ≡ false = sym (f refl) ∙ h in cc)
    apart false any here h f = refl

    member : (es : List ℕ) (j : ℕ) → slice_index es j ≢ 0 → (top == slice_index es j) ≡ true → list_any (λ c. top == c) es ≡ true
    member [] j some_there is = absurd (some_there refl)
    member (e ∷ es) zero some_there is = or_left (top == e) (list_any (λ c. top == c) es) is
    member (e ∷ es) (suc j) some_there is = or_right (top == e) (list_any (λ c. top == c) es) (member es j some_there is)

pub child_far : (g : Request) (v : View) (form : Form) (owner b top k : ℕ) → IsView g v → form ≢ Plain → IsSoundTree g v form owner b → in_tree v form b top ≡ false → k < pointers_of g
    → slice_index (entries_at v form b) k ≢ 0 → (form ≡ Double → top ≡ 0) → top ≢ 0 → in_tree v (form_under form) (slice_index (entries_at v form b) k) top ≡ false
child_far g v Plain owner b top k view node sound away low there highest some = absurd (node refl)
child_far g v Double owner b top k view node sound away low there highest some = absurd (some (highest refl))
child_far g v Indirect owner b top k view node sound away low there highest some = child_away g v Indirect owner b top k view node sound (λ has. away) low there some

-- Whether some pointer is there, and that none is.
use Rattle.std.proofs.Common.{◌≡◌, ◌≢◌, ℕ, suc, ◌+◌, ◌≤◌, ◌==◌, not, true, false, List, [], ◌∷◌, length, refl, sym, ap, ◌∙◌, subst, arith, inl, inr}
use Rattle.std.specs.Prelude.{slice_index}
use Rattle.std.specs.List.{list_any}
use Rattle.std.proofs.lemmas.Bool.{cases_lt, or_from}
use Rattle.std.proofs.lemmas.Bool.Decides.{nat_tests}
use Rattle.std.proofs.lemmas.List.{get_or_past}
use Rattle.edge_base.specs.declared.form.Form.{Form}
use Rattle.edge_base.specs.declared.form.Form.TheVariants.{Plain}
use Rattle.edge_base.specs.declared.geometry.Request.{Request}
use Rattle.edge_base.specs.layout.Places.{IsGeometry}
use Rattle.edge_store.specs.Damages.{IsLinked}
use Rattle.edge_store.specs.Placed.{IsShaped}
use Rattle.edge_store.specs.View.{View, IsView, is_spot, is_whole}
use Rattle.edge_store.proofs.LinkLaws.{lies_at}
use Rattle.edge_store.proofs.ViewLaws.{unused_zero}
use Rattle.edge_moves.specs.Sound.{IsSound}
use Rattle.edge_shape.specs.Shape.{entries_at}
use Rattle.edge_shape.specs.Trees.{IsSoundTree}
use Rattle.edge_shape.specs.Where.{some_in}
use Rattle.edge_shape.proofs.EntryCutLaws.{sound_at}
use Rattle.edge_shape.proofs.LeadLaws.{shape_from_shaped}
use Rattle.edge_shape.proofs.ListLaws.{some_in-absent}
use Rattle.edge_shape.proofs.SpotLaws.{zero_no_spot}
use Rattle.edge_tree.proofs.LinkLaws.{sound_of_places}
use Rattle.edge_cut.proofs.SoundLaws.{sound_node}

-- ---- no pointer at all

none_past : (es : List ℕ) (k i : ℕ) → length es ≡ k → k ≤ i → slice_index es i ≡ 0
none_past es k i long past = get_or_past es i 0 (omega (arith, long))

pub none_in_sides : (es : List ℕ) (k place : ℕ) → length es ≡ k → some_in es 0 place ≡ false → some_in es place k ≡ false → (i : ℕ) → slice_index es i ≡ 0
none_in_sides es k place long one two i = elim (cases_lt i place) [
  | inl low ↦ some_in-absent es 0 place i one (omega arith) low
  | inr from ↦ elim (cases_lt i k) [
    | inl high ↦ some_in-absent es place k i two from high
    | inr past ↦ none_past es k i long past
  ]
]

pub none_beside : (es : List ℕ) (k outer : ℕ) → length es ≡ k → some_in es 0 outer ≡ false → slice_index es outer ≡ 0 → some_in es (outer + 1) k ≡ false → (i : ℕ) → slice_index es i ≡ 0
none_beside es k outer long one here two i = elim (cases_lt i outer) [
  | inl low ↦ some_in-absent es 0 outer i one (omega arith) low
  | inr from ↦ elim (cases_lt outer i) [
    | inl past_it ↦ elim (cases_lt i k) [
      | inl high ↦ some_in-absent es (outer + 1) k i two (omega arith) high
      | inr past ↦ none_past es k i long past
    ]
    | inr back ↦ let same : i ≡ outer = omega arith in ap (slice_index es) same ∙ here
  ]
]

any_zero : (es : List ℕ) → ((i : ℕ) → slice_index es i ≡ 0) → list_any (λ c. not (c == 0)) es ≡ false
any_zero [] none = refl
any_zero (e ∷ es) none = or_from _ _ (first e (none 0)) (any_zero es (λ i. none (suc i)))
  where
    first : (c : ℕ) → c ≡ 0 → not (c == 0) ≡ false
    first c h = grind (arith, nat_tests)

-- ---- nodes of a proper shape

pub shaped_sound : (g : Request) (v : View) (n : ℕ) → IsShaped g v n → (is_whole (v.inodes n) ≡ true) × IsSound g v n
shaped_sound g v n shaped = (ap is_whole shaped.inode, sound_of_places g v n shaped.indices shaped.places)

pub shaped_tree : (g : Request) (v : View) (n : ℕ) (form : Form) (b : ℕ) → IsGeometry g → IsView g v → IsShaped g v n → IsLinked g v n form b → b ≢ 0 → IsSoundTree g v form n b
shaped_tree g v n form b geometry view shaped linked some =
    let shape = shape_from_shaped g v n geometry view shaped in
    let l = lies_at g v n form b linked in
    subst (λ (x : ℕ). IsSoundTree g v form n x) l.2 (sound_at g v n shaped.indices shape form l.0 (λ none. some (sym l.2 ∙ none)))

-- a pointer node of a node of a proper shape has a pointer
pub shaped_some : (g : Request) (v : View) (n : ℕ) (form : Form) (b : ℕ) → IsGeometry g → IsView g v → IsShaped g v n → form ≢ Plain → IsLinked g v n form b → b ≢ 0
    → ((i : ℕ) → slice_index (entries_at v form b) i ≡ 0) → ⊥
shaped_some g v n form b geometry view shaped node linked some none =
    let tree = sound_node g v form n b node (shaped_tree g v n form b geometry view shaped linked some) in
    let h : true ≡ false = sym tree.list.some ∙ any_zero (entries_at v form b) none in cc

pub spot_some : (g : Request) (v : View) (form : Form) (owner b : ℕ) → IsView g v → is_spot v form owner b ≡ true → b ≢ 0
spot_some g v form owner b view spot none = zero_no_spot v form owner (unused_zero g v view) (subst (λ (x : ℕ). is_spot v form owner x ≡ true) none spot)

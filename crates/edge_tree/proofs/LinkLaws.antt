-- Links of a node, one below the other, and of a sound node.
use Rattle.std.proofs.Common.{◌≡◌, ◌≢◌, ℕ, ◌<◌, Bool, eqb, true, false, List, refl, sym, ◌∙◌, subst, arith}
use Rattle.std.specs.Prelude.{◌||◌, slice_index}
use Rattle.std.proofs.lemmas.Bool.{eqb-true, eqb-false, cond-false}
use Rattle.std.proofs.lemmas.Bool.Decides.{nat_tests}
use Rattle.edge_base.specs.declared.form.Form.{Form}
use Rattle.edge_base.specs.declared.form.Form.TheVariants.{Plain}
use Rattle.edge_base.specs.declared.geometry.Request.{Request}
use Rattle.edge_base.specs.layout.Places.{entries_of, pointers_of}
use Rattle.edge_store.specs.Damages.{IsLinked, by_entry, by_place, form_of_entry, form_under}
use Rattle.edge_store.specs.Placed.{entry_at, pointer_at, HasPlaces}
use Rattle.edge_store.specs.View.{View, IsView, content_at, entries_in, is_spot, is_link, is_allocable}
use Rattle.edge_store.proofs.LinkLaws.{lies_at}
use Rattle.edge_store.proofs.ViewLaws.{used_of}
use Rattle.edge_moves.specs.Sound.{IsSound, numbered}

pub entry_linked : (g : Request) (v : View) (n e b : ℕ) → e < entries_of g → b ≡ entry_at v n e → IsLinked g v n (form_of_entry g e) b
entry_linked g v n e b low at = rw at (by_entry e low)

-- nothing is below an absent node
below_none : (v : View) (form : Form) (b i : ℕ) → pointer_at v form b i ≢ 0 → b ≢ 0
below_none v form b i some e = some (grind (arith, nat_tests))

pub place_linked : (g : Request) (v : View) (n : ℕ) (form : Form) (top i b : ℕ) → form ≢ Plain → (top ≢ 0 → IsLinked g v n form top) → (top ≢ 0 → is_spot v form n top ≡ true)
    → i < pointers_of g → b ≡ pointer_at v form top i → b ≢ 0 → IsLinked g v n (form_under form) b
place_linked g v n form top i b node linked spot low at some =
    let there : top ≢ 0 = below_none v form top i (λ e. some (at ∙ e)) in
    rw at (by_place form top i node (linked there) (spot there) low)

-- a pointer of a node that is there
pub pointer_is : (v : View) (form : Form) (b i : ℕ) → b ≢ 0 → pointer_at v form b i ≡ slice_index (entries_in (content_at v form b)) i
pointer_is v form b i some = cond-false (eqb b 0) 0 _ (grind (arith, nat_tests))

-- a link to a block leads to an allocable one
pub allocable_of_link : (g : Request) (b : ℕ) → is_link g b ≡ true → b ≢ 0 → is_allocable g b ≡ true
allocable_of_link g b link some = by (eqb b 0) (is_allocable g b) refl link
  where
    by : (none t : Bool) → eqb b 0 ≡ none → (none || t) ≡ true → t ≡ true
    by true t e h = absurd (some (eqb-true b 0 e))
    by false t e h = h

-- ---- sound nodes

pub sound_of_places : (g : Request) (v : View) (n : ℕ) (indices : List ℕ) → HasPlaces g v n indices → IsSound g v n
sound_of_places g v n indices places = λ form k low there. places.spots (numbered n form k) ((places.places (numbered n form k) (λ t. n) low).0 there)

module _ (g : Request) (v : View) (n : ℕ) (sound : IsSound g v n) where
  pub spot_of_link : (form : Form) (b : ℕ) → IsLinked g v n form b → b ≢ 0 → is_spot v form n b ≡ true
  spot_of_link form b linked some =
      let l = lies_at g v n form b linked in
      subst (λ (x : ℕ). is_spot v form n x ≡ true) l.2 (sound form l.0 l.1 (λ none. some (sym l.2 ∙ none)))

  pub link_of_link : IsView g v → (form : Form) (b : ℕ) → IsLinked g v n form b → is_link g b ≡ true
  link_of_link view form b linked = by (eqb b 0) refl
    where
      by : (none : Bool) → eqb b 0 ≡ none → (none || is_allocable g b) ≡ true
      by true e = refl
      by false e = view.allocable b (used_of form (v.blocks b) n (spot_of_link form b linked (eqb-false b 0 e)))

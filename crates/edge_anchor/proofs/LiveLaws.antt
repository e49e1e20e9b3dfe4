-- The live one of two metaroots.
use Rattle.std.proofs.Common.{◌≡◌, ◌⊎◌, inl, inr, ⊎_elim, ℕ, ◌-◌, ◌<◌, ◌≤◌, Bool, true, false, List, Some, None, Ok, Err, refl, sym, ap, ◌∙◌, subst, arith}
use Rattle.std.specs.Prelude.{Result, nat_lt, if◌then◌else◌}
use Rattle.std.proofs.lemmas.Bool.{ltb-true, ltb-false, cases_lt}
use Rattle.std.proofs.lemmas.Bool.Decides.{nat_tests}
use Rattle.edge_base.specs.declared.geometry.Request.{Request}
use Rattle.edge_base.specs.declared.node.Metaroot.{Metaroot}
use Rattle.edge_base.specs.declared.node.NodeFault.{NodeFault}
use Rattle.edge_base.specs.layout.Spelling.{metaroot_in}
use Rattle.edge_disk.specs.Image.{Image}
use Rattle.edge_image.specs.Image.{Live, greater, live_among, live_of}
use Rattle.edge_anchor.specs.Anchor.{Anchor, Loses, geometry_of, spare_of, live_by}

-- ---- from a metaroot that the other loses to

live_first : (r : Metaroot) (other : Result Metaroot NodeFault) → ((s : Metaroot) → other ≡ Ok s → s.sequence ≤ r.sequence)
    → live_among (Ok r) other ≡ Some (record { place = 1; root = r })
live_first r (Ok s) less = let h = less s refl in grind (arith, nat_tests)
live_first r (Err fault) less = refl

live_second : (r : Metaroot) (other : Result Metaroot NodeFault) → ((s : Metaroot) → other ≡ Ok s → s.sequence < r.sequence)
    → live_among other (Ok r) ≡ Some (record { place = 2; root = r })
live_second r (Ok s) less = let h = less s refl in grind (arith, nat_tests)
live_second r (Err fault) less = refl

pub is_live : (g : Request) (image : Image) (place : ℕ) (r : Metaroot) → (place ≡ 1) ⊎ (place ≡ 2) → metaroot_in g (image.block place) ≡ Ok r
    → ((s : Metaroot) → metaroot_in g (image.block (3 - place)) ≡ Ok s → (s.sequence < r.sequence) ⊎ ((s.sequence ≡ r.sequence) × (place ≡ 1)))
    → live_of g image ≡ Some (record { place = place; root = r })
is_live g image place r at root beats = ⊎_elim first second at
  where
    first : place ≡ 1 → live_of g image ≡ Some (record { place = place; root = r })
    first e =
        let here : metaroot_in g (image.block 1) ≡ Ok r = subst (λ (p : ℕ). metaroot_in g (image.block p) ≡ Ok r) e root in
        let far : 3 - place ≡ 2 = omega arith in
        let less : (s : Metaroot) → metaroot_in g (image.block 2) ≡ Ok s → s.sequence ≤ r.sequence
        = λ s is. ⊎_elim (λ h. omega arith) (λ h. let q = h.0 in omega arith) (beats s (ap (λ (p : ℕ). metaroot_in g (image.block p)) far ∙ is)) in
        ap (λ x. live_among x (metaroot_in g (image.block 2))) here ∙ live_first r (metaroot_in g (image.block 2)) less
        ∙ ap (λ (p : ℕ). Some (record { place = p; root = r })) (sym e)

    second : place ≡ 2 → live_of g image ≡ Some (record { place = place; root = r })
    second e =
        let here : metaroot_in g (image.block 2) ≡ Ok r = subst (λ (p : ℕ). metaroot_in g (image.block p) ≡ Ok r) e root in
        let far : 3 - place ≡ 1 = omega arith in
        let less : (s : Metaroot) → metaroot_in g (image.block 1) ≡ Ok s → s.sequence < r.sequence
        = λ s is. ⊎_elim (λ h. h) (λ h. let q = h.1 in absurd (omega arith)) (beats s (ap (λ (p : ℕ). metaroot_in g (image.block p)) far ∙ is)) in
        ap (λ x. live_among (metaroot_in g (image.block 1)) x) here ∙ live_second r (metaroot_in g (image.block 1)) less
        ∙ ap (λ (p : ℕ). Some (record { place = p; root = r })) (sym e)

-- bytes that spell a metaroot of a smaller number lose
pub beaten : (b : Anchor) (root : Metaroot) (c : List ℕ) → root.sequence < b.root.sequence → metaroot_in (geometry_of b) c ≡ Ok root → Loses b c
beaten b root c less is r e = let same : r ≡ root = cc in inl (subst (λ (x : Metaroot). x.sequence < b.root.sequence) (sym same) less)

-- ---- and back

-- the live one of two, and that the other loses
data IsGreater (x y : Result Metaroot NodeFault) (live : Live) : Type 0 where
  in_first : live.place ≡ 1 → x ≡ Ok live.root → ((s : Metaroot) → y ≡ Ok s → s.sequence ≤ live.root.sequence) → IsGreater x y live
  in_second : live.place ≡ 2 → y ≡ Ok live.root → ((s : Metaroot) → x ≡ Ok s → s.sequence < live.root.sequence) → IsGreater x y live

of_two : (one two : Metaroot) (t : Bool) → nat_lt one.sequence two.sequence ≡ t
    → IsGreater (Ok one) (Ok two) (if t then record { place = 2; root = two } else record { place = 1; root = one })
of_two one two true e = in_second refl refl
    (λ s is. let same : one ≡ s = cc in subst (λ (x : Metaroot). x.sequence < two.sequence) same (ltb-true one.sequence two.sequence e))
of_two one two false e = in_first refl refl
    (λ s is. let same : two ≡ s = cc in
    subst (λ (x : Metaroot). x.sequence ≤ one.sequence) same (let h = ltb-false one.sequence two.sequence e in omega arith))

greater_of : (x y : Result Metaroot NodeFault) (live : Live) → live_among x y ≡ Some live → IsGreater x y live
greater_of (Ok one) (Ok two) live is = let e : greater one two ≡ live = cc in
    subst (IsGreater (Ok one) (Ok two)) e (of_two one two (nat_lt one.sequence two.sequence) refl)
greater_of (Ok one) (Err fault) live is = let e : record { place = 1; root = one } ≡ live = cc in
    subst (IsGreater (Ok one) (Err fault)) e (in_first refl refl (λ s wrong. absurd (cc)))
greater_of (Err fault) (Ok two) live is = let e : record { place = 2; root = two } ≡ live = cc in
    subst (IsGreater (Err fault) (Ok two)) e (in_second refl refl (λ s wrong. absurd (cc)))
greater_of (Err fault) (Err other) live is = absurd (let wrong : None ≡ Some live = is in cc)

-- the live metaroot of an image, as an anchor's
pub record IsLiveRoot (a : Anchor) (image : Image) : Type 0 where
  pub place : (a.place ≡ 1) ⊎ (a.place ≡ 2)
  pub spells : metaroot_in (geometry_of a) (image.block a.place) ≡ Ok a.root
  pub loses : Loses a (image.block (spare_of a))

pub live_root : (a : Anchor) (image : Image) → live_of (geometry_of a) image ≡ Some (live_by a) → IsLiveRoot a image
live_root a image is = by_place (greater_of (metaroot_in (geometry_of a) (image.block 1)) (metaroot_in (geometry_of a) (image.block 2)) (live_by a) is)
  where
    split : (x y : ℕ) → x ≤ y → (x < y) ⊎ (x ≡ y)
    split x y le = elim (cases_lt x y) [ inl h ↦ inl h | inr h ↦ inr (omega arith) ]

    by_place : IsGreater (metaroot_in (geometry_of a) (image.block 1)) (metaroot_in (geometry_of a) (image.block 2)) (live_by a) → IsLiveRoot a image
    by_place (in_first e is less) =
        let far : spare_of a ≡ 2 = omega arith in
        record {
          place = inl e;
          spells = ap (λ (p : ℕ). metaroot_in (geometry_of a) (image.block p)) e ∙ is;
          loses = λ r spelled. ⊎_elim (λ x. inl x)
              (λ x. inr (x, e)) (split r.sequence a.root.sequence (less r (ap (λ (p : ℕ). metaroot_in (geometry_of a) (image.block p)) (sym far) ∙ spelled)));
        }
    by_place (in_second e is less) =
        let far : spare_of a ≡ 1 = omega arith in
        record {
          place = inr e;
          spells = ap (λ (p : ℕ). metaroot_in (geometry_of a) (image.block p)) e ∙ is;
          loses = λ r spelled. inl (less r (ap (λ (p : ℕ). metaroot_in (geometry_of a) (image.block p)) (sym far) ∙ spelled));
        }

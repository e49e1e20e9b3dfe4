-- What a cut leaves between points, and inside one.
use Rattle.std.proofs.Common.{◌≡◌, ◌⊎◌, inl, inr, ⊎_elim, ℕ, ◌-◌, ◌<◌, ◌≤◌, List, refl, sym, ap, ◌∙◌, subst, arith}
use Rattle.edge_base.specs.declared.node.Master.{Master}
use Rattle.edge_base.specs.layout.Spelling.{metaroot_in}
use Rattle.edge_disk.specs.Disk.{Origin}
use Rattle.edge_disk.specs.Image.{Image, IsPermitted, IsPlain}
use Rattle.edge_disk.specs.State.{shown_by}
use Rattle.edge_anchor.specs.Anchor.{Anchor, HangsOn, IsNext, IsOn, IsRoot, LeadsTo, Needs, Loses, geometry_of, spare_of, view_at}
use Rattle.edge_anchor.specs.Medium.{Medium, AreKept, HoldsOnly, IsCommitted, IsTurning, shown_alone}
use Rattle.edge_anchor.specs.Opens.{OpensAs}
use Rattle.edge_anchor.proofs.HangLaws.{is_geometry, within_limits, no_node_loses, place_low, spare_low, low_there, led_there, needed_there}
use Rattle.edge_anchor.proofs.LiveLaws.{beaten}
use Rattle.edge_anchor.proofs.OpenLaws.{opens}

-- where a block has one candidate, that is what is shown
abbrev pub SureIsShown : Medium → Type 0
SureIsShown m = (k : ℕ) (c : List ℕ) → m.disk.is_sure k → m.disk.may_hold k c → c ≡ m.disk.shown k

-- ---- the two metaroots of a point

twice : (p : ℕ) → p < 3 → 3 - (3 - p) ≡ p
twice p low = omega arith

pub back : (origin : Origin) (a b : Anchor) → IsOn origin a → IsNext a b → spare_of b ≡ a.place
back origin a b on next = ap (λ (p : ℕ). 3 - p) next.place ∙ twice a.place (place_low origin a on).1

pub on_next : (origin : Origin) (a b : Anchor) → IsOn origin a → IsNext a b → IsOn origin b
on_next origin a b on next = record {
  size = ap (λ (n : Master). n.geometry.block_size) next.master ∙ on.size;
  blocks = subst (λ (n : Master). n.geometry.blocks ≤ origin.blocks) (sym next.master) on.blocks;
  place = ⊎_elim (λ (e : a.place ≡ 1). inr (next.place ∙ ap (λ (p : ℕ). 3 - p) e)) (λ (e : a.place ≡ 2). inl (next.place ∙ ap (λ (p : ℕ). 3 - p) e)) on.place;
}

-- the metaroot of the last point loses to that of this one
pub last_loses : (origin : Origin) (a b : Anchor) (s : ℕ → List ℕ) → IsOn origin a → IsNext a b → IsRoot a (s a.place) → Loses b (s (spare_of b))
last_loses origin a b s on next root =
    beaten b a.root (s (spare_of b)) (let more = next.sequence in omega arith)
    (ap (λ (p : ℕ). metaroot_in (geometry_of b) (s p)) (back origin a b on next) ∙ ap (λ (n : Master). metaroot_in n.geometry (s a.place)) next.master
    ∙ root.spells)

-- ---- images

module _ (m : Medium) (law : SureIsShown m) (image : Image) (permitted : IsPermitted m.disk.origin m.disk.may_hold m.disk.is_sure image)
    (plain : IsPlain m.disk.origin m.disk.may_hold image) where
  -- what is kept is there as it is shown
  kept_there : (IsMeant : ℕ → Type 0) → AreKept IsMeant m → (k : ℕ) → k < m.disk.origin.blocks → IsMeant k → image.block k ≡ m.disk.shown k
  kept_there IsMeant kept k below is = law k (image.block k) (kept.sure k is) (permitted.only k below (kept.sure k is))

  -- the spare metaroot's block has a candidate, or spells no node and loses
  spare_there : (a : Anchor) (IsSuch : List ℕ → Type 0) → IsOn m.disk.origin a → HangsOn a m.disk.shown → HoldsOnly (spare_of a) IsSuch m
      → IsSuch (image.block (spare_of a)) ⊎ Loses a (image.block (spare_of a))
  spare_there a IsSuch on hangs only =
      let low = spare_low m.disk.origin a on in
      let below = low_there m.disk.origin a on (within_limits a m.disk.shown hangs) (spare_of a) low.1 in
      ⊎_elim (λ may. inl (only.candidates (image.block (spare_of a)) may))
      (λ none. inr (no_node_loses a (image.block (spare_of a)) (is_geometry a m.disk.shown hangs) (permitted.whole (spare_of a) below ∙ sym on.size) none))
      (plain (spare_of a) low.1 below)

  -- between points the image opens by the last one
  pub committed_alone : (a : Anchor) → IsOn m.disk.origin a → IsCommitted a m → OpensAs a (view_at a m.disk.shown) image
  committed_alone a on is =
      let there = needed_there m.disk.origin a on (within_limits a m.disk.shown is.hangs) in
      let same : (k : ℕ) → Needs a k → image.block k ≡ m.disk.shown k = λ k needs. kept_there (Needs a) is.needed k (there k needs) needs in
      opens m.disk.origin a m.disk.shown image on is.hangs (record {
        blocks = permitted.blocks;
        block_size = permitted.block_size;
        root = subst (IsRoot a) (sym (same a.place (inl refl))) is.root;
        same = λ k led. same k (inr led);
        loses = ⊎_elim (λ loses. loses) (λ loses. loses) (spare_there a (Loses a) on is.hangs is.spare);
      })

  -- and inside one by it or the next
  pub turning_either : (a b : Anchor) → IsOn m.disk.origin a → IsTurning a b m
      → OpensAs a (view_at a m.disk.shown) image ⊎ OpensAs b (view_at b m.disk.shown) image
  turning_either a b on is =
      let bounds = within_limits a m.disk.shown is.hangs in
      let next_on = on_next m.disk.origin a b on is.next in
      let next_bounds = within_limits b m.disk.shown is.hangs_next in
      let kept = kept_there (λ k. Needs a k ⊎ LeadsTo b k) is.needed in
      let same : (k : ℕ) → Needs a k → image.block k ≡ m.disk.shown k = λ k needs. kept k (needed_there m.disk.origin a on bounds k needs) (inl needs) in
      let next_same : (k : ℕ) → LeadsTo b k → image.block k ≡ m.disk.shown k
      = λ k led. kept k (led_there m.disk.origin b next_on next_bounds k led) (inr led) in
      let root : IsRoot a (image.block a.place) = subst (IsRoot a) (sym (same a.place (inl refl))) is.root in
      let last : Loses a (image.block (spare_of a)) → OpensAs a (view_at a m.disk.shown) image
      = λ loses. opens m.disk.origin a m.disk.shown image on is.hangs (record {
        blocks = permitted.blocks;
        block_size = permitted.block_size;
        root = root;
        same = λ k led. same k (inr led);
        loses = loses;
      }) in
      let this : IsRoot b (image.block (spare_of a)) → OpensAs b (view_at b m.disk.shown) image
      = λ turned. opens m.disk.origin b m.disk.shown image next_on is.hangs_next (record {
        blocks = permitted.blocks;
        block_size = permitted.block_size;
        root = subst (λ (p : ℕ). IsRoot b (image.block p)) (sym is.next.place) turned;
        same = next_same;
        loses = last_loses m.disk.origin a b image.block on is.next root;
      }) in
      ⊎_elim (⊎_elim (λ loses. inl (last loses)) (λ turned. inr (this turned)))
      (λ loses. inl (last loses)) (spare_there a (λ c. Loses a c ⊎ IsRoot b c) on is.hangs is.spare)

-- what is shown opens by the last point
pub shown_opens : (m : Medium) (a : Anchor) → IsOn m.disk.origin a → IsCommitted a (shown_alone m) → OpensAs a (view_at a m.disk.shown) (shown_by m.disk)
shown_opens m a on is = opens m.disk.origin a m.disk.shown (shown_by m.disk) on is.hangs (record {
  blocks = refl;
  block_size = refl;
  root = is.root;
  same = λ k led. refl;
  loses = is.spare.candidates (m.disk.shown (spare_of a)) refl;
})

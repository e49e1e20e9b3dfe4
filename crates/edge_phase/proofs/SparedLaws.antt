-- What is written to blocks that the last point does not need keeps it, and its view.
use Rattle.std.proofs.Common.{◌≡◌, ◌≢◌, ◌<◌, inl, inr, ⊎_elim, ℕ, ◌==◌, Bool, true, false, cond, List, Option, Some, None, refl, sym, ap, ◌∙◌, subst}
use Rattle.std.proofs.lemmas.Bool.{cases_eq, eqb-true}
use Rattle.edge_base.specs.layout.Bitmap.{used_under}
use Rattle.edge_base.specs.layout.Places.{IsWithinLimits}
use Rattle.edge_cache.specs.Given.{except}
use Rattle.edge_anchor.specs.Anchor.{Anchor, HangsOn, LeadsTo, to_master, to_node, to_used, Needs, geometry_of, spare_of, view_at}
use Rattle.edge_anchor.specs.Medium.{Medium, Follows, IsCommitted, MayWrite}
use Rattle.edge_anchor.proofs.HangLaws.{within_limits}
use Rattle.edge_anchor.proofs.KeepLaws.{GivesFrom, committed_follows, follows_more, shown_kept}
use Rattle.edge_anchor.proofs.PlaceLaws.{free_blocks_same, free_inodes_same}
use Rattle.edge_anchor.proofs.ViewLaws.{view_stays}
use Rattle.edge_phase.specs.Spared.{Spares, as_told, block_given}

-- ---- what follows

far_test : (k b : ℕ) → k ≢ b → (k == b) ≡ false
far_test k b far = by_test (k == b) refl
  where
    by_test : (t : Bool) → (k == b) ≡ t → (k == b) ≡ false
    by_test true e = absurd (far (eqb-true k b e))
    by_test false e = e

none_waits : (w : Option (List ℕ)) → ((c : List ℕ) → w ≡ Some c → ⊥) → w ≡ None
none_waits None never = refl
none_waits (Some c) never = absurd (never c refl)

pub write_follows : (m n : Medium) (b : ℕ) → GivesFrom (except b m.waits n.waits) m n → Follows (block_given b) m n
write_follows m n b gives = record {
  waits = λ k c e. elim (cases_eq k b) [
    | inl here ↦ inr here
    | inr far ↦ inl (gives.fewer k c (ap (λ t. cond t (m.waits k) (n.waits k)) (far_test k b far) ∙ e))
  ];
  shown = λ k. ⊎_elim (λ same. inl same) (λ was. inr (inl was)) (gives.shown k);
  adds = λ k c may. ⊎_elim (λ before. inl before) (λ was. inr (inl was)) (gives.adds k c may);
  sure = λ k never is. gives.sure_stays k (none_waits (m.waits k) (λ c e. never c (inl e))) is;
}

pub follows_then : (IsGiven : ℕ → List ℕ → Type 0) (m n o : Medium) → Follows IsGiven m n → Follows IsGiven n o → Follows IsGiven m o
follows_then IsGiven m n o first second = record {
  waits = λ k c e. before k c (second.waits k c e);
  shown = λ k. ⊎_elim (λ same. ⊎_elim (λ e. inl (same ∙ e)) (λ may. inr (subst (MayWrite IsGiven m k) (sym same) may)) (first.shown k))
      (λ may. inr (before k (o.disk.shown k) may)) (second.shown k);
  adds = λ k c may. ⊎_elim (λ there. first.adds k c there) (λ may. inr (before k c may)) (second.adds k c may);
  sure = λ k never is. second.sure k (λ c may. never c (before k c may)) (first.sure k never is);
}
  where
    before : (k : ℕ) (c : List ℕ) → MayWrite IsGiven n k c → MayWrite IsGiven m k c
    before k c = ⊎_elim (λ waits. first.waits k c waits) (λ given. inr given)

-- a block of the volume that is not needed, and is not the spare metaroot's, may be given any bytes
pub block_spares : (a : Anchor) (b : ℕ) (m n : Medium) → (Needs a b → ⊥) → b ≢ spare_of a → b < (geometry_of a).blocks
    → Follows (block_given b) m n → Follows (Spares a) m n
block_spares a b m n free far below = follows_more (block_given b) (Spares a) m n
    (λ k c given. ((λ needs. free (subst (Needs a) given needs)), (λ spare. far (sym given ∙ spare)), subst (λ (x : ℕ). x < (geometry_of a).blocks) (sym given) below))

-- ---- an anchor as blocks tell it

module _ (a : Anchor) (s : ℕ → List ℕ) (hangs : HangsOn a s) where
  abbrev limits : IsWithinLimits (geometry_of a)
  limits = within_limits a s hangs

  abbrev told : ℕ → Bool
  told = used_under (geometry_of a) a.roots s

  told_hangs : HangsOn (as_told a s) s
  told_hangs = record {
    master = hangs.master;
    nodes = hangs.nodes;
    bits = λ b has. refl;
    free_blocks = hangs.free_blocks ∙ sym (free_blocks_same (geometry_of a) limits a.used told hangs.bits);
    free_inodes = hangs.free_inodes ∙ sym (free_inodes_same (geometry_of a) limits a.used told hangs.bits);
  }

  told_led : (k : ℕ) → LeadsTo (as_told a s) k → LeadsTo a k
  told_led k (to_master e) = to_master e
  told_led k (to_node i below e) = to_node i below e
  told_led k (to_used has used) = to_used has (sym (hangs.bits k has) ∙ used)

  pub told_needs : (k : ℕ) → Needs (as_told a s) k → Needs a k
  told_needs k = ⊎_elim (λ e. inl e) (λ led. inr (told_led k led))

  pub led_told : (k : ℕ) → LeadsTo a k → LeadsTo (as_told a s) k
  led_told k (to_master e) = to_master e
  led_told k (to_node i below e) = to_node i below e
  led_told k (to_used has used) = to_used has (hangs.bits k has ∙ used)

  pub told_view : view_at (as_told a s) s ≡ view_at a s
  told_view = view_stays (geometry_of a) a.used told s s limits (λ b has. record { same_use = hangs.bits b has; bytes = λ used. refl })

pub told_committed : (a : Anchor) (m : Medium) → IsCommitted a m → IsCommitted (as_told a m.disk.shown) m
told_committed a m is = record {
  hangs = told_hangs a m.disk.shown is.hangs;
  root = record { spells = is.root.spells; roots = is.root.roots };
  needed = record {
    sure = λ k needs. is.needed.sure k (told_needs a m.disk.shown is.hangs k needs);
    idle = λ k needs. is.needed.idle k (told_needs a m.disk.shown is.hangs k needs);
  };
  spare = is.spare;
}

-- ---- between points

module _ (a : Anchor) (m n : Medium) (follows : Follows (Spares a) m n) (is : IsCommitted a m) where
  pub spared_shown : (k : ℕ) → Needs a k → n.disk.shown k ≡ m.disk.shown k
  spared_shown = shown_kept (Spares a) m n follows (Needs a) (λ k c spares needs. spares.0 needs) is.needed

  pub spared_committed : IsCommitted a n
  spared_committed = committed_follows (Spares a) m n follows a (λ k c spares needs. spares.0 needs) (λ c spares. absurd (spares.1 refl)) is

  pub last_stays : IsCommitted (as_told a n.disk.shown) n
  last_stays = told_committed a n spared_committed

  pub same_view : view_at a n.disk.shown ≡ view_at a m.disk.shown
  same_view = view_stays (geometry_of a) a.used a.used m.disk.shown n.disk.shown (within_limits a m.disk.shown is.hangs)
      (λ b has. record { same_use = refl; bytes = λ used. spared_shown b (inr (to_used has used)) })

  pub last_view : view_at (as_told a n.disk.shown) n.disk.shown ≡ view_at a m.disk.shown
  last_view = told_view a n.disk.shown spared_committed.hangs ∙ same_view

-- The two flushes of a point.
use Rattle.std.proofs.Common.{◌≡◌, ◌⊎◌, inl, ⊎_elim, ℕ, ◌<◌, None, sym, subst}
use Rattle.edge_anchor.specs.Anchor.{Anchor, HangsOn, IsNext, IsOn, IsRoot, LeadsTo, Needs, Loses, spare_of}
use Rattle.edge_anchor.specs.Medium.{Medium, IsCommitted, IsTurning}
use Rattle.edge_anchor.proofs.CutLaws.{SureIsShown, back, on_next, last_loses}
use Rattle.edge_anchor.proofs.HangLaws.{within_limits, place_low, low_there, led_there, needed_there}

-- each block of the disk has one candidate
abbrev pub EachIsSure : Medium → Type 0
EachIsSure m = (k : ℕ) → k < m.disk.origin.blocks → m.disk.is_sure k

-- nothing waits
abbrev pub NoneWaits : Medium → Type 0
NoneWaits m = (k : ℕ) → m.waits k ≡ None

module _ (m : Medium) (a b : Anchor) (on : IsOn m.disk.origin a) (clean : NoneWaits m) where
  -- after the first
  pub begins : ((k : ℕ) → k < m.disk.origin.blocks → m.disk.is_sure k) → IsNext a b → HangsOn b m.disk.shown → IsCommitted a m → IsTurning a b m
  begins sure next hangs_next is =
      let bounds = within_limits a m.disk.shown is.hangs in
      let next_bounds = within_limits b m.disk.shown hangs_next in
      let there : (k : ℕ) → Needs a k ⊎ LeadsTo b k → k < m.disk.origin.blocks
      = λ k. ⊎_elim (needed_there m.disk.origin a on bounds k) (led_there m.disk.origin b (on_next m.disk.origin a b on next) next_bounds k) in
      record {
        next = next;
        hangs = is.hangs;
        root = is.root;
        hangs_next = hangs_next;
        needed = record { sure = λ k is. sure k (there k is); idle = λ k is. clean k };
        spare = record { candidates = λ c may. inl (is.spare.candidates c may); waiting = λ c e. absurd (cc (clean (spare_of a), e)) };
      }

  -- after the second
  pub ends : SureIsShown m → ((k : ℕ) → k < m.disk.origin.blocks → m.disk.is_sure k) → IsRoot b (m.disk.shown (spare_of a)) → IsTurning a b m
      → IsCommitted b m
  ends law sure root is =
      let next_on = on_next m.disk.origin a b on is.next in
      let bounds = within_limits b m.disk.shown is.hangs_next in
      let spare = back m.disk.origin a b on is.next in
      let low : spare_of b < m.disk.origin.blocks
      = low_there m.disk.origin b next_on bounds (spare_of b) (subst (λ (p : ℕ). p < 3) (sym spare) (place_low m.disk.origin a on).1) in
      record {
        hangs = is.hangs_next;
        root = subst (λ (p : ℕ). IsRoot b (m.disk.shown p)) (sym is.next.place) root;
        needed = record { sure = λ k needs. sure k (needed_there m.disk.origin b next_on bounds k needs); idle = λ k needs. clean k };
        spare = record {
          candidates = λ c may. subst (Loses b) (sym (law (spare_of b) c (sure (spare_of b) low) may))
              (last_loses m.disk.origin a b m.disk.shown on is.next is.root);
          waiting = λ c e. absurd (cc (clean (spare_of b), e));
        };
      }

-- One call of a bitmap after another.
use Rattle.std.proofs.Common.{◌≡◌, ◌≢◌, ℕ, ◌≤◌, Bool, List, Option, refl, sym, ap, ◌∙◌, subst, arith, inl, inr}
use Rattle.std.specs.Prelude.{Result, Ok, Err, IsErr, IsErrAnd, IsTrue, if◌then◌else◌}
use Rattle.std.proofs.lemmas.Bool.{cases_eq, eq-eqb}
use Rattle.edge_base.specs.declared.damage.Damage.{Damage}
use Rattle.edge_base.specs.outside.Below.{SameBelow}
use Rattle.edge_base.specs.outside.Faults.{Rose}
use Rattle.edge_cache.specs.Cached.{Cached, IsClean}
use Rattle.edge_cache.specs.Blocks.{word_holds_in}
use Rattle.edge_cache.specs.Calls.{OnlyGivesUp, OnlyChanges, StaysClean}
use Rattle.edge_cache.specs.Given.{waiting, except, GivesUp}
use Rattle.edge_cache.proofs.GivenLaws.{not_eq, gives_none}
use Rattle.edge_cache.proofs.CacheLaws.{gives_after, stays_clean}
use Rattle.edge_disk.specs.Disk.{Origin}
use Rattle.edge_disk.specs.declared.disk.Disk.{Ghosts}
use Rattle.edge_imap.specs.declared.fault.ImapFault.{ImapFault}
use Rattle.edge_imap.specs.declared.fault.ImapFault.TheVariants.{Device, Damaged}
use Rattle.edge_imap.specs.Reading.{OnlyReads, OnlyWrites, IsDamaged, TellsWhy}

-- what waits of b makes no difference to what may have been written, where it is as before
gives_but : (shows : Bool) (w y z : ℕ → Option (List ℕ)) (s t : ℕ → List ℕ) (m n : ℕ → List ℕ → Type 0) (u v : ℕ → Type 0) (b : ℕ)
    → GivesUp shows w y s t m n u v → ((k : ℕ) → k ≢ b → z k ≡ y k) → z b ≡ w b → GivesUp shows w z s t m n u v
gives_but shows w y z s t m n u v b g others here = record {
  fewer = λ k c h. elim (cases_eq k b) [
    | inl e ↦ ap w e ∙ sym here ∙ ap z (sym e) ∙ h
    | inr far ↦ g.fewer k c (sym (others k far) ∙ h)
  ];
  written = λ tells k c some none. elim (cases_eq k b) [
    | inl e ↦ absurd (cc (some, none, ap w e, ap z e, here))
    | inr far ↦ g.written tells k c some (sym (others k far) ∙ none)
  ];
  shown = g.shown;
  adds = g.adds;
  stays = g.stays;
  sure = g.sure;
  sure_stays = g.sure_stays;
}

module _ {D : Type 0} (g : Ghosts D) where
  pub shows_on : (old new : Cached D) → g.origin new.disk ≡ g.origin old.disk → IsTrue (g.origin old.disk).shows → IsTrue (g.origin new.disk).shows
  shows_on old new e tells = subst (λ (o : Origin). IsTrue o.shows) (sym e) tells

  pub reads_same : (c : Cached D) → OnlyReads g c c
  reads_same c =
      let same : SameBelow (g.may_hold c.disk) (g.may_hold c.disk) (g.is_sure c.disk) (g.is_sure c.disk) = record { adds_none = λ k x h. h; stays = λ k x h. h; sure = λ k h. h; sure_stays = λ k h. h } in
      record {
        origin = refl;
        gives = gives_none (g.origin c.disk).shows (waiting c.held) (g.shown c.disk) (g.shown c.disk) (g.may_hold c.disk) (g.may_hold c.disk) (g.is_sure c.disk) (g.is_sure c.disk) refl same;
        contents = λ tells k. refl;
        clean = λ clean. record { clean = clean; candidates = same };
      }

  pub reads_call : (old new : Cached D) → g.origin new.disk ≡ g.origin old.disk → OnlyGivesUp g old new → (IsClean old.held → StaysClean g old new) → OnlyReads g old new
  reads_call old new origin only clean = record { origin = origin; gives = only.gives; contents = only.contents; clean = clean }

  pub reads_fault : (old new : Cached D) → g.origin new.disk ≡ g.origin old.disk → OnlyGivesUp g old new → OnlyReads g old new
  reads_fault old new origin only = reads_call old new origin only (stays_clean g old new only)

  pub reads_after : (old mid new : Cached D) → OnlyReads g old mid → OnlyReads g mid new → OnlyReads g old new
  reads_after old mid new a b = record {
    origin = b.origin ∙ a.origin;
    gives = gives_after (g.origin old.disk) (g.origin mid.disk) _ _ _ _ _ _ _ _ _ _ _ _ a.origin a.gives b.gives;
    contents = λ tells k. b.contents (shows_on old mid a.origin tells) k ∙ a.contents tells k;
    clean = λ clean.
        let one = a.clean clean in
        let two = b.clean one.clean in
        record {
          clean = two.clean;
          candidates = record {
            adds_none = λ k c h. one.candidates.adds_none k c (two.candidates.adds_none k c h);
            stays = λ k c h. two.candidates.stays k c (one.candidates.stays k c h);
            sure = λ k h. one.candidates.sure k (two.candidates.sure k h);
            sure_stays = λ k h. two.candidates.sure_stays k (one.candidates.sure_stays k h);
          };
        };
  }

  pub writes_call : (b : ℕ) (old new : Cached D) → g.origin new.disk ≡ g.origin old.disk → OnlyChanges g b old new → OnlyWrites g b old new
  writes_call b old new origin only = record { origin = origin; gives = only.gives; contents = only.contents }

  -- a call that only reads changes no block more
  pub writes_none : (b : ℕ) (old new : Cached D) → OnlyReads g old new → OnlyWrites g b old new
  writes_none b old new r = record {
    origin = r.origin;
    gives = gives_but (g.origin old.disk).shows (waiting old.held) (waiting new.held) (except b (waiting old.held) (waiting new.held)) _ _ _ _ _ _ b r.gives
        (λ k far. ap (λ (t : Bool). if t then waiting old.held k else waiting new.held k) (not_eq k b far))
        (ap (λ (t : Bool). if t then waiting old.held b else waiting new.held b) (eq-eqb b b refl));
    contents = λ tells k far. r.contents tells k;
  }

  -- a call that changes a block after one that only reads
  pub writes_after : (b : ℕ) (old mid new : Cached D) → OnlyReads g old mid → OnlyWrites g b mid new → OnlyWrites g b old new
  writes_after b old mid new a w = record {
    origin = w.origin ∙ a.origin;
    gives = gives_but (g.origin old.disk).shows (waiting old.held) (except b (waiting mid.held) (waiting new.held)) (except b (waiting old.held) (waiting new.held)) _ _ _ _ _ _ b
        (gives_after (g.origin old.disk) (g.origin mid.disk) _ _ _ _ _ _ _ _ _ _ _ _ a.origin a.gives w.gives)
        (λ k far. ap (λ (t : Bool). if t then waiting old.held k else waiting new.held k) (not_eq k b far) ∙ sym (ap (λ (t : Bool). if t then waiting mid.held k else waiting new.held k) (not_eq k b far)))
        (ap (λ (t : Bool). if t then waiting old.held b else waiting new.held b) (eq-eqb b b refl));
    contents = λ tells k far. w.contents (shows_on old mid a.origin tells) k far ∙ a.contents tells k;
  }

  pub why_passed : {T : Type 0} (P : ℕ → Type 0) (old new : Cached D) (v : T) → g.faults new.disk ≡ g.faults old.disk → TellsWhy g {T = T} P old new (Ok v)
  why_passed P old new v same = record { later = omega (arith, same); passed = same; device = λ e. absurd (cc e); damaged = λ d e. absurd (cc e) }

  -- a fault of the cache, behind calls that only read
  pub why_device : {T : Type 0} (P : ℕ → Type 0) (old mid new : Cached D) (r : Result T ImapFault) → IsErr r × IsErrAnd r (λ e. e ≡ Device)
      → g.faults mid.disk ≡ g.faults old.disk → g.faults mid.disk ≤ g.faults new.disk → Rose (g.faults mid.disk) (g.faults new.disk) → TellsWhy g P old new r
  why_device P old mid new (Ok v) fails same later rose = absurd (cc (fails.0))
  why_device P old mid new (Err e) fails same later rose = record {
    later = omega (arith, same, later);
    passed = tt;
    device = λ h. subst (λ (n : ℕ). Rose n (g.faults new.disk)) same rose;
    damaged = λ d h. absurd (cc (fails.1, h));
  }

  pub why_damaged : {T : Type 0} (P : ℕ → Type 0) (old new : Cached D) (d : Damage) → IsDamaged g P old new d → TellsWhy g {T = T} P old new (Err (Damaged d))
  why_damaged P old new d is = record {
    later = omega (arith, is.faults);
    passed = tt;
    device = λ h. absurd (cc h);
    damaged = λ e h. subst (λ (x : Damage). IsDamaged g P old new x) (cc h) is;
  }

  -- the fault of a call, behind calls that only read, was passed on
  pub why_after : {S T : Type 0} (P Q : ℕ → Type 0) (old mid new : Cached D) (s : Result S ImapFault) (r : Result T ImapFault) (e : ImapFault) → ((k : ℕ) → P k → Q k)
      → OnlyReads g old mid → g.faults mid.disk ≡ g.faults old.disk → TellsWhy g P mid new s → s ≡ Err e → IsErr r × IsErrAnd r (λ x. x ≡ e) → TellsWhy g Q old new r
  why_after P Q old mid new s (Ok v) e into reads same why is fails = absurd (cc (fails.0))
  why_after P Q old mid new s (Err x) e into reads same why is fails = record {
    later = omega (arith, same, why.later);
    passed = tt;
    device = λ h.
        let at : e ≡ Device = cc (fails.1, h) in
        subst (λ (n : ℕ). Rose n (g.faults new.disk)) same (why.device (is ∙ ap (λ (y : ImapFault). Err y) at));
    damaged = λ d h.
        let at : e ≡ Damaged d = cc (fails.1, h) in
        let m = why.damaged d (is ∙ ap (λ (y : ImapFault). Err y) at) in
        record {
          faults = m.faults ∙ same;
          block = into d.block m.block;
          kind = m.kind;
          differs = λ tells. ap word_holds_in (sym (reads.contents tells d.block)) ∙ m.differs (shows_on old mid reads.origin tells);
        };
  }

  -- a result that was passed on
  pub why_within : {T : Type 0} (P Q : ℕ → Type 0) (old new : Cached D) (r : Result T ImapFault) → ((k : ℕ) → P k → Q k) → TellsWhy g P old new r → TellsWhy g Q old new r
  why_within P Q old new r into why = record {
    later = why.later;
    passed = why.passed;
    device = why.device;
    damaged = λ d h. let m = why.damaged d h in record { faults = m.faults; block = into d.block m.block; kind = m.kind; differs = m.differs };
  }

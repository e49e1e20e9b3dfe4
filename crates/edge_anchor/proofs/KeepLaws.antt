-- What follows a medium keeps what is kept of it.
use Rattle.std.proofs.Common.{◌≡◌, ◌≢◌, ◌⊎◌, inl, inr, ⊎_elim, ℕ, ◌==◌, Bool, true, false, cond, List, Option, Some, None, refl, sym, ap, ◌∙◌, subst}
use Rattle.std.proofs.lemmas.Bool.{cases_eq, eqb-true}
use Rattle.edge_cache.specs.Given.{GivesUp, except}
use Rattle.edge_anchor.specs.Anchor.{Anchor, IsOn, IsRoot, LeadsTo, Needs, Loses, spare_of}
use Rattle.edge_anchor.specs.Medium.{Medium, AreKept, HoldsOnly, Follows, IsCommitted, IsTurning, MayWrite, none_given, one_given, shown_alone}
use Rattle.edge_anchor.proofs.HangLaws.{hangs_same, spare_low, spare_far, root_apart}

-- ---- what calls do

-- a call of a cache from w, what waited, to x
abbrev pub GivesFrom : (ℕ → Option (List ℕ)) → Medium → Medium → Type 0
GivesFrom x m n = GivesUp m.disk.origin.shows m.waits x m.disk.shown n.disk.shown m.disk.may_hold n.disk.may_hold m.disk.is_sure n.disk.is_sure

none_waits : (w : Option (List ℕ)) → ((c : List ℕ) → w ≡ Some c → ⊥) → w ≡ None
none_waits None never = refl
none_waits (Some c) never = absurd (never c refl)

pub gives_follow : (m n : Medium) → GivesFrom n.waits m n → Follows none_given m n
gives_follow m n gives = record {
  waits = λ k c e. inl (gives.fewer k c e);
  shown = λ k. ⊎_elim (λ same. inl same) (λ was. inr (inl was)) (gives.shown k);
  adds = λ k c may. ⊎_elim (λ before. inl before) (λ was. inr (inl was)) (gives.adds k c may);
  sure = λ k never is. gives.sure_stays k (none_waits (m.waits k) (λ c e. never c (inl e))) is;
}

far_test : (k b : ℕ) → k ≢ b → (k == b) ≡ false
far_test k b far = by_test (k == b) refl
  where
    by_test : (t : Bool) → (k == b) ≡ t → (k == b) ≡ false
    by_test true e = absurd (far (eqb-true k b e))
    by_test false e = e

pub change_follows : (m n : Medium) (b : ℕ) (bytes : List ℕ) → GivesFrom (except b m.waits n.waits) m n → n.waits b ≡ Some bytes
    → Follows (one_given b bytes) m n
change_follows m n b bytes gives waits = record {
  waits = λ k c e. elim (cases_eq k b) [
    | inl here ↦ inr (here, some c bytes (sym e ∙ ap n.waits here ∙ waits))
    | inr far ↦ inl (gives.fewer k c (ap (λ t. cond t (m.waits k) (n.waits k)) (far_test k b far) ∙ e))
  ];
  shown = λ k. ⊎_elim (λ same. inl same) (λ was. inr (inl was)) (gives.shown k);
  adds = λ k c may. ⊎_elim (λ before. inl before) (λ was. inr (inl was)) (gives.adds k c may);
  sure = λ k never is. gives.sure_stays k (none_waits (m.waits k) (λ c e. never c (inl e))) is;
}
  where
    some : (c d : List ℕ) → Some c ≡ Some d → c ≡ d
    some c d e = cc

pub flush_follows : (m n : Medium) → n.waits ≡ m.waits → n.disk.shown ≡ m.disk.shown → ((k : ℕ) (c : List ℕ) → n.disk.may_hold k c → m.disk.may_hold k c)
    → ((k : ℕ) → m.disk.is_sure k → n.disk.is_sure k)
    → Follows none_given m n
flush_follows m n waits shown adds_none stays = record {
  waits = λ k c e. inl ((λ t. sym waits t k) ∙ e);
  shown = λ k. inl (λ t. shown t k);
  adds = λ k c may. inl (adds_none k c may);
  sure = λ k never is. stays k is;
}

-- calls that may give more
pub follows_more : (IsGiven IsMore : ℕ → List ℕ → Type 0) (m n : Medium) → ((k : ℕ) (c : List ℕ) → IsGiven k c → IsMore k c) → Follows IsGiven m n
    → Follows IsMore m n
follows_more IsGiven IsMore m n more follows = record {
  waits = λ k c e. wider k c (follows.waits k c e);
  shown = λ k. ⊎_elim (λ same. inl same) (λ may. inr (wider k (n.disk.shown k) may)) (follows.shown k);
  adds = λ k c may. ⊎_elim (λ before. inl before) (λ may. inr (wider k c may)) (follows.adds k c may);
  sure = λ k never is. follows.sure k (λ c may. never c (wider k c may)) is;
}
  where
    wider : (k : ℕ) (c : List ℕ) → MayWrite IsGiven m k c → MayWrite IsMore m k c
    wider k c = ⊎_elim (λ waits. inl waits) (λ given. inr (more k c given))

-- and then others that give nothing
pub follows_on : (IsGiven : ℕ → List ℕ → Type 0) (m n o : Medium) → Follows IsGiven m n → Follows none_given n o → Follows IsGiven m o
follows_on IsGiven m n o first second = record {
  waits = λ k c e. before k c (second.waits k c e);
  shown = λ k. ⊎_elim (λ same. ⊎_elim (λ e. inl (same ∙ e)) (λ may. inr (subst (MayWrite IsGiven m k) (sym same) may)) (first.shown k))
      (λ may. inr (before k (o.disk.shown k) may)) (second.shown k);
  adds = λ k c may. ⊎_elim (λ there. first.adds k c there) (λ may. inr (before k c may)) (second.adds k c may);
  sure = λ k never is. second.sure k (λ c may. never c (before k c may)) (first.sure k never is);
}
  where
    before : (k : ℕ) (c : List ℕ) → MayWrite none_given n k c → MayWrite IsGiven m k c
    before k c = ⊎_elim (λ waits. first.waits k c waits) (λ given. absurd given)

module _ (IsGiven : ℕ → List ℕ → Type 0) (m n : Medium) (follows : Follows IsGiven m n) where
  -- what is shown follows alone
  pub shown_follows : Follows IsGiven (shown_alone m) (shown_alone n)
  shown_follows = record {
    waits = follows.waits;
    shown = follows.shown;
    adds = λ k c e. ⊎_elim (λ same. inl (e ∙ same)) (λ was. inr (subst (MayWrite IsGiven m k) (sym e) was)) (follows.shown k);
    sure = λ k never is. is;
  }

  -- ---- blocks

  module _ (IsMeant : ℕ → Type 0) (apart : (k : ℕ) (c : List ℕ) → IsGiven k c → IsMeant k → ⊥) (kept : AreKept IsMeant m) where
    never_written : (k : ℕ) → IsMeant k → (c : List ℕ) → MayWrite IsGiven m k c → ⊥
    never_written k is c = ⊎_elim (λ waits. cc (kept.idle k is, waits)) (λ given. apart k c given is)

    pub shown_kept : (k : ℕ) → IsMeant k → n.disk.shown k ≡ m.disk.shown k
    shown_kept k is = ⊎_elim (λ same. same) (λ may. absurd (never_written k is (n.disk.shown k) may)) (follows.shown k)

    pub kept_follows : AreKept IsMeant n
    kept_follows = record {
      sure = λ k is. follows.sure k (never_written k is) (kept.sure k is);
      idle = λ k is. none_waits (n.waits k) (λ c e. never_written k is c (follows.waits k c e));
    }

  pub only_follows : (b : ℕ) (IsSuch : List ℕ → Type 0) → ((c : List ℕ) → IsGiven b c → IsSuch c) → HoldsOnly b IsSuch m → HoldsOnly b IsSuch n
  only_follows b IsSuch such only = record {
    candidates = λ c may. ⊎_elim (only.candidates c) (written c) (follows.adds b c may);
    waiting = λ c e. written c (follows.waits b c e);
  }
    where
      written : (c : List ℕ) → MayWrite IsGiven m b c → IsSuch c
      written c = ⊎_elim (only.waiting c) (such c)

  -- ---- points

  pub committed_follows : (a : Anchor) → ((k : ℕ) (c : List ℕ) → IsGiven k c → Needs a k → ⊥) → ((c : List ℕ) → IsGiven (spare_of a) c → Loses a c)
      → IsCommitted a m → IsCommitted a n
  committed_follows a apart loses is =
      let same = shown_kept (Needs a) apart is.needed in
      record {
        hangs = hangs_same a m.disk.shown n.disk.shown (λ k led. same k (inr led)) is.hangs;
        root = subst (IsRoot a) (sym (same a.place (inl refl))) is.root;
        needed = kept_follows (Needs a) apart is.needed;
        spare = only_follows (spare_of a) (Loses a) loses is.spare;
      }

  pub turning_follows : (a b : Anchor) → ((k : ℕ) (c : List ℕ) → IsGiven k c → Needs a k ⊎ LeadsTo b k → ⊥)
      → ((c : List ℕ) → IsGiven (spare_of a) c → Loses a c ⊎ IsRoot b c) → IsTurning a b m → IsTurning a b n
  turning_follows a b apart such is =
      let same = shown_kept (λ k. Needs a k ⊎ LeadsTo b k) apart is.needed in
      record {
        next = is.next;
        hangs = hangs_same a m.disk.shown n.disk.shown (λ k led. same k (inl (inr led))) is.hangs;
        root = subst (IsRoot a) (sym (same a.place (inl (inl refl)))) is.root;
        hangs_next = hangs_same b m.disk.shown n.disk.shown (λ k led. same k (inr led)) is.hangs_next;
        needed = kept_follows (λ k. Needs a k ⊎ LeadsTo b k) apart is.needed;
        spare = only_follows (spare_of a) (λ c. Loses a c ⊎ IsRoot b c) such is.spare;
      }

-- ---- the same where nothing is given, or one block

module _ (m n : Medium) where
  pub committed_none : (a : Anchor) → Follows none_given m n → IsCommitted a m → IsCommitted a n
  committed_none a follows = committed_follows none_given m n follows a (λ k c given is. given) (λ c given. absurd given)

  pub committed_one : (a : Anchor) (b : ℕ) (bytes : List ℕ) → Follows (one_given b bytes) m n → (Needs a b → ⊥) → (b ≡ spare_of a → Loses a bytes)
      → IsCommitted a m → IsCommitted a n
  committed_one a b bytes follows apart loses = committed_follows (one_given b bytes) m n follows a (λ k c given is. apart (subst (Needs a) given.0 is))
      (λ c given. subst (Loses a) (sym given.1) (loses (sym given.0)))

  pub turning_none : (a b : Anchor) → Follows none_given m n → IsTurning a b m → IsTurning a b n
  turning_none a b follows = turning_follows none_given m n follows a b (λ k c given is. given) (λ c given. absurd given)

  pub turning_root : (a b : Anchor) (bytes : List ℕ) → IsOn m.disk.origin a → IsRoot b bytes → Follows (one_given (spare_of a) bytes) m n → IsTurning a b m
      → IsTurning a b n
  turning_root a b bytes on root follows =
      let low = spare_low m.disk.origin a on in
      let apart : Needs a (spare_of a) ⊎ LeadsTo b (spare_of a) → ⊥
      = ⊎_elim (⊎_elim (spare_far m.disk.origin a on) (root_apart a (spare_of a) low.0 low.1)) (root_apart b (spare_of a) low.0 low.1) in
      turning_follows (one_given (spare_of a) bytes) m n follows a b
      (λ k c given is. apart (subst (λ (x : ℕ). Needs a x ⊎ LeadsTo b x) given.0 is)) (λ c given. inr (subst (IsRoot b) (sym given.1) root))

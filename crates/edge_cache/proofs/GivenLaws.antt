-- What waits in buffers, and calls that give some of it up.
use Rattle.std.proofs.Common.{◌≡◌, ◌≢◌, inl, inr, ⊎_elim, ℕ, zero, suc, ◌<◌, ◌≤◌, ◌==◌, Bool, true, false, List, [], ◌∷◌, length, take, set, get_or, Option, Some, None, refl, sym, ap, ◌∙◌, subst, arith}
use Rattle.std.specs.Prelude.{IsTrue, Result, if◌then◌else◌}
use Rattle.std.specs.List.{remove}
use Rattle.std.proofs.lemmas.Bool.{cases_eq, eq-eqb}
use Rattle.std.proofs.lemmas.Bool.Decides.{eqb_tells}
use Rattle.std.proofs.lemmas.List.{map-set, length-set, get_or-set_same, set-get_or}
use Rattle.edge_cache.specs.Kept.{Kept}
use Rattle.edge_cache.specs.Places.{nothing, kept_at, held_in, blocks_of, fronted, IsNew, AllApart, IsPlaced}
use Rattle.edge_cache.specs.Given.{waiting, GivesUp}
use Rattle.edge_cache.proofs.PlaceLaws.{new_at, read_place, set_list}
use Rattle.edge_base.specs.outside.Below.{SameBelow}
use Rattle.edge_disk.specs.Disk.{Origin, ShownAfterWrite, MayAfterWrite, SureAfterWrite}

pub not_eq : (a b : ℕ) → a ≢ b → (a == b) ≡ false
not_eq a b far = elim (eqb_tells a b) [ inl h ↦ absurd (far h.1) | inr h ↦ h.0 ]

abbrev pub given_by : Kept → Option (List ℕ)
given_by k = if k.changed then Some k.bytes else None

pub waiting_here : (k : Kept) (ks : List Kept) (b : ℕ) → k.block ≡ b → waiting (k ∷ ks) b ≡ given_by k
unfolding waiting
waiting_here k ks b e = ap (λ (t : Bool). if t then given_by k else waiting ks b) (eq-eqb k.block b e)

pub waiting_next : (k : Kept) (ks : List Kept) (b : ℕ) → k.block ≢ b → waiting (k ∷ ks) b ≡ waiting ks b
unfolding waiting
waiting_next k ks b far = ap (λ (t : Bool). if t then given_by k else waiting ks b) (not_eq k.block b far)

pub waiting_none : (b : ℕ) → waiting [] b ≡ None
unfolding waiting
waiting_none b = refl

pub waiting_new : (ks : List Kept) (b : ℕ) → IsNew b (blocks_of ks) → waiting ks b ≡ None
waiting_new [] b h = waiting_none b
waiting_new (k ∷ ks) b h = waiting_next k ks b h.0 ∙ waiting_new ks b h.1

waiting_rest : (k : Kept) (r s : List Kept) (b : ℕ) → waiting r b ≡ waiting s b → waiting (k ∷ r) b ≡ waiting (k ∷ s) b
waiting_rest k r s b e = elim (cases_eq k.block b) [
  | inl h ↦ waiting_here k r b h ∙ sym (waiting_here k s b h)
  | inr far ↦ waiting_next k r b far ∙ e ∙ sym (waiting_next k s b far)
]

waiting_swap : (k l : Kept) (r : List Kept) (b : ℕ) → k.block ≢ l.block → waiting (k ∷ l ∷ r) b ≡ waiting (l ∷ k ∷ r) b
waiting_swap k l r b apart = elim (cases_eq k.block b) [
  | inl h ↦ let far : l.block ≢ b = λ e. apart (h ∙ sym e) in waiting_here k (l ∷ r) b h ∙ sym (waiting_next l (k ∷ r) b far ∙ waiting_here k r b h)
  | inr far ↦ waiting_next k (l ∷ r) b far ∙ waiting_rest l r (k ∷ r) b (sym (waiting_next k r b far))
]

pub block_map : (ks : List Kept) (p : ℕ) → p < length ks → get_or (blocks_of ks) p 0 ≡ (kept_at ks p).block
block_map [] p lt = absurd (omega arith)
block_map (k ∷ ks) zero lt = refl
block_map (k ∷ ks) (suc p) lt = block_map ks p (omega arith)

pub length_blocks : (ks : List Kept) → length (blocks_of ks) ≡ length ks
length_blocks [] = refl
length_blocks (k ∷ ks) = ap suc (length_blocks ks)

block_apart : (k : Kept) (ks : List Kept) (p : ℕ) → IsNew k.block (blocks_of ks) → p < length ks → (kept_at ks p).block ≢ k.block
block_apart k ks p h lt = λ e. new_at k.block (blocks_of ks) p 0 h (omega (arith, length_blocks ks)) (block_map ks p lt ∙ e)

-- the order makes no difference
pub waiting_fronted : (ks : List Kept) (p b : ℕ) → AllApart (blocks_of ks) → p < length ks → waiting (fronted ks p) b ≡ waiting ks b
waiting_fronted [] p b apart lt = absurd (omega arith)
waiting_fronted (k ∷ ks) zero b apart lt = refl
waiting_fronted (k ∷ ks) (suc p) b apart lt =
    waiting_swap (kept_at ks p) k (remove ks p) b (block_apart k ks p apart.0 (omega arith))
    ∙ waiting_rest k (fronted ks p) ks b (waiting_fronted ks p b apart.1 (omega arith))

-- what waits of a block waits in its buffer
pub waiting_at : (ks : List Kept) (p b : ℕ) → AllApart (blocks_of ks) → p < length ks → (kept_at ks p).block ≡ b → waiting ks b ≡ given_by (kept_at ks p)
waiting_at [] p b apart lt e = absurd (omega arith)
waiting_at (k ∷ ks) zero b apart lt e = waiting_here k ks b e
waiting_at (k ∷ ks) (suc p) b apart lt e =
    let far : k.block ≢ b = λ f. block_apart k ks p apart.0 (omega arith) (e ∙ sym f) in
    waiting_next k ks b far ∙ waiting_at ks p b apart.1 (omega arith) e

-- another block's waiting bytes stay as they are
pub waiting_set_other : (ks : List Kept) (p b : ℕ) (new : Kept) → (kept_at ks p).block ≢ b → new.block ≢ b → waiting (set ks p new) b ≡ waiting ks b
waiting_set_other [] p b new far off = refl
waiting_set_other (k ∷ ks) zero b new far off = waiting_next new ks b off ∙ sym (waiting_next k ks b far)
waiting_set_other (k ∷ ks) (suc p) b new far off = waiting_rest k (set ks p new) ks b (waiting_set_other ks p b new far off)

-- buffers that are not changed hold nothing that waits
pub waiting_take : (ks : List Kept) (n b : ℕ) → ((i : ℕ) → n ≤ i → i < length ks → (kept_at ks i).changed ≡ false) → waiting (take n ks) b ≡ waiting ks b
waiting_take [] zero b h = refl
waiting_take [] (suc n) b h = refl
waiting_take (k ∷ ks) zero b h = elim (cases_eq k.block b) [
  | inl e ↦ waiting_none b ∙ sym (waiting_here k ks b e ∙ ap (λ (t : Bool). if t then Some k.bytes else None) (h 0 (omega arith) (omega arith)))
  | inr far ↦ waiting_take ks zero b (λ i le lt. h (suc i) (omega arith) (omega arith)) ∙ sym (waiting_next k ks b far)
]
waiting_take (k ∷ ks) (suc n) b h = waiting_rest k (take n ks) ks b (waiting_take ks n b (λ i le lt. h (suc i) (omega arith) (omega arith)))

-- ---- giving up

pub gives_none : (shows : Bool) (w : ℕ → Option (List ℕ)) (s t : ℕ → List ℕ) (m n : ℕ → List ℕ → Type 0) (u v : ℕ → Type 0) → t ≡ s → SameBelow m n u v → GivesUp shows w w s t m n u v
gives_none shows w s t m n u v e same = record {
  fewer = λ k c h. h;
  written = λ shows k c some none. cc (some, none);
  shown = λ k. inl (λ i. e i k);
  adds = λ k c h. inl (same.adds_none k c h);
  stays = λ k c none h. same.stays k c h;
  sure = λ k none h. same.sure k h;
  sure_stays = λ k none h. same.sure_stays k h;
}

pub none_after : (shows : Bool) (w x : ℕ → Option (List ℕ)) (s t : ℕ → List ℕ) (m n : ℕ → List ℕ → Type 0) (u v : ℕ → Type 0) → GivesUp shows w x s t m n u v → (k : ℕ) → w k ≡ None → x k ≡ None
none_after shows w x s t m n u v a k none = after (x k) refl
  where
    after : (was : Option (List ℕ)) → x k ≡ was → x k ≡ None
    after None e = e
    after (Some l) e = absurd (cc (none, a.fewer k l e))

pub gives_on : (shows : Bool) (w x y : ℕ → Option (List ℕ)) (s t r : ℕ → List ℕ) (m n o : ℕ → List ℕ → Type 0) (u v z : ℕ → Type 0)
    → GivesUp shows w x s t m n u v → GivesUp shows x y t r n o v z → GivesUp shows w y s r m o u z
gives_on shows w x y s t r m n o u v z a b =
    let idle : (k : ℕ) → w k ≡ None → x k ≡ None = λ k none. none_after shows w x s t m n u v a k none in
    record {
      fewer = λ k c h. a.fewer k c (b.fewer k c h);
      written = λ tells k c some none. written_on k c tells some none (x k) refl;
      shown = λ k. ⊎_elim (λ e. ⊎_elim (λ f. inl (e ∙ f)) (λ f. inr (subst (λ (l : List ℕ). w k ≡ Some l) (sym e) f)) (a.shown k)) (λ e. inr (a.fewer k _ e)) (b.shown k);
      adds = λ k c h. ⊎_elim (λ mid. a.adds k c mid) (λ e. inr (a.fewer k c e)) (b.adds k c h);
      stays = λ k c none h. b.stays k c (idle k none) (a.stays k c none h);
      sure = λ k none h. a.sure k none (b.sure k (idle k none) h);
      sure_stays = λ k none h. b.sure_stays k (idle k none) (a.sure_stays k none h);
    }
  where
    written_on : (k : ℕ) (c : List ℕ) → IsTrue shows → w k ≡ Some c → y k ≡ None → (was : Option (List ℕ)) → x k ≡ was → r k ≡ c
    written_on k c tells some none None e = ⊎_elim (λ f. f ∙ a.written tells k c some e) (λ f. absurd (cc (e, f))) (b.shown k)
    written_on k c tells some none (Some l) e =
        let same : Some l ≡ Some c = sym (a.fewer k l e) ∙ some in
        b.written tells k c (e ∙ same) none

-- ---- one buffer

pub given_some : (k : Kept) → k.changed ≡ true → given_by k ≡ Some k.bytes
given_some k e = ap (λ (t : Bool). if t then Some k.bytes else None) e

one_some : (k : Kept) (b : ℕ) (c : List ℕ) → waiting (k ∷ []) b ≡ Some c → (b ≡ k.block) × (given_by k ≡ Some c)
one_some k b c h = elim (cases_eq k.block b) [
  | inl e ↦ (sym e, sym (waiting_here k [] b e) ∙ h)
  | inr far ↦ absurd (cc (waiting_next k [] b far, waiting_none b, h))
]

pub changed_some : (k : Kept) (c : List ℕ) → given_by k ≡ Some c → (k.changed ≡ true) × (k.bytes ≡ c)
changed_some k c h = by_flag k.changed refl
  where
    by_flag : (t : Bool) → k.changed ≡ t → (k.changed ≡ true) × (k.bytes ≡ c)
    by_flag true e = (e, cc (given_some k e, h))
    by_flag false e = absurd (cc (ap (λ (t : Bool). if t then Some k.bytes else None) e, h))

one_none : (k : Kept) (b : ℕ) → k.changed ≡ true → waiting (k ∷ []) b ≡ None → b ≢ k.block
one_none k b changed none e = absurd (cc (none, waiting_here k [] b (sym e), given_some k changed))

-- a changed buffer whose bytes were written, or that a fault left as it was
pub gives_write : {T E : Type 0} (origin : Origin) (k l : Kept) (block : ℕ) (bytes : List ℕ) (r : Result T E) (f : ℕ) (s t : ℕ → List ℕ) (m n : ℕ → List ℕ → Type 0) (u v : ℕ → Type 0)
    → k.changed ≡ true → block ≡ k.block → bytes ≡ k.bytes → l.block ≡ k.block → l.bytes ≡ k.bytes → (IsTrue origin.shows → l.changed ≡ false → t k.block ≡ k.bytes)
    → ShownAfterWrite origin block bytes r s t → MayAfterWrite origin block bytes r f m n → SureAfterWrite block r f u v
    → GivesUp origin.shows (waiting (k ∷ [])) (waiting (l ∷ [])) s t m n u v
gives_write origin k l block bytes r f s t m n u v changed at is lb lc done sw mw uw =
    let waits : waiting (k ∷ []) k.block ≡ Some k.bytes = waiting_here k [] k.block refl ∙ given_some k changed in
    let waits_at : (b : ℕ) → b ≡ block → waiting (k ∷ []) b ≡ Some bytes = λ b e. ap (waiting (k ∷ [])) (e ∙ at) ∙ waits ∙ ap Some (sym is) in
    record {
      fewer = λ b c h. let o = one_some l b c h in let p = changed_some l c o.1 in ap (waiting (k ∷ [])) (o.0 ∙ lb) ∙ waits ∙ ap Some (sym lc ∙ p.1);
      written = λ tells b c some none.
          let o = one_some k b c some in
          let p = changed_some k c o.1 in
          let off : l.changed ≡ false = not_given l (sym (waiting_here l [] b (lb ∙ sym o.0)) ∙ none) in
          ap t o.0 ∙ done tells off ∙ p.1;
      shown = λ b. elim (cases_eq b block) [
        | inl e ↦ ⊎_elim (λ new. inr (waits_at b e ∙ ap Some (sym (ap t e ∙ new)))) (λ old. inl (ap t e ∙ old ∙ ap s (sym e))) sw.either
        | inr far ↦ inl (sw.others b far)
      ];
      adds = λ b c h. elim (cases_eq b block) [
        | inl e ↦ ⊎_elim (λ old. inl (subst (λ (x : ℕ). m x c) (sym e) old)) (λ new. inr (waits_at b e ∙ ap Some (sym new))) (mw.adds c (subst (λ (x : ℕ). n x c) e h))
        | inr far ↦ inl (mw.others b c far h)
      ];
      stays = λ b c none h. mw.others_stay b c (far_off b none) h;
      sure = λ b none h. uw.others b (far_off b none) h;
      sure_stays = λ b none h. uw.others_stay b (far_off b none) h;
    }
  where
    far_off : (b : ℕ) → waiting (k ∷ []) b ≡ None → b ≢ block
    far_off b none e = one_none k b changed none (e ∙ at)

    not_given : (x : Kept) → given_by x ≡ None → x.changed ≡ false
    not_given x h = by_flag x.changed refl
      where
        by_flag : (q : Bool) → x.changed ≡ q → x.changed ≡ false
        by_flag false e = e
        by_flag true e = absurd (cc (given_some x e, h))

-- ---- one buffer among many

pub gives_at : (shows : Bool) (ks : List Kept) (p : ℕ) (new : Kept) (s t : ℕ → List ℕ) (m n : ℕ → List ℕ → Type 0) (u v : ℕ → Type 0)
    → AllApart (blocks_of ks) → p < length ks → new.block ≡ (kept_at ks p).block
    → GivesUp shows (waiting (kept_at ks p ∷ [])) (waiting (new ∷ [])) s t m n u v → GivesUp shows (waiting ks) (waiting (set ks p new)) s t m n u v
gives_at shows ks p new s t m n u v apart lt same g = record {
  fewer = λ b c h. elim (cases_eq (kept_at ks p).block b) [
    | inl e ↦ here b e ∙ g.fewer b c (sym (here_new b e) ∙ h)
    | inr far ↦ sym (waiting_set_other ks p b new far (λ f. far (sym same ∙ f))) ∙ h
  ];
  written = λ tells b c some none. elim (cases_eq (kept_at ks p).block b) [
    | inl e ↦ g.written tells b c (sym (here b e) ∙ some) (sym (here_new b e) ∙ none)
    | inr far ↦ absurd (cc (some, none, waiting_set_other ks p b new far (λ f. far (sym same ∙ f))))
  ];
  shown = λ b. ⊎_elim (λ e. inl e) (λ w. inr (within b (t b) w)) (g.shown b);
  adds = λ b c h. ⊎_elim (λ e. inl e) (λ w. inr (within b c w)) (g.adds b c h);
  stays = λ b c none h. g.stays b c (outside b none) h;
  sure = λ b none h. g.sure b (outside b none) h;
  sure_stays = λ b none h. g.sure_stays b (outside b none) h;
}
  where
    here : (b : ℕ) → (kept_at ks p).block ≡ b → waiting ks b ≡ waiting (kept_at ks p ∷ []) b
    here b e = waiting_at ks p b apart lt e ∙ sym (waiting_here (kept_at ks p) [] b e)

    blocks_same : blocks_of (set ks p new) ≡ blocks_of ks
    blocks_same = map-set (λ (k : Kept). k.block) ks p new ∙ ap (set (blocks_of ks) p) (same ∙ sym (block_map ks p lt)) ∙ set-get_or (blocks_of ks) p 0

    at_new : kept_at (set ks p new) p ≡ new
    at_new = get_or-set_same ks p new nothing lt

    here_new : (b : ℕ) → (kept_at ks p).block ≡ b → waiting (set ks p new) b ≡ waiting (new ∷ []) b
    here_new b e =
        waiting_at (set ks p new) p b (subst AllApart (sym blocks_same) apart) (subst (λ (q : ℕ). p < q) (sym (length-set ks p new)) lt) (ap (λ k. k.block) at_new ∙ same ∙ e)
        ∙ ap given_by at_new ∙ sym (waiting_here new [] b (same ∙ e))

    within : (b : ℕ) (c : List ℕ) → waiting (kept_at ks p ∷ []) b ≡ Some c → waiting ks b ≡ Some c
    within b c h = let o = one_some (kept_at ks p) b c h in here b (sym o.0) ∙ h

    outside : (b : ℕ) → waiting ks b ≡ None → waiting (kept_at ks p ∷ []) b ≡ None
    outside b none = elim (cases_eq (kept_at ks p).block b) [
      | inl e ↦ sym (here b e) ∙ none
      | inr far ↦ waiting_next (kept_at ks p) [] b far ∙ waiting_none b
    ]

pub gives_place : (shows : Bool) (ks : List Kept) (order : List ℕ) (held size p x : ℕ) (k new : Kept) (list : List Kept) (s t : ℕ → List ℕ) (m n : ℕ → List ℕ → Type 0) (u v : ℕ → Type 0)
    → IsPlaced ks order held size → p < length list → x ≡ get_or order p 0 → held_in ks (take held order) ≡ list → k ≡ get_or ks x k → AllApart (blocks_of list) → new.block ≡ k.block
    → GivesUp shows (waiting (k ∷ [])) (waiting (new ∷ [])) s t m n u v → GivesUp shows (waiting list) (waiting (held_in (set ks x new) (take held order))) s t m n u v
gives_place shows ks order held size p x k new list s t m n u v was at e ls read apart same g =
    let is = read_place ks order held size p x k list was at e ls read in
    subst (λ (l : List Kept). GivesUp shows (waiting list) (waiting l) s t m n u v) (sym (set_list ks order held size p x new list was at e ls))
    (gives_at shows list p new s t m n u v apart at (same ∙ ap (λ (y : Kept). y.block) is) (subst (λ (y : Kept). GivesUp shows (waiting (y ∷ [])) (waiting (new ∷ [])) s t m n u v) is g))

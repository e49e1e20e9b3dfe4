-- Changes at one node, one after another, and what they make dirty.
use Rattle.std.proofs.Common.{◌≡◌, ◌≢◌, ℕ, ◌==◌, ◌&&◌, ◌||◌, not, Bool, true, false, is_some, List, [], ◌∷◌, ◌++◌, map, filter, ◌⊎◌, inl, inr, ⊎_elim, refl, sym, ap, ◌∙◌, subst, arith, eqb-true, eq-eqb}
use Rattle.std.specs.List.{list_any}
use Rattle.std.proofs.lemmas.Bool.{false≢true, cases_eq, cases_Bool, or_cases, or_left, or_right}
use Rattle.std.proofs.lemmas.Bool.Decides.{nat_tests}
use Rattle.std.proofs.lemmas.List.Folds.{list_any-append}
use Rattle.edge_base.specs.declared.geometry.Request.{Request}
use Rattle.edge_base.specs.tree.Positions.{Position, data_at, same_position, has, ancestors, above_data, all_ancestors, chain, positions_of, touched}
use Rattle.edge_base.proofs.ChainLaws.{has-positions_of-number}
use Rattle.edge_base.proofs.PositionLaws.{same_position_Decides, same_position_equiv, has-append, has-flat_map}
use Rattle.edge_store.specs.Changed.{has_index, SameMembers, IsBlockOf, IsNoBlockOf, NodeChanged, NodeDirtied}
use Rattle.edge_store.specs.Fresh.{is_dirty}
use Rattle.edge_store.specs.Placed.{block_at, HasPlaces, IsOnce}
use Rattle.edge_store.specs.View.{View, is_used}

-- ---- lists of indices

pub any_some : (test : ℕ → Bool) (xs : List ℕ) → list_any test xs ≡ true → (k : ℕ) × (has_index xs k ≡ true) × (test k ≡ true)
any_some test [] h = absurd (false≢true h)
any_some test (x ∷ xs) h = ⊎_elim
    (λ (here : test x ≡ true). (x, or_left (x == x) (has_index xs x) (grind (arith, nat_tests)), here))
    (λ (later : list_any test xs ≡ true). let r = any_some test xs later in (r.0, or_right (x == r.0) (has_index xs r.0) r.1, r.2))
    (or_cases (test x) (list_any test xs) h)

pub some_any : (test : ℕ → Bool) (xs : List ℕ) (k : ℕ) → has_index xs k ≡ true → test k ≡ true → list_any test xs ≡ true
some_any test [] k h t = absurd (false≢true h)
some_any test (x ∷ xs) k h t = ⊎_elim
    (λ (here : (x == k) ≡ true). or_left (test x) (list_any test xs) (ap test (eqb-true x k here) ∙ t))
    (λ (later : has_index xs k ≡ true). or_right (test x) (list_any test xs) (some_any test xs k later t))
    (or_cases (x == k) (has_index xs k) h)

pub same_truth : (a b : Bool) → (a ≡ true → b ≡ true) → (b ≡ true → a ≡ true) → a ≡ b
same_truth true b one two = sym (one refl)
same_truth false true one two = two refl
same_truth false false one two = refl

any_same : (test : ℕ → Bool) (xs ys : List ℕ) → SameMembers xs ys → list_any test xs ≡ list_any test ys
any_same test xs ys same = same_truth (list_any test xs) (list_any test ys)
    (λ h. let r = any_some test xs h in some_any test ys r.0 (sym (same r.0) ∙ r.1) r.2)
    (λ h. let r = any_some test ys h in some_any test xs r.0 (same r.0 ∙ r.1) r.2)

any_map : (test : Position → Bool) (f : ℕ → Position) (xs : List ℕ) → list_any test (map f xs) ≡ list_any (λ x. test (f x)) xs
any_map test f [] = refl
any_map test f (x ∷ xs) = ap (λ b. test (f x) || b) (any_map test f xs)

-- ---- positions of a node

module _ (g : Request) (n : ℕ) where
  on_some_chain : (indices : List ℕ) (p : Position) → has (positions_of g n indices) p ≡ list_any (λ i. has (chain g n i) p) indices
  on_some_chain indices p = has-flat_map (chain g n) indices p

  -- a position is on the chain of a data block
  pub chain_of : (indices : List ℕ) (p : Position) → has (positions_of g n indices) p ≡ true → (i : ℕ) × (has_index indices i ≡ true) × (has (chain g n i) p ≡ true)
  chain_of indices p h = any_some (λ i. has (chain g n i) p) indices (sym (on_some_chain indices p) ∙ h)

  pub on_chain : (indices : List ℕ) (p : Position) (i : ℕ) → has_index indices i ≡ true → has (chain g n i) p ≡ true → has (positions_of g n indices) p ≡ true
  on_chain indices p i there on = on_some_chain indices p ∙ some_any (λ k. has (chain g n k) p) indices i there on

  pub positions_same : (xs ys : List ℕ) → SameMembers xs ys → (p : Position) → has (positions_of g n xs) p ≡ has (positions_of g n ys) p
  positions_same xs ys same p = on_some_chain xs p ∙ any_same (λ i. has (chain g n i) p) xs ys same ∙ sym (on_some_chain ys p)

  pub data_there : (indices : List ℕ) (i : ℕ) → has_index indices i ≡ true → has (positions_of g n indices) (data_at n i) ≡ true
  data_there indices i there = on_chain indices (data_at n i) i there (or_left (same_position (data_at n i) (data_at n i)) (has (above_data g n i) (data_at n i)) (same_position_equiv.refl (data_at n i)))

-- ---- blocks of a node

is_position : (p q : Position) → same_position p q ≡ true → p ≡ q
is_position p q h = (same_position_Decides p q).0 h

at_some : (g : Request) (v : View) (ps : List Position) (b : ℕ) → ((p : Position) × (has ps p ≡ true) × (block_at g v p ≡ b)) ⊎ ((p : Position) → has ps p ≡ true → block_at g v p ≢ b)
at_some g v [] b = inr (λ p h e. false≢true h)
at_some g v (q ∷ qs) b = ⊎_elim
    (λ (here : block_at g v q ≡ b). inl (q, or_left (same_position q q) (has qs q) (same_position_equiv.refl q), here))
    (λ (other : block_at g v q ≡ b → ⊥). ⊎_elim
    (λ (r : (p : Position) × (has qs p ≡ true) × (block_at g v p ≡ b)). inl (r.0, or_right (same_position r.0 q) (has qs r.0) r.1, r.2))
    (λ (none : (p : Position) → has qs p ≡ true → block_at g v p ≢ b). inr (λ p h e. ⊎_elim
    (λ same. other (ap (block_at g v) (sym (is_position p q same)) ∙ e))
    (λ later. none p later e)
    (or_cases (same_position p q) (has qs p) h)))
    (at_some g v qs b))
    (cases_eq (block_at g v q) b)

-- a block is one of the node's or none
pub block_or_none : (g : Request) (v : View) (n : ℕ) (indices : List ℕ) (b : ℕ) → IsBlockOf g v n indices b ⊎ IsNoBlockOf g v n indices b
block_or_none g v n indices b = ⊎_elim
    (λ (r : (p : Position) × (has (positions_of g n indices) p ≡ true) × (block_at g v p ≡ b)). inl (record { position = r.0; is_there = r.1; block = r.2 }))
    (λ (none : (p : Position) → has (positions_of g n indices) p ≡ true → block_at g v p ≢ b). inr none)
    (at_some g v (positions_of g n indices) b)

-- ---- one change after another

module _ (g : Request) (u v w : View) (n : ℕ) (a b d : List ℕ) (one : NodeChanged g u v n a b) (two : NodeChanged g v w n b d) where
  -- a used block of another node is no block of this one afterwards
  not_taken : (k : ℕ) → is_used u k ≡ true → IsNoBlockOf g u n a k → IsNoBlockOf g v n b k
  not_taken k used none p h e = ⊎_elim
      (λ (unused : is_used u (block_at g v p) ≡ false). false≢true (sym unused ∙ ap (is_used u) e ∙ used))
      (λ (own : IsBlockOf g u n a (block_at g v p)). none own.position own.is_there (own.block ∙ e))
      (one.taken p h)

  was_free : (k : ℕ) → is_used v k ≡ false → (is_used u k ≡ false) ⊎ IsBlockOf g u n a k
  was_free k unused = ⊎_elim
      (λ (own : IsBlockOf g u n a k). inr own)
      (λ (none : IsNoBlockOf g u n a k). ⊎_elim
      (λ (used : is_used u k ≡ true). absurd (false≢true (sym unused ∙ ap is_some (one.blocks k used none) ∙ used)))
      (λ (free : is_used u k ≡ false). inl free)
      (cases_Bool (is_used u k)))
      (block_or_none g u n a k)

  pub changed_twice : NodeChanged g u w n a d
  changed_twice = record {
    were = one.were;
    places = two.places;
    once = two.once;
    inodes = λ x other. two.inodes x other ∙ one.inodes x other;
    blocks = λ k used none. let same = one.blocks k used none in two.blocks k (ap is_some same ∙ used) (not_taken k used none) ∙ same;
    taken = λ p h. ⊎_elim
        (λ (unused : is_used v (block_at g w p) ≡ false). was_free (block_at g w p) unused)
        (λ (own : IsBlockOf g v n b (block_at g w p)). subst (λ (k : ℕ). (is_used u k ≡ false) ⊎ IsBlockOf g u n a k) own.block (one.taken own.position own.is_there))
        (two.taken p h);
    left = λ k used. ⊎_elim
        (λ (own : IsBlockOf g w n d k). inl own)
        (λ (r : (is_used v k ≡ true) × IsNoBlockOf g v n b k). ⊎_elim
        (λ (own : IsBlockOf g v n b k). absurd (r.1 own.position own.is_there own.block))
        (λ (old : (is_used u k ≡ true) × IsNoBlockOf g u n a k). inr old)
        (one.left k r.0))
        (two.left k used);
  }

-- ---- the same indices

module _ (g : Request) (v : View) (n : ℕ) (xs ys : List ℕ) (same : SameMembers xs ys) where
  to_has : (p : Position) → has (positions_of g n ys) p ≡ true → has (positions_of g n xs) p ≡ true
  to_has p h = positions_same g n xs ys same p ∙ h

  pub same_places : HasPlaces g v n xs → HasPlaces g v n ys
  same_places places = record {
    places = λ p number low.
        let was = places.places p number low in
        ((λ some. sym (positions_same g n xs ys same p) ∙ was.0 some), (λ h. was.1 (to_has p h)));
    spots = λ p h. places.spots p (to_has p h);
  }

  pub same_once : IsOnce g v n xs → IsOnce g v n ys
  same_once once p q one two e = once p q (to_has p one) (to_has q two) e

  pub same_block : (b : ℕ) → IsBlockOf g v n xs b → IsBlockOf g v n ys b
  same_block b own = record { position = own.position; is_there = sym (positions_same g n xs ys same own.position) ∙ own.is_there; block = own.block }

  pub same_none : (b : ℕ) → IsNoBlockOf g v n xs b → IsNoBlockOf g v n ys b
  same_none b none p h = none p (to_has p h)

turned : (xs ys : List ℕ) → SameMembers xs ys → SameMembers ys xs
turned xs ys same i = sym (same i)

pub changed_same : (g : Request) (v w : View) (n : ℕ) (a b x y : List ℕ) → SameMembers a x → SameMembers b y → NodeChanged g v w n a b → NodeChanged g v w n x y
changed_same g v w n a b x y old new c = record {
  were = same_places g v n a x old c.were;
  places = same_places g w n b y new c.places;
  once = same_once g w n b y new c.once;
  inodes = c.inodes;
  blocks = λ k used none. c.blocks k used (same_none g v n x a (turned a x old) k none);
  taken = λ p h. ⊎_elim
      (λ (unused : is_used v (block_at g w p) ≡ false). inl unused)
      (λ (own : IsBlockOf g v n a (block_at g w p)). inr (same_block g v n a x old (block_at g w p) own))
      (c.taken p (positions_same g n b y new p ∙ h));
  left = λ k used. ⊎_elim
      (λ (own : IsBlockOf g w n b k). inl (same_block g w n b y new k own))
      (λ (r : (is_used v k ≡ true) × IsNoBlockOf g v n a k). inr (r.0, same_none g v n a x old k r.1))
      (c.left k used);
}

-- ---- what a change touches

-- whether a position is above one of the data blocks
abbrev above : Request → ℕ → List ℕ → Position → Bool
above g n indices p = list_any (λ i. has (above_data g n i) p) indices

-- whether it is one of them
abbrev at_index : ℕ → List ℕ → Position → Bool
at_index n indices p = list_any (λ i. same_position p (data_at n i)) indices

abbrev pub touches : Request → ℕ → List ℕ → List ℕ → Position → Bool
touches g n writes removes p = has (touched g (λ q. false) (map (data_at n) writes) (map (data_at n) removes)) p

all_kept : (ps : List Position) → filter (λ p. not false) ps ≡ ps
all_kept [] = refl
all_kept (p ∷ ps) = ap (λ qs. p ∷ qs) (all_kept ps)

module _ (g : Request) (n : ℕ) where
  above_is : (indices : List ℕ) (p : Position) → has (all_ancestors g (map (data_at n) indices)) p ≡ above g n indices p
  above_is indices p = has-flat_map (ancestors g) (map (data_at n) indices) p ∙ any_map (λ q. has (ancestors g q) p) (data_at n) indices

  touches_is : (writes removes : List ℕ) (p : Position) → touches g n writes removes p ≡ (at_index n writes p || (above g n removes p || above g n writes p))
  touches_is writes removes p =
      let ws = map (data_at n) writes in
      let rs = map (data_at n) removes in
      has-append ws (all_ancestors g (rs ++ filter (λ q. not false) ws)) p
      ∙ ap (λ b. has ws p || b) (ap (λ qs. has (all_ancestors g (rs ++ qs)) p) (all_kept ws)
      ∙ has-flat_map (ancestors g) (rs ++ ws) p ∙ list_any-append (λ q. has (ancestors g q) p) rs ws
      ∙ (λ i. any_map (λ q. has (ancestors g q) p) (data_at n) removes i || any_map (λ q. has (ancestors g q) p) (data_at n) writes i))
      ∙ ap (λ b. b || (above g n removes p || above g n writes p)) (any_map (same_position p) (data_at n) writes)

  -- the chain of a data block that is written is touched
  pub touched_chain : (writes removes : List ℕ) (i : ℕ) (p : Position) → has_index writes i ≡ true → has (chain g n i) p ≡ true → touches g n writes removes p ≡ true
  touched_chain writes removes i p there on = touches_is writes removes p ∙ ⊎_elim
      (λ here. or_left (at_index n writes p) (above g n removes p || above g n writes p) (some_any (λ k. same_position p (data_at n k)) writes i there here))
      (λ over. or_right (at_index n writes p) (above g n removes p || above g n writes p)
      (or_right (above g n removes p) (above g n writes p) (some_any (λ k. has (above_data g n k) p) writes i there over)))
      (or_cases (same_position p (data_at n i)) (has (above_data g n i) p) on)

  or_false : (b : Bool) → (b || false) ≡ b
  or_false true = refl
  or_false false = refl

  -- where one data block is written, that is its chain
  pub touches_one : (i : ℕ) (p : Position) → touches g n (i ∷ []) [] p ≡ has (chain g n i) p
  touches_one i p = touches_is (i ∷ []) [] p ∙ (λ t. or_false (same_position p (data_at n i)) t || or_false (has (above_data g n i) p) t)

  none_else : (b : Bool) → (false || (b || false)) ≡ b
  none_else true = refl
  none_else false = refl

  -- where data blocks are removed alone, that is what is above them
  pub touches_removed : (removes : List ℕ) (p : Position) → touches g n [] removes p ≡ list_any (λ i. has (above_data g n i) p) removes
  touches_removed removes p = touches_is [] removes p ∙ none_else (above g n removes p)

  both_touch : (a b c d e f : Bool) → ((a || b) || ((c || d) || (e || f))) ≡ ((a || (c || e)) || (b || (d || f)))
  both_touch true b c d e f = refl
  both_touch false true c d e f = grind (arith, nat_tests)
  both_touch false false true d e f = refl
  both_touch false false false true e f = grind (arith, nat_tests)
  both_touch false false false false e f = refl

  touches_both : (w1 r1 w2 r2 : List ℕ) (p : Position) → touches g n (w1 ++ w2) (r1 ++ r2) p ≡ (touches g n w1 r1 p || touches g n w2 r2 p)
  touches_both w1 r1 w2 r2 p =
      touches_is (w1 ++ w2) (r1 ++ r2) p
      ∙ (λ i. list_any-append (λ k. same_position p (data_at n k)) w1 w2 i
      || (list_any-append (λ k. has (above_data g n k) p) r1 r2 i || list_any-append (λ k. has (above_data g n k) p) w1 w2 i))
      ∙ both_touch (at_index n w1 p) (at_index n w2 p) (above g n r1 p) (above g n r2 p) (above g n w1 p) (above g n w2 p)
      ∙ (λ i. sym (touches_is w1 r1 p) i || sym (touches_is w2 r2 p) i)

  touches_same : (ws xs rs ys : List ℕ) (p : Position) → SameMembers ws xs → SameMembers rs ys → touches g n ws rs p ≡ touches g n xs ys p
  touches_same ws xs rs ys p writes removes =
      touches_is ws rs p
      ∙ (λ i. any_same (λ k. same_position p (data_at n k)) ws xs writes i || (any_same (λ k. has (above_data g n k) p) rs ys removes i || any_same (λ k. has (above_data g n k) p) ws xs writes i))
      ∙ sym (touches_is xs ys p)

-- ---- positions of the node's number

pub has_mapped : (n : ℕ) (indices : List ℕ) (i : ℕ) → has_index indices i ≡ true → has (map (data_at n) indices) (data_at n i) ≡ true
has_mapped n indices i there = any_map (same_position (data_at n i)) (data_at n) indices ∙ some_any (λ k. same_position (data_at n i) (data_at n k)) indices i there (same_position_equiv.refl (data_at n i))

-- what a change of the node touches has its number
pub touched_number : (g : Request) (n : ℕ) (writes removes : List ℕ) (p : Position) → touches g n writes removes p ≡ true → p.number ≡ n
touched_number g n writes removes p h = ⊎_elim
    (λ here. let r = any_some (λ i. same_position p (data_at n i)) writes here in ap (λ (q : Position). q.number) (is_position p (data_at n r.0) r.2))
    (λ over. ⊎_elim (λ k. from removes k) (λ k. from writes k) (or_cases (above g n removes p) (above g n writes p) over))
    (or_cases (at_index n writes p) (above g n removes p || above g n writes p) (sym (touches_is g n writes removes p) ∙ h))
  where
    from : (indices : List ℕ) → above g n indices p ≡ true → p.number ≡ n
    from indices k =
        let r = any_some (λ i. has (above_data g n i) p) indices k in
        has-positions_of-number g n (r.0 ∷ []) p (on_chain g n (r.0 ∷ []) p r.0 (or_left (r.0 == r.0) false (eq-eqb r.0 r.0 refl)) (or_right (same_position p (data_at n r.0)) (has (above_data g n r.0) p) r.2))

-- ---- dirty positions

module _ (g : Request) (c u v w : View) (n : ℕ) (a b d w1 r1 w2 r2 : List ℕ) (one : NodeDirtied g c u v n a b w1 r1) (two : NodeDirtied g c v w n b d w2 r2) where
  joined : (x t k : Bool) → ((x || t) || k) ≡ (x || (t || k))
  joined true t k = refl
  joined false t k = refl

  -- where it was there in between, and where it was not
  dirty_then : (p : Position) → has (positions_of g n d) p ≡ true → (there : Bool) → has (positions_of g n b) p ≡ there
      → ((there && is_dirty g c v p) || touches g n w2 r2 p) ≡ ((has (positions_of g n a) p && is_dirty g c u p) || (touches g n w1 r1 p || touches g n w2 r2 p))
  dirty_then p h true is =
      ap (λ t. t || touches g n w2 r2 p) (one.dirty p is)
      ∙ joined (has (positions_of g n a) p && is_dirty g c u p) (touches g n w1 r1 p) (touches g n w2 r2 p)
  dirty_then p h false out =
      let r = chain_of g n d p h in
      let new : has_index b r.0 ≡ false = ⊎_elim
      (λ (there : has_index b r.0 ≡ true). absurd (false≢true (sym out ∙ on_chain g n b p r.0 there r.2)))
      (λ (none : has_index b r.0 ≡ false). none)
      (cases_Bool (has_index b r.0)) in
      let touch = touched_chain g n w2 r2 r.0 p (two.added r.0 r.1 new) r.2 in
      touch ∙ sym (or_right (has (positions_of g n a) p && is_dirty g c u p) (touches g n w1 r1 p || touches g n w2 r2 p) (or_right (touches g n w1 r1 p) (touches g n w2 r2 p) touch))

  pub dirtied_twice : NodeDirtied g c u w n a d (w1 ++ w2) (r1 ++ r2)
  dirtied_twice = record {
    dirty = λ p h.
        two.dirty p h ∙ dirty_then p h (has (positions_of g n b) p) refl
        ∙ ap (λ t. (has (positions_of g n a) p && is_dirty g c u p) || t) (sym (touches_both g n w1 r1 w2 r2 p));
    added = λ i there new. list_any-append (λ k. k == i) w1 w2 ∙ ⊎_elim
        (λ (between : has_index b i ≡ true). or_left (has_index w1 i) (has_index w2 i) (one.added i between new))
        (λ (absent : has_index b i ≡ false). or_right (has_index w1 i) (has_index w2 i) (two.added i there absent))
        (cases_Bool (has_index b i));
  }

pub dirtied_same : (g : Request) (c v w : View) (n : ℕ) (a b ws rs x y us qs : List ℕ) → SameMembers a x → SameMembers b y → SameMembers ws us → SameMembers rs qs → NodeDirtied g c v w n a b ws rs → NodeDirtied g c v w n x y us qs
dirtied_same g c v w n a b ws rs x y us qs old new writes removes d = record {
  dirty = λ p h.
      d.dirty p (positions_same g n b y new p ∙ h)
      ∙ (λ i. (positions_same g n a x old p i && is_dirty g c v p) || touches_same g n ws us rs qs p writes removes i);
  added = λ i there fresh. sym (writes i) ∙ d.added i (new i ∙ there) (old i ∙ fresh);
}

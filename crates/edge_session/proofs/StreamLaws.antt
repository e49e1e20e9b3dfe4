-- Lines, and the pieces that they are taken up in.
use Rattle.std.proofs.Common.{◌≡◌, ℕ, zero, suc, ◌+◌, ◌-◌, ◌<◌, ◌≤◌, ◌++◌, ◌&&◌, not, Bool, true, false, cond, List, [], ◌∷◌, length, take, drop, min, refl, sym, ap, ◌∙◌, subst, arith, append_assoc, inl, inr, Some, None, get_or}
use Rattle.std.specs.List.{list_all, position_or_len, position}
use Rattle.std.proofs.lemmas.Bool.{eqb-true, cases_lt, lt-ltb, le-ltb}
use Rattle.std.proofs.lemmas.List.{length-take-le, take_min, take-take, take_all, length-append, take-append-le, append-nil, drop-drop, take-append-drop, get_or-take, drop_more, length-drop}
use Rattle.std.proofs.lemmas.Slice.{between_is}
use Rattle.std.proofs.Math.Seq.{take-append-add}
use Rattle.edge_session.specs.Script.{lines_of, onto_first_line}
use Rattle.edge_session.specs.Feeds.{is_line_feed, HasNoLineFeed, kept_part, TakesLine, HasBegun, GoesOn}

false_not_true : false ≡ true → ⊥
false_not_true e = cc

-- as many of the bytes as there is room for
pub take-front : (room kept n : ℕ) (front bytes : List ℕ) → length front ≡ kept → kept ≤ room → n ≡ min (length bytes) (room - kept)
    → front ++ take n bytes ≡ take room (front ++ bytes)
take-front room kept n front bytes len fits is =
    let whole : n ≡ min (room - kept) (length bytes) = omega arith in
    let split : room ≡ length front + (room - kept) = omega arith in
    ap (λ (k : ℕ). front ++ take k bytes) whole ∙ ap (λ r. front ++ r) (take_min (room - kept) bytes)
    ∙ sym (take-append-add front bytes (room - kept)) ∙ ap (λ (k : ℕ). take k (front ++ bytes)) (sym split)

-- what is kept of a line and of more of it
kept_part-more : (room : ℕ) (line more : List ℕ) → take room (take room line ++ more) ≡ take room (line ++ more)
kept_part-more zero line more = refl
kept_part-more (suc room) [] more = refl
kept_part-more (suc room) (x ∷ line) more = ap (λ r. x ∷ r) (kept_part-more room line more)

no_feed-append : (a b : List ℕ) → HasNoLineFeed a → HasNoLineFeed b → HasNoLineFeed (a ++ b)
no_feed-append [] b h k = k
no_feed-append (x ∷ a) b h k = elim (is_line_feed x) as (λ t. (not t && list_all (λ byte. not (is_line_feed byte)) a) ≡ true → (not t && list_all (λ byte. not (is_line_feed byte)) (a ++ b)) ≡ true) [
  | true ↦ λ e. absurd (false_not_true e)
  | false ↦ λ e. no_feed-append a b e k
] h

-- there is none before the first, and where there is none, there is none at all
no_feed-before : (bytes : List ℕ) → HasNoLineFeed (take (position_or_len is_line_feed bytes) bytes)
no_feed-before [] = refl
no_feed-before (x ∷ bytes) = elim (is_line_feed x) as (λ t. is_line_feed x ≡ t → HasNoLineFeed (take (cond (not t) (1 + position_or_len is_line_feed bytes) 0) (x ∷ bytes))) [
  | true ↦ λ e. refl
  | false ↦ λ e. subst (λ (n : ℕ). HasNoLineFeed (take n (x ∷ bytes))) (let s : suc (position_or_len is_line_feed bytes) ≡ 1 + position_or_len is_line_feed bytes = omega arith in s)
      (subst (λ t. (not t && list_all (λ byte. not (is_line_feed byte)) (take (position_or_len is_line_feed bytes) bytes)) ≡ true) (sym e) (no_feed-before bytes))
] refl

-- a line and its line feed are the first of the lines
pub lines_of-feed : (line rest : List ℕ) → HasNoLineFeed line → lines_of (line ++ 10 ∷ rest) ≡ line ∷ lines_of rest
lines_of-feed [] rest h = refl
lines_of-feed (x ∷ line) rest h = elim (is_line_feed x) as (λ t. (not t && list_all (λ byte. not (is_line_feed byte)) line) ≡ true
    → cond t ([] ∷ lines_of (line ++ 10 ∷ rest)) (onto_first_line x (lines_of (line ++ 10 ∷ rest))) ≡ (x ∷ line) ∷ lines_of rest) [
      | true ↦ λ e. absurd (false_not_true e)
      | false ↦ λ e. ap (onto_first_line x) (lines_of-feed line rest e)
    ] h

-- a rest without a line feed is one line
pub lines_of-rest : (x : ℕ) (line : List ℕ) → HasNoLineFeed (x ∷ line) → lines_of (x ∷ line) ≡ (x ∷ line) ∷ []
lines_of-rest x [] h = elim (is_line_feed x) as (λ t. (not t && true) ≡ true → cond t ([] ∷ []) ((x ∷ []) ∷ []) ≡ (x ∷ []) ∷ []) [
  | true ↦ λ e. absurd (false_not_true e)
  | false ↦ λ e. refl
] h
lines_of-rest x (y ∷ line) h = elim (is_line_feed x) as (λ t. (not t && list_all (λ byte. not (is_line_feed byte)) (y ∷ line)) ≡ true
    → cond t ([] ∷ lines_of (y ∷ line)) (onto_first_line x (lines_of (y ∷ line))) ≡ (x ∷ y ∷ line) ∷ []) [
      | true ↦ λ e. absurd (false_not_true e)
      | false ↦ λ e. ap (onto_first_line x) (lines_of-rest y line e)
    ] h

-- ---- pieces

found : (s : List ℕ) (i : ℕ) → position is_line_feed s ≡ Some i → (position_or_len is_line_feed s ≡ i) × (i < length s)
found s i e = elim (cases_lt (position_or_len is_line_feed s) (length s)) [
  | inl below ↦
      let some : Some (position_or_len is_line_feed s) ≡ Some i = sym (ap (λ b. cond b (Some (position_or_len is_line_feed s)) None) (lt-ltb _ _ below)) ∙ e in
      let same : position_or_len is_line_feed s ≡ i = cc in (same, omega arith)
  | inr past ↦
      let none : None ≡ Some i = sym (ap (λ b. cond b (Some (position_or_len is_line_feed s)) None) (le-ltb _ _ past)) ∙ e in absurd (cc)
]

found_none : (s : List ℕ) → position is_line_feed s ≡ None → length s ≤ position_or_len is_line_feed s
found_none s e = elim (cases_lt (position_or_len is_line_feed s) (length s)) [
  | inl below ↦
      let some : Some (position_or_len is_line_feed s) ≡ None = sym (ap (λ b. cond b (Some (position_or_len is_line_feed s)) None) (lt-ltb _ _ below)) ∙ e in absurd (cc)
  | inr past ↦ past
]

-- the byte at the first line feed is one
feed_there : (s : List ℕ) → position_or_len is_line_feed s < length s → get_or s (position_or_len is_line_feed s) 0 ≡ 10
feed_there [] below = absurd (omega arith)
feed_there (x ∷ s) below = elim (is_line_feed x) as (λ t. is_line_feed x ≡ t → cond (not t) (1 + position_or_len is_line_feed s) 0 < suc (length s) → get_or (x ∷ s) (cond (not t) (1 + position_or_len is_line_feed s) 0) 0 ≡ 10) [
  | true ↦ λ e _. eqb-true x 10 e
  | false ↦ λ e h. subst (λ (n : ℕ). get_or (x ∷ s) n 0 ≡ 10) (let one : suc (position_or_len is_line_feed s) ≡ 1 + position_or_len is_line_feed s = omega arith in one) (feed_there s (omega arith))
] refl below

-- what a piece with a line feed at i makes of the line that has begun
pub ended : (left after kept mid new piece : List ℕ) (n i used_before used_after : ℕ) → piece ≡ take n left → n ≤ length left → Some i ≡ position is_line_feed piece
    → mid ≡ kept_part (kept ++ take i left) → after ≡ drop (i + 1) left → new ≡ mid → used_after ≡ used_before + (i + 1) → GoesOn true left after kept new used_before used_after
ended left after kept mid new piece n i used_before used_after is inside at kept_mid rest same count =
    let there = found (take n left) i (ap (position is_line_feed) (sym is) ∙ sym at) in
    let short = length-take-le n left inside in
    let below : i < n = omega (arith, there.1, short) in
    let feed : get_or left i 0 ≡ 10 =
    sym (get_or-take n left i 0 below) ∙ ap (λ (k : ℕ). get_or (take n left) k 0) (sym there.0)
    ∙ feed_there (take n left) (omega (arith, there.0, there.1)) in
    record {
      piece = take i left;
      no_feed = subst HasNoLineFeed (ap (λ (k : ℕ). take k (take n left)) there.0 ∙ take-take i n left (omega arith)) (no_feed-before (take n left));
      split = sym (take-append-drop i left) ∙ ap (λ r. take i left ++ r) (drop_more left i 0 (omega arith) ∙ ap (λ (byte : ℕ). byte ∷ drop (i + 1) left) feed ∙ ap (λ r. 10 ∷ r) (sym rest));
      kept_is = same ∙ kept_mid;
      count = let e : length (take i left) ≡ i = length-take-le i left (omega arith) in omega arith;
    }

pub begun : (left after kept mid new piece : List ℕ) (n used_before used_after : ℕ) → piece ≡ take n left → n ≤ length left → None ≡ position is_line_feed piece
    → mid ≡ kept_part (kept ++ take n left) → after ≡ drop n left → new ≡ mid → used_after ≡ used_before + n → GoesOn false left after kept new used_before used_after
begun left after kept mid new piece n used_before used_after is inside at kept_mid rest same count = record {
  piece = take n left;
  no_feed = subst HasNoLineFeed (take_all _ (take n left) (found_none (take n left) (ap (position is_line_feed) (sym is) ∙ sym at))) (no_feed-before (take n left));
  split = sym (take-append-drop n left) ∙ ap (λ r. take n left ++ r) (sym rest);
  kept_is = same ∙ kept_mid;
  count = let e : length (take n left) ≡ n = length-take-le n left inside in omega arith;
}

-- what is kept of the line with more of what is pending
pub keeps : (kept len at end : ℕ) (line input old from now : List ℕ) → now ≡ take (length old) (take kept old ++ take (at + len - at) (drop at from))
    → old ≡ line → from ≡ input → length old ≡ 8210 → len ≤ end - at → now ≡ kept_part (take kept line ++ take len (take (end - at) (drop at input)))
unfolding kept_part
keeps kept len at end line input old from now is same_line same_input room inside =
    is ∙ ap (λ (r : ℕ). take r (take kept old ++ take (at + len - at) (drop at from))) room
    ∙ ap (λ l. take 8210 (take kept l ++ take (at + len - at) (drop at from))) same_line
    ∙ ap (λ f. take 8210 (take kept line ++ take (at + len - at) (drop at f))) same_input
    ∙ ap (λ (k : ℕ). take 8210 (take kept line ++ take k (drop at input))) (let e : at + len - at ≡ len = omega arith in e)
    ∙ ap (λ r. take 8210 (take kept line ++ r)) (sym (take-take len (end - at) (drop at input) inside))

-- what is pending behind the first n bytes
pub pending-skip : (at n end : ℕ) (input : List ℕ) → take (end - (at + n)) (drop (at + n) input) ≡ drop n (take (end - at) (drop at input))
pending-skip at n end input =
    ap (λ (k : ℕ). take k (drop (at + n) input)) (let e : end - (at + n) ≡ end - at - n = omega arith in e)
    ∙ ap (take (end - at - n)) (sym (drop-drop n at input))
    ∙ between_is (drop at input) n (end - at)

-- a piece of what is pending
pub piece_of : (at n end : ℕ) (input from : List ℕ) → from ≡ input → n ≤ end - at → take (at + n - at) (drop at from) ≡ take n (take (end - at) (drop at input))
piece_of at n end input from same inside =
    ap (λ f. take (at + n - at) (drop at f)) same ∙ ap (λ (k : ℕ). take k (drop at input)) (let e : at + n - at ≡ n = omega arith in e)
    ∙ sym (take-take n (end - at) (drop at input) inside)

pub length-pending : (at end : ℕ) (input from : List ℕ) → from ≡ input → end ≤ length from → length (take (end - at) (drop at input)) ≡ end - at
length-pending at end input from same inside =
    length-take-le (end - at) (drop at input) (omega (arith, length-drop at input, ap length same))

-- the front of a list that was written back whole
pub written_back : (r len : ℕ) (new old : List ℕ) → length new ≡ len → r ≤ length new → take r (take len (new ++ drop (length new) old)) ≡ take r new
written_back r len new old whole inside = take-take r len (new ++ drop (length new) old) (omega arith) ∙ take-append-le r new (drop (length new) old) inside

-- ---- a line, piece by piece

-- no byte of the line has been taken up yet
pub not_begun : (left kept : List ℕ) (used : ℕ) → kept ≡ [] → HasBegun left left kept used used
unfolding kept_part
not_begun left kept used none = record { begun = []; split = refl; no_feed = refl; kept_is = none; count = omega arith }

kept_more : (line more kept : List ℕ) → kept ≡ kept_part line → kept_part (kept ++ more) ≡ kept_part (line ++ more)
unfolding kept_part
kept_more line more kept is = ap (λ k. take 8210 (k ++ more)) is ∙ kept_part-more 8210 line more

pub begun-more : (before held left kept held_after kept_after : List ℕ) (first used used_after : ℕ) → HasBegun before (held ++ left) kept first used
    → GoesOn false held held_after kept kept_after used used_after → HasBegun before (held_after ++ left) kept_after first used_after
begun-more before held left kept held_after kept_after first used used_after b g = record {
  begun = b.begun ++ g.piece;
  split = b.split ∙ ap (λ h. b.begun ++ (h ++ left)) g.split ∙ ap (λ r. b.begun ++ r) (append_assoc g.piece held_after left) ∙ sym (append_assoc b.begun g.piece (held_after ++ left));
  no_feed = no_feed-append b.begun g.piece b.no_feed g.no_feed;
  kept_is = g.kept_is ∙ kept_more b.begun g.piece kept b.kept_is;
  count = let e = length-append b.begun g.piece in let c = b.count in let d = g.count in omega arith;
}

pub begun-end : (before held left kept held_after kept_after : List ℕ) (seen : Bool) (first used used_after : ℕ) → HasBegun before (held ++ left) kept first used
    → GoesOn true held held_after kept kept_after used used_after → TakesLine before (held_after ++ left) kept_after seen first used_after
begun-end before held left kept held_after kept_after seen first used used_after b g =
    let line = b.begun ++ g.piece in
    let no_feed = no_feed-append b.begun g.piece b.no_feed g.no_feed in
    let split : before ≡ line ++ 10 ∷ (held_after ++ left) =
    b.split ∙ ap (λ h. b.begun ++ (h ++ left)) g.split ∙ ap (λ r. b.begun ++ r) (append_assoc g.piece (10 ∷ held_after) left)
    ∙ sym (append_assoc b.begun g.piece (10 ∷ (held_after ++ left))) in
    let whole = ap length split ∙ length-append line (10 ∷ (held_after ++ left)) in
    let parts = length-append b.begun g.piece in
    let c = b.count in
    let d = g.count in
    record {
      line = line;
      takes = record {
        no_feed = no_feed;
        lines = ap lines_of split ∙ lines_of-feed line (held_after ++ left) no_feed;
        bytes = inl split;
        used = omega arith;
      };
      kept_is = g.kept_is ∙ kept_more b.begun g.piece kept b.kept_is;
    }

one_line : (bytes : List ℕ) → HasNoLineFeed bytes → 0 < length bytes → lines_of bytes ≡ bytes ∷ []
one_line [] h some = absurd (omega arith)
one_line (x ∷ bytes) h some = lines_of-rest x bytes h

-- what has begun where the script ends is a line
pub begun-last : (before left kept : List ℕ) (seen : Bool) (first used : ℕ) → HasBegun before left kept first used → left ≡ [] → seen ≡ true → first < used → TakesLine before left kept seen first used
begun-last before left kept seen first used b none is_seen some =
    let split : before ≡ b.begun = b.split ∙ ap (λ r. b.begun ++ r) none ∙ append-nil b.begun in
    let c = b.count in
    let whole = ap length split in
    record {
      line = b.begun;
      takes = record {
        no_feed = b.no_feed;
        lines = ap lines_of split ∙ one_line b.begun b.no_feed (omega arith) ∙ ap (λ (l : List ℕ). b.begun ∷ lines_of l) (sym none);
        bytes = inr (split, none, is_seen);
        used = omega (arith, ap length none);
      };
      kept_is = b.kept_is;
    }

-- the same for what a further look at the source leaves
pub begun-same : (before left kept other_left other_kept : List ℕ) (first n m : ℕ) → HasBegun before left kept first n → other_left ≡ left → other_kept ≡ kept → m ≡ n
    → HasBegun before other_left other_kept first m
begun-same before left kept other_left other_kept first n m b same_left same_kept same =
    record { begun = b.begun; split = b.split ∙ ap (λ r. b.begun ++ r) (sym same_left); no_feed = b.no_feed; kept_is = same_kept ∙ b.kept_is; count = same ∙ b.count }

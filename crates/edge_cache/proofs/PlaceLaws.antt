-- Orders of places, and the buffers at them.
use Rattle.std.proofs.Common.{◌≡◌, ◌≢◌, inl, inr, ℕ, zero, suc, ◌+◌, ◌<◌, ◌≤◌, List, [], ◌∷◌, ◌++◌, length, take, drop, map, set, get_or, refl, sym, ap, ◌∙◌, subst, arith, add-one}
use Rattle.std.specs.List.{remove, range_with_len}
use Rattle.std.proofs.lemmas.List.{length-map, map-id, length-set, get_or-set_same, get_or-set_other, get_or-take, get_or_read, take_at, length-take-le}
use Rattle.std.proofs.lemmas.List.FromFn.{length-range_with_len, get_or-range_with_len, map-range_with_len_more}
use Rattle.std.proofs.lemmas.List.Edits.{length-remove, get_or-remove_below, get_or-remove_above}
use Rattle.std.proofs.lemmas.Bool.{cases_eq, cases_lt}
use Rattle.edge_cache.specs.declared.shelf.TheConstants.{BUFFERS}
use Rattle.edge_cache.specs.Kept.{Kept}
use Rattle.edge_cache.specs.Places.{nothing, kept_at, held_in, fronted, IsNew, AllApart, IsPlaced}

pub new_remove : (x : ℕ) (xs : List ℕ) (p : ℕ) → IsNew x xs → IsNew x (remove xs p)
new_remove x [] zero h = tt
new_remove x [] (suc p) h = tt
new_remove x (y ∷ ys) zero h = h.1
new_remove x (y ∷ ys) (suc p) h = (h.0, new_remove x ys p h.1)

pub apart_remove : (xs : List ℕ) (p : ℕ) → AllApart xs → AllApart (remove xs p)
apart_remove [] zero h = tt
apart_remove [] (suc p) h = tt
apart_remove (y ∷ ys) zero h = h.1
apart_remove (y ∷ ys) (suc p) h = (new_remove y ys p h.0, apart_remove ys p h.1)

pub new_at : (x : ℕ) (xs : List ℕ) (p d : ℕ) → IsNew x xs → p < length xs → get_or xs p d ≢ x
new_at x [] p d h lt = absurd (omega arith)
new_at x (y ∷ ys) zero d h lt = h.0
new_at x (y ∷ ys) (suc p) d h lt = new_at x ys p d h.1 (omega arith)

pub new_from_each : (x : ℕ) (xs : List ℕ) → ((k : ℕ) → k < length xs → get_or xs k 0 ≢ x) → IsNew x xs
new_from_each x [] h = tt
new_from_each x (y ∷ ys) h = (h 0 (omega arith), new_from_each x ys (λ k lt. h (suc k) (omega arith)))

pub new_from_apart : (xs : List ℕ) (p d : ℕ) → AllApart xs → p < length xs → IsNew (get_or xs p d) (remove xs p)
new_from_apart [] p d h lt = absurd (omega arith)
new_from_apart (y ∷ ys) zero d h lt = h.0
new_from_apart (y ∷ ys) (suc p) d h lt = (λ e. new_at y ys p d h.0 (omega arith) (sym e), new_from_apart ys p d h.1 (omega arith))

pub apart_front : (xs : List ℕ) (p d : ℕ) → AllApart xs → p < length xs → AllApart (get_or xs p d ∷ remove xs p)
apart_front xs p d h lt = (new_from_apart xs p d h lt, apart_remove xs p h)

pub new_take : (x : ℕ) (xs : List ℕ) (n : ℕ) → IsNew x xs → IsNew x (take n xs)
new_take x xs zero h = tt
new_take x [] (suc n) h = tt
new_take x (y ∷ ys) (suc n) h = (h.0, new_take x ys n h.1)

pub apart_take : (xs : List ℕ) (n : ℕ) → AllApart xs → AllApart (take n xs)
apart_take xs zero h = tt
apart_take [] (suc n) h = tt
apart_take (y ∷ ys) (suc n) h = (new_take y ys n h.0, apart_take ys n h.1)

pub new_past : (xs : List ℕ) (n m d : ℕ) → AllApart xs → n ≤ m → m < length xs → IsNew (get_or xs m d) (take n xs)
new_past xs zero m d h le lt = tt
new_past [] (suc n) m d h le lt = tt
new_past (y ∷ ys) (suc n) zero d h le lt = absurd (omega arith)
new_past (y ∷ ys) (suc n) (suc m) d h le lt = (λ e. new_at y ys m d h.0 (omega arith) (sym e), new_past ys n m d h.1 (omega arith) (omega arith))

pub take_remove : {X : Type 0} (xs : List X) (n p : ℕ) → p ≤ n → take n (remove xs p) ≡ remove (take (suc n) xs) p
take_remove [] zero zero h = refl
take_remove [] zero (suc p) h = refl
take_remove [] (suc n) zero h = refl
take_remove [] (suc n) (suc p) h = refl
take_remove (y ∷ ys) n zero h = refl
take_remove (y ∷ ys) zero (suc p) h = absurd (omega arith)
take_remove (y ∷ ys) (suc n) (suc p) h = ap (λ l. y ∷ l) (take_remove ys n p (omega arith))

pub map_remove : {X Y : Type 0} (f : X → Y) (xs : List X) (p : ℕ) → map f (remove xs p) ≡ remove (map f xs) p
map_remove f [] zero = refl
map_remove f [] (suc p) = refl
map_remove f (y ∷ ys) zero = refl
map_remove f (y ∷ ys) (suc p) = ap (λ l. f y ∷ l) (map_remove f ys p)

pub kept_map : (ks : List Kept) (xs : List ℕ) (p d : ℕ) → p < length xs → kept_at (held_in ks xs) p ≡ kept_at ks (get_or xs p d)
kept_map ks [] p d lt = absurd (omega arith)
kept_map ks (x ∷ xs) zero d lt = refl
kept_map ks (x ∷ xs) (suc p) d lt = kept_map ks xs p d (omega arith)

pub map_elsewhere : (ks : List Kept) (x : ℕ) (k : Kept) (xs : List ℕ) → IsNew x xs → held_in (set ks x k) xs ≡ held_in ks xs
map_elsewhere ks x k [] h = refl
map_elsewhere ks x k (y ∷ ys) h = cc (get_or-set_other ks x y k nothing h.0, map_elsewhere ks x k ys h.1)

pub map_here : (ks : List Kept) (x : ℕ) (k : Kept) (xs : List ℕ) (p d : ℕ) → AllApart xs → p < length xs → x ≡ get_or xs p d → x < length ks → held_in (set ks x k) xs ≡ set (held_in ks xs) p k
map_here ks x k [] p d h lt e inside = absurd (omega arith)
map_here ks x k (y ∷ ys) zero d h lt e inside =
    let first : kept_at (set ks x k) y ≡ k = ap (kept_at (set ks x k)) (sym e) ∙ get_or-set_same ks x k nothing inside in
    cc (first, map_elsewhere ks x k ys (subst (λ (z : ℕ). IsNew z ys) (sym e) h.0))
map_here ks x k (y ∷ ys) (suc p) d h lt e inside =
    let far : y ≢ x = λ f. new_at y ys p d h.0 (omega arith) (sym e ∙ sym f) in
    cc (get_or-set_other ks x y k nothing far, map_here ks x k ys p d h.1 (omega arith) e inside)

-- the order after the buffer of place p was made the last used
pub fronted_places : (ks : List Kept) (order : List ℕ) (held p x : ℕ) → held ≤ length order → p < held → x ≡ get_or order p 0
    → held_in ks (take held (x ∷ remove order p)) ≡ fronted (held_in ks (take held order)) p
fronted_places ks order zero p x some lt e = absurd (omega arith)
fronted_places ks order (suc n) p x some lt e =
    let len : length (take (suc n) order) ≡ suc n = length-take-le (suc n) order some in
    let at : kept_at (held_in ks (take (suc n) order)) p ≡ kept_at ks x
    = kept_map ks (take (suc n) order) p 0 (omega arith) ∙ ap (kept_at ks) (get_or-take (suc n) order p 0 lt ∙ sym e) in
    let rest : held_in ks (take n (remove order p)) ≡ remove (held_in ks (take (suc n) order)) p
    = ap (held_in ks) (take_remove order n p (omega arith)) ∙ map_remove (kept_at ks) (take (suc n) order) p in
    cc (at, rest)

inside_front : (order : List ℕ) (p x : ℕ) → length order ≡ BUFFERS → p < BUFFERS → ((i : ℕ) → i < BUFFERS → get_or order i 0 < BUFFERS) → x < BUFFERS → (i : ℕ) → i < BUFFERS → get_or (x ∷ remove order p) i 0 < BUFFERS
inside_front order p x len at h small zero lt = small
inside_front order p x len at h small (suc i) lt = elim (cases_lt i p) [
  | inl below ↦ subst (λ (n : ℕ). n < BUFFERS) (sym (get_or-remove_below order p 0 i below (omega arith))) (h i (omega arith))
  | inr above ↦ subst (λ (n : ℕ). n < BUFFERS) (sym (get_or-remove_above order p 0 i above (omega arith) ∙ ap (λ (k : ℕ). get_or order k 0) (add-one i))) (h (suc i) lt)
]

pub placed_front : (ks : List Kept) (order : List ℕ) (held size p x : ℕ) → IsPlaced ks order held size → p < BUFFERS → x ≡ get_or order p 0 → IsPlaced ks (x ∷ remove order p) held size
placed_front ks order held size p x was lt e = record {
  count = was.count;
  full = omega (arith, length-remove order p (omega (arith, was.full)), was.full);
  some = was.some;
  inside = inside_front order p x was.full lt was.inside (subst (λ (n : ℕ). n < BUFFERS) (sym e) (was.inside p lt));
  apart = subst (λ (n : ℕ). AllApart (n ∷ remove order p)) (sym e) (apart_front order p 0 was.apart (omega (arith, was.full)));
  whole = was.whole;
  least = was.least;
  most = was.most;
}

-- another number of them is held
pub placed_held : (ks : List Kept) (order : List ℕ) (held n size : ℕ) → IsPlaced ks order held size → n ≤ BUFFERS → IsPlaced ks order n size
placed_held ks order held n size was some = record { count = was.count; full = was.full; some = some; inside = was.inside; apart = was.apart; whole = was.whole; least = was.least; most = was.most }

-- one buffer has other bytes of the same size
pub placed_set : (ks : List Kept) (order : List ℕ) (held size x : ℕ) (k : Kept) → IsPlaced ks order held size → length k.bytes ≡ size → IsPlaced (set ks x k) order held size
placed_set ks order held size x k was len = record {
  count = length-set ks x k ∙ was.count;
  full = was.full;
  some = was.some;
  inside = was.inside;
  apart = was.apart;
  whole = λ i lt. elim (cases_eq i x) [
    | inl e ↦ ap (λ (j : ℕ). length (kept_at (set ks x k) j).bytes) e ∙ ap (λ (y : Kept). length y.bytes) (get_or-set_same ks x k nothing (omega (arith, was.count))) ∙ len
    | inr far ↦ ap (λ (y : Kept). length y.bytes) (get_or-set_other ks x i k nothing far) ∙ was.whole i lt
  ];
  least = was.least;
  most = was.most;
}

-- the buffer of a place has other bytes
pub set_place : (ks : List Kept) (order : List ℕ) (held size p x : ℕ) (k : Kept) → IsPlaced ks order held size → p < held → x ≡ get_or order p 0 → held_in (set ks x k) (take held order) ≡ set (held_in ks (take held order)) p k
set_place ks order held size p x k was lt e =
    let len : length (take held order) ≡ held = length-take-le held order (omega (arith, was.full, was.some)) in
    let at : x ≡ get_or (take held order) p 0 = e ∙ sym (get_or-take held order p 0 lt) in
    map_here ks x k (take held order) p 0 (apart_take order held was.apart) (omega arith) at (subst (λ (n : ℕ). x < n) (sym was.count) (subst (λ (n : ℕ). n < BUFFERS) (sym e) (was.inside p (omega (arith, was.some)))))

-- a buffer that is not held has other bytes
pub set_free : (ks : List Kept) (order : List ℕ) (held size p x : ℕ) (k : Kept) → IsPlaced ks order held size → held ≤ p → p < BUFFERS → x ≡ get_or order p 0 → held_in (set ks x k) (take held order) ≡ held_in ks (take held order)
set_free ks order held size p x k was le lt e =
    map_elsewhere ks x k (take held order) (subst (λ (n : ℕ). IsNew n (take held order)) (sym e) (new_past order held p 0 was.apart le (omega (arith, was.full))))

-- and is held first then
pub add_free : (ks : List Kept) (order : List ℕ) (held size x : ℕ) (k : Kept) → IsPlaced ks order held size → held < BUFFERS → x ≡ get_or order held 0
    → held_in (set ks x k) (take (suc held) (x ∷ remove order held)) ≡ k ∷ held_in ks (take held order)
add_free ks order held size x k was lt e =
    let first : kept_at (set ks x k) x ≡ k = get_or-set_same ks x k nothing (subst (λ (n : ℕ). x < n) (sym was.count) (subst (λ (n : ℕ). n < BUFFERS) (sym e) (was.inside held lt))) in
    let len : length (take held order) ≡ held = length-take-le held order (omega (arith, was.full)) in
    let rest : take held (remove order held) ≡ take held order = take_at (take held order) (drop (suc held) order) held len in
    cc (first, ap (held_in (set ks x k)) rest, set_free ks order held size held x k was (omega arith) lt e)

pub length_held : (ks : List Kept) (order : List ℕ) (held size : ℕ) → IsPlaced ks order held size → length (held_in ks (take held order)) ≡ held
length_held ks order held size was = length-map (take held order) (kept_at ks) ∙ length-take-le held order (omega (arith, was.full, was.some))

pub kept_place : (ks : List Kept) (order : List ℕ) (held size p : ℕ) → IsPlaced ks order held size → p < held → kept_at (held_in ks (take held order)) p ≡ kept_at ks (get_or order p 0)
kept_place ks order held size p was lt =
    let len : length (take held order) ≡ held = length-take-le held order (omega (arith, was.full, was.some)) in
    kept_map ks (take held order) p 0 (omega arith) ∙ ap (kept_at ks) (get_or-take held order p 0 lt)

pub below_held : (ks : List Kept) (order : List ℕ) (held size p : ℕ) (list : List Kept) → IsPlaced ks order held size → held_in ks (take held order) ≡ list → p < length list → p < held
below_held ks order held size p list was ls lt = subst (λ (n : ℕ). p < n) (sym (ap length ls) ∙ length_held ks order held size was) lt

-- what is read of the buffer of a place
pub read_place : (ks : List Kept) (order : List ℕ) (held size p x : ℕ) (k : Kept) (list : List Kept) → IsPlaced ks order held size → p < length list → x ≡ get_or order p 0 → held_in ks (take held order) ≡ list → k ≡ get_or ks x k → k ≡ kept_at list p
read_place ks order held size p x k list was at e ls read =
    let lt = below_held ks order held size p list was ls at in
    let small : x < length ks = subst (λ (n : ℕ). x < n) (sym was.count) (subst (λ (n : ℕ). n < BUFFERS) (sym e) (was.inside p (omega (arith, was.some)))) in
    get_or_read ks x k small read nothing ∙ ap (kept_at ks) e ∙ sym (kept_place ks order held size p was lt) ∙ ap (λ l. kept_at l p) ls

pub set_list : (ks : List Kept) (order : List ℕ) (held size p x : ℕ) (new : Kept) (list : List Kept) → IsPlaced ks order held size → p < length list → x ≡ get_or order p 0 → held_in ks (take held order) ≡ list → held_in (set ks x new) (take held order) ≡ set list p new
set_list ks order held size p x new list was at e ls = set_place ks order held size p x new was (below_held ks order held size p list was ls at) e ∙ ap (λ l. set l p new) ls

pub length_kept : (ks : List Kept) (order : List ℕ) (held size p : ℕ) (list : List Kept) → IsPlaced ks order held size → p < length list → held_in ks (take held order) ≡ list → length (kept_at list p).bytes ≡ size
length_kept ks order held size p list was at ls =
    let lt = below_held ks order held size p list was ls at in
    let small : get_or order p 0 < BUFFERS = was.inside p (omega (arith, was.some)) in
    ap (λ l. length (kept_at l p).bytes) (sym ls) ∙ ap (λ (k : Kept). length k.bytes) (kept_place ks order held size p was lt) ∙ was.whole (get_or order p 0) small

pub ruleset shelf = (length_held, kept_place, placed_held)

-- ---- at first

pub range_push : (n : ℕ) → range_with_len 0 (n + 1) ≡ range_with_len 0 n ++ n ∷ []
range_push n = sym (map-id (range_with_len 0 (n + 1))) ∙ map-range_with_len_more (λ (x : ℕ). x) 0 n n (omega arith) ∙ ap (λ l. l ++ n ∷ []) (map-id (range_with_len 0 n))

pub length_range : (from n : ℕ) → length (range_with_len from n) ≡ n
length_range from n = length-range_with_len from n

range_new : (x from n : ℕ) → x < from → IsNew x (range_with_len from n)
range_new x from zero lt = tt
range_new x from (suc n) lt = (λ e. omega arith, range_new x (from + 1) n (omega arith))

range_apart : (from n : ℕ) → AllApart (range_with_len from n)
range_apart from zero = tt
range_apart from (suc n) = (range_new from (from + 1) n (omega arith), range_apart (from + 1) n)

range_low : (from n i : ℕ) → i < n → get_or (range_with_len from n) i 0 < from + n
range_low from n i lt = omega (arith, get_or-range_with_len from n i 0 lt)

pub placed_new : (ks : List Kept) (order : List ℕ) (size : ℕ) → length ks ≡ BUFFERS → order ≡ range_with_len 0 BUFFERS → ((i : ℕ) → i < BUFFERS → length (kept_at ks i).bytes ≡ size) → 8 ≤ size → size ≤ 4096 → IsPlaced ks order 0 size
placed_new ks order size count e whole least most = subst (λ (l : List ℕ). IsPlaced ks l 0 size) (sym e) (record {
  count = count;
  full = length_range 0 BUFFERS;
  some = omega arith;
  inside = λ i lt. range_low 0 BUFFERS i lt;
  apart = range_apart 0 BUFFERS;
  whole = whole;
  least = least;
  most = most;
})

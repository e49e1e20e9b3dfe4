-- The names of paths, and where walks along them go.
use Rattle.std.proofs.Common.{◌≡◌, ℕ, zero, suc, ◌+◌, ◌/◌, ◌<◌, ◌==◌, ◌&&◌, ◌||◌, not, Bool, true, false, cond, nat_le, nat_lt, List, [], ◌∷◌, length, ◌⊎◌, inl, inr, Option, Some, None, Result, Ok, Err, refl, sym, ap, ◌∙◌, subst, arith}
use Rattle.std.specs.List.{All, list_any}
use Rattle.std.specs.Str.{bytes_eq}
use Rattle.std.proofs.lemmas.Bool.{or_parts, leb-false, ltb-false, le-leb, and_from, not_from_false}
use Rattle.std.proofs.lemmas.List.Elements.{All-head, All-tail, All-cons, All-nil}
use Rattle.edge_base.specs.declared.geometry.Request.{Request}
use Rattle.edge_base.specs.declared.refusal.Refusal.{Refusal}
use Rattle.edge_base.specs.declared.refusal.Refusal.TheVariants as refusal
use Rattle.edge_base.specs.commands.Refusals.{◌>>=◌, refuse_if}
use Rattle.edge_base.specs.commands.Paths.{onto_first, split, names_after_slash, names_in, begins_with_slash, is_invalid, is_too_long, names_of, two_paths}
use Rattle.edge_base.specs.commands.Descriptors.{first_empty, first_empty_from}
use Rattle.edge_base.specs.layout.Places.{max_blocks_of}
use Rattle.edge_base.specs.tree.Slots.{Entry, Slots, is_bad_name, is_name, slots_in_block}
use Rattle.edge_model.specs.Tree.{Tree, is_directory, slots_at}
use Rattle.edge_model.specs.Named.{new_slot}
use Rattle.edge_model.specs.Walk.{Spot, top, within, Found, find_from, find_name, found_number, walk, walk_from, spot_of, gone_through}
use Rattle.edge_model.proofs.Members.{IsAmong}
use Rattle.edge_model.proofs.Plans.{ok_is, err_is_not_ok}
use Rattle.edge_model.proofs.Changes.{passes, not_false}
use Rattle.edge_steps.proofs.SlotLaws.{slot_in, none_some, some_same}
use Rattle.edge_steps.proofs.CountLaws.{slot_at}

-- ---- what follows a test or a part

pub after_test : {A : Type 0} (b : Bool) (e : Refusal) (r : Result A Refusal) (x : A) → (refuse_if b e >>= λ _. r) ≡ Ok x → (b ≡ false) × (r ≡ Ok x)
after_test true e r x h = absurd (err_is_not_ok e x (Err e) refl h)
after_test false e r x h = (refl, h)

pub after_found : {A : Type 0} (o : Option Found) (f : ℕ → Result A Refusal) (x : A) → (found_number o >>= f) ≡ Ok x → (found : Found) × (o ≡ Some found) × (f found.number ≡ Ok x)
after_found None f x h = absurd (err_is_not_ok refusal.NoEntry x (Err refusal.NoEntry) refl h)
after_found (Some found) f x h = (found, refl, h)

pub after_part : {A B : Type 0} (r : Result A Refusal) (f : A → Result B Refusal) (y : B) → (r >>= f) ≡ Ok y → (x : A) × (r ≡ Ok x) × (f x ≡ Ok y)
after_part (Ok x) f y h = (x, refl, h)
after_part (Err e) f y h = absurd (err_is_not_ok e y (Err e) refl h)

-- ---- names

abbrev pub Each : {A : Type 0} → (A → Type 0) → List A → Type 0
Each P [] = Unit {0}
Each P (x ∷ xs) = P x × Each P xs

pub each_is : {A : Type 0} (P : A → Type 0) (xs : List A) (x : A) → Each P xs → IsAmong xs x → P x
each_is P [] x all h = absurd h
each_is P (y ∷ ys) x all (inl e) = subst P (sym e) all.0
each_is P (y ∷ ys) x all (inr h) = each_is P ys x all.1 h

pub none_any : {A : Type 0} (test : A → Bool) (xs : List A) → list_any test xs ≡ false → Each (λ x. test x ≡ false) xs
none_any test [] h = tt
none_any test (x ∷ xs) h = let both = or_parts (test x) (list_any test xs) h in (both.0, none_any test xs both.1)

abbrev HasNoSlash : List ℕ → Type 0
HasNoSlash name = list_any (λ b. b == 47) name ≡ false

abbrev IsBytes : List ℕ → Type 0
IsBytes name = All (λ byte. byte < 256) name

either_false : (a b : Bool) → a ≡ false → b ≡ false → (a || b) ≡ false
either_false true b h k = h
either_false false b h k = k

onto_slashless : (b : ℕ) (names : List (List ℕ)) → (b == 47) ≡ false → Each HasNoSlash names → Each HasNoSlash (onto_first b names)
onto_slashless b [] differs each = (either_false (b == 47) false differs refl, tt)
onto_slashless b (name ∷ names) differs each = (either_false (b == 47) (list_any (λ x. x == 47) name) differs each.0, each.1)

split_slashless : (bytes : List ℕ) → Each HasNoSlash (split bytes)
split_slashless [] = (refl, tt)
split_slashless (b ∷ bytes) =
    elim (b == 47) as (λ t. (b == 47) ≡ t → Each HasNoSlash (cond t ([] ∷ split bytes) (onto_first b (split bytes)))) [
      | true ↦ λ is. (refl, split_slashless bytes)
      | false ↦ λ differs. onto_slashless b (split bytes) differs (split_slashless bytes)
    ] refl

onto_bytes : (b : ℕ) (names : List (List ℕ)) → b < 256 → Each IsBytes names → Each IsBytes (onto_first b names)
onto_bytes b [] small each = (All-cons (λ byte. byte < 256) b [] small (All-nil (λ byte. byte < 256)), tt)
onto_bytes b (name ∷ names) small each = (All-cons (λ byte. byte < 256) b name small each.0, each.1)

split_bytes : (bytes : List ℕ) → IsBytes bytes → Each IsBytes (split bytes)
split_bytes [] all = (All-nil (λ byte. byte < 256), tt)
split_bytes (b ∷ bytes) all =
    let rest = split_bytes bytes (All-tail (λ byte. byte < 256) b bytes all) in
    elim (b == 47) as (λ t. Each IsBytes (cond t ([] ∷ split bytes) (onto_first b (split bytes)))) [
      | true ↦ (All-nil (λ byte. byte < 256), rest)
      | false ↦ onto_bytes b (split bytes) (All-head (λ byte. byte < 256) b bytes all) rest
    ]

after_slashless : (bytes : List ℕ) → Each HasNoSlash (names_after_slash bytes)
after_slashless [] = tt
after_slashless (b ∷ bytes) = split_slashless (b ∷ bytes)

after_bytes : (bytes : List ℕ) → IsBytes bytes → Each IsBytes (names_after_slash bytes)
after_bytes [] all = tt
after_bytes (b ∷ bytes) all = split_bytes (b ∷ bytes) all

in_slashless : (path : List ℕ) → Each HasNoSlash (names_in path)
in_slashless [] = tt
in_slashless (b ∷ bytes) = after_slashless bytes

in_bytes : (path : List ℕ) → IsBytes path → Each IsBytes (names_in path)
in_bytes [] all = tt
in_bytes (b ∷ bytes) all = after_bytes bytes (All-tail (λ byte. byte < 256) b bytes all)

-- a name that an entry may have
pub record IsGood (g : Request) (name : List ℕ) : Type 0 where
  pub bytes : All (λ byte. byte < 256) name
  pub is : is_name g name ≡ true

good_name : (g : Request) (name : List ℕ) → is_bad_name name ≡ false → HasNoSlash name → nat_lt g.name_max (length name) ≡ false → is_name g name ≡ true
good_name g name good slashless short =
    and_from (not (is_bad_name name) && not (list_any (λ b. b == 47) name)) (nat_le (length name) g.name_max)
    (and_from (not (is_bad_name name)) (not (list_any (λ b. b == 47) name)) (not_from_false (is_bad_name name) good) (not_from_false (list_any (λ b. b == 47) name) slashless))
    (le-leb (length name) g.name_max (ltb-false g.name_max (length name) short))

-- each name of a path that is not refused
pub path_name : (g : Request) (path : List ℕ) (name : List ℕ) → IsBytes path → is_invalid path ≡ false → is_too_long g.name_max path ≡ false → IsAmong (names_in path) name → IsGood g name
path_name g path name bytes valid short h =
    let good = (or_parts (not (begins_with_slash path)) (list_any is_bad_name (names_in path)) valid).1 in
    let fits = (or_parts (nat_lt 255 (length path)) (list_any (λ n. nat_lt g.name_max (length n)) (names_in path)) short).1 in
    record {
      bytes = each_is IsBytes (names_in path) name (in_bytes path bytes) h;
      is = good_name g name
          (each_is (λ n. is_bad_name n ≡ false) (names_in path) name (none_any is_bad_name (names_in path) good) h)
          (each_is HasNoSlash (names_in path) name (in_slashless path) h)
          (each_is (λ n. nat_lt g.name_max (length n) ≡ false) (names_in path) name (none_any (λ n. nat_lt g.name_max (length n)) (names_in path) fits) h);
    }

-- ---- where walks end

same_spot : (d x : ℕ) (name last : List ℕ) → within d name ≡ within x last → (d ≡ x) × (name ≡ last)
same_spot d x name last h = (cc, cc)

-- the last name of a walk is one of its names
walk_from_last : (t : Tree) (x : ℕ) (name : List ℕ) (names : List (List ℕ)) (d : ℕ) (last : List ℕ) → walk_from t x name names ≡ Ok (within d last) → IsAmong (name ∷ names) last
walk_from_last t x name [] d last h =
    let r = after_test (not (is_directory t x)) refusal.NotDir (Ok (within x name)) (within d last) h in
    inl (sym (same_spot x d name last (ok_is (within x name) (within d last) (Ok (within x name)) refl r.1)).1)
walk_from_last t x name (next ∷ more) d last h =
    let r = after_test (not (is_directory t x)) refusal.NotDir (found_number (find_name t x name) >>= λ y. walk_from t y next more) (within d last) h in
    let q = after_found (find_name t x name) (λ y. walk_from t y next more) (within d last) r.1 in
    inr (walk_from_last t q.0.number next more d last q.2)

pub no_top : (r : Result Spot Refusal) (d : ℕ) (last : List ℕ) → r ≡ Ok top → r ≡ Ok (within d last) → ⊥
no_top r d last one two = cc

pub walk_last : (t : Tree) (names : List (List ℕ)) (d : ℕ) (last : List ℕ) → walk t names ≡ Ok (within d last) → IsAmong names last
walk_last t [] d last h = absurd (no_top (Ok top) d last refl h)
walk_last t (name ∷ names) d last h = walk_from_last t 2 name names d last h

pub spot_names : (g : Request) (t : Tree) (path : List ℕ) (spot : Spot) → spot_of g t path ≡ Ok spot → (is_invalid path ≡ false) × (is_too_long g.name_max path ≡ false) × (walk t (names_in path) ≡ Ok spot)
spot_names g t path spot h =
    let r = after_part (names_of g.name_max path) (λ names. walk t names) spot h in
    let q = after_test (is_invalid path) refusal.Invalid (refuse_if (is_too_long g.name_max path) refusal.NameTooLong >>= λ _. Ok (names_in path)) r.0 r.1 in
    let p = after_test (is_too_long g.name_max path) refusal.NameTooLong (Ok (names_in path)) r.0 q.1 in
    (q.0, p.0, ap (walk t) (ok_is (names_in path) r.0 (Ok (names_in path)) refl p.1) ∙ r.2)

pub both_paths : (g : Request) (path to : List ℕ) → two_paths g.name_max path to ≡ Ok tt → (is_invalid to ≡ false) × (is_too_long g.name_max to ≡ false)
both_paths g path to h =
    let r = after_test (is_invalid path || is_invalid to) refusal.Invalid (refuse_if (is_too_long g.name_max path || is_too_long g.name_max to) refusal.NameTooLong) tt h in
    ((or_parts (is_invalid path) (is_invalid to) r.0).1, (or_parts (is_too_long g.name_max path) (is_too_long g.name_max to) (passes _ _ tt r.1)).1)

-- ---- a name that is found, or not

by_name : (b : Bool) (one found : Found) (rest : Option Found) (P : Type 0) → (b ≡ true → one ≡ found → P) → (b ≡ false → rest ≡ Some found → P) → cond b (Some one) rest ≡ Some found → P
by_name true one found rest P here later h = here refl (some_same one found h)
by_name false one found rest P here later h = later refl h

-- the slot that was found
pub record IsFound (slots : Slots) (name : List ℕ) (slot number : ℕ) : Type 0 where
  pub entry : Entry
  pub there : slot_in slots slot ≡ Some entry
  pub number_is : entry.number ≡ number
  pub named : bytes_eq entry.name name ≡ true

found_from : (i : ℕ) (name : List ℕ) (slots : Slots) (found : Found) → find_from i name slots ≡ Some found → (j : ℕ) × (found.slot ≡ i + j) × IsFound slots name j found.number
found_from i name [] found h = absurd (none_some found h)
found_from i name (None ∷ slots) found h = let r = found_from (i + 1) name slots found h in (suc r.0, omega arith, record { entry = r.2.entry; there = r.2.there; number_is = r.2.number_is; named = r.2.named })
found_from i name (Some e ∷ slots) found h = by_name (bytes_eq e.name name) (record { slot = i; number = e.number }) found (find_from (i + 1) name slots) _
    (λ named here. (zero, (let slot : i ≡ found.slot = ap (λ (f : Found). f.slot) here in omega arith), record { entry = e; there = refl; number_is = ap (λ (f : Found). f.number) here; named = named }))
    (λ other later. let r = found_from (i + 1) name slots found later in (suc r.0, omega arith, record { entry = r.2.entry; there = r.2.there; number_is = r.2.number_is; named = r.2.named }))
    h

pub is_found : (name : List ℕ) (slots : Slots) (found : Found) → find_from 0 name slots ≡ Some found → IsFound slots name found.slot found.number
is_found name slots found h =
    let r = found_from 0 name slots found h in
    let same : r.0 ≡ found.slot = omega arith in
    subst (λ j. IsFound slots name j found.number) same r.2

by_none : (b : Bool) (one : Found) (rest : Option Found) → cond b (Some one) rest ≡ None → (b ≡ false) × (rest ≡ None)
by_none true one rest h = absurd (none_some one (sym h))
by_none false one rest h = (refl, h)

not_from : (i : ℕ) (name : List ℕ) (slots : Slots) → find_from i name slots ≡ None → (j : ℕ) (e : Entry) → slot_in slots j ≡ Some e → bytes_eq e.name name ≡ false
not_from i name [] h j e is = absurd (none_some e is)
not_from i name (None ∷ slots) h zero e is = absurd (none_some e is)
not_from i name (None ∷ slots) h (suc j) e is = not_from (i + 1) name slots h j e is
not_from i name (Some x ∷ slots) h zero e is = ap (λ (y : Entry). bytes_eq y.name name) (sym (some_same x e is)) ∙ (by_none (bytes_eq x.name name) _ (find_from (i + 1) name slots) h).0
not_from i name (Some x ∷ slots) h (suc j) e is = not_from (i + 1) name slots (by_none (bytes_eq x.name name) _ (find_from (i + 1) name slots) h).1 j e is

pub not_found : (name : List ℕ) (slots : Slots) → find_from 0 name slots ≡ None → (j : ℕ) (e : Entry) → slot_in slots j ≡ Some e → bytes_eq e.name name ≡ false
not_found name slots h = not_from 0 name slots h

-- ---- the slot of a new name

empty_from : (i : ℕ) (slots : Slots) → (j : ℕ) × (first_empty_from i slots ≡ i + j) × (slot_in slots j ≡ None)
empty_from i [] = (zero, omega arith, refl)
empty_from i (None ∷ slots) = (zero, omega arith, refl)
empty_from i (Some e ∷ slots) = let r = empty_from (i + 1) slots in (suc r.0, omega arith, r.2)

pub first_is_empty : (slots : Slots) → slot_in slots (first_empty slots) ≡ None
first_is_empty slots = let r = empty_from 0 slots in let same : r.0 ≡ first_empty slots = omega arith in subst (λ j. slot_in slots j ≡ None) same r.2

pub new_slot_is : (g : Request) (t : Tree) (d slot : ℕ) → new_slot g t d ≡ Ok slot → (slot ≡ first_empty (slots_at t d)) × (slot / slots_in_block g < max_blocks_of g)
new_slot_is g t d slot h =
    let r = after_test (nat_le (max_blocks_of g) (first_empty (slots_at t d) / slots_in_block g)) refusal.TooBig (Ok (first_empty (slots_at t d))) slot h in
    let is = ok_is (first_empty (slots_at t d)) slot (Ok (first_empty (slots_at t d))) refl r.1 in
    (sym is, subst (λ j. j / slots_in_block g < max_blocks_of g) is (leb-false _ _ r.0))

-- ---- walks, node by node

-- a directory that has a name in it
pub record HasSlot (t : Tree) (x : ℕ) : Type 0 where
  pub slot : ℕ
  pub entry : Entry
  pub there : slot_at t x slot ≡ Some entry

-- the first node of a walk: it is a directory, and the last one or one that has a name in it
begins : (t : Tree) (x : ℕ) (name : List ℕ) (names : List (List ℕ)) (d : ℕ) (last : List ℕ) → walk_from t x name names ≡ Ok (within d last) → (is_directory t x ≡ true) × ((x ≡ d) ⊎ HasSlot t x)
begins t x name [] d last h =
    let r = after_test (not (is_directory t x)) refusal.NotDir (Ok (within x name)) (within d last) h in
    (not_false (is_directory t x) r.0, inl (same_spot x d name last (ok_is (within x name) (within d last) (Ok (within x name)) refl r.1)).0)
begins t x name (next ∷ more) d last h =
    let r = after_test (not (is_directory t x)) refusal.NotDir (found_number (find_name t x name) >>= λ y. walk_from t y next more) (within d last) h in
    let q = after_found (find_name t x name) (λ y. walk_from t y next more) (within d last) r.1 in
    let f = is_found name (slots_at t x) q.0 q.1 in
    (not_false (is_directory t x) r.0, inr (record { slot = q.0.slot; entry = f.entry; there = f.there }))

first_gone : (t : Tree) (x : ℕ) (name : List ℕ) (names : List (List ℕ)) → IsAmong (gone_through t x (name ∷ names)) x
first_gone t x name [] = inl refl
first_gone t x name (next ∷ more) = inl refl

later_gone : (t : Tree) (x : ℕ) (name next : List ℕ) (more : List (List ℕ)) (found : Found) (b : ℕ) → find_name t x name ≡ Some found → IsAmong (gone_through t found.number (next ∷ more)) b → IsAmong (gone_through t x (name ∷ next ∷ more)) b
later_gone t x name next more found b is h = rw is (inr h)

-- What holds of the first node of a walk and goes over from one node to the next holds of the last.
abbrev pub GoesOver : Tree → ℕ → (ℕ → Type 0) → List ℕ → Type 0
GoesOver t d P gone = (a b k : ℕ) (e : Entry) → slot_at t a k ≡ Some e → e.number ≡ b → is_directory t b ≡ true → IsAmong gone b → (b ≡ d) ⊎ HasSlot t b → P a → P b

walk_from_keeps : (t : Tree) (d : ℕ) (last : List ℕ) (P : ℕ → Type 0) (x : ℕ) (name : List ℕ) (names : List (List ℕ)) → walk_from t x name names ≡ Ok (within d last) → GoesOver t d P (gone_through t x (name ∷ names)) → P x → P d
walk_from_keeps t d last P x name [] h over here =
    let r = after_test (not (is_directory t x)) refusal.NotDir (Ok (within x name)) (within d last) h in
    subst P (same_spot x d name last (ok_is (within x name) (within d last) (Ok (within x name)) refl r.1)).0 here
walk_from_keeps t d last P x name (next ∷ more) h over here =
    let r = after_test (not (is_directory t x)) refusal.NotDir (found_number (find_name t x name) >>= λ y. walk_from t y next more) (within d last) h in
    let q = after_found (find_name t x name) (λ y. walk_from t y next more) (within d last) r.1 in
    let f = is_found name (slots_at t x) q.0 q.1 in
    let start = begins t q.0.number next more d last q.2 in
    walk_from_keeps t d last P q.0.number next more q.2
    (λ a b k e slot is kind gone rest. over a b k e slot is kind (later_gone t x name next more q.0 b q.1 gone) rest)
    (over x q.0.number q.0.slot f.entry f.there f.number_is start.0 (later_gone t x name next more q.0 q.0.number q.1 (first_gone t q.0.number next more)) start.1 here)

pub walk_keeps : (t : Tree) (d : ℕ) (last : List ℕ) (P : ℕ → Type 0) (names : List (List ℕ)) → walk t names ≡ Ok (within d last) → GoesOver t d P (gone_through t 2 names) → P 2 → P d
walk_keeps t d last P [] h over here = absurd (no_top (Ok top) d last refl h)
walk_keeps t d last P (name ∷ names) h over here = walk_from_keeps t d last P 2 name names h over here

-- Words, their options and their arguments.
use Rattle.std.proofs.Common.{◌≡◌, ℕ, Bool, true, false, ◌||◌, ◌==◌, IsTrue, List, [], ◌∷◌, ◌++◌, map, refl, sym, ap, ◌∙◌, subst, append_assoc, ◌≤◌, ◌-◌, ◌<◌, ◌^◌, ◌↔◌, length, take, drop, get_or, Bor, arith, inl, inr, Result, Ok, Err, IsErr}
use Rattle.std.proofs.lemmas.List.{take_all, append-nil}
use Rattle.std.proofs.lemmas.Bool.Decides.{nat_tests}
use Rattle.std.proofs.lemmas.Fmt.{decimal_injective}
use Rattle.std.specs.List.{list_any}
use Rattle.edge_words.specs.Words.{Word, Given, Interleaved, nothing, option, argument, is_option, values_of, Says, SaysOr, words_of, HaveNames}
use Rattle.edge_words.specs.Reading.{OfOptions, Tells, BeginsWithOption, IsBehindOptions, SkipsOptions}

pub list_any-map : {A B : Type 0} (p : B → Bool) (f : A → B) (xs : List A) → list_any p (map f xs) ≡ list_any (λ x. p (f x)) xs
list_any-map p f [] = refl
list_any-map p f (x ∷ xs) = ap (λ b. p (f x) || b) (list_any-map p f xs)

-- ---- words behind references

pub no_word : Bor Word
no_word = record { ref_ptr = (0, 0); now = [] }

pub first_two : (rest : List (Bor Word)) (d : Bor Word) → 2 ≤ length rest
    → words_of rest ≡ (get_or rest 0 d).now ∷ (get_or rest 1 d).now ∷ words_of (take (length rest - 2) (drop 2 rest))
first_two [] d few = absurd (omega arith)
first_two (a ∷ []) d few = absurd (omega arith)
first_two (a ∷ b ∷ rest) d few = ap (λ r. a.now ∷ b.now ∷ words_of r) (sym (take_all (length (a ∷ b ∷ rest) - 2) rest (omega arith)))

pub first_one : (rest : List (Bor Word)) (d : Bor Word) → 1 ≤ length rest
    → words_of rest ≡ (get_or rest 0 d).now ∷ words_of (take (length rest - 1) (drop 1 rest))
first_one [] d few = absurd (omega arith)
first_one (a ∷ rest) d few = ap (λ r. a.now ∷ words_of r) (sym (take_all (length (a ∷ rest) - 1) rest (omega arith)))

pub none_of : (rest : List (Bor Word)) → length rest < 1 → words_of rest ≡ []
none_of [] few = refl
none_of (a ∷ rest) few = absurd (omega arith)

-- what `is_empty` tells
pub is_empty_few : (n : ℕ) (r : Bool) → r ≡ (n == 0) → r ≡ true → n < 1
is_empty_few n r test is = grind (arith, nat_tests)

pub is_empty_some : (n : ℕ) (r : Bool) → r ≡ (n == 0) → r ≡ false → 1 ≤ n
is_empty_some n r test is_no = grind (arith, nat_tests)

-- ---- one reading

-- two parts of words, one behind the other
pub Interleaved-append : {front back : List Word} {options more : List Given} {arguments others : List Word} → Interleaved front options arguments
    → Interleaved back more others → Interleaved (front ++ back) (options ++ more) (arguments ++ others)
Interleaved-append nothing back = back
Interleaved-append (option name value is front) back = option name value is (Interleaved-append front back)
Interleaved-append (argument word is front) back = argument word is (Interleaved-append front back)

-- words are read in one way
pub record IsSame (options more : List Given) (arguments others : List Word) : Type 0 where
  pub options_are : options ≡ more
  pub arguments_are : arguments ≡ others

pub one_reading : {words : List Word} {options more : List Given} {arguments others : List Word} → Interleaved words options arguments
    → Interleaved words more others → IsSame options more arguments others
one_reading nothing nothing = record { options_are = refl; arguments_are = refl }
one_reading (option name value is reads) (option _ _ also same) =
    let rest = one_reading reads same in
    record { options_are = ap (λ os. record { name = name; value = value } ∷ os) rest.options_are; arguments_are = rest.arguments_are }
one_reading (option name value is reads) (argument _ is_no same) = absurd (cc)
one_reading (argument word is_no reads) (option _ value is same) = absurd (cc)
one_reading (argument word is_no reads) (argument _ also same) =
    let rest = one_reading reads same in
    record { options_are = rest.options_are; arguments_are = ap (λ words. word ∷ words) rest.arguments_are }

-- behind options at the front, the rest has the arguments and the other options
pub record HasRest (rest : List Word) (before options : List Given) (arguments : List Word) : Type 0 where
  pub more : List Given
  pub reads : Interleaved rest more arguments
  pub options_are : options ≡ before ++ more

pub behind_options : {front : List Word} {before : List Given} → Interleaved front before [] → (rest : List Word) {options : List Given} {arguments : List Word}
    → Interleaved (front ++ rest) options arguments → HasRest rest before options arguments
behind_options nothing rest {options} reads = record { more = options; reads = reads; options_are = refl }
behind_options (option name value is front) rest (option _ _ also reads) =
    let behind = behind_options front rest reads in
    record { more = behind.more; reads = behind.reads; options_are = ap (λ os. record { name = name; value = value } ∷ os) behind.options_are }
behind_options (option name value is front) rest (argument _ is_no reads) = elim (apart is is_no) [ ]
  where
    apart : {b : Bool} → IsTrue b → b ≡ false → ⊥
    apart h e = cc

-- ---- options at the front

pub nothing_skipped : (words : List Word) → IsBehindOptions words words
nothing_skipped words = record { before = []; options = []; words_are = refl; options_before = nothing }

pub one_more_skipped : {words rest : List Word} (name value : Word) → IsBehindOptions words (name ∷ value ∷ rest)
    → IsTrue (is_option name) → IsBehindOptions words rest
one_more_skipped {words} {rest} name value skipped is = record {
  before = skipped.before ++ (name ∷ value ∷ []);
  options = skipped.options ++ (record { name = name; value = value } ∷ []);
  words_are = skipped.words_are ∙ sym (append_assoc skipped.before (name ∷ value ∷ []) rest);
  options_before = Interleaved-append skipped.options_before (option name value is nothing);
}

-- ---- the values of one option

-- the options that are left to judge decide
pub record HasUnjudged (names rest : List Word) (options : List Given) : Type 0 where
  pub later : List Given
  pub others : List Word
  pub reads : Interleaved rest later others
  pub judge : HaveNames names options ↔ HaveNames names later

-- the values found so far, and those that the rest has, are all
pub record HasLeft (name : Word) (rest found : List Word) (options : List Given) : Type 0 where
  pub later : List Given
  pub others : List Word
  pub reads : Interleaved rest later others
  pub values : values_of name options ≡ found ++ values_of name later

-- where an option stands twice, it says no number
pub twice_says_nothing : {name : Word} (options : List Given) (n : ℕ) → 2 ≤ length (values_of name options) → Says options name n → ⊥
twice_says_nothing options n twice says =
    let one = ap length says.once in
    omega arith

pub twice_says_nothing_or : {name : Word} (options : List Given) (default n : ℕ) → 2 ≤ length (values_of name options) → SaysOr options name default n → ⊥
twice_says_nothing_or options default n twice (inl says) = twice_says_nothing options n twice says
twice_says_nothing_or options default n twice (inr missing) =
    let none = ap length missing.0 in
    omega arith

-- an error where the options say nothing
pub tells_nothing : {T E : Type 0} {words : List Word} (P : List Given → T → Type 0) (r : Result T E) → IsErr r
    → OfOptions words (λ options. (t : T) → ¬ (P options t)) → Tells words P r
tells_nothing P (Ok x) is none = absurd (cc)
tells_nothing P (Err e) is none = none

pub says_one : {options : List Given} {name : Word} {m n : ℕ} → Says options name m → Says options name n → m ≡ n
says_one {m = m} {n = n} one two =
    let same : one.value ≡ two.value = first_of_one (sym one.once ∙ two.once) in
    let small : m < 2 ^ 32 = one.number.fits in
    let small_too : n < 2 ^ 32 = two.number.fits in
    decimal_injective m n (omega arith) (omega arith) (sym one.number.digits ∙ same ∙ two.number.digits)
  where
    first_of_one : {a b : Word} → a ∷ [] ≡ b ∷ [] → a ≡ b
    first_of_one e = cc

says_or_misses : {options : List Given} {name : Word} {n : ℕ} → Says options name n → values_of name options ≡ [] → ⊥
says_or_misses says misses = apart (sym says.once ∙ misses)
  where
    apart : {a : Word} → a ∷ [] ≡ [] → ⊥
    apart e = cc

pub says_one_or : {options : List Given} {name : Word} {default m n : ℕ} → SaysOr options name default m → SaysOr options name default n → m ≡ n
says_one_or (inl one) (inl two) = says_one one two
says_one_or (inl one) (inr two) = absurd (says_or_misses one two.0)
says_one_or (inr one) (inl two) = absurd (says_or_misses two one.0)
says_one_or (inr one) (inr two) = one.1 ∙ sym two.1

-- an argument leaves the options as they are
past : {word : Word} {rest : List Word} {later : List Given} {others : List Word} → Interleaved (word ∷ rest) later others
    → is_option word ≡ false → (behind : List Word) × Interleaved rest later behind
past (option name value is reads) is_no = absurd (cc)
past (argument word is reads) is_no = (_, reads)

pub unjudged-argument : {names : List Word} {word : Word} {rest : List Word} {options : List Given} → HasUnjudged names (word ∷ rest) options
    → is_option word ≡ false → HasUnjudged names rest options
unjudged-argument left is_no =
    let behind = past left.reads is_no in
    record { later = left.later; others = behind.0; reads = behind.1; judge = left.judge }

-- ---- the arguments behind options at the front

pub rest_reads : {words rest : List Word} {options : List Given} {arguments : List Word} → IsBehindOptions words rest → Interleaved words options arguments
    → (more : List Given) × Interleaved rest more arguments
rest_reads {words} {rest} {options} {arguments} skipped reads =
    let behind = behind_options skipped.options_before rest (subst (λ (w : List Word). Interleaved w options arguments) skipped.words_are reads) in
    (behind.more, behind.reads)

pub only_one : {words behind : List Word} {word : Word} → IsBehindOptions words (word ∷ behind) → is_option word ≡ false → IsBehindOptions behind []
    → (options : List Given) × Interleaved words options (word ∷ [])
only_one {words} {behind} {word} front is_no back =
    let all = subst (λ (w : List Word). Interleaved w back.options []) (sym (append-nil back.before) ∙ sym back.words_are) back.options_before in
    let whole = Interleaved-append front.options_before (argument word is_no all) in
    (front.options ++ back.options, subst (λ (w : List Word). Interleaved w (front.options ++ back.options) (word ∷ [])) (sym front.words_are) whole)

pub no_argument : {words : List Word} {options : List Given} {word : Word} → IsBehindOptions words [] → Interleaved words options (word ∷ []) → ⊥
no_argument skipped reads = go (rest_reads skipped reads).1
  where
    go : {more : List Given} {word : Word} → Interleaved [] more (word ∷ []) → ⊥
    go reads = elim reads [ ]

-- where the rest begins with an option it has no value, so nothing is read
pub option_alone : {words behind : List Word} {word : Word} {options : List Given} {arguments : List Word} → SkipsOptions words (word ∷ behind)
    → IsTrue (is_option word) → Interleaved words options arguments → ⊥
option_alone skips is reads = go skips.stops is (rest_reads skips.skipped reads).1
  where
    go : {word : Word} {behind : List Word} {more : List Given} {arguments : List Word} → ¬ (BeginsWithOption (word ∷ behind)) → IsTrue (is_option word)
        → Interleaved (word ∷ behind) more arguments → ⊥
    go stops is (option name value also reads) = stops also
    go stops is (argument word is_no reads) = cc

pub second_argument : {words behind rest : List Word} {word next argument : Word} {options : List Given} → SkipsOptions words (word ∷ behind)
    → is_option word ≡ false → SkipsOptions behind (next ∷ rest) → Interleaved words options (argument ∷ []) → ⊥
second_argument front is_no back reads = go is_no back (rest_reads front.skipped reads).1
  where
    ends : {next : Word} {rest : List Word} {more : List Given} → ¬ (BeginsWithOption (next ∷ rest)) → Interleaved (next ∷ rest) more [] → ⊥
    ends stops (option name value also reads) = stops also

    go : {word next argument : Word} {behind rest : List Word} {more : List Given} → is_option word ≡ false → SkipsOptions behind (next ∷ rest)
        → Interleaved (word ∷ behind) more (argument ∷ []) → ⊥
    go is_no back (option name value is reads) = cc
    go is_no back (argument word also reads) = ends back.stops (rest_reads back.skipped reads).1

-- What is kept of a line, and the moments that are taken for lines.
use Rattle.std.proofs.Common.{◌≡◌, ℕ, ◌+◌, ◌-◌, ◌<◌, ◌≤◌, ◌++◌, Bool, true, false, cond, List, [], ◌∷◌, length, take, drop, min, refl, sym, ap, ◌∙◌, arith, Some, None}
use Rattle.std.specs.Prelude.{nat_le, Option}
use Rattle.std.proofs.lemmas.Bool.Decides.{nat_tests}
use Rattle.std.proofs.lemmas.List.{take_all, length-take-le, length-drop, drop-drop}
use Rattle.edge_base.specs.declared.geometry.Request.{Request}
use Rattle.edge_model.specs.Asked.{Asked}
use Rattle.edge_model.specs.State.{State}
use Rattle.edge_model.specs.Step.{step}
use Rattle.edge_script.specs.Replies.{answer_text, bad_text}
use Rattle.edge_script.specs.Reading.{command_in, command_of_bytes}
use Rattle.edge_io.specs.Moments.{GivesMoment}
use Rattle.edge_session.specs.Feeds.{kept_part}
use Rattle.edge_session.specs.Line.{moments_for, moments_of, moments_after, told_text, answer_to, text_for}

above : (n : ℕ) → nat_le n 8209 ≡ false → 8209 < n
above n e = grind (arith, nat_tests)

too_long : (n : ℕ) → 8209 < n → nat_le n 8209 ≡ false
too_long n h = grind (arith, nat_tests)

below : (n : ℕ) → nat_le n 8209 ≡ true → n ≤ 8209
below n e = grind (arith, nat_tests)

-- what is kept of a line spells what the line does
pub command_in-kept : (line : List ℕ) → command_in (kept_part line) ≡ command_in line
unfolding kept_part
command_in-kept line = go (nat_le (length line) 8209) refl
  where
    go : (t : Bool) → nat_le (length line) 8209 ≡ t → command_in (take 8210 line) ≡ command_in line
    go true is = ap command_in (take_all 8210 line (let short = below (length line) is in omega arith))
    go false is =
        let long = above (length line) is in
        let kept = length-take-le 8210 line (omega arith) in
        ap (λ t. cond t (command_of_bytes (take 8210 line)) None) (too_long (length (take 8210 line)) (omega arith))
        ∙ sym (ap (λ t. cond t (command_of_bytes line) None) is)

-- a line that is too long spells none
pub no_command : (line : List ℕ) → 8209 < length line → command_in line ≡ None
no_command line long = ap (λ t. cond t (command_of_bytes line) None) (too_long (length line) long)

-- ---- moments

pub none_taken : (moments : List ℕ) → moments_after 0 moments ≡ moments
unfolding moments_after
none_taken moments = ap (λ (n : ℕ). drop n moments) (let none : min 0 (length moments - 1) ≡ 0 = omega arith in none)

pub one_taken : (moment : ℕ) (before after : List ℕ) → GivesMoment moment before after → after ≡ moments_after 1 before
unfolding moments_after
one_taken moment before after g = by_length (nat_le (length before) 1) refl
  where
    few : nat_le (length before) 1 ≡ true → length before ≤ 1
    few e = grind (arith, nat_tests)

    many : nat_le (length before) 1 ≡ false → 1 < length before
    many e = grind (arith, nat_tests)

    by_length : (t : Bool) → nat_le (length before) 1 ≡ t → after ≡ drop (min 1 (length before - 1)) before
    by_length true e = g.kept (few e) ∙ ap (λ (n : ℕ). drop n before) (let l = few e in let z : 0 ≡ min 1 (length before - 1) = omega arith in z)
    by_length false e = g.taken (many e) ∙ ap (λ (n : ℕ). drop n before) (let l = many e in let z : 1 ≡ min 1 (length before - 1) = omega arith in z)

pub moments_more : (j k : ℕ) (moments : List ℕ) → moments_after k (moments_after j moments) ≡ moments_after (j + k) moments
unfolding moments_after
moments_more j k moments =
    let d = length-drop (min j (length moments - 1)) moments in
    drop-drop (min k (length (drop (min j (length moments - 1)) moments) - 1)) (min j (length moments - 1)) moments
    ∙ ap (λ (n : ℕ). drop n moments) (let e : min j (length moments - 1) + min k (length (drop (min j (length moments - 1)) moments) - 1) ≡ min (j + k) (length moments - 1) = omega (arith, d) in e)

pub moments_of-more : (lines : List (List ℕ)) (line : List ℕ) → moments_of (lines ++ line ∷ []) ≡ moments_of lines + moments_for (command_in line)
moments_of-more [] line = omega arith
moments_of-more (first ∷ lines) line = let more = moments_of-more lines line in omega arith

-- of a line that spells none, and of one that spells a command
pub moments_kept : (c : Option Asked) (moments after : List ℕ) → c ≡ None → after ≡ moments → after ≡ moments_after (moments_for c) moments
moments_kept c moments after none same = same ∙ sym (ap (λ o. moments_after (moments_for o) moments) none ∙ none_taken moments)

pub moments_one : (c : Option Asked) (command : Asked) (moment : ℕ) (before after : List ℕ) → c ≡ Some command → GivesMoment moment before after → after ≡ moments_after (moments_for c) before
moments_one c command moment before after some g = one_taken moment before after g ∙ sym (ap (λ o. moments_after (moments_for o) before) some)

pub text_bad : (g : Request) (s : State) (c : Option Asked) → c ≡ None → text_for g s c ≡ bad_text
unfolding text_for
text_bad g s c none = ap (λ o. told_text (answer_to g s o)) none

pub text_told : (g : Request) (s : State) (c : Option Asked) (command : Asked) → c ≡ Some command → text_for g s c ≡ answer_text (step g s command).answer
unfolding text_for
text_told g s c command some = ap (λ o. told_text (answer_to g s o)) some

-- The first name between slashes, and what is left behind it.
use Rattle.std.proofs.Common.{◌≡◌, ◌∙◌, inl, inr, ℕ, suc, ◌+◌, ◌==◌, Bool, true, false, not, cond, List, [], ◌∷◌, length, take, drop, refl, ap, arith, Some, None}
use Rattle.std.specs.Prelude.{◌&&◌, nat_eq, position, unwrap_or, if◌then◌else◌}
use Rattle.std.specs.List.{position_or_len, starts_with}
use Rattle.std.proofs.lemmas.Bool.{cases_lt, lt-ltb, le-ltb}
use Rattle.std.proofs.lemmas.Bool.Decides.{nat_tests}
use Rattle.std.proofs.lemmas.List.Sums.{prefix_len-le-length}
use Rattle.edge_base.specs.commands.Paths.{split, onto_first, begins_with_slash}
use Rattle.edge_path.specs.Names.{names_left}

-- the place of the first slash, or the end
abbrev pub first_slash : List ℕ → ℕ
first_slash bytes = position_or_len (λ b. b == 47) bytes

split-step : (slash : Bool) (b : ℕ) (bytes : List ℕ) → split bytes ≡ take (first_slash bytes) bytes ∷ names_left (drop (first_slash bytes) bytes)
    → (if slash then [] ∷ split bytes else onto_first b (split bytes))
    ≡ take (cond (not slash) (1 + first_slash bytes) 0) (b ∷ bytes) ∷ names_left (drop (cond (not slash) (1 + first_slash bytes) 0) (b ∷ bytes))
split-step true b bytes rest = refl
split-step false b bytes rest =
    let next : suc (first_slash bytes) ≡ 1 + first_slash bytes = omega arith in
    ap (onto_first b) rest ∙ ap (λ (n : ℕ). take n (b ∷ bytes) ∷ names_left (drop n (b ∷ bytes))) next

pub split-first : (bytes : List ℕ) → split bytes ≡ take (first_slash bytes) bytes ∷ names_left (drop (first_slash bytes) bytes)
split-first [] = refl
split-first (b ∷ bytes) = split-step (b == 47) b bytes (split-first bytes)

pub first_slash-is : (bytes : List ℕ) → unwrap_or (position (λ b. b == 47) bytes) (length bytes) ≡ first_slash bytes
first_slash-is bytes = elim (cases_lt (first_slash bytes) (length bytes)) [
  | inl found ↦ ap (λ (b : Bool). unwrap_or (cond b (Some (first_slash bytes)) None) (length bytes)) (lt-ltb _ _ found)
  | inr none ↦ ap (λ (b : Bool). unwrap_or (cond b (Some (first_slash bytes)) None) (length bytes)) (le-ltb _ _ none) ∙ omega (arith, prefix_len-le-length (λ b. not (b == 47)) bytes)
]

turned : (b : ℕ) → (47 == b) ≡ (b == 47)
turned b = grind (arith, nat_tests)

pub begins : (path : List ℕ) → starts_with nat_eq path (47 ∷ []) ≡ begins_with_slash path
begins [] = refl
begins (b ∷ path) = and_true (47 == b) ∙ turned b
  where
    and_true : (t : Bool) → (t && true) ≡ t
    and_true true = refl
    and_true false = refl

-- A piece that a sink takes part by part.
use Rattle.std.proofs.Common.{◌≡◌, ℕ, ◌+◌, ◌-◌, ◌≤◌, List, ◌++◌, length, take, drop, sym, ◌∙◌, ap, append_assoc, take-add}
use Rattle.std.proofs.lemmas.List.{take-take}

-- what a sink has taken with n bytes more of a piece
pub took-more : (at n : ℕ) (bytes before now after : List ℕ) → n ≤ length bytes - at → now ≡ before ++ take at bytes
    → after ≡ now ++ take n (take (length bytes - at) (drop at bytes)) → after ≡ before ++ take (at + n) bytes
took-more at n bytes before now after inside so_far more =
    more ∙ ap (λ t. t ++ take n (take (length bytes - at) (drop at bytes))) so_far ∙ append_assoc before (take at bytes) (take n (take (length bytes - at) (drop at bytes)))
    ∙ ap (λ r. before ++ (take at bytes ++ r)) (take-take n (length bytes - at) (drop at bytes) inside)
    ∙ ap (λ r. before ++ r) (sym (take-add at n bytes))

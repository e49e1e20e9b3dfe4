-- What the rows of the tables hold.
use Rattle.std.proofs.Common.{◌≡◌, ℕ, suc, ◌<◌, List, [], map, refl, ap, ◌∙◌, get_or, arith}
use Rattle.std.specs.List.{range_with_len}
use Rattle.std.proofs.lemmas.List.FromFn.{get_or-map-range_with_len}
use Rattle.edge_base.specs.layout.Word.{eight_steps}
use Rattle.edge_word.specs.declared.tables.TheConstants.{STEPS}
use Rattle.edge_word.proofs.Steps.{turns}

abbrev row_of : ℕ → List ℕ
row_of k = map (turns (suc k)) (range_with_len 0 256)

STEPS-is : STEPS ≡ map row_of (range_with_len 0 8)
unfolding eight_steps
STEPS-is = refl

unfoldable pub looked_up : ℕ → ℕ → ℕ
looked_up k byte = get_or (get_or STEPS k []) byte 0

pub looked_up-is : (k byte : ℕ) → k < 8 → byte < 256 → looked_up k byte ≡ turns (suc k) byte
unfolding looked_up
looked_up-is k byte within small =
    ap (λ (rows : List (List ℕ)). get_or (get_or rows k []) byte 0) STEPS-is
    ∙ ap (λ (row : List ℕ). get_or row byte 0)
    (get_or-map-range_with_len row_of 0 8 k k [] within (omega arith))
    ∙ get_or-map-range_with_len (turns (suc k)) 0 256 byte byte 0 small (omega arith)

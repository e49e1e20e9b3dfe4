use Rattle.std.proofs.Common.{◌≡◌, ℕ, List, get_or, map, refl, ap, ◌∙◌, arith}
use Rattle.std.specs.List.{range_with_len}
use Rattle.std.proofs.lemmas.List.FromFn.{get_or-map-range_with_len}
use Rattle.edge_script.specs.Bytes.{digit_of}
use Rattle.edge_script.specs.declared.hexadecimal.TheConstants.{DIGITS}
use Rattle.edge_script.proofs.hexadecimal.write_digit.Goals as goal

DIGITS-is : DIGITS ≡ map digit_of (range_with_len 0 16)
DIGITS-is = refl

pub returns : goal.returns
returns c =
    ap (λ (digits : List ℕ). get_or digits c.args.n 0) DIGITS-is
    ∙ get_or-map-range_with_len digit_of 0 16 c.args.n c.args.n 0 c.requires (omega arith)

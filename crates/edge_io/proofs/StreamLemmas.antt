-- A read of bytes in memory.
use Rattle.std.proofs.Common.{◌≡◌, ℕ, ◌+◌, min, List, ◌++◌, length, take, drop, sym, ◌∙◌, ap, arith, length-append, length-drop}
use Rattle.std.proofs.lemmas.List.{take-append-drop, take-append-le, take_all, length-take-le, drop-drop, nil_from_length}
use Rattle.edge_io.specs.Streams.{Gives}

-- the first n bytes from a place on, written over the first n of a slice
pub gives_first : (place n : ℕ) (bytes out piece : List ℕ) → n ≡ min (length (drop place bytes)) (length out) → piece ≡ take n (drop place bytes)
    → Gives n (piece ++ drop n out) (drop place bytes) (drop (place + n) bytes)
gives_first place n bytes out piece count is =
    let long : length piece ≡ n = ap length is ∙ length-take-le n (drop place bytes) (omega arith) in
    let front : take n (piece ++ drop n out) ≡ take n (drop place bytes) = take-append-le n piece (drop n out) (omega arith) ∙ take_all n piece (omega arith) ∙ is in
    record {
      bytes = sym (ap (λ (l : List ℕ). l ++ drop (place + n) bytes) front ∙ ap (λ (l : List ℕ). take n (drop place bytes) ++ l) (sym (drop-drop n place bytes)) ∙ take-append-drop n (drop place bytes));
      end = λ some none. nil_from_length _ (omega (arith, length-append piece (drop n out), length-drop n out));
    }

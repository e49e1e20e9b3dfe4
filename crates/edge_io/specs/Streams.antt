-- Bytes that come from a source, and bytes that a sink has taken.
use Rattle.std.specs.Prelude.{◌≡◌, ◌++◌, ◌<◌, ℕ, List, [], length, take}

-- A read into a slice gave the first n of the bytes left. With room in the slice, 0 means that none was left.
pub record Gives (n : ℕ) (out left_before left_after : List ℕ) : Type 0 where
  pub bytes : left_before ≡ take n out ++ left_after
  pub end : 0 < length out → n ≡ 0 → left_before ≡ []

-- A sink that failed took a part of a piece, and not all of it.
pub record TookPart (piece before after : List ℕ) : Type 0 where
  pub count : ℕ
  pub not_all : count < length piece
  pub took : after ≡ before ++ take count piece

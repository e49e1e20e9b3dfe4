-- What a change makes of the bytes of a block.
use Rattle.std.specs.Prelude.{ℕ, ◌+◌, ◌==◌, Bool, List, ◌++◌, length, take, drop, replicate, Option, None, Some, if◌then◌else◌}
use Rattle.std.specs.Borrow.{Bor}
use Rattle.byteorder.specs.Endian.{little_bytes}
use Rattle.edge_base.specs.layout.Bytes.{number_at}
use Rattle.edge_base.specs.layout.Word.{check_word_of}

-- the list with these bytes from a place on
abbrev pub put_at : ℕ → List ℕ → List ℕ → List ℕ
put_at at bytes b = take at b ++ (bytes ++ drop (at + length bytes) b)

-- the block with its check word in bytes 4 to 7
unfoldable pub sealed : List ℕ → List ℕ
sealed b = put_at 4 (little_bytes 4 (check_word_of (drop 8 b))) b

-- whether bytes 4 to 7 of a block are the check word of those from 8 on
unfoldable pub word_holds_in : List ℕ → Bool
word_holds_in b = number_at 4 4 b == check_word_of (drop 8 b)

-- a block after a change that is marked as a node's, or not
abbrev pub marked : Bool → List ℕ → List ℕ
marked node b = if node then sealed b else b

-- a block after a write of bytes from a place on
abbrev pub changed_by : ℕ → List ℕ → Bool → List ℕ → List ℕ
changed_by at bytes node b = marked node (put_at at bytes b)

-- a block of zeros
abbrev pub blank : ℕ → Bool → List ℕ
blank size node = marked node (replicate size 0)

-- what a whole block is given: these bytes, or zeros
abbrev pub given_bytes : ℕ → Option (Bor (List ℕ)) → List ℕ
given_bytes size None = replicate size 0
given_bytes size (Some bytes) = bytes.now

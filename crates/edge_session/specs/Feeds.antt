-- Lines of a script as they are taken up, from the bytes that are left of it.
use Rattle.std.specs.Prelude.{◌≡◌, ◌⊎◌, ℕ, ◌+◌, ◌==◌, List, [], ◌∷◌, ◌++◌, length, take, Bool, true, not, if◌then◌else◌, IsTrue}
use Rattle.std.specs.List.{list_all}
use Rattle.edge_session.specs.Script.{lines_of}

abbrev pub is_line_feed : ℕ → Bool
is_line_feed byte = byte == 10

-- no byte is a line feed
abbrev pub HasNoLineFeed : List ℕ → Type 0
HasNoLineFeed bytes = list_all (λ byte. not (is_line_feed byte)) bytes ≡ true

-- As much of a line as is kept: one byte more than a command may have.
unfoldable pub kept_part : List ℕ → List ℕ
kept_part line = take 8210 line

-- A line was taken up: what was left before it, and what is left behind it. A line without a line feed is the last, and the source's end was seen.
pub record TakesUp (line before after : List ℕ) (ended : Bool) (used_before used_after : ℕ) : Type 0 where
  pub no_feed : HasNoLineFeed line
  pub lines : lines_of before ≡ line ∷ lines_of after
  pub bytes : (before ≡ line ++ 10 ∷ after) ⊎ ((before ≡ line) × (after ≡ []) × (ended ≡ true))
  pub used : used_after + length after ≡ used_before + length before

-- the same, with what is kept of the line
pub record TakesLine (before after kept : List ℕ) (ended : Bool) (used_before used_after : ℕ) : Type 0 where
  pub line : List ℕ
  pub takes : TakesUp line before after ended used_before used_after
  pub kept_is : kept ≡ kept_part line

-- Of what was left before, the bytes of a line that has begun were taken up.
pub record HasBegun (before after kept : List ℕ) (used_before used_after : ℕ) : Type 0 where
  pub begun : List ℕ
  pub split : before ≡ begun ++ after
  pub no_feed : HasNoLineFeed begun
  pub kept_is : kept ≡ kept_part begun
  pub count : used_after ≡ used_before + length begun

-- More of the line was taken up, and where it ended, its line feed was the last byte.
pub record GoesOn (ended : Bool) (before after kept_before kept_after : List ℕ) (used_before used_after : ℕ) : Type 0 where
  pub piece : List ℕ
  pub no_feed : HasNoLineFeed piece
  pub split : before ≡ piece ++ (if ended then 10 ∷ after else after)
  pub kept_is : kept_after ≡ kept_part (kept_before ++ piece)
  pub count : used_after ≡ used_before + (length piece + (if ended then 1 else 0))

-- where the end of a source that tells its bytes was seen, nothing is left
abbrev pub SeesEnd : Bool → Bool → List ℕ → Type 0
SeesEnd tells ended left = IsTrue tells → ended ≡ true → left ≡ []

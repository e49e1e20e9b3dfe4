-- The table of open descriptors.
use Rattle.std.specs.Prelude.{ℕ, ◌+◌, ◌==◌, Bool, false, nat_le, List, [], ◌∷◌, replicate, slice_get, unwrap_or, Option, Some, None}
use Rattle.std.specs.List.{list_any}

-- What is open: a node by its number, what was asked for, and the position: of a file in bytes, of a directory in slots.
pub record Descriptor : Type 0 where
  pub number : ℕ
  pub directory : Bool
  pub read : Bool
  pub write : Bool
  pub append : Bool
  pub at : ℕ

-- descriptor h is the one in place h
abbrev pub Descriptors : Type 0
Descriptors = List (Option Descriptor)

-- how many may be open
abbrev pub most_open : ℕ
most_open = 16

abbrev pub none_open : Descriptors
none_open = replicate most_open None

-- the first place, counted from i, that has nothing
abbrev pub first_empty_from : {A : Type 0} → ℕ → List (Option A) → ℕ
first_empty_from i [] = i
first_empty_from i (None ∷ rest) = i
first_empty_from i (Some x ∷ rest) = first_empty_from (i + 1) rest

abbrev pub first_empty : {A : Type 0} → List (Option A) → ℕ
first_empty places = first_empty_from 0 places

abbrev pub descriptor_at : Descriptors → ℕ → Option Descriptor
descriptor_at table h = unwrap_or (slice_get table h) None

abbrev pub is_full : Descriptors → Bool
is_full table = nat_le most_open (first_empty table)

abbrev pub is_for : ℕ → Option Descriptor → Bool
is_for number None = false
is_for number (Some d) = d.number == number

-- whether a node has an open descriptor
abbrev pub is_open : Descriptors → ℕ → Bool
is_open table number = list_any (is_for number) table

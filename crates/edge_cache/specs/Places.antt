-- The buffers that hold a block, in the order of their use.
use Rattle.std.specs.Prelude.{◌≡◌, ◌≢◌, ℕ, ◌<◌, ◌≤◌, List, [], ◌∷◌, false, length, map, get_or}
use Rattle.std.specs.List.{remove}
use Rattle.edge_cache.specs.declared.shelf.TheConstants.{BUFFERS}
use Rattle.edge_cache.specs.Kept.{Kept, made}

-- what a list without such a place is read as
abbrev pub nothing : Kept
nothing = made 0 [] false

abbrev pub kept_at : List Kept → ℕ → Kept
kept_at ks i = get_or ks i nothing

-- the buffers at these places
abbrev pub held_in : List Kept → List ℕ → List Kept
held_in ks places = map (kept_at ks) places

abbrev pub blocks_of : List Kept → List ℕ
blocks_of ks = map (λ k. k.block) ks

-- the list with the element of a place first
abbrev pub fronted : List Kept → ℕ → List Kept
fronted ks p = kept_at ks p ∷ remove ks p

-- no element is this number
abbrev pub IsNew : ℕ → List ℕ → Type 0
IsNew x [] = Unit {0}
IsNew x (y ∷ ys) = (y ≢ x) × IsNew x ys

-- no number stands twice
abbrev pub AllApart : List ℕ → Type 0
AllApart [] = Unit {0}
AllApart (x ∷ xs) = IsNew x xs × AllApart xs

-- each buffer has so many bytes
abbrev pub AllHave : ℕ → List Kept → Type 0
AllHave size ks = (i : ℕ) → i < length ks → length (kept_at ks i).bytes ≡ size

-- All buffers, of one size, and an order of them.
pub record IsPlaced (buffers : List Kept) (order : List ℕ) (held size : ℕ) : Type 0 where
  pub count : length buffers ≡ BUFFERS
  pub full : length order ≡ BUFFERS
  pub some : held ≤ BUFFERS
  pub inside : (i : ℕ) → i < BUFFERS → get_or order i 0 < BUFFERS
  pub apart : AllApart order
  pub whole : (i : ℕ) → i < BUFFERS → length (kept_at buffers i).bytes ≡ size
  pub least : 8 ≤ size
  pub most : size ≤ 4096

-- what the buffers mean: their size, and what is held, the last used first
pub record Held : Type 0 where
  pub size : ℕ
  pub list : List Kept

abbrev pub shelved : ℕ → List Kept → List ℕ → Held
shelved size buffers places = record { size = size; list = held_in buffers places }

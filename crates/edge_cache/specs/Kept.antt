-- What a buffer means.
use Rattle.std.specs.Prelude.{◌≡◌, ℕ, Bool, true, false, List}
use Rattle.edge_cache.specs.Blocks.{sealed, word_holds_in}
use Rattle.edge_cache.specs.declared.buffer.Word.{Word}
use Rattle.edge_cache.specs.declared.buffer.Word.TheVariants.{Due, Unknown, Holds, Differs}

-- a block, its bytes as reads give them, and whether they are still to be written
pub record Kept : Type 0 where
  pub block : ℕ
  pub bytes : List ℕ
  pub changed : Bool

abbrev pub made : ℕ → List ℕ → Bool → Kept
made block bytes changed = record { block = block; bytes = bytes; changed = changed }

-- the bytes as reads give them
abbrev pub as_read : Word → List ℕ → List ℕ
as_read Due b = sealed b
as_read Unknown b = b
as_read Holds b = b
as_read Differs b = b

-- what is remembered of the check word is true: where it is due, it holds once it is put in
abbrev pub IsRemembered : Word → List ℕ → Type 0
IsRemembered Due b = word_holds_in (sealed b) ≡ true
IsRemembered Unknown b = Unit {0}
IsRemembered Holds b = word_holds_in b ≡ true
IsRemembered Differs b = word_holds_in b ≡ false

-- What the bytes of one slot of a directory say.
use Rattle.std.specs.Prelude.{◌≡◌, ◌≢◌, ℕ, List, Option, Some, None}
use Rattle.edge_base.specs.declared.geometry.Request.{Request}
use Rattle.edge_base.specs.tree.NodeRules.{IsEntry}
use Rattle.edge_base.specs.tree.Slots as slots
use Rattle.edge_base.specs.tree.Slots.{slot_bytes}
use Rattle.edge_slots.specs.declared.slot.Entry.{Entry}

abbrev pub entry_of : List ℕ → ℕ → slots.Entry
entry_of name number = record { name = name; number = number }

-- The bytes are those of a slot with this name and number, which an entry may have.
pub record HasEntry (g : Request) (bytes name : List ℕ) (number : ℕ) : Type 0 where
  pub spelled : bytes ≡ slot_bytes g (Some (entry_of name number))
  pub allowed : IsEntry g (entry_of name number)

-- The bytes are those of an empty slot.
abbrev pub IsEmpty : Request → List ℕ → Type 0
IsEmpty g bytes = bytes ≡ slot_bytes g None

-- The bytes are those of a slot with this entry, or of an empty one.
abbrev pub IsSlot : Request → List ℕ → Option Entry → Type 0
IsSlot g bytes None = IsEmpty g bytes
IsSlot g bytes (Some e) = HasEntry g bytes e.name.now e.number

-- The bytes are neither.
pub record IsWrong (g : Request) (bytes : List ℕ) : Type 0 where
  pub not_empty : bytes ≢ slot_bytes g None
  pub no_entry : (e : slots.Entry) → IsEntry g e → bytes ≢ slot_bytes g (Some e)

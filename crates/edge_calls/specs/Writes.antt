-- Writing bytes by a descriptor.
use Rattle.std.specs.Prelude.{ℕ, ◌+◌, nat_lt, List, replicate, Result, Ok, Err}
use Rattle.edge_base.specs.commands.Descriptors.{Descriptor}
use Rattle.edge_base.specs.commands.Refusals.{◌>>=◌, refuse_if}
use Rattle.edge_base.specs.declared.geometry.Request.{Request}
use Rattle.edge_base.specs.declared.refusal.Refusal.{Refusal}
use Rattle.edge_base.specs.declared.refusal.Refusal.TheVariants as refusal
use Rattle.edge_base.specs.layout.Places.{max_size_of}
use Rattle.edge_handles.specs.Table.{descriptor_of}
use Rattle.edge_model.specs.Asked.{Asked, write, fill}
use Rattle.edge_model.specs.Files.{write_place}
use Rattle.edge_model.specs.Open.{writable_at}
use Rattle.edge_model.specs.State.{State}
use Rattle.edge_calls.specs.declared.write.Place.{Place}

-- The commands that write bytes: some, or one again and again.
pub data Writes : Asked → ℕ → List ℕ → Type 0 where
  bytes : (h : ℕ) (new : List ℕ) → Writes (write h new) h new
  same : (h count byte : ℕ) → Writes (fill h count byte) h (replicate count byte)

-- a descriptor that bytes are written by, and where they begin
pub record Target : Type 0 where
  pub by : Descriptor
  pub at : ℕ

-- where so many bytes are written by a descriptor, or why they are not, but for room
abbrev pub target_of : Request → State → ℕ → ℕ → Result Target Refusal
target_of g s h len = do
  d ← writable_at s h
  _ ← refuse_if (nat_lt (max_size_of g) (write_place s d + len)) refusal.TooBig
  Ok (record { by = d; at = write_place s d })

-- a place as one
abbrev pub targeted : Result Place Refusal → Result Target Refusal
targeted (Ok place) = Ok (record { by = descriptor_of place.slot; at = place.at })
targeted (Err e) = Err e

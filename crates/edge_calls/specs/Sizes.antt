-- Giving a file a size by a descriptor.
use Rattle.std.specs.Prelude.{ℕ, nat_lt, Result, Ok, Err}
use Rattle.edge_base.specs.commands.Descriptors.{Descriptor}
use Rattle.edge_base.specs.commands.Refusals.{◌>>=◌, refuse_if}
use Rattle.edge_base.specs.declared.geometry.Request.{Request}
use Rattle.edge_base.specs.declared.refusal.Refusal.{Refusal}
use Rattle.edge_base.specs.declared.refusal.Refusal.TheVariants as refusal
use Rattle.edge_base.specs.layout.Places.{max_size_of}
use Rattle.edge_handles.specs.Table.{descriptor_of}
use Rattle.edge_model.specs.Files.{cut}
use Rattle.edge_model.specs.Open.{writable_at}
use Rattle.edge_model.specs.State.{State}
use Rattle.edge_calls.specs.declared.resize.Sizing.{Sizing}

-- a descriptor whose file gets a size, and the blocks that this must leave free
pub record Sized : Type 0 where
  pub by : Descriptor
  pub reserve : ℕ

-- of which file, or why it does not get the size, but for room
abbrev pub sizing_of : Request → State → ℕ → ℕ → Result Sized Refusal
sizing_of g s h size = do
  d ← writable_at s h
  _ ← refuse_if (nat_lt (max_size_of g) size) refusal.TooBig
  Ok (record { by = d; reserve = (cut g s.tree d.number size).reserve })

-- what the code found, as that
abbrev pub sizing_in : Result Sizing Refusal → Result Sized Refusal
sizing_in (Ok sizing) = Ok (record { by = descriptor_of sizing.slot; reserve = sizing.reserve })
sizing_in (Err e) = Err e

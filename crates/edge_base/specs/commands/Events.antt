-- The events after which a point may be taken, and masks of them.
use Rattle.std.specs.Prelude.{ℕ, ◌==◌, not, Bool, bit_and}

-- an event's bit in a mask
pub data Event : Type 0 where
  umount : Event
  create : Event
  unlink : Event
  mkdir : Event
  rename : Event
  link : Event
  close : Event
  write : Event
  fsync : Event
  truncate : Event
  full : Event

abbrev pub bit_of : Event → ℕ
bit_of umount = 1
bit_of create = 2
bit_of unlink = 4
bit_of mkdir = 8
bit_of rename = 16
bit_of link = 32
bit_of close = 64
bit_of write = 128
bit_of fsync = 256
bit_of truncate = 512
bit_of full = 1024

abbrev pub has_event : ℕ → Event → Bool
has_event mask event = not (bit_and mask (bit_of event) == 0)

-- umount, fsync and full: the mask at mounting
abbrev pub default_mask : ℕ
default_mask = 1281

-- all events: the greatest mask
abbrev pub greatest_mask : ℕ
greatest_mask = 2047

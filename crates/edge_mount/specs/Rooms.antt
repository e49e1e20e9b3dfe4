-- The memory of a mount.
use Rattle.std.specs.Prelude.{◌≡◌, ℕ, length}
use Rattle.edge_mount.specs.declared.rooms.Rooms.{Rooms}

-- room for blocks of this size
pub record IsRoomFor (block_size : ℕ) (rooms : Rooms) : Type 0 where
  pub one : length rooms.one.items ≡ block_size
  pub two : length rooms.two.items ≡ block_size
  pub bitmap : rooms.bitmap ≡ block_size

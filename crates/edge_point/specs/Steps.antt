-- What the steps of a call leave of the parts of a store.
use Rattle.std.specs.Prelude.{◌≡◌, length}
use Rattle.edge_point.specs.declared.parts.Parts.{Parts}

-- All stays but the cache, the bitmap, and the bytes of the room for a block.
pub record KeepsRest {D : Type 0} (old new : Parts D) : Type 0 where
  pub master : new.master ≡ old.master
  pub place : new.place ≡ old.place
  pub root : new.root ≡ old.root
  pub points : new.points ≡ old.points
  pub numbers : new.numbers ≡ old.numbers
  pub next : new.next ≡ old.next
  pub live : new.live ≡ old.live
  pub torn : new.torn ≡ old.torn
  pub damage : new.damage ≡ old.damage
  pub block : length new.block.items ≡ length old.block.items

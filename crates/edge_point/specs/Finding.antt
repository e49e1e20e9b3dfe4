-- Finding the inode of a number, and reading it.
use Rattle.std.specs.Prelude.{◌≡◌, ◌≢◌, ℕ, Bool, true, false, List, Option, Some, None, Result, Ok, Err}
use Rattle.edge_base.specs.declared.damage.DamageKind.TheVariants as kinds
use Rattle.edge_base.specs.declared.damage.Damage.{Damage}
use Rattle.edge_base.specs.declared.geometry.Request.{Request}
use Rattle.edge_base.specs.declared.node.Head.{Head}
use Rattle.edge_base.specs.declared.node.NodeFault.{NodeFault}
use Rattle.edge_base.specs.layout.Bytes.{number_at, numbers_at}
use Rattle.edge_base.specs.layout.Places.{entries_of}
use Rattle.edge_base.specs.layout.Spelling.{SpellsInode}
use Rattle.edge_base.specs.outside.Faults.{TellsCause}
use Rattle.edge_disk.specs.declared.disk.Disk.{Ghosts}
use Rattle.edge_imap.specs.Reading.{OnlyReads}
use Rattle.edge_store.specs.Calls.{damage_of}
use Rattle.edge_store.specs.View.{Inode, whole, broken, kind_of_fault}
use Rattle.edge_store.specs.declared.fault.StoreFault.{StoreFault}
use Rattle.edge_store.specs.declared.fault.StoreFault.TheVariants.{Device, Damaged}
use Rattle.edge_point.specs.Ended.{damage_after}
use Rattle.edge_point.specs.Steps.{KeepsRest}
use Rattle.edge_point.specs.declared.inode.Found.{Found}
use Rattle.edge_point.specs.declared.parts.Parts.{Parts}

-- the damage that is kept where a call answers this
abbrev pub kept_after : {T : Type 0} → Option Damage → Result T StoreFault → Option Damage
kept_after kept (Ok v) = kept
kept_after kept (Err fault) = damage_after kept fault

-- A step of a call that only reads. A fault has not ended the store yet, and has its cause once its damage is kept.
pub record Sees {T D : Type 0} (g : Ghosts D) (old new : Parts D) (result : Result T StoreFault) : Type 0 where
  pub rest : KeepsRest old new
  pub imap : new.imap ≡ old.imap
  pub reads : OnlyReads g old.cache new.cache
  pub cause : TellsCause damage_of result (g.faults old.cache.disk) (g.faults new.cache.disk) old.damage (kept_after old.damage result)

-- it is the answer, where the disk has no fault
abbrev pub TellsOrFails : {T : Type 0} → Result T StoreFault → Result T StoreFault → Type 0
TellsOrFails answer result = result ≢ Err Device → result ≡ answer

-- the one used place of two, or none; both are damage of the first
abbrev pub place_told : ℕ → ℕ → Bool → Bool → Result (Option ℕ) StoreFault
place_told first second true true = Err (Damaged (record { block = first; kind = kinds.TwoPlaces }))
place_told first second true false = Ok (Some first)
place_told first second false true = Ok (Some second)
place_told first second false false = Ok None

-- the head that a block spells, or the damage of the block
abbrev pub head_told : ℕ → Result Head NodeFault → Result Head StoreFault
head_told b (Ok head) = Ok head
head_told b (Err fault) = Err (Damaged (record { block = b; kind = kind_of_fault fault }))

-- What is answered of an inode: its head and its place, with its entries in these bytes; or its damage.
abbrev pub TellsInode : Request → ℕ → List ℕ → Option Inode → Result (Option Found) StoreFault → Type 0
TellsInode g place bytes inode (Ok None) = inode ≡ None
TellsInode g place bytes inode (Ok (Some found)) = (inode ≡ Some (whole found.head (numbers_at 32 (entries_of g) bytes))) × (found.block ≡ place)
TellsInode g place bytes inode (Err Device) = Unit {0}
TellsInode g place bytes inode (Err (Damaged damage)) = inode ≡ Some (broken damage)

-- the bytes spell an inode with this head
abbrev pub SpellsHead : Request → Head → List ℕ → Type 0
SpellsHead g head bytes = SpellsInode g (number_at 8 8 bytes) head (numbers_at 32 (entries_of g) bytes) bytes

-- the head of an inode that was found
abbrev pub found_head : Option Found → Option Head
found_head None = None
found_head (Some found) = Some found.head

-- What the steps of a call that changes the working view do to the parts of a store.
use Rattle.std.specs.Prelude.{◌≡◌, ◌≢◌, ◌⊎◌, ℕ, ◌==◌, Bool, true, false, not, List, length, Option, Some, None, Result, IsTrue}
use Rattle.edge_base.specs.declared.geometry.Request.{Request}
use Rattle.edge_base.specs.declared.node.Head.{Head}
use Rattle.edge_base.specs.layout.Bitmap.{used_under}
use Rattle.edge_base.specs.layout.Places.{inode_place_of}
use Rattle.edge_base.specs.layout.Spelling.{SpellsInode}
use Rattle.edge_base.specs.outside.Faults.{TellsCause}
use Rattle.edge_cache.specs.Calls.{content_in}
use Rattle.edge_disk.specs.declared.disk.Disk.{Ghosts}
use Rattle.edge_image.specs.Image.{free_inodes_of}
use Rattle.edge_imap.specs.Bitmaps.{IsTied}
use Rattle.edge_nodes.specs.Writing.{IsSealed}
use Rattle.edge_store.specs.Calls.{damage_of}
use Rattle.edge_store.specs.Effects.{IsLeastFree}
use Rattle.edge_store.specs.View.{View, is_allocable, is_number, whole, with_inode}
use Rattle.edge_store.specs.declared.fault.StoreFault.{StoreFault}
use Rattle.edge_anchor.specs.Anchor.{HasBit}
use Rattle.edge_anchor.specs.Medium.{Follows, medium_of}
use Rattle.edge_point.specs.Finding.{kept_after}
use Rattle.edge_point.specs.Seen.{anchor_of}
use Rattle.edge_phase.specs.Spared.{Spares}
use Rattle.edge_point.specs.declared.parts.Parts.{Parts}

-- the places of the inode of number n
abbrev pub IsPlaceFor : Request → ℕ → ℕ → Type 0
IsPlaceFor g n b = (b ≡ inode_place_of g n false) ⊎ (b ≡ inode_place_of g n true)

-- block b alone
abbrev pub IsBlock : ℕ → ℕ → Type 0
IsBlock b k = k ≡ b

-- Of the two places of number n a list uses the one alone, the second or the first.
pub record LiesAt (g : Request) (used : ℕ → Bool) (n : ℕ) (second : Bool) : Type 0 where
  pub here : used (inode_place_of g n second) ≡ true
  pub not_there : used (inode_place_of g n (not second)) ≡ false

-- The inode of number n lies at one place alone, where it has these bytes, with their check word put right.
pub record IsPutAt (g : Request) (used : ℕ → Bool) (content : ℕ → List ℕ) (n : ℕ) (bytes : List ℕ) : Type 0 where
  pub second : Bool
  pub lies : LiesAt g used n second
  pub node : IsSealed bytes (content (inode_place_of g n second))

-- The block spells an inode with this head and these entries, once its check word is put right.
abbrev pub WillSpell : Request → Head → List ℕ → List ℕ → Type 0
WillSpell g head entries block = (sequence : ℕ) × ((node : List ℕ) → IsSealed block node → SpellsInode g sequence head entries node)

-- From v to w number n has come to have the inode that this block will spell.
abbrev pub InodeWritten : Request → View → View → ℕ → List ℕ → Type 0
InodeWritten g v w n block = (head : Head) (entries : List ℕ) → WillSpell g head entries block → w ≡ with_inode v n (Some (whole head entries))

-- of a view the least number without an inode, or none where each has one
abbrev pub IsFirstFree : Request → View → Option ℕ → Type 0
IsFirstFree g v None = (n : ℕ) → is_number g n ≡ true → v.inodes n ≢ None
IsFirstFree g v (Some n) = IsLeastFree g v n

-- whether a block is not the first place of a number
abbrev pub not_first : Request → ℕ → ℕ → Bool
not_first g n b = not (b == inode_place_of g n false)

module _ {D : Type 0} (g : Ghosts D) where
  -- the working list of the parts of a store, by blocks
  abbrev pub working_of : Parts D → ℕ → Bool
  working_of p = used_under p.master.geometry p.imap.working (content_in g p.cache)

  -- and the list of the last point
  abbrev pub committed_of : Parts D → ℕ → Bool
  committed_of p = used_under p.master.geometry p.imap.committed (content_in g p.cache)

  -- Steps that change no more than such blocks, in what the cache gives and in the working list, and imap nodes that the last point does
  -- not need. All else stays but the count of free numbers, the block to try next, and the bytes of the room for a block.
  pub record Changes (IsSuch : ℕ → Type 0) (old new : Parts D) : Type 0 where
    pub master : new.master ≡ old.master
    pub place : new.place ≡ old.place
    pub root : new.root ≡ old.root
    pub points : new.points ≡ old.points
    pub live : new.live ≡ old.live
    pub torn : new.torn ≡ old.torn
    pub damage : new.damage ≡ old.damage
    pub block : length new.block.items ≡ length old.block.items
    pub geometry : new.imap.geometry ≡ old.imap.geometry
    pub committed : new.imap.committed ≡ old.imap.committed
    pub origin : g.origin new.cache.disk ≡ g.origin old.cache.disk
    -- what the last point needs is spared, whatever is answered
    pub spares : IsTrue (g.origin old.cache.disk).shows → Follows (Spares (anchor_of g old)) (medium_of g old.cache) (medium_of g new.cache)
    pub tied : IsTrue (g.origin old.cache.disk).shows → IsTied new.imap (content_in g new.cache)
    pub used : IsTrue (g.origin old.cache.disk).shows → (k : ℕ) → HasBit old.master.geometry k → (IsSuch k → ⊥) → working_of new k ≡ working_of old k
    pub contents : IsTrue (g.origin old.cache.disk).shows → (k : ℕ) → HasBit old.master.geometry k → (IsSuch k → ⊥)
        → content_in g new.cache k ≡ content_in g old.cache k

  -- A step of such a call. A fault has not ended the store yet, and has its cause once its damage is kept.
  pub record TakesStep {T : Type 0} (IsSuch : ℕ → Type 0) (old new : Parts D) (result : Result T StoreFault) : Type 0 where
    pub changes : Changes IsSuch old new
    pub cause : TellsCause damage_of result (g.faults old.cache.disk) (g.faults new.cache.disk) old.damage (kept_after old.damage result)

  -- What is told of a live store beside its last point and the tie of its bitmap: the rest that a change has to put right.
  pub record HasWorking (p : Parts D) : Type 0 where
    pub numbers : p.numbers ≡ free_inodes_of p.master.geometry (working_of p)
    pub whole : (b : ℕ) → is_allocable p.master.geometry b ≡ true → length (content_in g p.cache b) ≡ p.master.geometry.block_size
    pub both_stay : (n : ℕ) → is_number p.master.geometry n ≡ true → committed_of p (inode_place_of p.master.geometry n false) ≡ true
        → committed_of p (inode_place_of p.master.geometry n true) ≡ true
        → (second : Bool) → working_of p (inode_place_of p.master.geometry n second) ≡ true

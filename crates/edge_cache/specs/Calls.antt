-- What the calls of a cache do. What its disk means is told by the members of its trait.
use Rattle.std.specs.Prelude.{◌≡◌, ◌≢◌, ◌<◌, ℕ, ◌-◌, List, [], ◌∷◌, Option, length, Contains, IsTrue}
use Rattle.edge_base.specs.outside.Below.{SameBelow}
use Rattle.edge_cache.specs.Cached.{Cached, content, IsClean, list_of, most_held, KeepsListed}
use Rattle.edge_cache.specs.Places.{kept_at}
use Rattle.edge_cache.specs.Given.{waiting, except, GivesUp, Writes}
use Rattle.edge_disk.specs.declared.disk.Disk.{Ghosts}

module _ {D : Type 0} (g : Ghosts D) where
  -- the bytes of a block as reads give them
  abbrev pub content_in : Cached D → ℕ → List ℕ
  content_in c b = content c.held (g.shown c.disk) b

  -- the content of each block is a whole block
  abbrev pub HasWholeBlocks : Cached D → Type 0
  HasWholeBlocks c = IsTrue (g.origin c.disk).shows → (k : ℕ) → k < (g.origin c.disk).blocks
      → length (content_in c k) ≡ (g.origin c.disk).block_size

  abbrev pub KeepsContents : Cached D → Cached D → Type 0
  KeepsContents old new = IsTrue (g.origin old.disk).shows → (k : ℕ) → content_in new k ≡ content_in old k

  -- the contents of blocks other than b stay
  abbrev pub KeepsOthers : ℕ → Cached D → Cached D → Type 0
  KeepsOthers b old new = IsTrue (g.origin old.disk).shows → (k : ℕ) → k ≢ b → content_in new k ≡ content_in old k

  -- from what waited in the old cache to this, some of it may have been written
  abbrev pub GivesTo : (ℕ → Option (List ℕ)) → Cached D → Cached D → Type 0
  GivesTo waits old new = GivesUp (g.origin old.disk).shows (waiting old.held) waits (g.shown old.disk) (g.shown new.disk)
      (g.may_hold old.disk) (g.may_hold new.disk) (g.is_sure old.disk) (g.is_sure new.disk)

  -- some changed buffers may have been written
  abbrev pub Gives : Cached D → Cached D → Type 0
  Gives old new = GivesTo (waiting new.held) old new

  -- A call that changes no content: a changed buffer may have been written whose block left the list.
  pub record OnlyGivesUp (old new : Cached D) : Type 0 where
    pub gives : Gives old new
    pub contents : KeepsContents old new
    pub buffers : KeepsListed old.held new.held

  -- A call that changes the content of block b alone, in its buffer. The rest is as above.
  pub record OnlyChanges (b : ℕ) (old new : Cached D) : Type 0 where
    pub gives : GivesTo (except b (waiting old.held) (waiting new.held)) old new
    pub contents : KeepsOthers b old new
    pub buffers : (k : ℕ) → k ≢ b → Contains (list_of new.held) k → waiting new.held k ≡ waiting old.held k

  -- A clean cache that is only read stays clean, and no candidate of its disk changes.
  pub record StaysClean (old new : Cached D) : Type 0 where
    pub clean : IsClean new.held
    pub candidates : SameBelow (g.may_hold old.disk) (g.may_hold new.disk) (g.is_sure old.disk) (g.is_sure new.disk)

  -- Of the disk no more has changed than a write of what waits of the block used longest ago, where the list is full.
  abbrev pub WritesLast : Cached D → Cached D → Type 0
  WritesLast old new = Writes (waiting (kept_at old.held (most_held - 1) ∷ [])) (g.shown old.disk) (g.shown new.disk)
      (g.may_hold old.disk) (g.may_hold new.disk) (g.is_sure old.disk) (g.is_sure new.disk)

-- What the calls of a bitmap do to the cache below it, and why they give up.
use Rattle.std.specs.Prelude.{◌≡◌, ◌≢◌, ◌<◌, ◌≤◌, ℕ, ◌+◌, ◌/◌, ◌%◌, ◌==◌, get_or, not, if◌then◌else◌, Bool, true, false, List, length, Result, Err, OnOk, OnErr, ◌⊎◌, IsTrue, is_ok}
use Rattle.std.specs.Int.{bit_at}
use Rattle.edge_base.specs.declared.damage.Damage.{Damage}
use Rattle.edge_base.specs.declared.damage.DamageKind.TheVariants as kinds
use Rattle.edge_base.specs.declared.geometry.Request.{Request}
use Rattle.edge_base.specs.layout.Bitmap.{live_place, bit_under}
use Rattle.edge_base.specs.layout.Bytes.{number_at, bit_in, signature_in}
use Rattle.edge_base.specs.layout.Places.{imap_nodes_of, is_inline_of, table_start_of}
use Rattle.edge_base.specs.layout.Spelling.{imap_in}
use Rattle.edge_base.specs.outside.Faults.{Rose}
use Rattle.edge_cache.specs.Blocks.{word_holds_in}
use Rattle.edge_cache.specs.Cached.{Cached, IsClean}
use Rattle.edge_cache.specs.Calls.{content_in, KeepsContents, KeepsOthers, Gives, GivesTo, StaysClean}
use Rattle.edge_cache.specs.Given.{waiting, except}
use Rattle.edge_disk.specs.declared.disk.Disk.{Ghosts}
use Rattle.edge_imap.specs.Bitmaps.{Bitmaps, ChangesUse, committed_use, working_use, IsNode, node_of, spare_place}
use Rattle.edge_imap.specs.declared.fault.ImapFault.{ImapFault}
use Rattle.edge_imap.specs.declared.fault.ImapFault.TheVariants.{Device, Damaged}
use Rattle.edge_imap.specs.declared.fault.LoadFault.{LoadFault}
use Rattle.edge_imap.specs.declared.fault.LoadFault.TheVariants as loads

-- no damage is answered
abbrev pub NeverDamaged : {T : Type 0} → Result T ImapFault → Type 0
NeverDamaged result = (d : Damage) → result ≢ Err (Damaged d)

module _ {D : Type 0} (g : Ghosts D) where
  -- Calls that change no content: changed buffers may have been written, and a clean cache stays clean.
  pub record OnlyReads (old new : Cached D) : Type 0 where
    pub origin : g.origin new.disk ≡ g.origin old.disk
    pub gives : Gives g old new
    pub contents : KeepsContents g old new
    pub clean : IsClean old.held → StaysClean g old new

  -- Calls that change the content of block b alone, in its buffer. Else they only read.
  pub record OnlyWrites (b : ℕ) (old new : Cached D) : Type 0 where
    pub origin : g.origin new.disk ≡ g.origin old.disk
    pub gives : GivesTo g (except b (waiting old.held) (waiting new.held)) old new
    pub contents : KeepsOthers g b old new

  -- a block was read whose check word differs: it spells no imap node
  pub record IsDamaged (may_be : ℕ → Type 0) (old new : Cached D) (d : Damage) : Type 0 where
    pub faults : g.faults new.disk ≡ g.faults old.disk
    pub block : may_be d.block
    pub kind : d.kind ≡ kinds.WrongWord
    pub differs : IsTrue (g.origin old.disk).shows → word_holds_in (content_in g old d.block) ≡ false

  -- Device comes where the disk's count of faults rose, and Damaged where a block that was read, one of those that may be, is damaged.
  pub record TellsWhy {T : Type 0} (may_be : ℕ → Type 0) (old new : Cached D) (result : Result T ImapFault) : Type 0 where
    pub later : g.faults old.disk ≤ g.faults new.disk
    pub passed : OnOk result (g.faults new.disk ≡ g.faults old.disk)
    pub device : result ≡ Err Device → Rose (g.faults old.disk) (g.faults new.disk)
    pub damaged : (d : Damage) → result ≡ Err (Damaged d) → IsDamaged may_be old new d

  -- pair i is the first whose live node spells none
  pub record IsFirstBad (request : Request) (roots : List ℕ) (c : Cached D) (i : ℕ) : Type 0 where
    pub in_range : i < imap_nodes_of request
    pub spells_none : is_ok (imap_in request i (content_in g c (live_place request roots i))) ≡ false
    pub before : (j : ℕ) → j < i → is_ok (imap_in request j (content_in g c (live_place request roots j))) ≡ true

  -- one live node is read: Node comes where its block spells none
  pub record TellsNode {T : Type 0} (j : ℕ) (content : List ℕ) (request : Request) (old new : Cached D) (result : Result T LoadFault) : Type 0 where
    pub later : g.faults old.disk ≤ g.faults new.disk
    pub passed : OnOk result (g.faults new.disk ≡ g.faults old.disk)
    pub device : result ≡ Err loads.Device → Rose (g.faults old.disk) (g.faults new.disk)
    pub memory : result ≢ Err loads.Memory
    pub node : (i : ℕ) → result ≡ Err (loads.Node i) → i ≡ j
    pub read : (i : ℕ) → result ≡ Err (loads.Node i) → g.faults new.disk ≡ g.faults old.disk
    pub spells_none : IsTrue (g.origin old.disk).shows → OnErr result ((result ≡ Err loads.Device) ⊎ (is_ok (imap_in request j content) ≡ false))

  -- the same of a load, which answers Node where a node spells none
  pub record TellsLoad {T : Type 0} (request : Request) (roots : List ℕ) (old new : Cached D) (result : Result T LoadFault) : Type 0 where
    pub later : g.faults old.disk ≤ g.faults new.disk
    pub passed : OnOk result (g.faults new.disk ≡ g.faults old.disk)
    pub device : result ≡ Err loads.Device → Rose (g.faults old.disk) (g.faults new.disk)
    -- memory is taken before anything is read
    pub memory : result ≡ Err loads.Memory → new ≡ old
    -- each block was read, whatever the disk tells
    pub read : (i : ℕ) → result ≡ Err (loads.Node i) → g.faults new.disk ≡ g.faults old.disk
    pub in_range : (i : ℕ) → result ≡ Err (loads.Node i) → i < imap_nodes_of request
    pub node : (i : ℕ) → result ≡ Err (loads.Node i) → IsTrue (g.origin old.disk).shows → IsFirstBad request roots old i

  -- A bit of a node was changed. The node has its place that is not live in the last point, which alone was written.
  pub record TurnsNode (request : Request) (committed working_old working_new : List ℕ) (sequence bit : ℕ) (used : Bool) (old new : Cached D) : Type 0 where
    pub writes : OnlyWrites (spare_place request committed (node_of request bit)) old new
    pub place : bit_in 0 working_new (node_of request bit) ≡ not (bit_in 0 committed (node_of request bit))
    -- the other nodes keep their places
    pub places : (j : ℕ) → j ≢ node_of request bit → bit_in 0 working_new j ≡ bit_in 0 working_old j
    -- where it had not got its place before, it carries the sequence number
    pub first : IsTrue (g.origin old.disk).shows → bit_in 0 working_old (node_of request bit) ≡ bit_in 0 committed (node_of request bit)
        → number_at 8 8 (content_in g new (spare_place request committed (node_of request bit))) ≡ sequence
    -- and where it had, the number that it carries stays
    pub again : IsTrue (g.origin old.disk).shows → bit_in 0 working_old (node_of request bit) ≡ not (bit_in 0 committed (node_of request bit))
        → number_at 8 8 (content_in g new (live_place request working_new (node_of request bit)))
        ≡ number_at 8 8 (content_in g old (live_place request working_old (node_of request bit)))
    pub bits : IsTrue (g.origin old.disk).shows → (i : ℕ) → bit_under request working_new (content_in g new) i
        ≡ (if i == bit then used else bit_under request working_old (content_in g old) i)
    pub node : IsTrue (g.origin old.disk).shows → IsNode request (node_of request bit) (content_in g old (live_place request working_old (node_of request bit)))
        → IsNode request (node_of request bit) (content_in g new (live_place request working_new (node_of request bit)))

  -- The working list has this value at a bit, and the list of the last point is the same.
  pub record Sets (sequence bit : ℕ) (used : Bool) (m_old m_new : Bitmaps) (old new : Cached D) : Type 0 where
    pub working :
        IsTrue (g.origin old.disk).shows
        → ChangesUse m_old.geometry (table_start_of m_old.geometry + bit) used (working_use m_old (content_in g old)) (working_use m_new (content_in g new))
    pub committed : IsTrue (g.origin old.disk).shows → (b : ℕ) → committed_use m_new (content_in g new) b ≡ committed_use m_old (content_in g old) b
    -- of a bitmap in imap nodes the place that is not live in the last point may have been written, and no other block
    pub writes : is_inline_of m_old.geometry ≡ false → OnlyWrites (spare_place m_old.geometry m_old.committed (node_of m_old.geometry bit)) old new
    -- the other nodes keep their places
    pub places : is_inline_of m_old.geometry ≡ false → (j : ℕ) → j ≢ node_of m_old.geometry bit → bit_in 0 m_new.working j ≡ bit_in 0 m_old.working j
    -- the node carries the sequence number, where it got its place in this call
    pub sequence_is : IsTrue (g.origin old.disk).shows → is_inline_of m_old.geometry ≡ false
        → bit_in 0 m_new.working (node_of m_old.geometry bit) ≢ bit_in 0 m_old.working (node_of m_old.geometry bit)
        → number_at 8 8 (content_in g new (live_place m_old.geometry m_new.working (node_of m_old.geometry bit))) ≡ sequence
    -- and the number that it had, where it stays at its place
    pub sequence_stays : IsTrue (g.origin old.disk).shows → is_inline_of m_old.geometry ≡ false
        → bit_in 0 m_new.working (node_of m_old.geometry bit) ≡ bit_in 0 m_old.working (node_of m_old.geometry bit)
        → number_at 8 8 (content_in g new (live_place m_old.geometry m_new.working (node_of m_old.geometry bit)))
        ≡ number_at 8 8 (content_in g old (live_place m_old.geometry m_old.working (node_of m_old.geometry bit)))

-- Of the first n bits of an imap node one has changed, and its check word holds. Its sequence number may differ.
pub record ChangesBit (n at : ℕ) (used : Bool) (old new : List ℕ) : Type 0 where
  pub here : bit_in 16 new at ≡ used
  pub others : (k : ℕ) → k < n → k ≢ at → bit_in 16 new k ≡ bit_in 16 old k
  pub len : length new ≡ length old
  pub signature : signature_in new ≡ signature_in old
  pub word : word_holds_in new ≡ true

-- The same of bytes whose check word is not yet put right.
pub record ChangesCopy (at : ℕ) (used : Bool) (old new : List ℕ) : Type 0 where
  pub here : (bit_at (get_or new (16 + at / 8) 0) (at % 8) == 1) ≡ used
  pub others : (k : ℕ) → k < 8 → k ≢ at % 8 → (bit_at (get_or new (16 + at / 8) 0) k == 1) ≡ (bit_at (get_or old (16 + at / 8) 0) k == 1)
  pub bytes : (m : ℕ) → 16 ≤ m → m ≢ 16 + at / 8 → get_or new m 0 ≡ get_or old m 0
  pub signature : signature_in new ≡ signature_in old

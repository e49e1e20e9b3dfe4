-- Bytes that are given to a new block.
use Rattle.std.proofs.Common.{◌≡◌, ◌≤◌, ◌+◌, ℕ, not, Bool, true, false, List, length, Option, Some, None, Ok, Err, refl, sym, ap, ◌∙◌, subst, arith}
use Rattle.std.specs.Prelude.{IsTrue, is_some}
use Rattle.std.specs.Vec.{with_items}
use Rattle.std.proofs.lemmas.Bool.{and_parts, cases_eq}
use Rattle.edge_base.specs.declared.geometry.Request.{Request}
use Rattle.edge_base.specs.outside.Faults.{Rose}
use Rattle.edge_cache.specs.Blocks.{changed_by, marked, word_holds_in}
use Rattle.edge_cache.specs.Cached.{Cached}
use Rattle.edge_cache.specs.Calls.{OnlyChanges, OnlyGivesUp, content_in}
use Rattle.edge_cache.specs.Given.{or_shown, waiting}
use Rattle.edge_disk.specs.Disk.{Origin}
use Rattle.edge_disk.specs.declared.disk.Disk.{Ghosts}
use Rattle.edge_image.specs.View.{block_told, block_under}
use Rattle.edge_cache.proofs.SealLaws.{length_changed, put_at-whole}
use Rattle.edge_nodes.proofs.GeometryLaws.{block_long, limits}
use Rattle.edge_store.specs.Calls.{Called, KeepsPlaces, KeepsPoint, NeverDamaged}
use Rattle.edge_store.specs.State.{IsNew, Told}
use Rattle.edge_store.specs.View.{Block, View, is_allocable, is_used, with_block}
use Rattle.edge_store.proofs.ViewLaws.{with_block_here}
use Rattle.edge_store.specs.declared.fault.StoreFault.{StoreFault}
use Rattle.edge_store.specs.declared.fault.StoreFault.TheVariants.{Device}
use Rattle.edge_anchor.specs.Anchor.{HasBit}
use Rattle.edge_anchor.specs.Medium.{medium_of}
use Rattle.edge_anchor.proofs.CutLaws.{SureIsShown}
use Rattle.edge_anchor.proofs.PlaceLaws.{block_has_bit}
use Rattle.edge_anchor.proofs.PlacedLaws.{block_placed}
use Rattle.edge_imap.proofs.CallLaws.{reads_fault}
use Rattle.edge_point.specs.Changing.{Changes, IsBlock, committed_of, working_of}
use Rattle.edge_point.specs.Ended.{damage_after, ended}
use Rattle.edge_point.specs.Seen.{next_view, state_of, view_told}
use Rattle.edge_point.specs.Standing.{IsPoint}
use Rattle.edge_point.specs.Steps.{KeepsRest}
use Rattle.edge_point.specs.Uses.{BlockPut, UseSet}
use Rattle.edge_point.specs.declared.parts.Parts.{Parts}
use Rattle.edge_point.proofs.AnswerLaws.{LeavesStep}
use Rattle.edge_point.proofs.ChangeLaws.{passes_called, passes_keeps, passes_point}
use Rattle.edge_point.proofs.EndingLaws.{Leaves, leaves}
use Rattle.edge_point.proofs.FindLaws.{sees_failed}
use Rattle.edge_point.proofs.EndedLaws.{last_told, next_told}
use Rattle.edge_point.proofs.StepLaws.{changes_write, step_passed, wrote_used}
use Rattle.edge_point.proofs.WorkingLaws.{has_working_blocks, keeps_places, working_block}

not_true : (t : Bool) → not t ≡ true → t ≡ false
not_true true e = absurd (cc e)
not_true false e = refl

block_was : (g : Request) (bytes : List ℕ) (block : Block) → Some (block_told g bytes) ≡ Some block → block.bytes ≡ bytes
block_was g bytes block e = ap (λ (o : Option Block). bytes_of o) (sym e)
  where
    bytes_of : Option Block → List ℕ
    bytes_of None = bytes
    bytes_of (Some x) = x.bytes

told_was : (g : Request) (bytes : List ℕ) (block : Block) → Some (block_told g bytes) ≡ Some block → block ≡ block_told g block.bytes
told_was g bytes block e =
    let is : block_told g bytes ≡ block = cc e in
    sym is ∙ ap (block_told g) (sym (block_was g bytes block e))

module _ {D : Type 0} (g : Ghosts D) (p : Parts D) (b : ℕ) (may : is_allocable p.master.geometry b ≡ true) where
  -- a block that is used holds what the cache gives
  pub used_holds : IsTrue (g.origin p.cache.disk).shows → working_of g p b ≡ true
      → (state_of g p).working.blocks b ≡ Some (block_told p.master.geometry (content_in g p.cache b))
  used_holds shows on = ap (λ t. (view_told t (next_view g p)).blocks b) shows ∙ block_placed p.master.geometry (working_of g p) (content_in g p.cache) b may on

  module _ (is : IsPoint g p) (live : p.live ≡ true) where
    pub block_on : IsTrue (g.origin p.cache.disk).shows → (block : Block) → (state_of g p).working.blocks b ≡ Some block → working_of g p b ≡ true
    block_on shows block e = next_told g p is live shows b may ∙ ap is_some e

    pub block_held : IsTrue (g.origin p.cache.disk).shows → (block : Block) → (state_of g p).working.blocks b ≡ Some block
        → block.bytes ≡ content_in g p.cache b
    block_held shows block e = block_was p.master.geometry (content_in g p.cache b) block (sym (used_holds shows (block_on shows block e)) ∙ e)

    pub block_told_as : IsTrue (g.origin p.cache.disk).shows → (block : Block) → (state_of g p).working.blocks b ≡ Some block
        → block ≡ block_told p.master.geometry block.bytes
    block_told_as shows block e = told_was p.master.geometry (content_in g p.cache b) block (sym (used_holds shows (block_on shows block e)) ∙ e)

    -- its check word is that of what the cache gives
    pub block_word : (block : Block) → (state_of g p).working.blocks b ≡ Some block → IsTrue (g.origin p.cache.disk).shows
        → IsTrue (word_holds_in (content_in g p.cache b)) → IsTrue (word_holds_in block.bytes)
    block_word block e shows word = ap word_holds_in (block_held shows block e) ∙ word

    -- a change leaves it as long as it was
    pub put_long : (at : ℕ) (bytes : List ℕ) (node : Bool) → at + length bytes ≤ p.master.geometry.block_size → IsTrue (g.origin p.cache.disk).shows
        → length (changed_by at bytes node (content_in g p.cache b)) ≡ p.master.geometry.block_size
    put_long at bytes node inside shows =
        let whole = (is.told live shows).whole b may in
        let long = (block_long p.master.geometry.block_size (limits p.master.geometry is.geometry).block_size).least in
        length_changed at bytes node (content_in g p.cache b) (omega arith) (omega arith) ∙ whole

    pub new_unused : IsNew (state_of g p) b → IsTrue (g.origin p.cache.disk).shows → committed_of g p b ≡ false
    new_unused new shows =
        let both = and_parts (is_used (state_of g p).working b) (not (is_used (state_of g p).committed b)) (new shows) in
        last_told g p is live shows b may ∙ not_true _ both.1

-- ---- one block has changed

module _ {D : Type 0} (g : Ghosts D) (p q : Parts D) (is : IsPoint g p) (live : p.live ≡ true) (b : ℕ) (may : is_allocable p.master.geometry b ≡ true)
    (c : Changes g (IsBlock b) p q) where
  abbrev request : Request
  request = p.master.geometry

  allocable_alone : (k : ℕ) → IsBlock b k → is_allocable request k ≡ true
  allocable_alone k e = ap (is_allocable request) e ∙ may

  pub one_point : (IsTrue (g.origin p.cache.disk).shows → q.numbers ≡ p.numbers)
      → (IsTrue (g.origin p.cache.disk).shows → length (content_in g q.cache b) ≡ request.block_size) → IsPoint g q
  one_point numbers long = passes_point g (IsBlock b) p q is live c (λ shows. has_working_blocks g (IsBlock b) p q is live c allocable_alone shows
      (numbers shows)
      (λ k. cases_eq k b) (λ k e. ap (λ (x : ℕ). length (content_in g q.cache x)) e ∙ long shows))

  pub one_keeps : KeepsPoint (state_of g p) (state_of g q)
  one_keeps = passes_keeps g (IsBlock b) p q is live c

  pub one_places : KeepsPlaces (state_of g p) (state_of g q)
  one_places = keeps_places g (IsBlock b) p q is live c allocable_alone

  pub one_called : {T : Type 0} (v : T) → g.faults q.cache.disk ≡ g.faults p.cache.disk → IsPoint g q → SureIsShown (medium_of g q.cache)
      → Called (state_of g p) (state_of g q) (Ok v)
  one_called v passed point law = passes_called g (IsBlock b) p q is live v (step_passed g (IsBlock b) p q v c passed) point law

  pub one_working : IsTrue (g.origin p.cache.disk).shows
      → (state_of g q).working ≡ with_block (state_of g p).working b ((state_of g q).working.blocks b)
  one_working shows =
      let there = block_under request (working_of g q) (content_in g q.cache) b in
      let e = working_block g (IsBlock b) p q is live c allocable_alone b may (λ k same. same) shows in
      let here : (state_of g q).working.blocks b ≡ there = ap (λ (w : View). w.blocks b) e ∙ with_block_here (state_of g p).working b there in
      e ∙ ap (with_block (state_of g p).working b) (sym here)

  pub same_use : q.master.geometry ≡ request
  same_use = λ t. (c.master t).geometry

  pub still_may : is_allocable q.master.geometry b ≡ true
  still_may = subst (λ (r : Request). is_allocable r b ≡ true) (sym same_use) may

  -- where it was given bytes
  pub one_put : (make : List ℕ → List ℕ) → Told (state_of g p) → working_of g q b ≡ working_of g p b
      → content_in g q.cache b ≡ make (content_in g p.cache b)
      → BlockPut request (state_of g p).working (state_of g q).working b make
  one_put make shows used bytes = record {
    working = one_working shows;
    was = block_told_as g p b may is live shows;
    bytes = λ block e.
        let on = used ∙ block_on g p b may is live shows block e in
        used_holds g q b still_may (ap (λ (o : Origin). o.shows) c.origin ∙ shows) on
        ∙ (λ t. Some (block_told (same_use t) ((bytes ∙ ap make (sym (block_held g p b may is live shows block e))) t)));
  }

  -- where its use was set
  pub one_set : (value : Bool) → IsPoint g q → q.live ≡ true → Told (state_of g p) → working_of g q b ≡ value
      → UseSet (state_of g p).working (state_of g q).working b value
  one_set value point alive shows here = record {
    working = one_working shows;
    here = sym (next_told g q point alive (ap (λ (o : Origin). o.shows) c.origin ∙ shows) b still_may) ∙ here;
  }

module _ {D : Type 0} (g : Ghosts D) (p q : Parts D) (is : IsPoint g p) (live : p.live ≡ true) (b : ℕ) (may : is_allocable p.master.geometry b ≡ true)
    (new : IsNew (state_of g p) b) (rest : KeepsRest p q) (imap : q.imap ≡ p.imap) (origin : g.origin q.cache.disk ≡ g.origin p.cache.disk)
    (only : OnlyChanges g b p.cache q.cache) where
  abbrev has : HasBit p.master.geometry b
  has = block_has_bit p.master.geometry (limits p.master.geometry is.geometry) b may

  pub wrote : Changes g (IsBlock b) p q
  wrote = changes_write g (IsBlock b) p q is live rest b has refl imap origin only (new_unused g p b may is live new)

  pub wrote_same : IsTrue (g.origin p.cache.disk).shows → working_of g q b ≡ working_of g p b
  wrote_same shows = wrote_used g (IsBlock b) p q is live rest b has refl imap origin only (new_unused g p b may is live new) shows b has

  pub wrote_leaves : {T : Type 0} (v : T) → g.faults q.cache.disk ≡ g.faults p.cache.disk → SureIsShown (medium_of g q.cache)
      → (IsTrue (g.origin p.cache.disk).shows → length (content_in g q.cache b) ≡ p.master.geometry.block_size) → LeavesStep g p q (Ok v)
  wrote_leaves v passed law long =
      let stands = one_point g p q is live b may wrote (λ shows. rest.numbers) long in
      record { stands = stands; called = one_called g p q is live b may wrote v passed stands law; point = one_keeps g p q is live b may wrote }

  pub wrote_places : KeepsPlaces (state_of g p) (state_of g q)
  wrote_places = one_places g p q is live b may wrote

  pub wrote_put : (make : List ℕ → List ℕ) → Told (state_of g p) → content_in g q.cache b ≡ make (content_in g p.cache b)
      → BlockPut p.master.geometry (state_of g p).working (state_of g q).working b make
  wrote_put make shows bytes = one_put g p q is live b may wrote make shows (wrote_same shows) bytes

-- a write that failed has ended the store
pub failed_leaves : {D : Type 0} (g : Ghosts D) (p m : Parts D) → IsPoint g p → p.live ≡ true → KeepsRest p m → m.imap ≡ p.imap
    → g.origin m.cache.disk ≡ g.origin p.cache.disk → OnlyGivesUp g p.cache m.cache → g.faults p.cache.disk ≤ g.faults m.cache.disk
    → Rose (g.faults p.cache.disk) (g.faults m.cache.disk) → SureIsShown (medium_of g m.cache) → (e : Parts D) (r : StoreFault) → r ≡ Device
    → e ≡ ended m (damage_after m.damage Device) → Leaves {T = Unit {0}} g p e (Err r)
failed_leaves g p m is live rest imap origin only later rose law e r answer ends = leaves {T = Unit {0}} g p m is live law e (Err Device) (Err r)
    (sees_failed g {T = Unit {0}} p m Device rest imap (reads_fault g p.cache m.cache origin only) later (rose, refl))
    (ap (λ (x : StoreFault). Err x) answer) ends

device_never : (r : StoreFault) → r ≡ Device → NeverDamaged {T = Unit {0}} (Err r)
device_never r answer d h = cc (answer, h)

-- all but the cache and the room stays
pub rest_room : {D : Type 0} (p : Parts D) (cache : Cached D) (room : List ℕ) → length (with_items p.block room).items ≡ length p.block.items
    → KeepsRest p (record p { cache = cache; block = with_items p.block room })
rest_room p cache room len = record {
  master = refl;
  place = refl;
  root = refl;
  points = refl;
  numbers = refl;
  next = refl;
  live = refl;
  torn = refl;
  damage = refl;
  block = len;
}

-- what waits of a block is what the cache gives
pub waits_given : {D : Type 0} (g : Ghosts D) (c : Cached D) (b : ℕ) (bytes : List ℕ) → waiting c.held b ≡ Some bytes → content_in g c b ≡ bytes
waits_given g c b bytes e = ap (λ w. or_shown w (g.shown c.disk b)) e

-- the room was written whole
pub room_given : {D : Type 0} (g : Ghosts D) (p : Parts D) → IsPoint g p → p.live ≡ true → (b : ℕ) → is_allocable p.master.geometry b ≡ true
    → IsTrue (g.origin p.cache.disk).shows → (now room : List ℕ) (node : Bool) (c : Cached D)
    → waiting c.held b ≡ Some (changed_by 0 now node (content_in g p.cache b))
    → now ≡ room → length room ≡ p.master.geometry.block_size → content_in g c b ≡ marked node room
room_given g p is live b may shows now room node c waits e len = waits_given g c b (changed_by 0 now node (content_in g p.cache b)) waits
    ∙ ap (marked node) (put_at-whole now (content_in g p.cache b) (ap length e ∙ len ∙ sym ((is.told live shows).whole b may)) ∙ e)

-- A free block, and the use of a block.
use Rattle.std.proofs.Common.{◌≡◌, inl, inr, ℕ, ◌+◌, ◌-◌, ◌&&◌, not, Bool, true, false, List, Some, refl, sym, ap, ◌∙◌, subst, arith}
use Rattle.std.specs.Prelude.{IsTrue, Ok, Err, Result, IfOk, is_some}
use Rattle.edge_base.specs.declared.geometry.Request.{Request}
use Rattle.edge_base.specs.layout.Bitmap.{bit_under}
use Rattle.edge_base.specs.layout.Places.{table_start_of}
use Rattle.edge_base.specs.outside.Below.{Origin}
use Rattle.edge_cache.specs.Calls.{content_in}
use Rattle.edge_disk.specs.declared.disk.Disk.{Ghosts}
use Rattle.edge_image.specs.View.{block_told}
use Rattle.edge_imap.specs.Bitmaps.{is_free_bit}
use Rattle.edge_imap.specs.Search.{IsNext}
use Rattle.edge_store.specs.Calls.{KeepsPoint}
use Rattle.edge_store.specs.State.{IsNew, StoreState, Told}
use Rattle.edge_store.specs.Told.{Copies, Takes}
use Rattle.edge_store.specs.Effects.{Copied, Taken}
use Rattle.edge_store.specs.View.{View, is_allocable, is_new, is_spot, is_used}
use Rattle.edge_store.specs.declared.fault.StoreFault.{StoreFault}
use Rattle.edge_store.specs.declared.spot.Spot.{Spot}
use Rattle.edge_base.specs.declared.form.Form.{Form}
use Rattle.edge_point.specs.Seen.{state_of}
use Rattle.edge_point.specs.Standing.{IsPoint}
use Rattle.edge_point.specs.Uses.{BlockEmptied, BlockPut, CopyPut, EmptiesBlock, HoldsBytes, HoldsSpot, IsFreeIn, IsUnused, PutsBlock, PutsCopy, SetsUse}
use Rattle.edge_point.specs.declared.parts.Parts.{Parts}
use Rattle.edge_point.proofs.AnswerLaws.{told_mid}
use Rattle.edge_point.proofs.EffectLaws.{none_of}
use Rattle.edge_point.proofs.EndedLaws.{last_told, next_told}

-- a number that a search answers passes
pub next_passes : (test : ℕ → Bool) (first end from i : ℕ) → IsNext test first end from i → test i ≡ true
next_passes test first end from i (inl least) = least.passes
next_passes test first end from i (inr both) = both.1.passes

not_both : (s t : Bool) → (not s && not t) ≡ true → (s ≡ false) × (t ≡ false)
not_both true t e = absurd (cc e)
not_both false true e = absurd (cc e)
not_both false false e = (refl, refl)

module _ {D : Type 0} (g : Ghosts D) (p : Parts D) (is : IsPoint g p) where
  -- a free bit is that of a block which neither list uses
  pub bit_unused : (bit : ℕ) → is_free_bit p.imap (content_in g p.cache) bit ≡ true → IsUnused g p (table_start_of p.master.geometry + bit)
  bit_unused bit free =
      let request = p.master.geometry in
      let content = content_in g p.cache in
      let at : table_start_of request + bit - table_start_of request ≡ bit = omega arith in
      let both = not_both (bit_under request p.imap.committed content bit) (bit_under request p.imap.working content bit)
      (subst (λ (r : Request). (not (bit_under r p.imap.committed content bit) && not (bit_under r p.imap.working content bit)) ≡ true) is.imap free) in
      record {
        committed = ap (bit_under request p.imap.committed content) at ∙ both.0;
        working = ap (bit_under request p.imap.working content) at ∙ both.1;
      }

  module _ (live : p.live ≡ true) where
    pub unused_free : (b : ℕ) → is_allocable p.master.geometry b ≡ true → (IsTrue (g.origin p.cache.disk).shows → IsUnused g p b) → IsFreeIn (state_of g p) b
    unused_free b may unused told = record {
      allocable = may;
      unused = none_of _ (sym (next_told g p is live told b may) ∙ (unused told).working);
      uncommitted = none_of _ (sym (last_told g p is live told b may) ∙ (unused told).committed);
    }

    pub answer_free : (r : Result ℕ StoreFault) → IfOk r (λ b. is_allocable p.master.geometry b ≡ true)
        → (IsTrue (g.origin p.cache.disk).shows → IfOk r (IsUnused g p)) → IfOk r (IsFreeIn (state_of g p))
    answer_free (Ok b) may unused = unused_free b may unused
    answer_free (Err f) may unused = tt

-- ---- states

module _ (old mid : StoreState) (origin : mid.origin ≡ old.origin) where
  told_back : Told mid → Told old
  told_back = told_mid mid old (sym origin)

  -- a free block whose use was set is new
  pub new_of : (b : ℕ) → KeepsPoint old mid → IsFreeIn old b → SetsUse old mid b true → IsNew mid b
  new_of b point free sets told =
      let before = told_back told in
      let off : is_used mid.committed b ≡ false = ap (λ (v : View). is_used v b) point.committed ∙ ap is_some (free before).uncommitted in
      λ t. (sets before).here t && not (off t)

  pub emptied_from : (new : StoreState) (form : Form) (owner b : ℕ) → EmptiesBlock mid new form owner b → Told old
      → BlockEmptied old.origin.request mid.working new.working form owner b
  emptied_from new form owner b empties told = subst (λ (o : Origin). BlockEmptied o.request mid.working new.working form owner b) origin
      (empties (told_mid old mid origin told))

  pub copied_from : (new : StoreState) (b : ℕ) (node : Bool) (from : List ℕ) → PutsCopy mid new b node from → Told old
      → CopyPut old.origin.request mid.working new.working b node from
  copied_from new b node from copies told = subst (λ (o : Origin). CopyPut o.request mid.working new.working b node from) origin
      (copies (told_mid old mid origin told))

  pub put_from : (new : StoreState) (b : ℕ) (make : List ℕ → List ℕ) → mid.working ≡ old.working → PutsBlock mid new b make → Told old
      → BlockPut old.origin.request old.working new.working b make
  put_from new b make same puts told = subst (λ (o : Origin). BlockPut o.request old.working new.working b make) origin
      (subst (λ (v : View). BlockPut mid.origin.request v new.working b make) same (puts (told_mid old mid origin told)))

  module _ (new : StoreState) (committed : mid.committed ≡ old.committed) (working : mid.working ≡ old.working) where
    pub takes_from : (form : Form) (owner b : ℕ) → Takes mid new form owner b → Takes old new form owner b
    takes_from form owner b takes told = subst (λ (o : Origin). Taken o.request old.committed old.working new.working form owner b) origin
        (subst (λ (c : View). Taken mid.origin.request c old.working new.working form owner b) committed
        (subst (λ (v : View). Taken mid.origin.request mid.committed v new.working form owner b) working (takes (told_mid old mid origin told))))

    pub copies_from : (s : Spot) (b : ℕ) → Copies mid new s b → Copies old new s b
    copies_from s b copies told = subst (λ (o : Origin). Copied o.request old.committed old.working new.working s.form s.block b) origin
        (subst (λ (c : View). Copied mid.origin.request c old.working new.working s.form s.block b) committed
        (subst (λ (v : View). Copied mid.origin.request mid.committed v new.working s.form s.block b) working (copies (told_mid old mid origin told))))

    pub spot_mid : (s : Spot) → HoldsSpot old s → HoldsSpot mid s
    spot_mid s holds told = ap (λ (v : View). is_spot v s.form s.owner s.block) working ∙ holds (told_back told)

    pub free_mid : (b : ℕ) → IsFreeIn old b → IsFreeIn mid b
    free_mid b free told =
        let f = free (told_back told) in
        record {
          allocable = ap (λ (o : Origin). is_allocable o.request b) origin ∙ f.allocable;
          unused = ap (λ (v : View). v.blocks b) working ∙ f.unused;
          uncommitted = ap (λ (v : View). v.blocks b) committed ∙ f.uncommitted;
        }

    pub bytes_mid : (b : ℕ) (bytes : List ℕ) → HoldsBytes old b bytes → HoldsBytes mid b bytes
    bytes_mid b bytes holds told on =
        let at = holds (told_back told) (sym (ap (λ (v : View). is_used v b) working) ∙ on) in
        ap (λ (v : View). v.blocks b) working ∙ at ∙ ap (λ (o : Origin). Some (block_told o.request bytes)) (sym origin)

    pub new_mid : (b : ℕ) → IsNew old b → IsNew mid b
    new_mid b is told = (λ t. is_new (committed t) (working t) b) ∙ is (told_back told)

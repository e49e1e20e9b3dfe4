-- One call of a store after another.
use Rattle.std.proofs.Common.{◌≡◌, ℕ, true, Option, sym, ap, ◌∙◌, subst}
use Rattle.std.specs.Prelude.{Result, Ok}
use Rattle.edge_base.specs.declared.damage.Damage.{Damage}
use Rattle.edge_base.specs.outside.Faults.{TellsCause}
use Rattle.edge_cache.specs.Cached.{Cached}
use Rattle.edge_disk.specs.declared.disk.Disk.{Ghosts}
use Rattle.edge_imap.specs.Reading.{OnlyReads}
use Rattle.edge_imap.proofs.CallLaws.{reads_same}
use Rattle.edge_store.specs.Calls.{Called, KeepsPoint, KeepsPlacesBut, KeepsWorking, damage_of}
use Rattle.edge_store.specs.State.{StoreState}
use Rattle.edge_store.specs.declared.fault.StoreFault.{StoreFault}
use Rattle.edge_anchor.specs.Medium.{medium_of}
use Rattle.edge_anchor.proofs.CutLaws.{SureIsShown}
use Rattle.edge_point.specs.Seen.{state_of}
use Rattle.edge_point.specs.Standing.{IsPoint}
use Rattle.edge_point.specs.Steps.{KeepsRest}
use Rattle.edge_point.specs.declared.parts.Parts.{Parts}
use Rattle.edge_point.proofs.ReadLaws.{seen, seen_called, seen_is, seen_keeps, seen_point, seen_works}

module _ (a b c : StoreState) where
  pub called_after : {S T : Type 0} (v : S) (r : Result T StoreFault) → Called a b (Ok v) → Called b c r → Called a c r
  called_after v r x y = record {
    origin = y.origin ∙ x.origin;
    live = y.live;
    cause = subst (λ (n : ℕ). TellsCause damage_of r n c.faults a.damage c.damage) x.cause.passed.0
        (subst (λ (d : Option Damage). TellsCause damage_of r b.faults c.faults d c.damage) x.cause.passed.1 y.cause);
    guarded = λ was. y.guarded (x.guarded was);
  }

  pub point_after : KeepsPoint a b → KeepsPoint b c → KeepsPoint a c
  point_after x y = record { committed = y.committed ∙ x.committed; points = y.points ∙ x.points; under_way = y.under_way ∙ x.under_way }

  pub places_after : (n : ℕ) → KeepsWorking a b → KeepsPlacesBut b c n → KeepsPlacesBut a c n
  places_after n x y = λ k far. y k far ∙ (λ t. x.places t k)

-- ---- other bytes in the room for a block

module _ {D : Type 0} (g : Ghosts D) (m n : Parts D) (is : IsPoint g m) (live : m.live ≡ true) (rest : KeepsRest m n) (imap : n.imap ≡ m.imap) (cache : n.cache ≡ m.cache) where
  room_reads : OnlyReads g m.cache n.cache
  room_reads = subst (OnlyReads g m.cache) (sym cache) (reads_same g m.cache)

  room_is : seen g m n m.live m.damage ≡ n
  room_is = seen_is g m n rest imap

  pub room_point : IsPoint g n
  room_point = subst (IsPoint g) room_is (seen_point g m n is live room_reads rest.block m.live m.damage is.undamaged)

  pub room_called : SureIsShown (medium_of g n.cache) → Called {T = Unit {0}} (state_of g m) (state_of g n) (Ok tt)
  room_called law = subst (λ (x : Parts D). Called {T = Unit {0}} (state_of g m) (state_of g x) (Ok tt)) room_is
      (seen_called g m n is live room_reads tt rest.block law (ap (λ (x : Cached D). g.faults x.disk) cache))

  pub room_keeps : KeepsPoint (state_of g m) (state_of g n)
  room_keeps = subst (λ (x : Parts D). KeepsPoint (state_of g m) (state_of g x)) room_is (seen_keeps g m n is live room_reads m.live m.damage)

  pub room_works : KeepsWorking (state_of g m) (state_of g n)
  room_works = subst (λ (x : Parts D). KeepsWorking (state_of g m) (state_of g x)) room_is (seen_works g m n is live room_reads m.live m.damage)

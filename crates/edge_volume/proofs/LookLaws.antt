-- Parts that only read, one after the other.
use Rattle.std.proofs.Common.{◌≡◌, ◌∙◌, true, refl, sym, ap, subst, Option, None}
use Rattle.std.specs.Prelude.{Result, Ok, Err, OnOk}
use Rattle.edge_base.specs.outside.Below.{SameBelow}
use Rattle.edge_store.specs.declared.fault.StoreFault.{StoreFault}
use Rattle.edge_store.specs.declared.store.Store.{Ghosts as StoreGhosts}
use Rattle.edge_store.specs.Calls.{Called, KeepsPoint, KeepsWorking, Reads, TellsDamage}
use Rattle.edge_store.specs.State.{StoreState, Told}
use Rattle.edge_store.proofs.CallLaws.{same_below_twice}
use Rattle.edge_model.specs.State.{State}
use Rattle.edge_volume.specs.Stopped.{fault_in}
use Rattle.edge_volume.specs.Volume.{StoreStands}
use Rattle.edge_volume.specs.Parts.{EndsBy, KeepsBelow, Looks}
use Rattle.edge_volume.proofs.FaultLaws.{ends_of_call, ends_none, ends_on}

pub point_on : (a b c : StoreState) → KeepsPoint a b → KeepsPoint b c → KeepsPoint a c
point_on a b c one two = record {
  committed = two.committed ∙ one.committed;
  points = two.points ∙ one.points;
  under_way = two.under_way ∙ one.under_way;
}

pub working_on : (a b c : StoreState) → KeepsWorking a b → KeepsWorking b c → KeepsWorking a c
working_on a b c one two = record { working = two.working ∙ one.working; places = two.places ∙ one.places }

-- a store whose views are those of another stands for the same states
pub stands_still : (a b : StoreState) (s : State) → EndsBy None a b → KeepsPoint a b → KeepsWorking a b → StoreStands a s → StoreStands b s
stands_still a b s ends point working stands = record {
  told = ap (λ o. o.tells) ends.origin ∙ stands.told;
  whole = point.under_way ∙ stands.whole;
  views = rw (ends.origin, point.committed, working.working) stands.views;
}

module _ {A : Type 0} (S : StoreGhosts A) where
  -- the clauses of a call that only reads
  pub looks_of_call : {T : Type 0} (old new : A) (r : Result T StoreFault) → Called (S.state old) (S.state new) r → KeepsPoint (S.state old) (S.state new)
      → Reads (S.state old) (S.state new) r → (S.is_clean old → SameBelow (S.may_hold old) (S.may_hold new) (S.is_sure old) (S.is_sure new))
      → (S.is_clean old → OnOk r (S.is_clean new)) → (Told (S.state old) → TellsDamage (S.state new) r) → Looks S (fault_in r) old new
  looks_of_call old new (Ok x) called point reads below clean tells =
      record { ends = ends_of_call _ _ (Ok x) called tells; point = point; reads = λ e. reads; below = record { candidates = below; clean = λ h e. clean h } }
  looks_of_call old new (Err fault) called point reads below clean tells =
      record { ends = ends_of_call _ _ (Err fault) called tells; point = point; reads = λ e. absurd (cc); below = record { candidates = below; clean = λ h e. absurd (cc) } }

  pub below_same : (fault : Option StoreFault) (x y : A) → y ≡ x → KeepsBelow S fault x y
  below_same fault x y same = subst (KeepsBelow S fault x) (sym same) (record {
    candidates = λ h. record { adds_none = λ k c held. held; stays = λ k c held. held; sure = λ k held. held; sure_stays = λ k held. held };
    clean = λ h e. h;
  })

  pub below_on : (fault : Option StoreFault) (a b c : A) → KeepsBelow S None a b → KeepsBelow S fault b c → KeepsBelow S fault a c
  below_on fault a b c one two = record {
    candidates = λ h. same_below_twice (one.candidates h) (two.candidates (one.clean h refl));
    clean = λ h e. two.clean (one.clean h refl) e;
  }

  pub looks_none : (x : A) → (S.state x).live ≡ true → Looks S None x x
  looks_none x live = record {
    ends = ends_none (S.state x) live;
    point = record { committed = refl; points = refl; under_way = refl };
    reads = λ e. record { working = refl; places = refl };
    below = below_same None x x refl;
  }

  pub looks_on : (fault : Option StoreFault) (a b c : A) → Looks S None a b → Looks S fault b c → Looks S fault a c
  looks_on fault a b c one two = record {
    ends = ends_on fault _ _ _ one.ends two.ends;
    point = point_on _ _ _ one.point two.point;
    reads = λ e. working_on _ _ _ (one.reads refl) (two.reads e);
    below = below_on fault a b c one.below two.below;
  }

  pub looks_stands : (a b : A) (s : State) → Looks S None a b → StoreStands (S.state a) s → StoreStands (S.state b) s
  looks_stands a b s looks stands = stands_still _ _ s looks.ends looks.point (looks.reads refl) stands

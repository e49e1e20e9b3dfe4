-- What space, mask, set_mask and transact do, at each of their ends.
use Rattle.std.proofs.Common.{◌≡◌, ◌∙◌, ℕ, ◌<◌, ◌≤◌, nat_lt, inl, inr, true, false, List, refl, sym, ap, Some, None}
use Rattle.std.specs.Prelude.{Ok, Err}
use Rattle.std.proofs.lemmas.Bool.{cases_lt, lt-ltb, le-ltb}
use Rattle.edge_base.specs.commands.Events as event
use Rattle.edge_base.specs.declared.refusal.Refusal.TheVariants as refusal
use Rattle.edge_base.specs.layout.Places.{allocable_of}
use Rattle.edge_store.specs.declared.fault.StoreFault.{StoreFault}
use Rattle.edge_store.specs.View.{free_now, free_after, free_inodes}
use Rattle.edge_model.specs.declared.command.Answer.TheVariants as a
use Rattle.edge_model.specs.declared.command.Room.{Room}
use Rattle.edge_model.specs.Asked as command
use Rattle.edge_model.specs.State.{State, keeps}
use Rattle.edge_model.specs.Step.{room_of}
use Rattle.edge_stands.proofs.SpaceLaws.{space_is}
use Rattle.edge_volume.specs.declared.stop.Stop.TheVariants.{Refused, Fault}
use Rattle.edge_volume.specs.Volume.{VolumeState, StoreStands, VolumeStands, request_of, opens_of, point_after, trees_after}
use Rattle.edge_volume.specs.Parts.{EndsBy, TakesUpTo, Comes}
use Rattle.edge_volume.specs.Did.{Did}
use Rattle.edge_volume.proofs.DidLaws.{mask_kept, did_refused_here, did_here, did_pointed, did_pointed_fault}
use Rattle.edge_calls.proofs.PlanLaws.{set_mask_refused, set_mask_plan}

-- ---- space

-- what the store tells of its room
pub record TellsRoom (v : VolumeState) (r : Room) : Type 0 where
  pub now : r.now ≡ free_now (request_of v) v.store.committed v.store.working
  pub after : r.after ≡ free_after (request_of v) v.store.working
  pub blocks : r.blocks ≡ allocable_of (request_of v)
  pub free_inodes : r.free_inodes ≡ free_inodes (request_of v) v.store.working
  pub inodes : r.inodes ≡ (request_of v).inodes

room_is : (v : VolumeState) (r : Room) (s : State) → VolumeStands v s → TellsRoom v r → command.room r ≡ room_of (request_of v) s
room_is v r s stands tells =
    sym (space_is (request_of v) v.store.committed v.store.working s stands.store.views
    ∙ rw (sym tells.now, sym tells.after, sym tells.blocks, sym tells.free_inodes, sym tells.inodes) refl)

pub space_told : (v : VolumeState) (out : List ℕ) (r : Room) → v.store.live ≡ true → ((s : State) → VolumeStands v s → TellsRoom v r) → Did command.space (Ok (a.Space r)) v v out
space_told v out r live tells =
    did_here command.space v v out (a.Space r) live refl
    (mask_kept command.space (Ok (a.Space r)) v v refl (λ answer. tt) refl) (record { after = refl; stays = λ x. refl }) tt
    (λ bytes s stands. record {
      done = keeps s (room_of (request_of v) s);
      is = refl;
      none = refl;
      point = refl;
      told = ap Ok (room_is v r s stands (tells s stands));
      mask = stands.mask;
      descriptors = stands.descriptors;
    })

-- ---- the mask

pub mask_told : (v : VolumeState) (out : List ℕ) → v.store.live ≡ true → Did command.mask (Ok (a.Number v.mask)) v v out
mask_told v out live =
    did_here command.mask v v out (a.Number v.mask) live refl
    (record { after = λ e. refl; told = refl; stays = λ e. refl }) (record { after = refl; stays = λ x. refl }) tt
    (λ bytes s stands. record {
      done = keeps s (command.number s.mask);
      is = refl;
      none = refl;
      point = refl;
      told = ap (λ (m : ℕ). Ok (command.number m)) stands.mask;
      mask = stands.mask;
      descriptors = stands.descriptors;
    })

not_past : (events : ℕ) → (event.greatest_mask < events → false ≡ true) → events ≤ event.greatest_mask
not_past events f = elim (cases_lt event.greatest_mask events) [
  | inl past ↦ absurd (let e : false ≡ true = f past in cc)
  | inr within ↦ within
]

module _ (events : ℕ) (v : VolumeState) (out : List ℕ) (live : v.store.live ≡ true) where
  pub mask_refused : event.greatest_mask < events → Did (command.set_mask events) (Err (Refused refusal.Invalid)) v v out
  mask_refused past =
      let is : nat_lt event.greatest_mask events ≡ true = lt-ltb _ _ past in
      did_refused_here (command.set_mask events) v v out refusal.Invalid live refl refl refl
      (record { after = λ e. rw is refl; told = rw is refl; stays = λ e. refl }) (record { after = refl; stays = λ x. refl })
      (λ bytes s stands. set_mask_refused (request_of v) s events is)

  pub mask_set : (mask : ℕ) → mask ≡ events → (event.greatest_mask < events → false ≡ true) → Did (command.set_mask events) (Ok a.Done) v (record v { mask = mask }) out
  mask_set mask new within =
      let is : nat_lt event.greatest_mask events ≡ false = le-ltb _ _ (not_past events within) in
      did_here (command.set_mask events) v (record v { mask = mask }) out a.Done live refl
      (record { after = λ e. rw is new; told = rw is refl; stays = λ e. absurd (cc) }) (record { after = refl; stays = λ x. refl }) tt
      (λ bytes s stands. record {
        done = record (keeps s command.done) { mask = events };
        is = set_mask_plan (request_of v) s events is;
        none = refl;
        point = refl;
        told = refl;
        mask = new;
        descriptors = stands.descriptors;
      })

-- ---- transact

module _ (old new : VolumeState) (out : List ℕ) (live : old.store.live ≡ true) (mask : new.mask ≡ old.mask) (are : new.descriptors ≡ old.descriptors) where
  opens_same : opens_of new ≡ opens_of old
  opens_same = ap (λ (ds : _). opens_of (record old { descriptors = ds })) are

  pub transacted : EndsBy None old.store new.store → TakesUpTo 1 old.store new.store
      → ((z : State) → StoreStands old.store z → Comes None old.store new.store z (point_after true z) (trees_after true z))
      → Did command.transact (Ok a.Done) old new out
  transacted ends most comes =
      did_pointed command.transact old new out live true a.Done ends most comes
      (mask_kept command.transact (Ok a.Done) old new refl (λ answer. tt) mask) (record { after = opens_same; stays = λ x. opens_same }) tt
      (λ bytes s stands. record {
        done = record (keeps s command.done) { point = true };
        is = refl;
        none = refl;
        point = refl;
        told = refl;
        mask = mask ∙ stands.mask;
        descriptors = are ∙ stands.descriptors;
      })

  pub transact_ended : (fault : StoreFault) → EndsBy (Some fault) old.store new.store → TakesUpTo 1 old.store new.store
      → ((z : State) → StoreStands old.store z → Comes (Some fault) old.store new.store z (point_after true z) (trees_after true z))
      → Did command.transact (Err (Fault fault)) old new out
  transact_ended fault ends most comes =
      did_pointed_fault command.transact old new out live true fault ends most comes mask (λ x. opens_same)
      (λ s stands. (record (keeps s command.done) { point = true }, refl, refl, refl))

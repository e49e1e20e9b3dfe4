-- What a command answers and where it leads, by its plan: how parts of it meet the step.
use Rattle.std.proofs.Common.{◌≡◌, ◌∙◌, ℕ, ◌++◌, Bool, true, false, List, [], ◌∷◌, refl, sym, ap, append-nil, Option, Some, None}
use Rattle.std.specs.Prelude.{Ok, Err}
use Rattle.edge_base.specs.declared.geometry.Request.{Request}
use Rattle.edge_base.specs.declared.refusal.Refusal.{Refusal}
use Rattle.edge_base.specs.declared.refusal.Refusal.TheVariants.{NoSpace}
use Rattle.edge_store.specs.declared.fault.StoreFault.{StoreFault}
use Rattle.edge_store.specs.Calls.{KeepsPoint}
use Rattle.edge_model.specs.declared.command.Answer.{Answer}
use Rattle.edge_model.specs.Asked.{Asked, Reply, told_by}
use Rattle.edge_model.specs.Laws.{last_or}
use Rattle.edge_model.specs.State.{State, Plan, Edit, Outcome, Judged, judged, judged_by, judged_full, finished, outcome_of, planned, ended, refused, point_taken, fits, gains_by_point}
use Rattle.edge_model.specs.Step.{plan, step}
use Rattle.edge_model.specs.Tree.{Tree}
use Rattle.edge_volume.specs.declared.stop.Stop.TheVariants.{Refused, Fault}
use Rattle.edge_volume.specs.Volume.{VolumeState, StoreStands, point_after, trees_after}
use Rattle.edge_volume.specs.Parts.{EndsBy, IsOfNoDamage, Comes}
use Rattle.edge_volume.specs.Did.{Meets}
use Rattle.edge_volume.proofs.ComeLaws.{comes_stopped, comes_on, comes_ended}

-- ---- the step by its plan

pub step_refused : (g : Request) (s : State) (c : Asked) (e : Refusal) → plan g s c ≡ Err e → step g s c ≡ refused s e []
unfolding step outcome_of
step_refused g s c e is = ap (outcome_of g s) is

ended_is : (due : Bool) (s : State) (reply : Reply) (points : List Tree)
    → ended due s reply points ≡ record { state = point_after due s; answer = Ok reply; points = points ++ trees_after due s }
ended_is true s reply points = refl
ended_is false s reply points = ap (λ (ts : List Tree). let o : Outcome = record { state = s; answer = Ok reply; points = ts } in o) (sym (append-nil points))

-- the outcome of a plan that is carried out from a state
pub carried_from : Request → State → Plan → List Tree → Outcome
carried_from g s p points = record {
  state = point_after p.point (planned g s p);
  answer = Ok p.reply;
  points = points ++ trees_after p.point (planned g s p);
}

pub step_kept : (g : Request) (s : State) (c : Asked) (p : Plan) → plan g s c ≡ Ok p → p.edit ≡ None → step g s c ≡ carried_from g s p []
unfolding step outcome_of judged carried_from
step_kept g s c p is none =
    ap (outcome_of g s) is ∙ ap (λ (e : Option Edit). let j = judged g s e in finished j.fits g p j) none ∙ ended_is p.point (planned g s p) p.reply []

step_judged : (g : Request) (s : State) (c : Asked) (p : Plan) (j : Judged) → plan g s c ≡ Ok p → judged g s p.edit ≡ j → step g s c ≡ finished j.fits g p j
unfolding step outcome_of
step_judged g s c p j is judge = ap (outcome_of g s) is ∙ ap (λ (k : Judged). finished k.fits g p k) judge

pub step_fits : (g : Request) (s : State) (c : Asked) (p : Plan) (j : Judged) → plan g s c ≡ Ok p → judged g s p.edit ≡ j → j.fits ≡ true
    → step g s c ≡ carried_from g j.state p j.points
unfolding carried_from
step_fits g s c p j is judge fit =
    step_judged g s c p j is judge ∙ ap (λ (b : Bool). finished b g p j) fit ∙ ended_is p.point (planned g j.state p) p.reply j.points

pub step_unfit : (g : Request) (s : State) (c : Asked) (p : Plan) (j : Judged) → plan g s c ≡ Ok p → judged g s p.edit ≡ j → j.fits ≡ false
    → step g s c ≡ refused j.state NoSpace j.points
step_unfit g s c p j is judge unfit = step_judged g s c p j is judge ∙ ap (λ (b : Bool). finished b g p j) unfit

-- ---- a fault

-- Whatever the outcome, its first points were those of the parts that the fault ended.
pub meets_fault : (fault : StoreFault) (o : Outcome) (old new : VolumeState) (s m : State) (out : List ℕ) (ps qs : List Tree)
    → o.points ≡ ps ++ qs → Comes (Some fault) old.store new.store s m ps → Meets o (Err (Fault fault)) old new s out
meets_fault fault o old new s m out ps qs are c = record {
  comes = rw are (comes_stopped fault old.store new.store s m o.state ps qs c);
  answer = tt;
  mask = λ e. absurd (cc);
  descriptors = λ e. absurd (cc);
}

-- before any point
pub meets_ended : (fault : StoreFault) (o : Outcome) (old new : VolumeState) (s : State) (out : List ℕ) → IsOfNoDamage (Some fault)
    → EndsBy (Some fault) old.store new.store → KeepsPoint old.store new.store → StoreStands old.store s → Meets o (Err (Fault fault)) old new s out
meets_ended fault o old new s out undamaged ends point stands =
    meets_fault fault o old new s s out [] o.points refl (comes_ended fault old.store new.store s s [] undamaged ends point stands)

-- ---- a command that changes no tree

pub meets_refused : (g : Request) (s : State) (c : Asked) (e : Refusal) (old new : VolumeState) (out : List ℕ) → plan g s c ≡ Err e
    → Comes None old.store new.store s s [] → new.mask ≡ s.mask → new.descriptors ≡ s.descriptors
    → Meets (step g s c) (Err (Refused e)) old new s out
meets_refused g s c e old new out is comes mask descriptors = rw (step_refused g s c e is) (record {
  comes = comes;
  answer = refl;
  mask = λ n. mask;
  descriptors = λ n. descriptors;
})

after_mask : (due : Bool) (s : State) → (point_after due s).mask ≡ s.mask
after_mask true s = refl
after_mask false s = refl

after_descriptors : (due : Bool) (s : State) → (point_after due s).descriptors ≡ s.descriptors
after_descriptors true s = refl
after_descriptors false s = refl

module _ (g : Request) (s : State) (p : Plan) (old new : VolumeState) (out : List ℕ) (points : List Tree) where
  carried_meets : (answer : Answer) (z : State) → Comes None old.store new.store z (point_after p.point (planned g s p)) (points ++ trees_after p.point (planned g s p))
      → told_by answer out ≡ Ok p.reply → new.mask ≡ p.mask → new.descriptors ≡ p.descriptors → Meets (carried_from g s p points) (Ok answer) old new z out
  unfolding carried_from
  carried_meets answer z comes told mask descriptors = record {
    comes = comes;
    answer = told;
    mask = λ n. mask ∙ sym (after_mask p.point (planned g s p));
    descriptors = λ n. descriptors ∙ sym (after_descriptors p.point (planned g s p));
  }

pub meets_kept : (g : Request) (s : State) (c : Asked) (p : Plan) (answer : Answer) (old new : VolumeState) (out : List ℕ) → plan g s c ≡ Ok p → p.edit ≡ None
    → Comes None old.store new.store s (point_after p.point (planned g s p)) (trees_after p.point (planned g s p))
    → told_by answer out ≡ Ok p.reply → new.mask ≡ p.mask → new.descriptors ≡ p.descriptors → Meets (step g s c) (Ok answer) old new s out
meets_kept g s c p answer old new out is none comes told mask descriptors =
    rw (step_kept g s c p is none) (carried_meets g s p old new out [] answer s comes told mask descriptors)

-- a fault in the point at its end
pub meets_kept_fault : (g : Request) (s m : State) (c : Asked) (p : Plan) (fault : StoreFault) (old new : VolumeState) (out : List ℕ) → plan g s c ≡ Ok p
    → p.edit ≡ None → Comes (Some fault) old.store new.store s m (trees_after p.point (planned g s p)) → Meets (step g s c) (Err (Fault fault)) old new s out
unfolding carried_from
meets_kept_fault g s m c p fault old new out is none comes =
    rw (step_kept g s c p is none)
    (meets_fault fault (carried_from g s p []) old new s m out (trees_after p.point (planned g s p)) [] (sym (append-nil (trees_after p.point (planned g s p)))) comes)

-- ---- a command that changes the tree, by how its room was judged

judged_last_by : (b : Bool) (g : Request) (s : State) (e : Edit) → last_or s.committed (judged_full b g s e).points ≡ (judged_full b g s e).state.committed
judged_last_by true g s e = refl
judged_last_by false g s e = refl

judged_last_fits : (b : Bool) (g : Request) (s : State) (e : Edit) → last_or s.committed (judged_by b g s e).points ≡ (judged_by b g s e).state.committed
judged_last_fits true g s e = refl
judged_last_fits false g s e = judged_last_by (gains_by_point g s) g s e

-- the last of the points that the judgement took is the committed tree
pub judged_last : (g : Request) (s : State) (e : Option Edit) → last_or s.committed (judged g s e).points ≡ (judged g s e).state.committed
unfolding judged
judged_last g s None = refl
judged_last g s (Some e) = judged_last_fits (fits g s e) g s e

-- the judgement leaves a state, or takes a point of it
pub data IsJudgedFrom (s : State) : State → List Tree → Type 0 where
  as_it_was : IsJudgedFrom s s []
  with_point : IsJudgedFrom s (point_taken s) (s.tree ∷ [])

judged_from_by : (b : Bool) (g : Request) (s : State) (e : Edit) → IsJudgedFrom s (judged_full b g s e).state (judged_full b g s e).points
judged_from_by true g s e = with_point
judged_from_by false g s e = as_it_was

judged_from_fits : (b : Bool) (g : Request) (s : State) (e : Edit) → IsJudgedFrom s (judged_by b g s e).state (judged_by b g s e).points
judged_from_fits true g s e = as_it_was
judged_from_fits false g s e = judged_from_by (gains_by_point g s) g s e

pub judged_from : (g : Request) (s : State) (e : Option Edit) → IsJudgedFrom s (judged g s e).state (judged g s e).points
unfolding judged
judged_from g s None = as_it_was
judged_from g s (Some e) = judged_from_fits (fits g s e) g s e

judged_mask : (s r : State) (points : List Tree) → IsJudgedFrom s r points → r.mask ≡ s.mask
judged_mask s _ _ as_it_was = refl
judged_mask s _ _ with_point = refl

judged_descriptors : (s r : State) (points : List Tree) → IsJudgedFrom s r points → r.descriptors ≡ s.descriptors
judged_descriptors s _ _ as_it_was = refl
judged_descriptors s _ _ with_point = refl

module _ (g : Request) (s : State) (c : Asked) (p : Plan) (is : plan g s c ≡ Ok p) (old mid new : VolumeState) (out : List ℕ) where
  -- no room
  pub meets_unfit : (judged g s p.edit).fits ≡ false → Comes None old.store new.store s (judged g s p.edit).state (judged g s p.edit).points
      → new.mask ≡ s.mask → new.descriptors ≡ s.descriptors → Meets (step g s c) (Err (Refused NoSpace)) old new s out
  meets_unfit unfit comes mask descriptors = rw (step_unfit g s c p (judged g s p.edit) is refl unfit) (record {
    comes = comes;
    answer = refl;
    mask = λ n. mask ∙ sym (judged_mask s _ _ (judged_from g s p.edit));
    descriptors = λ n. descriptors ∙ sym (judged_descriptors s _ _ (judged_from g s p.edit));
  })

  -- carried out, with its point if there is one
  pub meets_fit : (answer : Answer) → (judged g s p.edit).fits ≡ true → Comes None old.store mid.store s (judged g s p.edit).state (judged g s p.edit).points
      → Comes None mid.store new.store (judged g s p.edit).state (point_after p.point (planned g (judged g s p.edit).state p)) (trees_after p.point (planned g (judged g s p.edit).state p))
      → told_by answer out ≡ Ok p.reply → new.mask ≡ p.mask → new.descriptors ≡ p.descriptors → Meets (step g s c) (Ok answer) old new s out
  meets_fit answer fit judge carry told mask descriptors =
      let j = judged g s p.edit in
      rw (step_fits g s c p j is refl fit)
      (carried_meets g j.state p old new out j.points answer s
      (comes_on None old.store mid.store new.store s j.state _ j.points (trees_after p.point (planned g j.state p)) judge (judged_last g s p.edit) carry) told mask descriptors)

  -- a fault as it is carried out, or in the point at its end
  pub meets_fit_fault : (m : State) (fault : StoreFault) → (judged g s p.edit).fits ≡ true → Comes None old.store mid.store s (judged g s p.edit).state (judged g s p.edit).points
      → Comes (Some fault) mid.store new.store (judged g s p.edit).state m (trees_after p.point (planned g (judged g s p.edit).state p))
      → Meets (step g s c) (Err (Fault fault)) old new s out
  unfolding carried_from
  meets_fit_fault m fault fit judge carry =
      let j = judged g s p.edit in
      let ts = trees_after p.point (planned g j.state p) in
      rw (step_fits g s c p j is refl fit)
      (meets_fault fault (carried_from g j.state p j.points) old new s m out (j.points ++ ts) [] (sym (append-nil (j.points ++ ts)))
      (comes_on (Some fault) old.store mid.store new.store s j.state m j.points ts judge (judged_last g s p.edit) carry))

-- a fault as its room was judged
pub meets_judging_fault : (g : Request) (s m : State) (c : Asked) (p : Plan) (fault : StoreFault) (old new : VolumeState) (out : List ℕ) → plan g s c ≡ Ok p
    → Comes (Some fault) old.store new.store s m (judged g s p.edit).points → Meets (step g s c) (Err (Fault fault)) old new s out
unfolding carried_from
meets_judging_fault g s m c p fault old new out is comes = by (judged g s p.edit).fits refl
  where
    by : (b : Bool) → (judged g s p.edit).fits ≡ b → Meets (step g s c) (Err (Fault fault)) old new s out
    by true fit = rw (step_fits g s c p (judged g s p.edit) is refl fit) (meets_fault fault _ old new s m out (judged g s p.edit).points _ refl comes)
    by false unfit = rw (step_unfit g s c p (judged g s p.edit) is refl unfit)
        (meets_fault fault _ old new s m out (judged g s p.edit).points [] (sym (append-nil (judged g s p.edit).points)) comes)

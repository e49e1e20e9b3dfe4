-- Laws of every step.
use Rattle.std.proofs.Common.{Ok, ◌≡◌, ◌↔◌, ⊎_elim, subst, ◌∙◌, ◌≤◌, Bool, true, false, List, [], ◌∷◌, ◌++◌, length, Option, Some, None, Result, Err, ◌⊎◌, inl, inr, refl, sym, arith}
use Rattle.std.proofs.lemmas.Bool.{false≢true}
use Rattle.edge_base.specs.declared.geometry.Request.{Request}
use Rattle.edge_base.specs.declared.refusal.Refusal.{Refusal}
use Rattle.edge_base.specs.declared.refusal.Refusal.TheVariants.{NoSpace}
use Rattle.edge_model.specs.Asked.{Asked, Reply}
use Rattle.edge_model.specs.Tree.{Tree}
use Rattle.edge_model.specs.State.{State, Edit, Plan, Outcome, point_taken, fits, gains_by_point, edited, planned, ended, judged, judged_by, judged_full, finished, outcome_of}
use Rattle.edge_model.specs.Step.{step, plan}
use Rattle.edge_model.specs.Laws.{last_or}
use Rattle.edge_model.proofs.Outcomes.{each_outcome, finish}

-- ---- refusals

abbrev Keeps : Request → State → Outcome → Type 0
Keeps g s o = (e : Refusal) → o.answer ≡ Err e → ((o.state ≡ s) × (o.points ≡ [])) ⊎ ((o.state ≡ point_taken s) × (o.points ≡ s.tree ∷ []) × (e ≡ NoSpace) × (gains_by_point g s ≡ true))

ended_answers : (g : Request) (s : State) (point : Bool) (z : State) (reply : Reply) (points : List Tree) → Keeps g s (ended point z reply points)
ended_answers g s true z reply points e h = absurd (cc)
ended_answers g s false z reply points e h = absurd (cc)

refused_for : (a b : Refusal) (r : Result Reply Refusal) → r ≡ Err a → r ≡ Err b → b ≡ a
refused_for a b r was h = cc

-- a refused command keeps the state, but for a point on a full volume
pub refused_keeps : (g : Request) (s : State) (c : Asked) (e : Refusal) → (step g s c).answer ≡ Err e
    → (((step g s c).state ≡ s) × ((step g s c).points ≡ [])) ⊎ (((step g s c).state ≡ point_taken s) × ((step g s c).points ≡ s.tree ∷ []) × (e ≡ NoSpace) × (gains_by_point g s ≡ true))
unfolding step
refused_keeps g s c = each_outcome g s (plan g s c) (Keeps g s) (record {
  by_plan = λ e was r h. inl (refl, refl);
  without_edit = λ p was none. ended_answers g s p.point (planned g s p) p.reply [];
  fitting = λ p e was has fit. ended_answers g s p.point (planned g s p) p.reply [];
  full = λ p e was has tight none r h. inl (refl, refl);
  fitting_then = λ p e was has tight gains fit. ended_answers g s p.point (planned g (point_taken s) p) p.reply (s.tree ∷ []);
  full_then = λ p e was has tight gains still r h. inr (refl, refl, refused_for NoSpace r (Err NoSpace) refl h, gains);
})

-- ---- points

abbrev HasFew : State → Outcome → Type 0
HasFew s o = (length o.points ≤ 2) × (last_or s.committed o.points ≡ o.state.committed)

pub last-append : (t : Tree) (xs ys : List Tree) → last_or t (xs ++ ys) ≡ last_or (last_or t xs) ys
last-append t [] ys = refl
last-append t (x ∷ xs) ys = last-append x xs ys

ended_few : (s z : State) (point : Bool) (reply : Reply) (points : List Tree) → length points ≤ 1 → last_or s.committed points ≡ z.committed → HasFew s (ended point z reply points)
ended_few s z true reply points few last = (few_more points few, last-append s.committed points (z.tree ∷ []))
  where
    few_more : (xs : List Tree) → length xs ≤ 1 → length (xs ++ z.tree ∷ []) ≤ 2
    few_more [] h = omega arith
    few_more (x ∷ []) h = omega arith
    few_more (x ∷ y ∷ xs) h = absurd (omega arith)
ended_few s z false reply points few last = (omega arith, last)

committed_stays : (g : Request) (s : State) (p : Plan) → (planned g s p).committed ≡ s.committed
committed_stays g s p = by_edit p.edit
  where
    by_edit : (o : Option Edit) → (edited g s o).committed ≡ s.committed
    by_edit None = refl
    by_edit (Some e) = refl

-- at most two points; the last tree of them is the committed one
pub few_points : (g : Request) (s : State) (c : Asked) → (length (step g s c).points ≤ 2) × (last_or s.committed (step g s c).points ≡ (step g s c).state.committed)
unfolding step
few_points g s c = each_outcome g s (plan g s c) (HasFew s) (record {
  by_plan = λ e was. (omega arith, refl);
  without_edit = λ p was none. ended_few s (planned g s p) p.point p.reply [] (omega arith) (sym (committed_stays g s p));
  fitting = λ p e was has fit. ended_few s (planned g s p) p.point p.reply [] (omega arith) (sym (committed_stays g s p));
  full = λ p e was has tight none. (omega arith, refl);
  fitting_then = λ p e was has tight gains fit. ended_few s (planned g (point_taken s) p) p.point p.reply (s.tree ∷ []) (omega arith) (sym (committed_stays g (point_taken s) p));
  full_then = λ p e was has tight gains still. (omega arith, refl);
})

-- ---- room

abbrev IsFull : Request → State → Edit → Type 0
IsFull g s e = (fits g s e ≡ false) × ((gains_by_point g s ≡ false) ⊎ (fits g (point_taken s) e ≡ false))

abbrev IsExact : Request → State → Edit → Outcome → Type 0
IsExact g s e o = (o.answer ≡ Err NoSpace) ↔ IsFull g s e

ended_exact : (g : Request) (s : State) (e : Edit) (point : Bool) (z : State) (reply : Reply) (points : List Tree) → (IsFull g s e → ⊥) → IsExact g s e (ended point z reply points)
ended_exact g s e true z reply points room = ((λ h. absurd (cc)), (λ h. absurd (room h)))
ended_exact g s e false z reply points room = ((λ h. absurd (cc)), (λ h. absurd (room h)))

full_at_once : (g : Request) (s : State) (e : Edit) → fits g s e ≡ true → IsFull g s e → ⊥
full_at_once g s e fit h = false≢true (sym h.0 ∙ fit)

full_then : (g : Request) (s : State) (e : Edit) → gains_by_point g s ≡ true → fits g (point_taken s) e ≡ true → IsFull g s e → ⊥
full_then g s e gains fit h = ⊎_elim (λ none. false≢true (sym none ∙ gains)) (λ tight. false≢true (sym tight ∙ fit)) h.1

judged_exact : (g : Request) (s : State) (p : Plan) (e : Edit) → IsExact g s e (finish g p (judged_by (fits g s e) g s e))
judged_exact g s p e =
    elim (fits g s e) as (λ b. fits g s e ≡ b → IsExact g s e (finish g p (judged_by b g s e))) [
      | true ↦ λ fit. ended_exact g s e p.point (planned g s p) p.reply [] (full_at_once g s e fit)
      | false ↦ λ tight. elim (gains_by_point g s) as (λ b. gains_by_point g s ≡ b → IsExact g s e (finish g p (judged_full b g s e))) [
        | true ↦ λ gains. elim (fits g (point_taken s) e) as (λ b. fits g (point_taken s) e ≡ b → IsExact g s e (finished b g p (record { state = point_taken s; points = s.tree ∷ []; fits = b }))) [
          | true ↦ λ fit. ended_exact g s e p.point (planned g (point_taken s) p) p.reply (s.tree ∷ []) (full_then g s e gains fit)
          | false ↦ λ still. ((λ _. (tight, inr still)), (λ _. refl))
        ] refl
        | false ↦ λ none. ((λ _. (tight, inl none)), (λ _. refl))
      ] refl
    ] refl

edit_exact : (g : Request) (s : State) (p : Plan) (e : Edit) → p.edit ≡ Some e → IsExact g s e (finish g p (judged g s p.edit))
unfolding judged
edit_exact g s p e has = subst (λ o. IsExact g s e (finish g p (judged g s o))) (sym has) (judged_exact g s p e)

-- a change is refused for want of room exactly where it does not fit, also after the point that may be taken for it
pub room_is_exact : (g : Request) (s : State) (c : Asked) (p : Plan) (e : Edit) → plan g s c ≡ Ok p → p.edit ≡ Some e
    → ((step g s c).answer ≡ Err NoSpace) ↔ ((fits g s e ≡ false) × ((gains_by_point g s ≡ false) ⊎ (fits g (point_taken s) e ≡ false)))
unfolding step outcome_of
room_is_exact g s c p e was has = subst (λ r. IsExact g s e (outcome_of g s r)) (sym was) (edit_exact g s p e has)

-- the refusal of a plan is the answer
pub refusal_is_answer : (g : Request) (s : State) (c : Asked) (e : Refusal) → plan g s c ≡ Err e → (step g s c).answer ≡ Err e
unfolding step outcome_of
refusal_is_answer g s c e was = subst (λ r. (outcome_of g s r).answer ≡ Err e) (sym was) refl

-- How a command may end, case by case.
use Rattle.std.proofs.Common.{◌≡◌, Bool, true, false, List, [], ◌∷◌, Some, None, Result, Ok, Err, refl}
use Rattle.edge_base.specs.declared.geometry.Request.{Request}
use Rattle.edge_base.specs.declared.refusal.Refusal.{Refusal}
use Rattle.edge_base.specs.declared.refusal.Refusal.TheVariants.{NoSpace}
use Rattle.edge_model.specs.Asked.{Reply}
use Rattle.edge_model.specs.Tree.{Tree}
use Rattle.edge_model.specs.State.{State, Edit, Plan, Outcome, Judged, point_taken, fits, gains_by_point, planned, ended, carried_out, refused, judged, judged_by, judged_full, finished, outcome_of}

-- the ends of a command: what P must hold of for P to hold of each outcome
pub record Ends (g : Request) (s : State) (r : Result Plan Refusal) (P : Outcome → Type 0) : Type 0 where
  pub by_plan : (e : Refusal) → r ≡ Err e → P (refused s e [])
  pub without_edit : (p : Plan) → r ≡ Ok p → p.edit ≡ None → P (carried_out g s p [])
  pub fitting : (p : Plan) (e : Edit) → r ≡ Ok p → p.edit ≡ Some e → fits g s e ≡ true → P (carried_out g s p [])
  pub full : (p : Plan) (e : Edit) → r ≡ Ok p → p.edit ≡ Some e → fits g s e ≡ false → gains_by_point g s ≡ false → P (refused s NoSpace [])
  pub fitting_then : (p : Plan) (e : Edit) → r ≡ Ok p → p.edit ≡ Some e → fits g s e ≡ false → gains_by_point g s ≡ true → fits g (point_taken s) e ≡ true → P (carried_out g (point_taken s) p (s.tree ∷ []))
  pub full_then : (p : Plan) (e : Edit) → r ≡ Ok p → p.edit ≡ Some e → fits g s e ≡ false → gains_by_point g s ≡ true → fits g (point_taken s) e ≡ false → P (refused (point_taken s) NoSpace (s.tree ∷ []))

abbrev pub finish : Request → Plan → Judged → Outcome
finish g p j = finished j.fits g p j

edit_ends : (g : Request) (s : State) (r : Result Plan Refusal) (P : Outcome → Type 0) → Ends g s r P → (p : Plan) (e : Edit) → r ≡ Ok p → p.edit ≡ Some e → P (finish g p (judged_by (fits g s e) g s e))
edit_ends g s r P ends p e planned has =
    elim (fits g s e) as (λ b. fits g s e ≡ b → P (finish g p (judged_by b g s e))) [
      | true ↦ λ fit. ends.fitting p e planned has fit
      | false ↦ λ tight. elim (gains_by_point g s) as (λ b. gains_by_point g s ≡ b → P (finish g p (judged_full b g s e))) [
        | true ↦ λ gains. elim (fits g (point_taken s) e) as (λ b. fits g (point_taken s) e ≡ b → P (finished b g p (record { state = point_taken s; points = s.tree ∷ []; fits = b }))) [
          | true ↦ λ fit. ends.fitting_then p e planned has tight gains fit
          | false ↦ λ still. ends.full_then p e planned has tight gains still
        ] refl
        | false ↦ λ none. ends.full p e planned has tight none
      ] refl
    ] refl

plan_ends : (g : Request) (s : State) (r : Result Plan Refusal) (P : Outcome → Type 0) → Ends g s r P → (p : Plan) → r ≡ Ok p → P (finish g p (judged g s p.edit))
unfolding judged
plan_ends g s r P ends p planned =
    elim p.edit as (λ o. p.edit ≡ o → P (finish g p (judged g s o))) [
      | None ↦ λ none. ends.without_edit p planned none
      | Some e ↦ λ has. edit_ends g s r P ends p e planned has
    ] refl

pub each_outcome : (g : Request) (s : State) (r : Result Plan Refusal) (P : Outcome → Type 0) → Ends g s r P → P (outcome_of g s r)
unfolding outcome_of
each_outcome g s r P ends =
    elim r as (λ q. r ≡ q → P (outcome_of g s q)) [
      | Err e ↦ λ was. ends.by_plan e was
      | Ok p ↦ λ was. plan_ends g s r P ends p was
    ] refl

-- ---- what states keep

pub ended_keeps : (P : State → Type 0) → ((z : State) → P z → P (point_taken z)) → (point : Bool) (z : State) (reply : Reply) (points : List Tree) → P z → P (ended point z reply points).state
ended_keeps P pointed true z reply points h = pointed z h
ended_keeps P pointed false z reply points h = h

-- what points and planned changes keep, each step keeps
pub each_state : (g : Request) (s : State) (r : Result Plan Refusal) (P : State → Type 0) → ((z : State) → P z → P (point_taken z)) → ((p : Plan) → r ≡ Ok p → (z : State) → z.tree ≡ s.tree → P z → P (planned g z p))
    → P s → P (outcome_of g s r).state
each_state g s r P pointed changed h = each_outcome g s r (λ o. P o.state) (record {
  by_plan = λ e was. h;
  without_edit = λ p was none. ended_keeps P pointed p.point (planned g s p) p.reply [] (changed p was s refl h);
  fitting = λ p e was has fit. ended_keeps P pointed p.point (planned g s p) p.reply [] (changed p was s refl h);
  full = λ p e was has tight none. h;
  fitting_then = λ p e was has tight gains fit. ended_keeps P pointed p.point (planned g (point_taken s) p) p.reply (s.tree ∷ []) (changed p was (point_taken s) refl (pointed s h));
  full_then = λ p e was has tight gains still. pointed s h;
})

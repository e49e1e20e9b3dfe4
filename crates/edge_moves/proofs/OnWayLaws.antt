-- The chain of a data block by its way.
use Rattle.std.proofs.Common.{◌≡◌, ℕ, ◌+◌, ◌-◌, ◌*◌, ◌/◌, ◌%◌, ◌<◌, ◌≤◌, cond, ltb, inl, inr, List, [], ◌∷◌, sym, ap, ◌∙◌, subst, arith}
use Rattle.std.proofs.lemmas.Bool.{cases_lt, lt-ltb, le-ltb, cond-true, cond-false}
use Rattle.edge_base.specs.declared.form.Form.TheVariants.{Plain, Indirect, Double}
use Rattle.edge_base.specs.declared.geometry.Request.{Request}
use Rattle.edge_base.specs.declared.way.Way.{Way}
use Rattle.edge_base.specs.declared.way.Way.TheVariants as way
use Rattle.edge_base.specs.layout.Places.{entries_of, pointers_of, max_blocks_of, way_of}
use Rattle.edge_base.specs.tree.Positions.{Position, chain, data_at, indirect_at}
use Rattle.edge_store.proofs.DigitLaws.{row_below, some_pointers, behind}
use Rattle.edge_moves.specs.Sound.{numbered}
use Rattle.edge_moves.specs.Relinks.{number_of_entry, number_under}
use Rattle.edge_moves.proofs.SlotLaws.{direct_number, single_number, double_number}

abbrev pub number_on : Request → Way → ℕ
number_on g (way.Direct e) = number_of_entry g e
number_on g (way.Single e place) = number_under g Indirect (number_of_entry g e) place
number_on g (way.Double e outer place) = number_under g Indirect (number_under g Double (number_of_entry g e) outer) place

abbrev pub positions_on : Request → ℕ → Way → List Position
positions_on g n (way.Direct e) = numbered n Plain (number_of_entry g e) ∷ []
positions_on g n (way.Single e place) = numbered n Plain (number_under g Indirect (number_of_entry g e) place) ∷ numbered n Indirect (number_of_entry g e) ∷ []
positions_on g n (way.Double e outer place) =
    numbered n Plain (number_under g Indirect (number_under g Double (number_of_entry g e) outer) place) ∷ numbered n Indirect (number_under g Double (number_of_entry g e) outer)
    ∷ numbered n Double (number_of_entry g e) ∷ []

below : {A : Type 0} (a b : ℕ) (x y : A) → a < b → cond (ltb a b) x y ≡ x
below a b x y h = cond-true (ltb a b) x y (lt-ltb a b h)

from_on : {A : Type 0} (a b : ℕ) (x y : A) → b ≤ a → cond (ltb a b) x y ≡ y
from_on a b x y h = cond-false (ltb a b) x y (le-ltb a b h)

div_mod : (m x : ℕ) → 0 < x → m / x * x + m % x ≡ m
div_mod m x h = omega arith

-- The chain of data block i is the positions on a way, of which it is the last.
pub record IsChainOn (g : Request) (n i : ℕ) (w : Way) : Type 0 where
  pub number : number_on g w ≡ i
  pub positions : chain g n i ≡ positions_on g n w

module _ (g : Request) (n i : ℕ) where
  abbrev k : ℕ
  k = pointers_of g

  abbrev r : ℕ
  r = i - g.direct

  on_direct : i < g.direct → IsChainOn g n i (way.Direct i)
  on_direct low = record {
    number = direct_number g i low;
    positions = ap (λ ps. data_at n i ∷ ps) (below i g.direct [] _ low) ∙ sym (ap (λ (m : ℕ). numbered n Plain m ∷ []) (direct_number g i low));
  }

  on_single : 0 < k → g.direct ≤ i → r < g.indirect * k → IsChainOn g n i (way.Single (g.direct + r / k) (r % k))
  on_single some from low =
      let row = row_below r g.indirect k some low in
      let sum : g.direct + r / k - g.direct ≡ r / k = omega arith in
      let number : number_of_entry g (g.direct + r / k) ≡ r / k = single_number g (g.direct + r / k) (omega arith) (omega arith) ∙ sum in
      let whole = div_mod r k some in
      let last : g.direct + (r / k * k + r % k) ≡ i = omega arith in
      let is = ap (λ (m : ℕ). g.direct + (m * k + r % k)) number ∙ last in
      record {
        number = is;
        positions =
            ap (λ ps. data_at n i ∷ ps) (from_on i g.direct [] _ from ∙ ap (λ ps. indirect_at n (r / k) ∷ ps) (below (r / k) g.indirect [] _ row))
            ∙ sym (λ t. numbered n Plain (is t) ∷ numbered n Indirect (number t) ∷ []);
      }

  on_double : 0 < k → g.direct ≤ i → g.indirect * k ≤ r
      → IsChainOn g n i (way.Double (g.direct + g.indirect + (r - g.indirect * k) / (k * k)) ((r - g.indirect * k) % (k * k) / k) ((r - g.indirect * k) % k))
  on_double some from past =
      let b = behind r g.indirect k some past in
      let e : ℕ = g.direct + g.indirect + (r - g.indirect * k) / (k * k) in
      let table : ℕ = (r / k - g.indirect) / k in
      let sum : e - g.direct - g.indirect ≡ (r - g.indirect * k) / (k * k) = omega arith in
      let number : number_of_entry g e ≡ table = double_number g e (omega arith) ∙ sum ∙ sym b.table in
      let low = b.row_from in
      let whole_row = div_mod (r / k - g.indirect) k some in
      let row : g.indirect + (table * k + (r / k - g.indirect) % k) ≡ r / k = omega arith in
      let row_is : g.indirect + (number_of_entry g e * k + (r - g.indirect * k) % (k * k) / k) ≡ r / k = (λ t. g.indirect + (number t * k + sym b.row t)) ∙ row in
      let whole = div_mod r k some in
      let last : g.direct + (r / k * k + r % k) ≡ i = omega arith in
      let is = (λ t. g.direct + (row_is t * k + sym b.place t)) ∙ last in
      record {
        number = is;
        positions =
            ap (λ ps. data_at n i ∷ ps) (from_on i g.direct [] _ from ∙ ap (λ ps. indirect_at n (r / k) ∷ ps) (from_on (r / k) g.indirect [] _ low))
            ∙ sym (λ t. numbered n Plain (is t) ∷ numbered n Indirect (row_is t) ∷ numbered n Double (number t) ∷ []);
      }

  pub chain_on : i < max_blocks_of g → IsChainOn g n i (way_of g i)
  chain_on h = elim (cases_lt i g.direct) [
    | inl low ↦ subst (IsChainOn g n i) (sym (below i g.direct _ _ low)) (on_direct low)
    | inr from ↦
        let some = some_pointers g.direct g.indirect (entries_of g - g.direct - g.indirect) k i h from in
        elim (cases_lt r (g.indirect * k)) [
          | inl low ↦ subst (IsChainOn g n i) (sym (from_on i g.direct _ _ from ∙ below r (g.indirect * k) _ _ low)) (on_single some from low)
          | inr past ↦ subst (IsChainOn g n i) (sym (from_on i g.direct _ _ from ∙ from_on r (g.indirect * k) _ _ past)) (on_double some from past)
        ]
  ]

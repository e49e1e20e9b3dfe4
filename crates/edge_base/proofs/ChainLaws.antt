-- Which positions a node with some data blocks has.
use Rattle.std.proofs.Common.{◌≡◌, ℕ, ◌-◌, ◌/◌, ◌&&◌, ◌||◌, not, Bool, true, false, cond, eqb, ltb, List, [], ◌∷◌, refl, sym, ap, ◌∙◌, arith}
use Rattle.std.specs.Cmp.{nat_eq_equiv}
use Rattle.std.specs.List.{list_any}
use Rattle.std.proofs.lemmas.Bool.{eqb-true, and_parts}
use Rattle.std.proofs.lemmas.Bool.Decides.{nat_tests}
use Rattle.edge_base.specs.declared.form.Form.{Form}
use Rattle.edge_base.specs.declared.form.Form.TheVariants.{Plain, Indirect, Double}
use Rattle.edge_base.specs.declared.geometry.Request.{Request}
use Rattle.edge_base.specs.layout.Places.{pointers_of}
use Rattle.edge_base.specs.tree.Positions.{Position, same_position, indirect_at, double_at, above_data, chain, positions_of, has}
use Rattle.edge_base.specs.tree.Chains.{is_on_chain}
use Rattle.edge_base.proofs.PositionLaws.{has-flat_map}

any_above : (f : Position → Bool) (direct single : Bool) (x y : Position) → list_any f (cond direct [] (x ∷ cond single [] (y ∷ []))) ≡ (not direct && (f x || (not single && f y)))
any_above f true single x y = refl
any_above f false true x y = refl
any_above f false false x y = ap (λ b. f x || b) (or_false (f y))
  where
    or_false : (b : Bool) → (b || false) ≡ b
    or_false true = refl
    or_false false = refl

plain : (n d s a b c : Bool) → ((n && true && a) || (not d && ((n && false && b) || (not s && (n && false && c))))) ≡ (n && a)
plain n d s a b c = grind (arith, nat_tests)

indirect : (n d s a b c : Bool) → ((n && false && a) || (not d && ((n && true && b) || (not s && (n && false && c))))) ≡ (n && (not d && b))
indirect n d s a b c = grind (arith, nat_tests)

double : (n d s a b c : Bool) → ((n && false && a) || (not d && ((n && false && b) || (not s && (n && true && c))))) ≡ (n && (not d && (not s && c)))
double n d s a b c = grind (arith, nat_tests)

module _ (g : Request) (x : ℕ) where
  has-chain : (i : ℕ) (p : Position) → has (chain g x i) p ≡ (eqb p.number x && is_on_chain g p.form p.index i)
  has-chain i p = by p.number p.form p.index
    where
      above : (f : Position → Bool) → list_any f (above_data g x i) ≡ (not (ltb i g.direct) && (f (indirect_at x ((i - g.direct) / pointers_of g)) || (not (ltb ((i - g.direct) / pointers_of g) g.indirect) && f (double_at x (((i - g.direct) / pointers_of g - g.indirect) / pointers_of g)))))
      above f = any_above f (ltb i g.direct) (ltb ((i - g.direct) / pointers_of g) g.indirect) (indirect_at x ((i - g.direct) / pointers_of g)) (double_at x (((i - g.direct) / pointers_of g - g.indirect) / pointers_of g))

      by : (n : ℕ) (form : Form) (k : ℕ) → has (chain g x i) (record { number = n; form = form; index = k }) ≡ (eqb n x && is_on_chain g form k i)
      by n Plain k = ap (λ b. (eqb n x && true && eqb k i) || b) (above (same_position (record { number = n; form = Plain; index = k }))) ∙ plain (eqb n x) _ _ (eqb k i) _ _ ∙ (λ t. eqb n x && nat_eq_equiv.symm k i t)
      by n Indirect k = ap (λ b. (eqb n x && false && eqb k i) || b) (above (same_position (record { number = n; form = Indirect; index = k }))) ∙ indirect (eqb n x) _ _ (eqb k i) _ _
          ∙ (λ t. eqb n x && (not (ltb i g.direct) && nat_eq_equiv.symm k ((i - g.direct) / pointers_of g) t))
      by n Double k = ap (λ b. (eqb n x && false && eqb k i) || b) (above (same_position (record { number = n; form = Double; index = k }))) ∙ double (eqb n x) _ _ (eqb k i) _ _
          ∙ (λ t. eqb n x && (not (ltb i g.direct) && (not (ltb ((i - g.direct) / pointers_of g) g.indirect) && nat_eq_equiv.symm k (((i - g.direct) / pointers_of g - g.indirect) / pointers_of g) t)))

  pub has-positions_of : (indices : List ℕ) (p : Position) → has (positions_of g x indices) p ≡ (eqb p.number x && list_any (is_on_chain g p.form p.index) indices)
  has-positions_of indices p = has-flat_map (chain g x) indices p ∙ by indices
    where
      absorbed : (n a b : Bool) → ((n && a) || (n && b)) ≡ (n && (a || b))
      absorbed n a b = grind (arith, nat_tests)

      none : (n : Bool) → false ≡ (n && false)
      none n = grind (arith, nat_tests)

      by : (is : List ℕ) → list_any (λ i. has (chain g x i) p) is ≡ (eqb p.number x && list_any (is_on_chain g p.form p.index) is)
      by [] = none (eqb p.number x)
      by (i ∷ is) = (λ t. has-chain i p t || by is t) ∙ absorbed (eqb p.number x) (is_on_chain g p.form p.index i) _

  -- a node's positions have its number
  pub has-positions_of-number : (indices : List ℕ) (p : Position) → has (positions_of g x indices) p ≡ true → p.number ≡ x
  has-positions_of-number indices p h = eqb-true p.number x (and_parts (eqb p.number x) _ (sym (has-positions_of indices p) ∙ h)).0

-- Nodes set at numbers, in one order or another.
use Rattle.std.proofs.Common.{◌≡◌, ◌≢◌, ℕ, Bool, true, false, cond, nat_eq, Option, Some, refl, sym, ap, ◌∙◌, eqb-true}
use Rattle.edge_base.specs.tree.Nodes.{Node, directory}
use Rattle.edge_base.specs.tree.Slots.{Entry, Slots}
use Rattle.edge_model.specs.Named.{with_slot, without_slot, placed, cleared}
use Rattle.edge_model.specs.Tree.{Tree, with_node}
use Rattle.edge_steps.proofs.NodeLaws.{with_slots_is, slots_are}

pub set_apart : (t : Tree) (n m : ℕ) (x y : Option Node) → n ≢ m → with_node (with_node t n x) m y ≡ with_node (with_node t m y) n x
set_apart t n m x y apart = λ i q. by q (nat_eq n q) (nat_eq m q) refl refl i
  where
    by : (q : ℕ) (a b : Bool) → nat_eq n q ≡ a → nat_eq m q ≡ b → cond b y (cond a x (t q)) ≡ cond a x (cond b y (t q))
    by q true true one two = absurd (apart (eqb-true n q one ∙ sym (eqb-true m q two)))
    by q true false one two = refl
    by q false true one two = refl
    by q false false one two = refl

pub set_again : (t : Tree) (n : ℕ) (x y : Option Node) → with_node (with_node t n x) n y ≡ with_node t n y
set_again t n x y = λ i q. by q (nat_eq n q) i
  where
    by : (q : ℕ) (a : Bool) → cond a y (cond a x (t q)) ≡ cond a y (t q)
    by q true = refl
    by q false = refl

pub set_as_it_was : (t : Tree) (n : ℕ) → with_node t n (t n) ≡ t
set_as_it_was t n = λ i q. by q (nat_eq n q) refl i
  where
    by : (q : ℕ) (a : Bool) → nat_eq n q ≡ a → cond a (t n) (t q) ≡ t q
    by q true same = ap t (eqb-true n q same)
    by q false other = refl

pub placed_is : (t : Tree) (d slot : ℕ) (e : Entry) (slots : Slots) (parent : ℕ) → t d ≡ Some (directory slots parent) → placed t d slot e ≡ with_node t d (Some (directory (with_slot slots slot e) parent))
placed_is t d slot e slots parent is = with_slots_is t d _ slots parent is ∙ ap (λ (s : Slots). with_node t d (Some (directory (with_slot s slot e) parent))) (slots_are t d slots parent is)

pub cleared_is : (t : Tree) (d slot : ℕ) (slots : Slots) (parent : ℕ) → t d ≡ Some (directory slots parent) → cleared t d slot ≡ with_node t d (Some (directory (without_slot slots slot) parent))
cleared_is t d slot slots parent is = with_slots_is t d _ slots parent is ∙ ap (λ (s : Slots). with_node t d (Some (directory (without_slot s slot) parent))) (slots_are t d slots parent is)

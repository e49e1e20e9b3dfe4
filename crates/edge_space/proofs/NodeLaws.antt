-- The indirect nodes of a node: under an entry, or in a place of a double-indirect node.
use Rattle.std.proofs.Common.{◌≡◌, ℕ, ◌+◌, ◌-◌, ◌/◌, ◌%◌, ◌<◌, ◌≤◌, ltb, sym, ap, subst, ◌∙◌, arith}
use Rattle.std.specs.Prelude.{Result, Ok, Err, IfOk}
use Rattle.std.proofs.lemmas.Bool.{lt-ltb, le-ltb, cond-true, cond-false}
use Rattle.edge_base.specs.declared.form.Form.{Form}
use Rattle.edge_base.specs.declared.form.Form.TheVariants.{Indirect, Double}
use Rattle.edge_base.specs.declared.geometry.Request.{Request}
use Rattle.edge_base.specs.layout.Places.{pointers_of}
use Rattle.edge_base.specs.outside.Below.{Origin}
use Rattle.edge_store.specs.Damages.{form_of_entry}
use Rattle.edge_store.specs.Placed.{entry_at, pointer_at, indirect_block, double_block}
use Rattle.edge_store.specs.State.{StoreState, Told}
use Rattle.edge_store.specs.Told.{IsEntryOf}
use Rattle.edge_store.specs.View.{View}
use Rattle.edge_tree.specs.Answers.{IsLinkedTo, IsPointerAt}
use Rattle.edge_space.specs.Counts.{IsIndirectNode}

pub single_form : (g : Request) (row : ℕ) → row < g.indirect → form_of_entry g (g.direct + row) ≡ Indirect
single_form g row low =
    cond-false (ltb (g.direct + row) g.direct) _ _ (le-ltb (g.direct + row) g.direct (omega arith))
    ∙ cond-true (ltb (g.direct + row) (g.direct + g.indirect)) _ _ (lt-ltb (g.direct + row) (g.direct + g.indirect) (omega arith))

pub double_form : (g : Request) (d : ℕ) → form_of_entry g (g.direct + g.indirect + d) ≡ Double
double_form g d =
    cond-false (ltb (g.direct + g.indirect + d) g.direct) _ _ (le-ltb (g.direct + g.indirect + d) g.direct (omega arith))
    ∙ cond-false (ltb (g.direct + g.indirect + d) (g.direct + g.indirect)) _ _ (le-ltb (g.direct + g.indirect + d) (g.direct + g.indirect) (omega arith))

pub single_at : (g : Request) (v : View) (n row : ℕ) → row < g.indirect → entry_at v n (g.direct + row) ≡ indirect_block g v n row
unfolding indirect_block
single_at g v n row low = sym (cond-true (ltb row g.indirect) _ _ (lt-ltb row g.indirect low))

pub double_at : (g : Request) (v : View) (n row : ℕ) → g.indirect ≤ row
    → pointer_at v Double (entry_at v n (g.direct + g.indirect + (row - g.indirect) / pointers_of g)) ((row - g.indirect) % pointers_of g) ≡ indirect_block g v n row
unfolding indirect_block double_block
double_at g v n row from = sym (cond-false (ltb row g.indirect) _ _ (le-ltb row g.indirect from))

-- what the call for a single indirect node answers
pub single_node : {E : Type 0} (s : StoreState) (n row : ℕ) (result : Result ℕ E) → row < s.origin.request.indirect → IfOk result (IsEntryOf s n (s.origin.request.direct + row)) → IfOk result (IsIndirectNode s n row)
single_node s n row (Ok b) low at = λ told. at told ∙ single_at s.origin.request s.working n row low
single_node s n row (Err fault) low at = at

-- and the one for a pointer of a double-indirect node, in a store that has the same view
pub double_node : {E : Type 0} (old mid : StoreState) (n row top entry place : ℕ) (result : Result ℕ E) → mid.origin ≡ old.origin → mid.working ≡ old.working
    → old.origin.request.indirect ≤ row → entry ≡ old.origin.request.direct + old.origin.request.indirect + (row - old.origin.request.indirect) / pointers_of old.origin.request
    → place ≡ (row - old.origin.request.indirect) % pointers_of old.origin.request → IsEntryOf old n entry top
    → IfOk result (IsPointerAt mid (record { block = top; form = Double; owner = n }) place) → IfOk result (IsIndirectNode old n row)
double_node old mid n row top entry place (Ok b) origin working from is_entry is_place under at = λ told.
    let told_mid : Told mid = ap (λ (o : Origin). o.tells) origin ∙ told in
    let is_top = under told ∙ ap (entry_at old.working n) is_entry in
    at told_mid ∙ (λ i. pointer_at (working i) Double (is_top i) (is_place i)) ∙ double_at old.origin.request old.working n row from
double_node old mid n row top entry place (Err fault) origin working from is_entry is_place under at = at

-- links, told of another form that is the same, and of a store that has the same view
pub linked_as : {E : Type 0} (s : StoreState) (n : ℕ) (from form : Form) (result : Result ℕ E) → from ≡ form → IfOk result (IsLinkedTo s n from) → IfOk result (IsLinkedTo s n form)
linked_as s n from form result is linked = subst (λ (f : Form). IfOk result (IsLinkedTo s n f)) is linked

pub linked_before : {E : Type 0} (old mid : StoreState) (n : ℕ) (form : Form) (result : Result ℕ E) → mid.origin ≡ old.origin → mid.working ≡ old.working
    → IfOk result (IsLinkedTo mid n form) → IfOk result (IsLinkedTo old n form)
linked_before old mid n form (Ok b) origin working linked = λ told some.
    let told_mid : Told mid = ap (λ (o : Origin). o.tells) origin ∙ told in
    rw (← origin, ← working) (linked told_mid some)
linked_before old mid n form (Err fault) origin working linked = linked

-- Tables of descriptors after a place is set, and the nodes of open descriptors after a change of the tree.
use Rattle.std.proofs.Common.{◌≡◌, ℕ, zero, suc, true, false, [], ◌∷◌, slice_set, is_some, unwrap_or, ◌⊎◌, inl, inr, ⊎_elim, Option, Some, None, refl, sym, ap, ◌∙◌, subst, eq-eqb}
use Rattle.std.specs.List.{list_any}
use Rattle.std.proofs.lemmas.Bool.{false≢true, or_parts}
use Rattle.edge_base.specs.commands.Descriptors.{Descriptor, Descriptors, descriptor_at, is_for, is_open}
use Rattle.edge_base.specs.tree.Nodes.{Node, file}
use Rattle.edge_model.specs.Tree.{Tree, is_directory, is_directory_node}
use Rattle.edge_model.specs.Open.{moved}
use Rattle.edge_steps.specs.Rules.{NamesItsNode}
use Rattle.edge_steps.proofs.SlotLaws.{none_some, some_same}
use Rattle.edge_steps.proofs.NodeLaws.{NodeSet}

-- ---- a place of a table set

pub set_table : (table : Descriptors) (h : ℕ) (new : Option Descriptor) (k : ℕ) (d : Descriptor) → descriptor_at (slice_set table h new) k ≡ Some d → (new ≡ Some d) ⊎ (descriptor_at table k ≡ Some d)
set_table [] h new k d is = inr is
set_table (x ∷ xs) zero new zero d is = inl is
set_table (x ∷ xs) zero new (suc k) d is = inr is
set_table (x ∷ xs) (suc h) new zero d is = inr is
set_table (x ∷ xs) (suc h) new (suc k) d is = set_table xs h new k d is

-- each descriptor of a table has its node in a tree
abbrev pub AreFor : Tree → Descriptors → Type 0
AreFor t table = (h : ℕ) (d : Descriptor) → descriptor_at table h ≡ Some d → NamesItsNode t d

pub set_for : (t : Tree) (table : Descriptors) (h : ℕ) (new : Descriptor) → AreFor t table → NamesItsNode t new → AreFor t (slice_set table h (Some new))
set_for t table h new all good k d is = ⊎_elim (λ (here : Some new ≡ Some d). subst (NamesItsNode t) (some_same new d here) good) (λ old. all k d old) (set_table table h (Some new) k d is)

pub closed_for : (t : Tree) (table : Descriptors) (h : ℕ) → AreFor t table → AreFor t (slice_set table h None)
closed_for t table h all k d is = ⊎_elim (λ (here : None ≡ Some d). absurd (none_some d here)) (λ old. all k d old) (set_table table h None k d is)

pub moved_for : (t : Tree) (table : Descriptors) (h : ℕ) (d : Descriptor) (at : ℕ) → AreFor t table → descriptor_at table h ≡ Some d → AreFor t (moved table h d at)
moved_for t table h d at all is = set_for t table h (record d { at = at }) all (let old = all h d is in record { there = old.there; kind = old.kind })

-- ---- an open node

pub is_opened : (table : Descriptors) (h : ℕ) (d : Descriptor) → descriptor_at table h ≡ Some d → is_open table d.number ≡ false → ⊥
is_opened [] h d is closed = none_some d is
is_opened (x ∷ xs) zero d is closed = false≢true (sym (or_parts (is_for d.number x) (list_any (is_for d.number) xs) closed).0 ∙ ap (is_for d.number) is ∙ eq-eqb d.number d.number refl)
is_opened (x ∷ xs) (suc h) d is closed = is_opened xs h d is (or_parts (is_for d.number x) (list_any (is_for d.number) xs) closed).1

-- ---- after a change of the tree

-- what is there stays and keeps its kind
abbrev pub Stays : Tree → Tree → Type 0
Stays t u = (x : ℕ) → is_some (t x) ≡ true → (is_some (u x) ≡ true) × (is_directory u x ≡ is_directory t x)

-- but for one number
abbrev pub StaysBut : Tree → Tree → ℕ → Type 0
StaysBut t u n = (x : ℕ) → (x ≡ n → ⊥) → is_some (t x) ≡ true → (is_some (u x) ≡ true) × (is_directory u x ≡ is_directory t x)

pub for_stays : (t u : Tree) (table : Descriptors) → Stays t u → AreFor t table → AreFor u table
for_stays t u table stays all h d is = let old = all h d is in let now = stays d.number old.there in record { there = now.0; kind = now.1 ∙ old.kind }

pub for_stays_but : (t u : Tree) (table : Descriptors) (n : ℕ) → StaysBut t u n → is_open table n ≡ false → AreFor t table → AreFor u table
for_stays_but t u table n stays closed all h d is =
    let old = all h d is in
    let now = stays d.number (λ same. is_opened table h d is (ap (is_open table) same ∙ closed)) old.there in
    record { there = now.0; kind = now.1 ∙ old.kind }

pub set_stays_but : (t u : Tree) (n : ℕ) (new : Option Node) → NodeSet t u n new → StaysBut t u n
set_stays_but t u n new set x other there = (ap (λ (o : Option Node). is_some o) (set.others x other) ∙ there, ap (λ (o : Option Node). is_directory_node (unwrap_or o (file [] []))) (set.others x other))

-- What the place of a new node's name says of the plan that makes the node.
use Rattle.std.proofs.Common.{◌≡◌, ◌∙◌, ℕ, Bool, true, false, List, [], ◌∷◌, is_some, refl, sym, ap, subst, Option, Some, None}
use Rattle.std.specs.Prelude.{Result, Ok, Err}
use Rattle.edge_base.specs.commands.Descriptors.{first_empty}
use Rattle.edge_base.specs.commands.Events as event
use Rattle.edge_base.specs.commands.Refusals.{◌>>=◌, refuse_if}
use Rattle.edge_base.specs.declared.geometry.Request.{Request}
use Rattle.edge_base.specs.declared.refusal.Refusal.{Refusal}
use Rattle.edge_base.specs.declared.refusal.Refusal.TheVariants as refusal
use Rattle.edge_base.specs.tree.Nodes.{Node, directory}
use Rattle.edge_model.specs.Asked as command
use Rattle.edge_model.specs.Asked.{done}
use Rattle.edge_model.specs.Named as tree
use Rattle.edge_model.specs.Named.{new_name, placed, slot_position}
use Rattle.edge_model.specs.Names.{plan_make_dir, make_dir_at}
use Rattle.edge_model.specs.State.{State, Plan, changes}
use Rattle.edge_model.specs.Step.{plan}
use Rattle.edge_model.specs.Tree.{Tree, free_number, slots_at, with_node}
use Rattle.edge_model.specs.Walk.{Spot, Found, top, within, at_spot, find_name, spot_of}
use Rattle.edge_model.proofs.Plans.{err_is_not_ok}
use Rattle.edge_calls.specs.Makes.{NewName, is_behind, node_place, node_place_at}
use Rattle.edge_calls.proofs.VacancyLaws.{taken_refused, free_vacant, place_refused, place_without_number, place_behind, place_is}

-- a node with the least free number, under its name
abbrev pub new_at : Request → Tree → NewName → Node → ℕ → tree.NewName
new_at g t at node n = record {
  number = n;
  edit = record {
    tree = with_node (placed t at.d at.slot (record { name = at.name; number = n })) n (Some node);
    writes = slot_position g at.d at.slot ∷ [];
    removes = [];
    reserve = 3;
  };
}

-- what a place says of its spot, and of a node under its name
pub record IsNewAt (g : Request) (t : Tree) (spot : Spot) (at : NewName) : Type 0 where
  pub spot_is : spot ≡ within at.d at.name
  pub absent : find_name t at.d at.name ≡ None
  pub first : at.slot ≡ first_empty (slots_at t at.d)
  pub number : ℕ
  pub named : (node : Node) → new_name g t (within at.d at.name) node ≡ Ok (new_at g t at node number)

module _ (g : Request) (t : Tree) (d : ℕ) (name : List ℕ) where
  abbrev here : NewName
  here = record { d = d; name = name; slot = first_empty (slots_at t d) }

  -- the refusals of a name that is there, and of a node under it
  abbrev refusals : Node → Result tree.NewName Refusal
  refusals node = refuse_if (is_some (find_name t d name)) refusal.Exists >>= λ _. new_name g t (within d name) node

  abbrev Agree : Result NewName Refusal → Type 0
  Agree (Err e) = (node : Node) → refusals node ≡ Err e
  Agree (Ok at) = IsNewAt g t (within d name) at

  agree : Agree (node_place g t (within d name))
  agree = by (find_name t d name) refl (free_number g t) refl (is_behind g (first_empty (slots_at t d))) refl
    where
      by : (o : Option Found) → find_name t d name ≡ o → (free : Option ℕ) → free_number g t ≡ free → (b : Bool) → is_behind g (first_empty (slots_at t d)) ≡ b
          → Agree (node_place g t (within d name))
      by (Some found) taken free is b behind =
          subst Agree (place_refused g t (within d name) refusal.Exists (taken_refused t d name found taken)) (λ node. rw taken refl)
      by None none None is b behind =
          subst Agree (place_without_number g t (within d name) here (free_vacant t d name here.slot none refl) is) (λ node. rw (none, is) refl)
      by None none (Some n) is true behind =
          subst Agree (place_behind g t (within d name) here (free_vacant t d name here.slot none refl) n is behind) (λ node. rw (none, is, behind) refl)
      by None none (Some n) is false inside =
          subst Agree (place_is g t (within d name) here (free_vacant t d name here.slot none refl) n is inside) (record {
            spot_is = refl;
            absent = none;
            first = refl;
            number = n;
            named = λ node. rw (is, inside) refl;
          })

-- ---- mkdir

-- a directory is made at a place that a path leads to
pub record MakesDir (g : Request) (s : State) (path : List ℕ) (at : NewName) : Type 0 where
  pub spot : spot_of g s.tree path ≡ Ok (within at.d at.name)
  pub new : IsNewAt g s.tree (within at.d at.name) at
  pub is : plan g s (command.make_dir path) ≡ Ok (changes s (new_at g s.tree at (directory [] at.d) new.number).edit event.mkdir done)

module _ (g : Request) (s : State) (path : List ℕ) where
  abbrev plan_at : Spot → Result Plan Refusal
  plan_at spot = refuse_if (is_some (at_spot s.tree spot)) refusal.Exists >>= λ _. make_dir_at g s spot

  refused_so : (d : ℕ) (name : List ℕ) (e : Refusal) → refusals g s.tree d name (directory [] d) ≡ Err e → plan_at (within d name) ≡ Err e
  refused_so d name e is = by (is_some (find_name s.tree d name)) (new_name g s.tree (within d name) (directory [] d)) is
    where
      by : (b : Bool) (r : Result tree.NewName Refusal) → (refuse_if b refusal.Exists >>= λ _. r) ≡ Err e
          → (refuse_if b refusal.Exists >>= λ _. r >>= λ new. Ok (changes s new.edit event.mkdir done)) ≡ Err e
      by true r is = by_refusal refusal.Exists is
        where
          by_refusal : (x : Refusal) → (let y : Result tree.NewName Refusal = Err x in y) ≡ Err e → (let y : Result Plan Refusal = Err x in y) ≡ Err e
          by_refusal x is = ap (λ (r : Result tree.NewName Refusal). r >>= λ new. Ok (changes s new.edit event.mkdir done)) is
      by false r is = ap (λ (r : Result tree.NewName Refusal). r >>= λ new. Ok (changes s new.edit event.mkdir done)) is

  pub make_dir_refused : (e : Refusal) → Err e ≡ node_place_at g s.tree path → plan g s (command.make_dir path) ≡ Err e
  unfolding plan_make_dir
  make_dir_refused e is = by (spot_of g s.tree path) is
    where
      by : (r : Result Spot Refusal) → Err e ≡ (r >>= node_place g s.tree) → (r >>= plan_at) ≡ Err e
      by (Err x) is = ap (λ (r : Result NewName Refusal). r >>= λ at. plan_at (within at.d at.name)) (sym is)
      by (Ok top) is = ap (λ (r : Result NewName Refusal). r >>= λ at. plan_at (within at.d at.name)) (sym is)
      by (Ok (within d name)) is = refused_so d name e (subst (Agree g s.tree d name) (sym is) (agree g s.tree d name) (directory [] d))

  planned_at : (d : ℕ) (name : List ℕ) (at : NewName) (new : IsNewAt g s.tree (within d name) at)
      → plan_at (within d name) ≡ Ok (changes s (new_at g s.tree at (directory [] at.d) new.number).edit event.mkdir done)
  planned_at d name at new =
      ap plan_at new.spot_is
      ∙ ap (λ (o : Option Found). refuse_if (is_some o) refusal.Exists >>= λ _. make_dir_at g s (within at.d at.name)) new.absent
      ∙ ap (λ (r : Result tree.NewName Refusal). r >>= λ x. Ok (changes s x.edit event.mkdir done)) (new.named (directory [] at.d))

  pub make_dir_made : (at : NewName) → Ok at ≡ node_place_at g s.tree path → MakesDir g s path at
  unfolding plan_make_dir
  make_dir_made at is = by (spot_of g s.tree path) refl is
    where
      by : (r : Result Spot Refusal) → spot_of g s.tree path ≡ r → Ok at ≡ (r >>= node_place g s.tree) → MakesDir g s path at
      by (Err x) led is = absurd (err_is_not_ok x at (Err x) refl (sym is))
      by (Ok top) led is = absurd (err_is_not_ok refusal.Exists at (Err refusal.Exists) refl (sym is))
      by (Ok (within d name)) led is =
          let new = subst (Agree g s.tree d name) (sym is) (agree g s.tree d name) in
          record {
            spot = led ∙ ap Ok new.spot_is;
            new = record { spot_is = refl; absent = new.absent; first = new.first; number = new.number; named = new.named };
            is = ap (λ (r : Result Spot Refusal). r >>= plan_at) led ∙ planned_at d name at new;
          }

-- Where a new name goes, by what was found, in the words of the tree.
use Rattle.std.proofs.Common.{◌≡◌, ◌↔◌, ◌∙◌, ℕ, not, Bool, true, false, cond, List, [], ◌∷◌, length, filter, find, is_some, refl, sym, ap, arith, Option, Some, None}
use Rattle.std.specs.Prelude.{Ok, Err}
use Rattle.std.proofs.lemmas.List.Sums.{length-filter}
use Rattle.edge_base.specs.commands.Descriptors.{first_empty}
use Rattle.edge_base.specs.commands.Refusals.{◌>>=◌}
use Rattle.edge_base.specs.declared.geometry.Request.{Request}
use Rattle.edge_base.specs.declared.refusal.Refusal.{Refusal}
use Rattle.edge_base.specs.declared.refusal.Refusal.TheVariants as refusal
use Rattle.edge_base.specs.outside.Below.{Origin}
use Rattle.edge_store.specs.Told.{AreFreeInodes}
use Rattle.edge_store.specs.View.{View, free_inodes}
use Rattle.edge_store.specs.declared.store.Store.{Ghosts as StoreGhosts}
use Rattle.edge_model.specs.Asked.{Reply, room}
use Rattle.edge_model.specs.State.{State}
use Rattle.edge_model.specs.Step.{room_of}
use Rattle.edge_model.specs.Tree.{Tree, free_number, free_numbers, numbers_of, slots_at}
use Rattle.edge_model.specs.Walk.{Spot, Found, within, find_name, spot_of}
use Rattle.edge_stands.specs.Session.{StandForState}
use Rattle.edge_stands.proofs.SpaceLaws.{space_is}
use Rattle.edge_volume.specs.Parts.{Looks}
use Rattle.edge_volume.specs.Volume.{StoreStands}
use Rattle.edge_calls.specs.Makes.{NewName, is_behind, node_place, node_place_at, vacancy_of}

-- ---- a spot that has nothing

module _ (t : Tree) (d : ℕ) (name : List ℕ) where
  pub taken_refused : (found : Found) → find_name t d name ≡ Some found → Err refusal.Exists ≡ vacancy_of t (within d name)
  taken_refused found is = rw is refl

  pub free_vacant : (slot : ℕ) → find_name t d name ≡ None → slot ≡ first_empty (slots_at t d)
      → Ok (record { d = d; name = name; slot = slot }) ≡ vacancy_of t (within d name)
  free_vacant slot none first = rw (none, first) refl

-- ---- numbers that have no node

-- none passes a test where none is found, and the other way round
none_left : (test : ℕ → Bool) (xs : List ℕ) → (length (filter test xs) ≡ 0) ↔ (find test xs ≡ None)
none_left test [] = ((λ none. refl), (λ none. refl))
none_left test (x ∷ xs) = by (test x) (none_left test xs)
  where
    by : (b : Bool) → (length (filter test xs) ≡ 0) ↔ (find test xs ≡ None)
        → (length (cond b (x ∷ filter test xs) (filter test xs)) ≡ 0) ↔ (cond b (Some x) (find test xs) ≡ None)
    by true rest = ((λ (none : length (x ∷ filter test xs) ≡ 0). absurd (omega (arith, none))), (λ (none : Some x ≡ None). absurd (cc)))
    by false rest = rest

abbrev free_in : Reply → ℕ
free_in (room r) = r.free_inodes
free_in other = 0

numbers_are : (g : Request) (c w : View) (s : State) → StandForState g c w s → free_numbers g s.tree ≡ free_inodes g w
unfolding room_of free_inodes
numbers_are g c w s stands = ap free_in (space_is g c w s stands)

module _ (g : Request) (c w : View) (s : State) (stands : StandForState g c w s) where
  none_is_free : free_inodes g w ≡ 0 → free_number g s.tree ≡ None
  none_is_free none =
      let test : ℕ → Bool = λ n. not (is_some (s.tree n)) in
      (none_left test (numbers_of g)).0 (length-filter test (numbers_of g) ∙ numbers_are g c w s stands ∙ none)

  some_is_free : (free_inodes g w ≡ 0 → ⊥) → (n : ℕ) × (free_number g s.tree ≡ Some n)
  some_is_free some = by (free_number g s.tree) refl
    where
      by : (o : Option ℕ) → free_number g s.tree ≡ o → (n : ℕ) × (free_number g s.tree ≡ Some n)
      by (Some n) is = (n, is)
      by None is =
          let test : ℕ → Bool = λ n. not (is_some (s.tree n)) in
          absurd (some (sym (numbers_are g c w s stands) ∙ sym (length-filter test (numbers_of g)) ∙ (none_left test (numbers_of g)).1 is))

-- so many numbers are told to be free after some reading
module _ {A : Type 0} (S : StoreGhosts A) (a b : A) (looks : Looks S None a b) (n : ℕ) (told : AreFreeInodes (S.state b) n) (z : State) (stands : StoreStands (S.state a) z) where
  count_is : n ≡ free_inodes (S.state a).origin.request (S.state a).working
  count_is =
      told (ap (λ (o : Origin). o.tells) looks.ends.origin ∙ stands.told) looks.ends.live
      ∙ (λ i. free_inodes (looks.ends.origin i).request ((looks.reads refl).working i))

  pub told_none : n ≡ 0 → free_number (S.state a).origin.request z.tree ≡ None
  told_none none = none_is_free (S.state a).origin.request (S.state a).committed (S.state a).working z stands.views (sym count_is ∙ none)

  pub told_some : (n ≡ 0 → ⊥) → (k : ℕ) × (free_number (S.state a).origin.request z.tree ≡ Some k)
  told_some some = some_is_free (S.state a).origin.request (S.state a).committed (S.state a).working z stands.views (λ none. some (count_is ∙ none))

-- ---- the place of a new node's name

module _ (g : Request) (t : Tree) (spot : Spot) where
  pub place_refused : (e : Refusal) → Err e ≡ vacancy_of t spot → Err e ≡ node_place g t spot
  place_refused e is = rw (sym is) refl

  module _ (at : NewName) (is : Ok at ≡ vacancy_of t spot) where
    pub place_without_number : free_number g t ≡ None → Err refusal.NoInodes ≡ node_place g t spot
    place_without_number none = rw (sym is, none) refl

    module _ (n : ℕ) (free : free_number g t ≡ Some n) where
      pub place_behind : is_behind g at.slot ≡ true → Err refusal.TooBig ≡ node_place g t spot
      place_behind behind = rw (sym is, free, behind) refl

      pub place_is : is_behind g at.slot ≡ false → Ok at ≡ node_place g t spot
      place_is inside = rw (sym is, free, inside) refl

module _ (g : Request) (t : Tree) (path : List ℕ) where
  pub path_refused : (e : Refusal) → Err e ≡ spot_of g t path → Err e ≡ node_place_at g t path
  path_refused e is = ap (λ r. r >>= node_place g t) is

  pub path_led : (spot : Spot) → Ok spot ≡ spot_of g t path → node_place g t spot ≡ node_place_at g t path
  path_led spot is = ap (λ r. r >>= node_place g t) is

-- What a file and the place of its further name say of the plan that links it.
use Rattle.std.proofs.Common.{◌≡◌, ◌∙◌, ℕ, Bool, true, false, nat_le, List, is_some, refl, sym, ap, subst, Option, Some, None}
use Rattle.std.specs.Prelude.{Result, Ok, Err}
use Rattle.edge_base.specs.commands.Descriptors.{first_empty}
use Rattle.edge_base.specs.commands.Events as event
use Rattle.edge_base.specs.commands.Paths.{names_in, two_paths}
use Rattle.edge_base.specs.commands.Refusals.{◌>>=◌, refuse_if, or_refuse}
use Rattle.edge_base.specs.declared.geometry.Request.{Request}
use Rattle.edge_base.specs.declared.refusal.Refusal.{Refusal}
use Rattle.edge_base.specs.declared.refusal.Refusal.TheVariants as refusal
use Rattle.edge_model.specs.Asked as command
use Rattle.edge_model.specs.Asked.{done}
use Rattle.edge_model.specs.Named.{new_slot}
use Rattle.edge_model.specs.Names.{plan_link, link_at}
use Rattle.edge_model.specs.Rules.{IsTree}
use Rattle.edge_model.specs.State.{State, Plan, changes}
use Rattle.edge_model.specs.Step.{plan}
use Rattle.edge_model.specs.Tree.{Tree, is_directory, links_of, slots_at}
use Rattle.edge_model.specs.Walk.{Spot, Found, top, within, at_spot, find_name, walk}
use Rattle.edge_model.proofs.Changes.{is_some_of}
use Rattle.edge_model.proofs.Plans.{ok_is, err_is_not_ok}
use Rattle.edge_model.proofs.WalkLaws.{walk_in_directory}
use Rattle.edge_names.specs.Linked.{linked}
use Rattle.edge_steps.proofs.PlanLaws.{found_there}
use Rattle.edge_steps.proofs.WalkLaws.{after_part, after_test}
use Rattle.edge_store.specs.declared.store.Store.{Ghosts as StoreGhosts}
use Rattle.edge_volume.specs.declared.stop.Stop.{Stop}
use Rattle.edge_volume.specs.declared.stop.Stop.TheVariants.{Refused, Fault}
use Rattle.edge_volume.specs.Nodes.{OnTree}
use Rattle.edge_volume.specs.Parts.{Looks}
use Rattle.edge_volume.specs.Stopped.{IfAnswered}
use Rattle.edge_walk.proofs.StillLaws.{on_tree_before}
use Rattle.edge_calls.specs.declared.link.Linking.{Linking}
use Rattle.edge_calls.specs.declared.vacant.Vacancy.{Vacancy}
use Rattle.edge_calls.specs.Links.{NewLink, file_at, link_in, link_of, vacancy_at}
use Rattle.edge_calls.specs.Makes.{NewName, is_behind, vacancy_of, vacated}

-- the plan of a file that gets a further name
abbrev pub link_plan : Request → State → NewLink → Plan
link_plan g s x = changes s (linked g s.tree x.number x.at.d x.at.slot x.at.name) event.link done

module _ (g : Request) (s : State) where
  -- at a spot
  abbrev spot_plan : ℕ → Spot → Result Plan Refusal
  spot_plan n spot =
      refuse_if (is_some (at_spot s.tree spot)) refusal.Exists >>= λ _. refuse_if (nat_le 65535 (links_of g s.tree n)) refusal.TooManyLinks >>= λ _. link_at g s n spot

  abbrev name_link : ℕ → NewName → Result NewLink Refusal
  name_link n at = refuse_if (nat_le 65535 (links_of g s.tree n)) refusal.TooManyLinks >>= λ _. refuse_if (is_behind g at.slot) refusal.TooBig >>= λ _. Ok (record { number = n; at = at })

  abbrev spot_link : ℕ → Spot → Result NewLink Refusal
  spot_link n spot = vacancy_of s.tree spot >>= name_link n

  by_spot : (n : ℕ) (spot : Spot) → spot_plan n spot ≡ (spot_link n spot >>= λ x. Ok (link_plan g s x))
  by_spot n top = refl
  by_spot n (within d name) = by (find_name s.tree d name) refl (nat_le 65535 (links_of g s.tree n)) refl (is_behind g (first_empty (slots_at s.tree d))) refl
    where
      by : (o : Option Found) → find_name s.tree d name ≡ o → (many : Bool) → nat_le 65535 (links_of g s.tree n) ≡ many
          → (behind : Bool) → is_behind g (first_empty (slots_at s.tree d)) ≡ behind → spot_plan n (within d name) ≡ (spot_link n (within d name) >>= λ x. Ok (link_plan g s x))
      by (Some found) taken many m behind h = rw taken refl
      by None none true m behind h = rw (none, m) refl
      by None none false m true h = rw (none, m, h) refl
      by None none false m false h = rw (none, m, h) refl

  -- of a path that led to what is found
  abbrev file_plan : Result Spot Refusal → Found → Result Plan Refusal
  file_plan to found = refuse_if (is_directory s.tree found.number) refusal.IsDir >>= λ _. to >>= λ spot. spot_plan found.number spot

  abbrev file_link : Result Spot Refusal → Result ℕ Refusal → Result Plan Refusal
  file_link to file = (file >>= λ n. (to >>= vacancy_of s.tree) >>= name_link n) >>= λ x. Ok (link_plan g s x)

  by_kind : (found : Found) (b : Bool) (to : Result Spot Refusal)
      → (refuse_if b refusal.IsDir >>= λ _. to >>= λ spot. spot_plan found.number spot) ≡ file_link to (refuse_if b refusal.IsDir >>= λ _. Ok found.number)
  by_kind found true to = refl
  by_kind found false (Err e) = refl
  by_kind found false (Ok spot) = by_spot found.number spot

  by_found : (o : Option Found) (to : Result Spot Refusal)
      → (or_refuse o refusal.NoEntry >>= file_plan to)
      ≡ file_link to (or_refuse o refusal.NoEntry >>= λ found. refuse_if (is_directory s.tree found.number) refusal.IsDir >>= λ _. Ok found.number)
  by_found None to = refl
  by_found (Some found) to = by_kind found (is_directory s.tree found.number) to

  pub by_link : (path to : List ℕ) → plan g s (command.link path to) ≡ (link_of g s.tree path to >>= λ x. Ok (link_plan g s x))
  unfolding plan_link
  by_link path to = by (two_paths g.name_max path to) (walk s.tree (names_in path)) (walk s.tree (names_in to))
    where
      by : (both : Result (Unit {0}) Refusal) (from at : Result Spot Refusal)
          → (both >>= λ _. from >>= λ x. or_refuse (at_spot s.tree x) refusal.NoEntry >>= file_plan at)
          ≡ ((both >>= λ _. (from >>= λ x. or_refuse (at_spot s.tree x) refusal.NoEntry >>= λ found. refuse_if (is_directory s.tree found.number) refusal.IsDir >>= λ _. Ok found.number)
          >>= λ n. (at >>= vacancy_of s.tree) >>= name_link n) >>= λ x. Ok (link_plan g s x))
      by (Err e) from at = refl
      by (Ok u) (Err e) at = refl
      by (Ok u) (Ok x) at = by_found (at_spot s.tree x) at

-- ---- a link, by what was found

module _ (g : Request) (t : Tree) (path to : List ℕ) (both : two_paths g.name_max path to ≡ Ok tt) (n : ℕ) (file : Ok n ≡ file_at t (names_in path)) where
  pub link_without_place : (e : Refusal) → Err e ≡ vacancy_at t (names_in to) → Err e ≡ link_of g t path to
  link_without_place e is = rw (both, sym file, sym is) refl

  module _ (at : NewName) (is : Ok at ≡ vacancy_at t (names_in to)) where
    pub link_too_many : nat_le 65535 (links_of g t n) ≡ true → Err refusal.TooManyLinks ≡ link_of g t path to
    link_too_many many = rw (both, sym file, sym is, many) refl

    pub link_behind : nat_le 65535 (links_of g t n) ≡ false → is_behind g at.slot ≡ true → Err refusal.TooBig ≡ link_of g t path to
    link_behind few behind = rw (both, sym file, sym is, few, behind) refl

    pub link_is : nat_le 65535 (links_of g t n) ≡ false → is_behind g at.slot ≡ false → Ok (record { number = n; at = at }) ≡ link_of g t path to
    link_is few inside = rw (both, sym file, sym is, few, inside) refl

-- ---- what a link says of the tree

-- the file is there, and the name goes into an empty slot of a directory, in a block that one may have
pub record MayLinkAt (g : Request) (t : Tree) (n d slot : ℕ) : Type 0 where
  pub there : is_some (t n) ≡ true
  pub file : is_directory t n ≡ false
  pub directory : is_directory t d ≡ true
  pub room : new_slot g t d ≡ Ok slot

file_there : (g : Request) (t : Tree) (names : List (List ℕ)) (n : ℕ) → IsTree g t → file_at t names ≡ Ok n → (is_some (t n) ≡ true) × (is_directory t n ≡ false)
file_there g t names n tree is =
    let w = after_part (walk t names) _ n is in
    let o = after_part (or_refuse (at_spot t w.0) refusal.NoEntry) _ n w.2 in
    let k = after_test (is_directory t (o.0).number) refusal.IsDir _ n o.2 in
    let same : (o.0).number ≡ n = ok_is (o.0).number n (Ok (o.0).number) refl k.1 in (
      subst (λ (m : ℕ). is_some (t m) ≡ true) same (found_there g t w.0 o.0 tree (is_some_of (at_spot t w.0) refusal.NoEntry o.0 o.1)),
      subst (λ (m : ℕ). is_directory t m ≡ false) same k.0,
    )

-- the vacancy of a spot is in its directory
vacancy_is : (t : Tree) (spot : Spot) (at : NewName) → vacancy_of t spot ≡ Ok at → (spot ≡ within at.d at.name) × (at.slot ≡ first_empty (slots_at t at.d))
vacancy_is t top at is = absurd (err_is_not_ok refusal.Exists at (Err refusal.Exists) refl is)
vacancy_is t (within d name) at is =
    let k = after_test (is_some (find_name t d name)) refusal.Exists _ at is in
    subst (λ (x : NewName). (within d name ≡ within x.d x.name) × (x.slot ≡ first_empty (slots_at t x.d)))
    (ok_is (record { d = d; name = name; slot = first_empty (slots_at t d) }) at _ refl k.1) (refl, refl)

inside_room : (g : Request) (t : Tree) (d slot : ℕ) → slot ≡ first_empty (slots_at t d) → is_behind g slot ≡ false → new_slot g t d ≡ Ok slot
inside_room g t d slot first inside =
    let here : is_behind g (first_empty (slots_at t d)) ≡ false = ap (is_behind g) (sym first) ∙ inside in
    ap (λ (b : Bool). refuse_if b refusal.TooBig >>= λ _. Ok (first_empty (slots_at t d))) here ∙ ap Ok (sym first)

pub link_may : (g : Request) (t : Tree) (path to : List ℕ) (x : NewLink) → IsTree g t → Ok x ≡ link_of g t path to → MayLinkAt g t x.number x.at.d x.at.slot
link_may g t path to x tree is =
    let a = after_part (two_paths g.name_max path to) _ x (sym is) in
    let f = after_part (file_at t (names_in path)) _ x a.2 in
    let v = after_part (vacancy_at t (names_in to)) _ x f.2 in
    let w = after_part (walk t (names_in to)) _ v.0 v.1 in
    let m = after_test (nat_le 65535 (links_of g t f.0)) refusal.TooManyLinks _ x v.2 in
    let b = after_test (is_behind g (v.0).slot) refusal.TooBig _ x m.1 in
    let at = vacancy_is t w.0 v.0 w.2 in
    let file = file_there g t (names_in path) f.0 tree f.1 in
    subst (λ (y : NewLink). MayLinkAt g t y.number y.at.d y.at.slot) (ok_is (record { number = f.0; at = v.0 }) x _ refl b.1) (record {
      there = file.0;
      file = file.1;
      directory = walk_in_directory t (names_in to) (v.0).d (v.0).name (w.1 ∙ ap Ok at.0);
      room = inside_room g t (v.0).d (v.0).slot at.1 b.0;
    })

-- a is the store as the paths were read and b the store as the file was found
module _ {A : Type 0} (S : StoreGhosts A) (a b : A) (looks : Looks S None a b) (path to : List ℕ) (both : two_paths (S.state a).origin.request.name_max path to ≡ Ok tt)
    (n : ℕ) (file : OnTree (S.state a) (λ t. Ok n ≡ file_at t (names_in path))) where
  pub link_unplaced : (stop : Stop) → IfAnswered {T = Vacancy} (Err stop) (λ r. OnTree (S.state b) (λ t. vacated r ≡ vacancy_at t (names_in to)))
      → IfAnswered {T = Linking} (Err stop) (λ r. OnTree (S.state a) (λ t. link_in r ≡ link_of (S.state a).origin.request t path to))
  link_unplaced (Refused e) is = λ z stands tree.
      link_without_place (S.state a).origin.request z.tree path to both n (file z stands tree) e
      (on_tree_before S a b looks (λ t. Err e ≡ vacancy_at t (names_in to)) is z stands tree)
  link_unplaced (Fault fault) is = tt

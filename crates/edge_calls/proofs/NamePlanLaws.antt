-- What unlink and rmdir plan, by the name that their path leads to.
use Rattle.std.proofs.Common.{◌≡◌, ◌∙◌, ℕ, ◌==◌, ◌&&◌, not, Bool, true, false, List, [], ◌∷◌, length, unwrap_or, refl, sym, ap, arith, Option, Some, None}
use Rattle.std.specs.Prelude.{Result, Ok, Err}
use Rattle.std.proofs.lemmas.Bool.{eqb-true, ne_eqb}
use Rattle.edge_base.specs.commands.Descriptors.{Descriptors, is_open}
use Rattle.edge_base.specs.commands.Events as event
use Rattle.edge_base.specs.commands.Paths.{is_invalid, is_too_long, names_in}
use Rattle.edge_base.specs.commands.Refusals.{◌>>=◌, refuse_if, or_refuse}
use Rattle.edge_base.specs.declared.geometry.Request.{Request}
use Rattle.edge_base.specs.declared.node.Head.{Head}
use Rattle.edge_base.specs.declared.node.NodeType.TheVariants.{Directory, File}
use Rattle.edge_base.specs.declared.refusal.Refusal.{Refusal}
use Rattle.edge_base.specs.declared.refusal.Refusal.TheVariants as refusal
use Rattle.edge_base.specs.tree.Nodes.{Node, file, directory}
use Rattle.edge_base.specs.tree.Slots.{Slots}
use Rattle.edge_model.specs.Asked.{done}
use Rattle.edge_model.specs.Names.{has_one_link, is_busy, is_empty, plan_unlink, plan_remove_dir, unlink_at, unnamed}
use Rattle.edge_model.specs.Rules.{IsTree}
use Rattle.edge_model.specs.State.{State, Plan, changes}
use Rattle.edge_model.specs.Tree.{Tree, is_directory, is_directory_node, links_of, slots_at, slots_of_node}
use Rattle.edge_model.specs.Walk.{Spot, Found, top, within, at_spot, find_name, found_number, is_top, spot_of, walk, walk_from}
use Rattle.edge_image.specs.Opens.{head_of_node}
use Rattle.edge_steps.proofs.NodeLaws.{is_a_directory, is_a_file}
use Rattle.edge_steps.proofs.WalkLaws.{is_found}
use Rattle.edge_store.specs.State.{StoreState}
use Rattle.edge_volume.specs.declared.stop.Stop.{Stop}
use Rattle.edge_volume.specs.declared.stop.Stop.TheVariants.{Fault, Refused}
use Rattle.edge_volume.specs.Stopped.{IfAnswered}
use Rattle.edge_volume.specs.Volume.{StoreStands}
use Rattle.edge_volume.specs.Nodes.{OnTree, head_at, head_of_some}
use Rattle.edge_walk.proofs.TreeLaws.{directory_of, file_of}
use Rattle.edge_calls.specs.declared.unname.Named.{Named}
use Rattle.edge_calls.specs.Unnaming.{NameAt, IsLeafName, found_in, is_last, name_in, name_of, named_in, unnaming}

-- ---- a walk with names never ends at the root

never_top : (t : Tree) (x : ℕ) (name : List ℕ) (names : List (List ℕ)) → walk_from t x name names ≡ Ok top → ⊥
never_top t x name [] h = by (is_directory t x) h
  where
    by : (b : Bool) → (refuse_if (not b) refusal.NotDir >>= λ _. Ok (within x name)) ≡ Ok top → ⊥
    by true h = absurd (cc)
    by false h = absurd (cc)
never_top t x name (next ∷ more) h = by (is_directory t x) (find_name t x name) (λ y. never_top t y next more) h
  where
    by : (b : Bool) (o : Option Found) → ((y : ℕ) → walk_from t y next more ≡ Ok top → ⊥)
        → (refuse_if (not b) refusal.NotDir >>= λ _. found_number o >>= λ y. walk_from t y next more) ≡ Ok top → ⊥
    by false o below h = absurd (cc)
    by true None below h = absurd (cc)
    by true (Some found) below h = below found.number h

-- ---- what follows a name

module _ (g : Request) (s : State) (path : List ℕ) where
  abbrev pub plan_name : NameAt → Plan
  plan_name x = changes s (unnamed g s.tree x.d x.found (has_one_link g s.tree x.found.number)) event.unlink done

  abbrev pub unlink_name : NameAt → Result Plan Refusal
  unlink_name x = refuse_if (is_directory s.tree x.found.number) refusal.IsDir >>= λ _. refuse_if (is_busy g s x.found.number) refusal.Busy >>= λ _. Ok (plan_name x)

  abbrev pub remove_name : NameAt → Result Plan Refusal
  remove_name x =
      refuse_if (not (is_directory s.tree x.found.number)) refusal.NotDir >>= λ _. refuse_if (not (is_empty (slots_at s.tree x.found.number))) refusal.NotEmpty
      >>= λ _. refuse_if (is_open s.descriptors x.found.number) refusal.Busy >>= λ _. Ok (plan_name x)

  pub unlink_by_name : IsTree g s.tree → plan_unlink g s path ≡ (name_of g s.tree path refusal.IsDir >>= unlink_name)
  unfolding plan_unlink
  unlink_by_name tree = by (spot_of g s.tree path)
    where
      rest : Spot → Found → Result Plan Refusal
      rest spot found = refuse_if (is_directory s.tree found.number) refusal.IsDir >>= λ _. refuse_if (is_busy g s found.number) refusal.Busy >>= λ _. Ok (unlink_at g s spot found)

      by_found : (d : ℕ) (name : List ℕ) (o : Option Found) → (or_refuse o refusal.NoEntry >>= rest (within d name))
          ≡ ((or_refuse o refusal.NoEntry >>= λ found. named_in (within d name) found refusal.IsDir) >>= unlink_name)
      by_found d name None = refl
      by_found d name (Some found) = refl

      by : (r : Result Spot Refusal) → (r >>= λ spot. or_refuse (at_spot s.tree spot) refusal.NoEntry >>= rest spot)
          ≡ ((r >>= λ spot. or_refuse (at_spot s.tree spot) refusal.NoEntry >>= λ found. named_in spot found refusal.IsDir) >>= unlink_name)
      by (Err e) = refl
      by (Ok top) = ap (λ b. refuse_if b refusal.IsDir >>= λ _. refuse_if (is_busy g s 2) refusal.Busy >>= λ _. Ok (unlink_at g s top (record { slot = 0; number = 2 })))
          (is_a_directory s.tree 2 tree.root.0 0 tree.root.1)
      by (Ok (within d name)) = by_found d name (find_name s.tree d name)

  pub remove_by_name : plan_remove_dir g s path ≡ (name_of g s.tree path refusal.Busy >>= remove_name)
  unfolding plan_remove_dir
  remove_by_name = by (is_invalid path) (is_too_long g.name_max path)
    where
      rest : Spot → Found → Result Plan Refusal
      rest spot found =
          refuse_if (not (is_directory s.tree found.number)) refusal.NotDir >>= λ _. refuse_if (not (is_empty (slots_at s.tree found.number))) refusal.NotEmpty
          >>= λ _. refuse_if (is_open s.descriptors found.number) refusal.Busy >>= λ _. Ok (unlink_at g s spot found)

      from_spot : Result Spot Refusal → Result Plan Refusal
      from_spot r = r >>= λ spot. or_refuse (at_spot s.tree spot) refusal.NoEntry >>= rest spot

      by_found : (d : ℕ) (name : List ℕ) (o : Option Found) → (or_refuse o refusal.NoEntry >>= rest (within d name))
          ≡ ((or_refuse o refusal.NoEntry >>= λ found. named_in (within d name) found refusal.Busy) >>= remove_name)
      by_found d name None = refl
      by_found d name (Some found) = refl

      by_spot : (r : Result Spot Refusal) → (r ≡ Ok top → ⊥) → from_spot r
          ≡ ((r >>= λ spot. or_refuse (at_spot s.tree spot) refusal.NoEntry >>= λ found. named_in spot found refusal.Busy) >>= remove_name)
      by_spot (Err e) low = refl
      by_spot (Ok top) low = absurd (low refl)
      by_spot (Ok (within d name)) low = by_found d name (find_name s.tree d name)

      by_names : (names : List (List ℕ)) → names_in path ≡ names → (refuse_if (is_top path) refusal.Busy >>= λ _. from_spot (walk s.tree names))
          ≡ ((walk s.tree names >>= λ spot. or_refuse (at_spot s.tree spot) refusal.NoEntry >>= λ found. named_in spot found refusal.Busy) >>= remove_name)
      by_names [] is = ap (λ b. refuse_if b refusal.Busy >>= λ _. from_spot (walk s.tree [])) (let e : is_top path ≡ true = rw is refl in e)
      by_names (name ∷ more) is = ap (λ b. refuse_if b refusal.Busy >>= λ _. from_spot (walk s.tree (name ∷ more))) (let e : is_top path ≡ false = rw is refl in e)
          ∙ by_spot (walk_from s.tree 2 name more) (never_top s.tree 2 name more)

      by : (bad long : Bool)
          → ((refuse_if bad refusal.Invalid >>= λ _. refuse_if long refusal.NameTooLong >>= λ _. Ok (names_in path))
          >>= λ names. refuse_if (is_top path) refusal.Busy >>= λ _. from_spot (walk s.tree names))
          ≡ ((((refuse_if bad refusal.Invalid >>= λ _. refuse_if long refusal.NameTooLong >>= λ _. Ok (names_in path)) >>= λ names. walk s.tree names)
          >>= λ spot. or_refuse (at_spot s.tree spot) refusal.NoEntry >>= λ found. named_in spot found refusal.Busy) >>= remove_name)
      by true long = refl
      by false true = refl
      by false false = by_names (names_in path) refl

-- ---- a name that is there

-- its directory has it
name_there : (g : Request) (t : Tree) (path : List ℕ) (at_root : Refusal) (x : NameAt) → Ok x ≡ name_of g t path at_root → (name : List ℕ) × (find_name t x.d name ≡ Some x.found)
name_there g t path at_root x is = by (spot_of g t path) is
  where
    by_found : (d : ℕ) (name : List ℕ) (o : Option Found) → find_name t d name ≡ o → Ok x ≡ (or_refuse o refusal.NoEntry >>= λ found. named_in (within d name) found at_root)
        → (name : List ℕ) × (find_name t x.d name ≡ Some x.found)
    by_found d name None there is = absurd (cc)
    by_found d name (Some found) there is =
        let same : x ≡ record { d = d; found = found } = cc in
        (name, ap (λ (y : NameAt). find_name t y.d name) same ∙ there ∙ sym (ap (λ (y : NameAt). Some y.found) same))

    by : (r : Result Spot Refusal) → Ok x ≡ (r >>= λ spot. or_refuse (at_spot t spot) refusal.NoEntry >>= λ found. named_in spot found at_root)
        → (name : List ℕ) × (find_name t x.d name ≡ Some x.found)
    by (Err e) is = absurd (cc)
    by (Ok top) is = absurd (cc)
    by (Ok (within d name)) is = by_found d name (find_name t d name) refl is

-- its node has as many links as its head tells
pub head_links : (g : Request) (t : Tree) (n : ℕ) (head : Head) → Some head ≡ head_at g t n → links_of g t n ≡ head.links
head_links g t n head is = by (t n) is
  where
    by : (o : Option Node) → Some head ≡ head_of_some g t n o → links_of g t n ≡ head.links
    by None is = absurd (cc)
    by (Some node) is = sym (ap (λ (h : Head). h.links) (let e : head ≡ head_of_node g t n node = cc in e))

-- a file has no slots
pub file_slotless : (t : Tree) (n : ℕ) → is_directory t n ≡ false → slots_at t n ≡ []
file_slotless t n kind = by (unwrap_or (t n) (file [] [])) kind
  where
    by : (node : Node) → is_directory_node node ≡ false → slots_of_node node ≡ []
    by (file content present) kind = refl
    by (directory slots parent) kind = absurd (let e : true ≡ false = kind in cc)

-- and a directory that is told to have none
pub empty_slotless : (slots : Slots) → (length slots == 0) ≡ true → slots ≡ []
empty_slotless [] is = refl
empty_slotless (slot ∷ slots) is = absurd (let none = eqb-true (length (slot ∷ slots)) 0 is in omega (arith, none))

pub empty_is : (slots : Slots) → (length slots == 0) ≡ is_empty slots
empty_is [] = refl
empty_is (slot ∷ slots) = ne_eqb (length (slot ∷ slots)) 0 (λ none. absurd (omega (arith, none)))

abbrev pub at_name : Named → NameAt
at_name named = record { d = named.d; found = found_in named }

pub leaf_name : (g : Request) (t : Tree) (path : List ℕ) (at_root : Refusal) (named : Named) → Ok (at_name named) ≡ name_of g t path at_root → Some named.head ≡ head_at g t named.number
    → slots_at t named.number ≡ [] → IsLeafName g t named
leaf_name g t path at_root named is head slotless =
    let n = name_there g t path at_root (at_name named) is in
    let f = is_found n.0 (slots_at t named.d) (found_in named) n.1 in
    record { entry = f.entry; there = f.there; number = f.number_is; slotless = slotless; links = head_links g t named.number named.head head }

-- ---- what is planned

module _ (g : Request) (s : State) (path : List ℕ) (tree : IsTree g s.tree) where
  pub unlink_refused : (e : Refusal) → Err e ≡ name_of g s.tree path refusal.IsDir → Err e ≡ plan_unlink g s path
  unlink_refused e is = sym (unlink_by_name g s path tree ∙ ap (λ (r : Result NameAt Refusal). r >>= unlink_name g s path) (sym is))

  module _ (x : NameAt) (is : Ok x ≡ name_of g s.tree path refusal.IsDir) where
    to_unlink : unlink_name g s path x ≡ plan_unlink g s path
    to_unlink = sym (unlink_by_name g s path tree ∙ ap (λ (r : Result NameAt Refusal). r >>= unlink_name g s path) (sym is))

    pub unlink_directory : is_directory s.tree x.found.number ≡ true → Err refusal.IsDir ≡ plan_unlink g s path
    unlink_directory kind =
        sym (ap (λ b. refuse_if b refusal.IsDir >>= λ _. refuse_if (is_busy g s x.found.number) refusal.Busy >>= λ _. Ok (plan_name g s path x)) kind) ∙ to_unlink

    unlink_by : (busy : Bool) → is_directory s.tree x.found.number ≡ false → is_busy g s x.found.number ≡ busy
        → (refuse_if busy refusal.Busy >>= λ _. Ok (plan_name g s path x)) ≡ plan_unlink g s path
    unlink_by busy kind same =
        sym (λ i. refuse_if (kind i) refusal.IsDir >>= λ _. refuse_if (same i) refusal.Busy >>= λ _. Ok (plan_name g s path x)) ∙ to_unlink

    pub unlink_busy : is_directory s.tree x.found.number ≡ false → is_busy g s x.found.number ≡ true → Err refusal.Busy ≡ plan_unlink g s path
    unlink_busy kind busy = unlink_by true kind busy

    pub unlink_plans : is_directory s.tree x.found.number ≡ false → is_busy g s x.found.number ≡ false → Ok (plan_name g s path x) ≡ plan_unlink g s path
    unlink_plans kind free = unlink_by false kind free

module _ (g : Request) (s : State) (path : List ℕ) where
  pub remove_refused : (e : Refusal) → Err e ≡ name_of g s.tree path refusal.Busy → Err e ≡ plan_remove_dir g s path
  remove_refused e is = sym (remove_by_name g s path ∙ ap (λ (r : Result NameAt Refusal). r >>= remove_name g s path) (sym is))

  module _ (x : NameAt) (is : Ok x ≡ name_of g s.tree path refusal.Busy) where
    remove_by : (kind empty busy : Bool) → is_directory s.tree x.found.number ≡ kind → is_empty (slots_at s.tree x.found.number) ≡ empty → is_open s.descriptors x.found.number ≡ busy
        → (refuse_if (not kind) refusal.NotDir >>= λ _. refuse_if (not empty) refusal.NotEmpty >>= λ _. refuse_if busy refusal.Busy >>= λ _. Ok (plan_name g s path x))
        ≡ plan_remove_dir g s path
    remove_by kind empty busy one two three =
        sym (λ i. refuse_if (not (one i)) refusal.NotDir >>= λ _. refuse_if (not (two i)) refusal.NotEmpty >>= λ _. refuse_if (three i) refusal.Busy >>= λ _. Ok (plan_name g s path x))
        ∙ sym (remove_by_name g s path ∙ ap (λ (r : Result NameAt Refusal). r >>= remove_name g s path) (sym is))

    pub remove_file : is_directory s.tree x.found.number ≡ false → Err refusal.NotDir ≡ plan_remove_dir g s path
    remove_file kind = remove_by false (is_empty (slots_at s.tree x.found.number)) (is_open s.descriptors x.found.number) kind refl refl

    pub remove_filled : is_directory s.tree x.found.number ≡ true → is_empty (slots_at s.tree x.found.number) ≡ false → Err refusal.NotEmpty ≡ plan_remove_dir g s path
    remove_filled kind filled = remove_by true false (is_open s.descriptors x.found.number) kind filled refl

    pub remove_busy : is_directory s.tree x.found.number ≡ true → is_empty (slots_at s.tree x.found.number) ≡ true → is_open s.descriptors x.found.number ≡ true
        → Err refusal.Busy ≡ plan_remove_dir g s path
    remove_busy kind empty busy = remove_by true true true kind empty busy

    pub remove_plans : is_directory s.tree x.found.number ≡ true → is_empty (slots_at s.tree x.found.number) ≡ true → is_open s.descriptors x.found.number ≡ false
        → Ok (plan_name g s path x) ≡ plan_remove_dir g s path
    remove_plans kind empty free = remove_by true true false kind empty free

-- ---- the node by its head

pub kind_directory : (g : Request) (t : Tree) (n : ℕ) (head : Head) → Some head ≡ head_at g t n → head.kind ≡ Directory → is_directory t n ≡ true
kind_directory g t n head is kind = let r = directory_of g t n head is kind in is_a_directory t n r.0 r.1 r.2

pub kind_file : (g : Request) (t : Tree) (n : ℕ) (head : Head) → Some head ≡ head_at g t n → head.kind ≡ File → is_directory t n ≡ false
kind_file g t n head is kind = let r = file_of g t n head is kind in is_a_file t n r.0 r.1 r.2

-- whether an open descriptor keeps it
pub busy_is : (g : Request) (s : State) (ds : Descriptors) (named : Named) → Some named.head ≡ head_at g s.tree named.number → s.descriptors ≡ ds
    → is_busy g s named.number ≡ (is_last named && is_open ds named.number)
busy_is g s ds named head are = λ i. (head_links g s.tree named.number named.head head i == 1) && is_open (are i) named.number

-- ---- no name goes

pub unlink_not : (st : StoreState) (ds : Descriptors) (path : List ℕ) (stop : Stop)
    → IfAnswered {T = Named} (Err stop) (λ r. OnTree st (λ t. name_in r ≡ name_of st.origin.request t path refusal.IsDir))
    → IfAnswered {T = Named} (Err stop) (λ r. (z : State) → StoreStands st z → IsTree st.origin.request z.tree → z.descriptors ≡ ds
    → unnaming st.origin.request z r ≡ plan_unlink st.origin.request z path)
unlink_not st ds path (Refused e) is = λ z stands tree are. unlink_refused st.origin.request z path tree e (is z stands tree)
unlink_not st ds path (Fault fault) is = tt

pub remove_not : (st : StoreState) (ds : Descriptors) (path : List ℕ) (stop : Stop)
    → IfAnswered {T = Named} (Err stop) (λ r. OnTree st (λ t. name_in r ≡ name_of st.origin.request t path refusal.Busy))
    → IfAnswered {T = Named} (Err stop) (λ r. (z : State) → StoreStands st z → IsTree st.origin.request z.tree → z.descriptors ≡ ds
    → unnaming st.origin.request z r ≡ plan_remove_dir st.origin.request z path)
remove_not st ds path (Refused e) is = λ z stands tree are. remove_refused st.origin.request z path e (is z stands tree)
remove_not st ds path (Fault fault) is = tt

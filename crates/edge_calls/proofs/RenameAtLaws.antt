-- What the parts of a rename find, in the words of a tree, and of the tree that a store stands for.
use Rattle.std.proofs.Common.{◌≡◌, ◌∙◌, ℕ, ◌==◌, ◌&&◌, not, Bool, true, false, cond, List, [], ◌∷◌, length, refl, sym, ap, subst, arith, Option, Some, None}
use Rattle.std.specs.Prelude.{Result, Ok, Err}
use Rattle.std.proofs.lemmas.Bool.{ne_eqb}
use Rattle.edge_base.specs.commands.Descriptors.{Descriptors, first_empty, is_open}
use Rattle.edge_base.specs.commands.Paths.{names_in}
use Rattle.edge_base.specs.commands.Refusals.{◌>>=◌, refuse_if, or_refuse}
use Rattle.edge_base.specs.declared.geometry.Request.{Request}
use Rattle.edge_base.specs.declared.node.Head.{Head}
use Rattle.edge_base.specs.declared.node.NodeType.{NodeType}
use Rattle.edge_base.specs.declared.node.NodeType.TheVariants.{File, Directory}
use Rattle.edge_base.specs.declared.refusal.Refusal.{Refusal}
use Rattle.edge_base.specs.declared.refusal.Refusal.TheVariants as refusal
use Rattle.edge_base.specs.tree.Nodes.{Node}
use Rattle.edge_base.specs.tree.Slots.{Slots}
use Rattle.edge_base.specs.outside.Below.{Origin}
use Rattle.edge_store.specs.State.{StoreState}
use Rattle.edge_store.specs.declared.store.Store.{Ghosts as StoreGhosts}
use Rattle.edge_dir.specs.Directory.{IsDirectoryNode}
use Rattle.edge_model.specs.Names.{has_one_link, is_empty}
use Rattle.edge_model.specs.Tree.{Tree, is_directory, links_of, slots_at}
use Rattle.edge_model.specs.Walk.{Found, Spot, at_spot, find_name, walk}
use Rattle.edge_image.specs.Opens.{head_of_node}
use Rattle.edge_steps.proofs.NodeLaws.{is_a_directory, is_a_file}
use Rattle.edge_volume.specs.Nodes.{IsNodeOf, OnTree, head_at, head_of_some}
use Rattle.edge_volume.specs.declared.stop.Stop.{Stop}
use Rattle.edge_volume.specs.declared.stop.Stop.TheVariants.{Refused, Fault}
use Rattle.edge_volume.specs.Parts.{Looks}
use Rattle.edge_volume.specs.Stopped.{IfAnswered}
use Rattle.edge_volume.proofs.NodeLaws.{head_of_number}
use Rattle.edge_walk.specs.Ways.{goes_through}
use Rattle.edge_walk.proofs.StillLaws.{on_tree_before}
use Rattle.edge_walk.proofs.TreeLaws.{directory_of, file_of}
use Rattle.edge_names.specs.declared.moves.NamedNode.{NamedNode}
use Rattle.edge_calls.specs.declared.rename.Renaming.{Renaming}
use Rattle.edge_calls.specs.Renames.{Held, NameIn, Rename, held_at, held_of, is_of_directory, name_at, name_for, number_as, paths_of, rename_as, rename_in, rename_of, rename_onto, replaced_by, slot_for, takes}

-- ---- the two names

module _ (t : Tree) (names : List (List ℕ)) where
  -- what has the name that is to be moved
  pub held_refused : (e : Refusal) → Err e ≡ walk t names → Err e ≡ held_of t names
  held_refused e is = ap (λ (r : Result Spot Refusal). r >>= λ spot. or_refuse (at_spot t spot) refusal.NoEntry >>= λ found. held_at spot found) is

  pub held_found : (spot : Spot) (o : Option Found) → Ok spot ≡ walk t names → o ≡ at_spot t spot → (or_refuse o refusal.NoEntry >>= λ found. held_at spot found) ≡ held_of t names
  held_found spot o is there =
      ap (λ (x : Option Found). or_refuse x refusal.NoEntry >>= λ found. held_at spot found) there
      ∙ ap (λ (r : Result Spot Refusal). r >>= λ spot. or_refuse (at_spot t spot) refusal.NoEntry >>= λ found. held_at spot found) is

  -- the name that node n is to have
  pub name_refused : (n : ℕ) (e : Refusal) → Err e ≡ walk t names → Err e ≡ name_for t names n
  name_refused n e is = ap (λ (r : Result Spot Refusal). r >>= λ spot. refuse_if (is_directory t n && goes_through t names n) refusal.Invalid >>= λ _. name_at spot) is

  pub name_found : (n : ℕ) (spot : Spot) (below : Bool) → Ok spot ≡ walk t names → below ≡ (is_directory t n && goes_through t names n)
      → (refuse_if below refusal.Invalid >>= λ _. name_at spot) ≡ name_for t names n
  name_found n spot below is same =
      ap (λ (b : Bool). refuse_if b refusal.Invalid >>= λ _. name_at spot) same
      ∙ ap (λ (r : Result Spot Refusal). r >>= λ spot. refuse_if (is_directory t n && goes_through t names n) refusal.Invalid >>= λ _. name_at spot) is

-- ---- a node that is replaced

-- by its tests one after another: the kinds, entries, and whether it is open
module _ (g : Request) (t : Tree) (ds : Descriptors) (n r : ℕ) (kind over : NodeType) (one : is_of_directory kind ≡ is_directory t n) (two : is_of_directory over ≡ is_directory t r) where
  abbrev rest : Bool → Bool → Result ℕ Refusal
  rest c d = refuse_if c refusal.NotEmpty >>= λ _. refuse_if d refusal.Busy >>= λ _. Ok r

  tests : (a b c d : Bool) → ((refuse_if (a && not b) refusal.NotDir >>= λ _. refuse_if (not a && b) refusal.IsDir) >>= λ _. rest c d)
      ≡ (refuse_if (a && not b) refusal.NotDir >>= λ _. refuse_if (not a && b) refusal.IsDir >>= λ _. rest c d)
  tests true true c d = refl
  tests true false c d = refl
  tests false true c d = refl
  tests false false c d = refl

  replaced_is : (c d : Bool) → c ≡ (is_directory t r && not (is_empty (slots_at t r))) → d ≡ (has_one_link g t r && is_open ds r)
      → (takes kind over >>= λ _. rest c d) ≡ replaced_by g t ds n r
  replaced_is c d three four =
      tests (is_of_directory kind) (is_of_directory over) c d
      ∙ (λ i. refuse_if (one i && not (two i)) refusal.NotDir >>= λ _. refuse_if (not (one i) && two i) refusal.IsDir >>= λ _. rest (three i) (four i))

  pub kinds_refused : (e : Refusal) → Err e ≡ takes kind over → Err e ≡ replaced_by g t ds n r
  kinds_refused e is = ap (λ (x : Result (Unit {0}) Refusal). x >>= λ _. rest (is_directory t r && not (is_empty (slots_at t r))) (has_one_link g t r && is_open ds r)) is
      ∙ replaced_is _ _ refl refl

  module _ (is : Ok tt ≡ takes kind over) where
    pub filled_refused : true ≡ (is_directory t r && not (is_empty (slots_at t r))) → Err refusal.NotEmpty ≡ replaced_by g t ds n r
    filled_refused filled =
        ap (λ (x : Result (Unit {0}) Refusal). x >>= λ _. rest true (has_one_link g t r && is_open ds r)) is ∙ replaced_is true _ filled refl

    pub busy_refused : false ≡ (is_directory t r && not (is_empty (slots_at t r))) → true ≡ (has_one_link g t r && is_open ds r) → Err refusal.Busy ≡ replaced_by g t ds n r
    busy_refused empty busy = ap (λ (x : Result (Unit {0}) Refusal). x >>= λ _. rest false true) is ∙ replaced_is false true empty busy

    pub replaced_so : false ≡ (is_directory t r && not (is_empty (slots_at t r))) → false ≡ (has_one_link g t r && is_open ds r) → Ok r ≡ replaced_by g t ds n r
    replaced_so empty free = ap (λ (x : Result (Unit {0}) Refusal). x >>= λ _. rest false false) is ∙ replaced_is false false empty free

-- ---- what is at the new name

module _ (g : Request) (t : Tree) (ds : Descriptors) (held : Held) (name : NameIn) where
  abbrev into : ℕ → Option ℕ → Rename
  into slot replaced = record { held = held; name = name; slot = slot; replaced = replaced }

  -- nothing, and this is the first empty slot
  pub onto_none : (slot : ℕ) (r : Result ℕ Refusal) → (find_name t name.dir name.name ≡ None) × (slot ≡ first_empty (slots_at t name.dir))
      → r ≡ slot_for g slot
      → (r >>= λ k. Ok (Some (into k None))) ≡ rename_in g t ds held name
  onto_none slot r there is =
      ap (λ (x : Result ℕ Refusal). x >>= λ k. Ok (Some (into k None))) is
      ∙ ap (λ (k : ℕ). slot_for g k >>= λ k. Ok (Some (into k None))) there.1
      ∙ ap (rename_onto g t ds held name) (sym there.0)

  module _ (found : Found) (there : find_name t name.dir name.name ≡ Some found) where
    abbrev onto : Bool → Result ℕ Refusal → Result (Option Rename) Refusal
    onto same r = cond same (Ok None) (r >>= λ k. Ok (Some (into found.slot (Some k))))

    -- the node itself
    pub onto_same : (found.number == held.number) ≡ true → Ok None ≡ rename_in g t ds held name
    onto_same same = ap (λ (b : Bool). onto b (replaced_by g t ds held.number found.number)) (sym same) ∙ ap (rename_onto g t ds held name) (sym there)

    -- another one
    pub onto_other : (found.number == held.number) ≡ false → (r : Result ℕ Refusal) → r ≡ replaced_by g t ds held.number found.number
        → (r >>= λ k. Ok (Some (into found.slot (Some k)))) ≡ rename_in g t ds held name
    onto_other other r is =
        ap (onto false) is ∙ ap (λ (b : Bool). onto b (replaced_by g t ds held.number found.number)) (sym other) ∙ ap (rename_onto g t ds held name) (sym there)

-- ---- all together

module _ (g : Request) (t : Tree) (ds : Descriptors) (path to : List ℕ) where
  pub paths_refused : (e : Refusal) → paths_of g path to ≡ Err e → Err e ≡ rename_of g t ds path to
  paths_refused e is =
      ap (λ (r : Result (Unit {0}) Refusal). r >>= λ _. held_of t (names_in path) >>= λ held. name_for t (names_in to) held.number >>= λ name. rename_in g t ds held name) (sym is)

  module _ (is : paths_of g path to ≡ Ok tt) where
    -- what was found of the first name, and what follows
    pub by_held : (h : Result Held Refusal) → h ≡ held_of t (names_in path)
        → (h >>= λ held. name_for t (names_in to) held.number >>= λ name. rename_in g t ds held name) ≡ rename_of g t ds path to
    by_held h there =
        ap (λ (x : Result Held Refusal). x >>= λ held. name_for t (names_in to) held.number >>= λ name. rename_in g t ds held name) there
        ∙ ap (λ (r : Result (Unit {0}) Refusal). r >>= λ _. held_of t (names_in path) >>= λ held. name_for t (names_in to) held.number >>= λ name. rename_in g t ds held name) (sym is)

    pub by_name : (held : Held) → Ok held ≡ held_of t (names_in path) → (n : Result NameIn Refusal) → n ≡ name_for t (names_in to) held.number
        → (n >>= λ name. rename_in g t ds held name) ≡ rename_of g t ds path to
    by_name held there n named = ap (λ (x : Result NameIn Refusal). x >>= λ name. rename_in g t ds held name) named ∙ by_held (Ok held) there

    pub by_place : (held : Held) (name : NameIn) → Ok held ≡ held_of t (names_in path) → Ok name ≡ name_for t (names_in to) held.number
        → (r : Result (Option Rename) Refusal) → r ≡ rename_in g t ds held name → r ≡ rename_of g t ds path to
    by_place held name there named r same = same ∙ by_name held there (Ok name) named

-- ---- the kind of a node

pub head_in_tree : (st : StoreState) (n : ℕ) (head : Head) → IsNodeOf st n head → OnTree st (λ t. Some head ≡ head_at st.origin.request t n)
head_in_tree st n head node z stands tree = sym (node.is_head stands.told) ∙ head_of_number st.origin.request st.working z.tree stands.views.tree n

-- so is its kind
pub kind_in_tree : (st : StoreState) (n : ℕ) (head : Head) → IsNodeOf st n head → OnTree st (λ t. is_of_directory head.kind ≡ is_directory t n)
kind_in_tree st n head node z stands tree = by head.kind refl
  where
    by : (kind : NodeType) → head.kind ≡ kind → is_of_directory kind ≡ is_directory z.tree n
    by Directory kind = let r = directory_of st.origin.request z.tree n head (head_in_tree st n head node z stands tree) kind in sym (is_a_directory z.tree n r.0 r.1 r.2)
    by File kind = let r = file_of st.origin.request z.tree n head (head_in_tree st n head node z stands tree) kind in sym (is_a_file z.tree n r.0 r.1 r.2)

pub in_way : (st : StoreState) (n : ℕ) (head : Head) (names : List (List ℕ)) (through : Bool) → IsNodeOf st n head → OnTree st (λ t. through ≡ goes_through t names n)
    → OnTree st (λ t. (is_of_directory head.kind && through) ≡ (is_directory t n && goes_through t names n))
in_way st n head names through node goes z stands tree i = kind_in_tree st n head node z stands tree i && goes z stands tree i

-- and whether it has one link
links_by : (g : Request) (t : Tree) (n : ℕ) (head : Head) (o : Option Node) → Some head ≡ head_of_some g t n o → head.links ≡ links_of g t n
links_by g t n head None is = absurd (cc)
links_by g t n head (Some node) is = ap (λ (h : Head). h.links) (let e : head ≡ head_of_node g t n node = cc in e)

pub busy_in_tree : (st : StoreState) (n : ℕ) (head : Head) (ds : Descriptors) → IsNodeOf st n head
    → OnTree st (λ t. ((head.links == 1) && is_open ds n) ≡ (has_one_link st.origin.request t n && is_open ds n))
busy_in_tree st n head ds node z stands tree =
    ap (λ (k : ℕ). (k == 1) && is_open ds n) (links_by st.origin.request z.tree n head (z.tree n) (head_in_tree st n head node z stands tree))

-- a directory that is told to have no slots
pub empty_is : (slots : Slots) → (length slots == 0) ≡ is_empty slots
empty_is [] = refl
empty_is (slot ∷ slots) = ne_eqb (length (slot ∷ slots)) 0 (λ none. absurd (omega (arith, none)))

pub is_node_directory : (st : StoreState) (n : ℕ) (head : Head) → IsNodeOf st n head → head.kind ≡ Directory → IsDirectoryNode st n
is_node_directory st n head node kind told = (head, node.is_head told, kind)

-- ---- onto another node, found by a store later on

module _ {A : Type 0} (S : StoreGhosts A) (a b : A) (looks : Looks S None a b) (ds : Descriptors) (held : Held) (name : NameIn) (found : Found)
    (there : OnTree (S.state a) (λ t. find_name t name.dir name.name ≡ Some found)) (other : (found.number == held.number) ≡ false) where
  abbrev IsReplaced : Result ℕ Refusal → Type 0
  IsReplaced r = OnTree (S.state b) (λ t. r ≡ replaced_by (S.state b).origin.request t ds held.number found.number)

  onto_at : (r : Result ℕ Refusal) → IsReplaced r
      → OnTree (S.state a) (λ t. (r >>= λ k. Ok (Some (let x : Rename = record { held = held; name = name; slot = found.slot; replaced = Some k } in x)))
      ≡ rename_in (S.state a).origin.request t ds held name)
  onto_at r is z stands tree =
      onto_other (S.state a).origin.request z.tree ds held name found (there z stands tree) other r
      (subst (λ (o : Origin). r ≡ replaced_by o.request z.tree ds held.number found.number) looks.ends.origin
      (on_tree_before S a b looks (λ t. r ≡ replaced_by (S.state b).origin.request t ds held.number found.number) is z stands tree))

  pub onto_stopped : (stop : Stop) → IfAnswered {T = NamedNode} (Err stop) (λ r. IsReplaced (number_as r))
      → IfAnswered {T = Option Renaming} (Err stop) (λ r. OnTree (S.state a) (λ t. rename_as r ≡ rename_in (S.state a).origin.request t ds held name))
  onto_stopped (Refused e) is = onto_at (Err e) is
  onto_stopped (Fault fault) is = tt

  pub onto_moved : (k : ℕ) (m : Rename) → m ≡ record { held = held; name = name; slot = found.slot; replaced = Some k } → IsReplaced (Ok k)
      → OnTree (S.state a) (λ t. Ok (Some m) ≡ rename_in (S.state a).origin.request t ds held name)
  onto_moved k m same is z stands tree = ap (λ (x : Rename). Ok (Some x)) same ∙ onto_at (Ok k) is z stands tree

-- ---- a move found by a store later on

module _ {A : Type 0} (S : StoreGhosts A) (a b : A) (looks : Looks S None a b) (ds : Descriptors) (path to : List ℕ) (held : Held) (name : NameIn)
    (paths : paths_of (S.state a).origin.request path to ≡ Ok tt) (there : OnTree (S.state a) (λ t. Ok held ≡ held_of t (names_in path)))
    (named : OnTree (S.state a) (λ t. Ok name ≡ name_for t (names_in to) held.number)) where
  found_so : (x : Result (Option Renaming) Refusal) → OnTree (S.state b) (λ t. rename_as x ≡ rename_in (S.state b).origin.request t ds held name)
      → OnTree (S.state a) (λ t. rename_as x ≡ rename_of (S.state a).origin.request t ds path to)
  found_so x is z stands tree =
      by_place (S.state a).origin.request z.tree ds path to paths held name (there z stands tree) (named z stands tree) (rename_as x)
      (subst (λ (o : Origin). rename_as x ≡ rename_in o.request z.tree ds held name) looks.ends.origin
      (on_tree_before S a b looks (λ t. rename_as x ≡ rename_in (S.state b).origin.request t ds held name) is z stands tree))

  pub all_found : (r : Result (Option Renaming) Stop) → IfAnswered r (λ x. OnTree (S.state b) (λ t. rename_as x ≡ rename_in (S.state b).origin.request t ds held name))
      → IfAnswered r (λ x. OnTree (S.state a) (λ t. rename_as x ≡ rename_of (S.state a).origin.request t ds path to))
  all_found (Ok x) is = found_so (Ok x) is
  all_found (Err (Refused e)) is = found_so (Err e) is
  all_found (Err (Fault fault)) is = tt

-- Each plan that makes, links or drops a name leads to a tree.
use Rattle.std.proofs.Common.{◌≡◌, ℕ, ◌<◌, ◌&&◌, not, Bool, true, false, cond, List, [], ◌∷◌, is_some, nat_le, ⊎_elim, Option, Some, None, Result, Ok, refl, sym, ap, ◌∙◌, subst, arith, eqb-true}
use Rattle.std.proofs.lemmas.Bool.{false≢true, cases_lt, leb-false, eqb-false}
use Rattle.edge_base.specs.declared.geometry.Request.{Request}
use Rattle.edge_base.specs.declared.refusal.Refusal.{Refusal}
use Rattle.edge_base.specs.declared.refusal.Refusal.TheVariants as refusal
use Rattle.edge_base.specs.commands.Refusals.{◌>>=◌, refuse_if, or_refuse}
use Rattle.edge_base.specs.layout.Places.{max_blocks_of}
use Rattle.edge_base.specs.commands.Descriptors.{Descriptors, is_open}
use Rattle.edge_base.specs.commands.Paths.{names_of, names_in, two_paths}
use Rattle.edge_base.specs.tree.Slots.{Entry, Slots, slots_in_block, slot_blocks}
use Rattle.edge_base.specs.tree.Nodes.{Node, directory}
use Rattle.edge_base.specs.tree.NodeRules.{IsDirectory}
use Rattle.edge_model.specs.Tree.{Tree, is_directory, slots_at, links_of, names_of_number, with_node}
use Rattle.edge_model.specs.Walk.{Spot, top, within, Found, at_spot, spot_of, walk, is_top}
use Rattle.edge_model.specs.State.{State}
use Rattle.edge_model.specs.Named.{new_slot, new_name, placed, cleared}
use Rattle.edge_model.specs.Names.{plan_make_dir, plan_link, plan_unlink, plan_remove_dir, make_dir_at, link_at, unlink_at, is_busy, is_empty, has_one_link, unnamed}
use Rattle.edge_model.specs.Rules.{IsTree}
use Rattle.edge_model.proofs.Plans.{Gives, gives_ok, gives_none, gives_after, gives_each}
use Rattle.edge_model.proofs.Changes.{passes, is_some_of, none_is, not_false}
use Rattle.edge_model.proofs.SlotLaws.{no_pieces}
use Rattle.edge_model.proofs.WalkLaws.{in_directory, walk_in_directory}
use Rattle.edge_model.specs.Bytes.{AreBytes}
use Rattle.edge_steps.specs.Rules.{HasTrees}
use Rattle.edge_steps.proofs.SlotLaws.{slot_in, none_some, from_slotwise}
use Rattle.edge_steps.proofs.CountLaws.{slot_at, slot_names}
use Rattle.edge_steps.proofs.NodeLaws.{node_set, same_kinds, placed_set, cleared_set, directory_is, file_is, is_a_directory}
use Rattle.edge_steps.proofs.WalkLaws.{IsGood, path_name, walk_last, both_paths, is_found}
use Rattle.edge_steps.proofs.MakeLaws.{IsMade, linked_tree, slots_of}
use Rattle.edge_steps.proofs.DropLaws.{cleared_tree, dropped_tree}
use Rattle.edge_steps.proofs.OpenLaws.{AreFor, for_stays, for_stays_but, set_stays_but}
use Rattle.edge_steps.proofs.PlanLaws.{IsSound, new_made, new_place, empty_slot, found_there}

-- ---- mkdir

-- no slots at all are those of a directory
empty_directory : (g : Request) → IsDirectory g []
empty_directory g = from_slotwise g [] (record {
  entries = λ i e is. absurd (none_some e is);
  apart = λ i j a b one two same. absurd (none_some a one);
  last_filled = refl;
  size = ⊎_elim (λ (more : max_blocks_of g < slot_blocks g []). absurd (no_pieces (slots_in_block g) (max_blocks_of g) more)) (λ h. h) (cases_lt (max_blocks_of g) (slot_blocks g []));
})

made_directory : (g : Request) (d : ℕ) → IsMade g d (directory [] d)
made_directory g d = record { good = empty_directory g; slotless = refl; parent = λ slots number is. (let same : d ≡ number = cc in sym same) }

make_dir_at_sound : (g : Request) (s : State) (path : List ℕ) (spot : Spot) → HasTrees g s → AreBytes path → spot_of g s.tree path ≡ Ok spot → at_spot s.tree spot ≡ None → Gives (IsSound g s) (make_dir_at g s spot)
make_dir_at_sound g s path top has bytes at absent = gives_none _ refusal.Exists
make_dir_at_sound g s path (within d name) has bytes at absent =
    gives_after _ (new_name g s.tree (within d name) (directory [] d)) _ (λ new was.
    let made = new_made g s.tree path d name (directory [] d) new has.tree bytes at absent (made_directory g d) was in
    gives_ok _ _ (record { tree = made.tree; table = for_stays s.tree new.edit.tree s.descriptors made.stays has.descriptors }))

pub make_dir_sound : (g : Request) (s : State) (path : List ℕ) → HasTrees g s → AreBytes path → Gives (IsSound g s) (plan_make_dir g s path)
unfolding plan_make_dir
make_dir_sound g s path has bytes =
    gives_after _ (spot_of g s.tree path) _ (λ spot at.
    gives_after _ (refuse_if (is_some (at_spot s.tree spot)) refusal.Exists) _ (λ u absent.
    make_dir_at_sound g s path spot has bytes at (none_is (at_spot s.tree spot) (passes _ _ u absent))))

-- ---- link

-- the links of what is no directory are its names
file_links : (g : Request) (t : Tree) (n : ℕ) → is_directory t n ≡ false → links_of g t n ≡ names_of_number g t n
file_links g t n kind = ap (λ b. cond b 1 (names_of_number g t n)) kind

not_root : (g : Request) (t : Tree) (n : ℕ) → IsTree g t → is_directory t n ≡ false → n ≡ 2 → ⊥
not_root g t n tree kind same = false≢true (sym kind ∙ ap (λ m. is_directory t m) same ∙ is_a_directory t 2 tree.root.0 0 tree.root.1)

link_at_sound : (g : Request) (s : State) (to : List ℕ) (from : Spot) (found : Found) (spot : Spot) → HasTrees g s → at_spot s.tree from ≡ Some found → is_directory s.tree found.number ≡ false
    → ((d : ℕ) (name : List ℕ) → spot ≡ within d name → IsGood g name) → walk s.tree (names_in to) ≡ Ok spot → at_spot s.tree spot ≡ None → nat_le 65535 (links_of g s.tree found.number) ≡ false → Gives (IsSound g s) (link_at g s found.number spot)
link_at_sound g s to from found top has there kind good at absent few = gives_none _ refusal.Exists
link_at_sound g s to from found (within d name) has there kind good at absent few =
    gives_after _ (new_slot g s.tree d) _ (λ slot room.
    let e : Entry = record { name = name; number = found.number } in
    let dir = walk_in_directory s.tree (names_in to) d name at in
    let here = found_there g s.tree from found has.tree there in
    let range = has.tree.in_range found.number here in
    let place = new_place g s.tree d name found.number slot dir (good d name refl) range.0 range.1 (not_root g s.tree found.number has.tree kind) absent room in
    let kinds = same_kinds s.tree (placed s.tree d slot e) d _ (placed_set s.tree d slot e dir) in
    let links = file_links g s.tree found.number kind in
    let fewer = leb-false 65535 (links_of g s.tree found.number) few in
    gives_ok _ _ (record {
      tree = linked_tree g s.tree d slot e has.tree place (empty_slot g s.tree d slot room) here kind (omega arith);
      table = for_stays s.tree (placed s.tree d slot e) s.descriptors (λ x is. (kinds.there x ∙ is, kinds.kinds x)) has.descriptors;
    }))

-- the last name of the second path
pub second_name : (g : Request) (t : Tree) (path to : List ℕ) (spot : Spot) → AreBytes to → two_paths g.name_max path to ≡ Ok tt → walk t (names_in to) ≡ Ok spot → (d : ℕ) (name : List ℕ) → spot ≡ within d name → IsGood g name
second_name g t path to spot bytes paths at d name is = let r = both_paths g path to paths in path_name g to name bytes r.0 r.1 (walk_last t (names_in to) d name (at ∙ ap Ok is))

pub link_sound : (g : Request) (s : State) (path to : List ℕ) → HasTrees g s → AreBytes to → Gives (IsSound g s) (plan_link g s path to)
unfolding plan_link
link_sound g s path to has bytes =
    gives_after _ (two_paths g.name_max path to) _ (λ u paths.
    gives_each _ (walk s.tree (names_in path)) _ (λ from.
    gives_after _ (or_refuse (at_spot s.tree from) refusal.NoEntry) _ (λ found there.
    gives_after _ (refuse_if (is_directory s.tree found.number) refusal.IsDir) _ (λ v kind.
    gives_after _ (walk s.tree (names_in to)) _ (λ spot at.
    gives_after _ (refuse_if (is_some (at_spot s.tree spot)) refusal.Exists) _ (λ w absent.
    gives_after _ (refuse_if (nat_le 65535 (links_of g s.tree found.number)) refusal.TooManyLinks) _ (λ x few.
    link_at_sound g s to from found spot has (is_some_of (at_spot s.tree from) refusal.NoEntry found there) (passes _ _ v kind) (second_name g s.tree path to spot bytes paths at) at
    (none_is (at_spot s.tree spot) (passes _ _ w absent)) (passes _ _ x few))))))))

-- ---- unlink and rmdir

no_slot : (slots : Slots) → is_empty slots ≡ true → (j : ℕ) → slot_in slots j ≡ None
no_slot [] h j = refl
no_slot (x ∷ xs) h j = absurd (false≢true h)

-- a file, and a directory without names, has no slots
pub is_leaf : (g : Request) (t : Tree) (n : ℕ) → is_some (t n) ≡ true → (is_directory t n ≡ true → is_empty (slots_at t n) ≡ true) → (j : ℕ) → slot_at t n j ≡ None
is_leaf g t n there empty j =
    elim (is_directory t n) as (λ b. is_directory t n ≡ b → slot_at t n j ≡ None) [
      | true ↦ λ kind. no_slot (slots_at t n) (empty kind) j
      | false ↦ λ kind. let f = file_is t n there kind in ap (λ (o : Option Node). slot_in (slots_of o) j) f.2
    ] refl

one_name_is : (g : Request) (t : Tree) (n : ℕ) → IsTree g t → (n ≡ 2 → ⊥) → is_directory t n ≡ true → names_of_number g t n ≡ 1
one_name_is g t n tree low kind = let d = directory_is t n kind in (tree.one_name n d.0 d.1 d.2 low).0

-- what goes with one of its names has no other
pub only_name : (g : Request) (t : Tree) (n : ℕ) → IsTree g t → (n ≡ 2 → ⊥) → has_one_link g t n ≡ true → names_of_number g t n ≡ 1
only_name g t n tree low one =
    elim (is_directory t n) as (λ b. is_directory t n ≡ b → names_of_number g t n ≡ 1) [
      | true ↦ λ kind. one_name_is g t n tree low kind
      | false ↦ λ kind. sym (file_links g t n kind) ∙ eqb-true (links_of g t n) 1 one
    ] refl

-- what stays is a file with other names
pub other_names : (g : Request) (t : Tree) (n : ℕ) → has_one_link g t n ≡ false → (is_directory t n ≡ false) × (names_of_number g t n ≡ 1 → ⊥)
other_names g t n many =
    elim (is_directory t n) as (λ b. is_directory t n ≡ b → (is_directory t n ≡ false) × (names_of_number g t n ≡ 1 → ⊥)) [
      | true ↦ λ kind. absurd (eqb-false (links_of g t n) 1 many (ap (λ b. cond b 1 (names_of_number g t n)) kind))
      | false ↦ λ kind. (kind, λ one. eqb-false (links_of g t n) 1 many (file_links g t n kind ∙ one))
    ] refl

unnamed_tree : (g : Request) (t : Tree) (d : ℕ) (name : List ℕ) (found : Found) (last : Bool) → IsTree g t → at_spot t (within d name) ≡ Some found → has_one_link g t found.number ≡ last
    → (is_directory t found.number ≡ true → is_empty (slots_at t found.number) ≡ true) → IsTree g (unnamed g t d found last).tree
unnamed_tree g t d name found true tree at one empty =
    let f = is_found name (slots_at t d) found at in
    let was = tree.named d found.number (slot_names t d found.slot found.number f.entry f.there f.number_is) in
    let leaf = is_leaf g t found.number was.0 empty in
    subst (λ n. IsTree g (with_node (cleared t d found.slot) n None)) f.number_is
    (dropped_tree g t d found.slot f.entry tree f.there (ap (names_of_number g t) f.number_is ∙ only_name g t found.number tree was.1 one) (λ j. ap (λ n. slot_at t n j) f.number_is ∙ leaf j))
unnamed_tree g t d name found false tree at many empty =
    let f = is_found name (slots_at t d) found at in
    let was = tree.named d found.number (slot_names t d found.slot found.number f.entry f.there f.number_is) in
    let leaf = is_leaf g t found.number was.0 empty in
    let other = other_names g t found.number many in
    cleared_tree g t d found.slot f.entry tree f.there (ap (λ n. is_directory t n) f.number_is ∙ other.0) (λ one. other.1 (ap (names_of_number g t) (sym f.number_is) ∙ one)) (λ j. ap (λ n. slot_at t n j) f.number_is ∙ leaf j)

unnamed_table : (g : Request) (t : Tree) (table : Descriptors) (d : ℕ) (found : Found) (last : Bool) → is_directory t d ≡ true → (last ≡ true → is_open table found.number ≡ false) → AreFor t table → AreFor (unnamed g t d found last).tree table
unnamed_table g t table d found true dir closed all =
    let v = cleared t d found.slot in
    let kinds = same_kinds t v d _ (cleared_set t d found.slot dir) in
    for_stays_but v (with_node v found.number None) table found.number (set_stays_but v (with_node v found.number None) found.number None (node_set v found.number None)) (closed refl)
    (for_stays t v table (λ x is. (kinds.there x ∙ is, kinds.kinds x)) all)
unnamed_table g t table d found false dir closed all =
    let v = cleared t d found.slot in
    let kinds = same_kinds t v d _ (cleared_set t d found.slot dir) in
    for_stays t v table (λ x is. (kinds.there x ∙ is, kinds.kinds x)) all

unlink_at_sound : (g : Request) (s : State) (path : List ℕ) (spot : Spot) (found : Found) → HasTrees g s → spot_of g s.tree path ≡ Ok spot → at_spot s.tree spot ≡ Some found
    → (is_directory s.tree found.number ≡ true → is_empty (slots_at s.tree found.number) ≡ true) → (has_one_link g s.tree found.number ≡ true → is_open s.descriptors found.number ≡ false) → IsSound g s (unlink_at g s spot found)
unlink_at_sound g s path top found has at there empty closed = record { tree = has.tree; table = has.descriptors }
unlink_at_sound g s path (within d name) found has at there empty closed = record {
  tree = unnamed_tree g s.tree d name found (has_one_link g s.tree found.number) has.tree there refl empty;
  table = unnamed_table g s.tree s.descriptors d found (has_one_link g s.tree found.number) (in_directory g s.tree path d name at) closed has.descriptors;
}

pub other_false : (a b : Bool) → (a && b) ≡ false → a ≡ true → b ≡ false
other_false true b h one = h
other_false false b h one = absurd (false≢true one)

pub unlink_sound : (g : Request) (s : State) (path : List ℕ) → HasTrees g s → Gives (IsSound g s) (plan_unlink g s path)
unfolding plan_unlink
unlink_sound g s path has =
    gives_after _ (spot_of g s.tree path) _ (λ spot at.
    gives_after _ (or_refuse (at_spot s.tree spot) refusal.NoEntry) _ (λ found there.
    gives_after _ (refuse_if (is_directory s.tree found.number) refusal.IsDir) _ (λ u kind.
    gives_after _ (refuse_if (is_busy g s found.number) refusal.Busy) _ (λ v free.
    gives_ok _ _ (unlink_at_sound g s path spot found has at (is_some_of (at_spot s.tree spot) refusal.NoEntry found there)
    (λ yes. absurd (false≢true (sym (passes _ _ u kind) ∙ yes)))
    (other_false (has_one_link g s.tree found.number) (is_open s.descriptors found.number) (passes _ _ v free)))))))

pub after_names : (g : Request) (t : Tree) (path : List ℕ) (names : List (List ℕ)) (spot : Spot) → names_of g.name_max path ≡ Ok names → walk t names ≡ Ok spot → spot_of g t path ≡ Ok spot
after_names g t path names spot named at = ap (λ (r : Result (List (List ℕ)) Refusal). r >>= walk t) named ∙ at

pub remove_dir_sound : (g : Request) (s : State) (path : List ℕ) → HasTrees g s → Gives (IsSound g s) (plan_remove_dir g s path)
unfolding plan_remove_dir
remove_dir_sound g s path has =
    gives_after _ (names_of g.name_max path) _ (λ names named.
    gives_each _ (refuse_if (is_top path) refusal.Busy) _ (λ _.
    gives_after _ (walk s.tree names) _ (λ spot at.
    gives_after _ (or_refuse (at_spot s.tree spot) refusal.NoEntry) _ (λ found there.
    gives_each _ (refuse_if (not (is_directory s.tree found.number)) refusal.NotDir) _ (λ _.
    gives_after _ (refuse_if (not (is_empty (slots_at s.tree found.number))) refusal.NotEmpty) _ (λ u empty.
    gives_after _ (refuse_if (is_open s.descriptors found.number) refusal.Busy) _ (λ v free.
    gives_ok _ _ (unlink_at_sound g s path spot found has (after_names g s.tree path names spot named at) (is_some_of (at_spot s.tree spot) refusal.NoEntry found there)
    (λ _. not_false (is_empty (slots_at s.tree found.number)) (passes _ _ u empty))
    (λ _. passes _ _ v free)))))))))

-- A rename leads to a tree.
use Rattle.std.proofs.Common.{◌≡◌, ℕ, zero, suc, ◌+◌, ◌==◌, ◌&&◌, Bool, true, false, cond, List, [], is_some, unwrap_or, ◌⊎◌, ⊎_elim, Option, Some, None, Ok, refl, sym, ap, ◌∙◌, subst, arith, eq-eqb}
use Rattle.std.proofs.lemmas.Bool.{false≢true, cases_eq}
use Rattle.edge_base.specs.declared.geometry.Request.{Request}
use Rattle.edge_base.specs.commands.Paths.{names_in}
use Rattle.edge_base.specs.tree.Slots.{Entry, Slots}
use Rattle.edge_base.specs.tree.Nodes.{Node, file, directory}
use Rattle.edge_model.specs.Tree.{Tree, is_directory, is_directory_node, slots_at, names_of_number, with_node}
use Rattle.edge_model.specs.Walk.{within, Found, walk, find_name, gone_through}
use Rattle.edge_model.specs.Named.{placed, cleared}
use Rattle.edge_model.specs.Names.{with_parent, is_below}
use Rattle.edge_model.specs.Rules.{IsTree, IsReached, root, below}
use Rattle.edge_model.proofs.Members.{IsAmong}
use Rattle.edge_steps.proofs.SlotLaws.{slot_in, none_some, some_same}
use Rattle.edge_steps.proofs.CountLaws.{slot_at, ones, SameSlots, same_names, names_changed, slot_names}
use Rattle.edge_steps.proofs.NodeLaws.{node_set, HasBase, base_of, base_set, same_kinds, placed_set, cleared_set, placed_slot, cleared_slot, placed_base, cleared_base, is_there, is_a_directory, slots_are, slots_others}
use Rattle.edge_steps.proofs.WalkLaws.{is_found, HasSlot, GoesOver, walk_keeps, none_any, each_is}
use Rattle.edge_steps.proofs.MakeLaws.{IsPlace, number_of}
use Rattle.edge_steps.proofs.MoveLaws.{SlotsMoved, slots_moved, moved_tree}

-- ---- another parent

-- u is w, where a directory n has another parent
pub record ParentSet (w u : Tree) (n parent : ℕ) : Type 0 where
  pub slots : SameSlots w u
  pub there : (x : ℕ) → is_some (u x) ≡ is_some (w x)
  pub kinds : (x : ℕ) → is_directory u x ≡ is_directory w x
  pub base : (g : Request) → HasBase g w → (n ≡ 2 → ⊥) → HasBase g u
  pub files : (x : ℕ) (content : List ℕ) (present : List Bool) → u x ≡ Some (file content present) → w x ≡ Some (file content present)
  pub directories : (x : ℕ) (slots : Slots) (number : ℕ) → u x ≡ Some (directory slots number) → (x ≡ n → ⊥) → w x ≡ Some (directory slots number)
  pub moved : (slots : Slots) (number : ℕ) → u n ≡ Some (directory slots number) → (number ≡ parent) × ((now : ℕ) × (w n ≡ Some (directory slots now)))

no_directory : (w : Tree) (n parent : ℕ) → ((slots : Slots) (number : ℕ) → w n ≡ Some (directory slots number) → ⊥) → ParentSet w w n parent
no_directory w n parent never = record {
  slots = record { same = λ x j. refl };
  there = λ x. refl;
  kinds = λ x. refl;
  base = λ g base low. base;
  files = λ x content present is. is;
  directories = λ x slots number is other. is;
  moved = λ slots number is. absurd (never slots number is);
}

is_directory_set : (w : Tree) (n parent : ℕ) (slots : Slots) (old : ℕ) → w n ≡ Some (directory slots old) → ParentSet w (with_node w n (Some (directory slots parent))) n parent
is_directory_set w n parent slots old is =
    let u = with_node w n (Some (directory slots parent)) in
    let own = node_set w n (Some (directory slots parent)) in
    record {
      slots = record {
        same = λ x j. ⊎_elim
            (λ (same : x ≡ n). ap (λ y. slot_at u y j) same ∙ ap (λ s. slot_in s j) (slots_are u n slots parent own.here) ∙ sym (ap (λ y. slot_at w y j) same ∙ ap (λ s. slot_in s j) (slots_are w n slots old is)))
            (λ (other : x ≡ n → ⊥). ap (λ s. slot_in s j) (slots_others w u n (Some (directory slots parent)) x own other))
            (cases_eq x n);
      };
      there = λ x. ⊎_elim
          (λ (same : x ≡ n). ap (λ y. is_some (u y)) same ∙ is_there u n (directory slots parent) own.here ∙ sym (ap (λ y. is_some (w y)) same ∙ is_there w n (directory slots old) is))
          (λ (other : x ≡ n → ⊥). ap (λ (o : Option Node). is_some o) (own.others x other))
          (cases_eq x n);
      kinds = λ x. ⊎_elim
          (λ (same : x ≡ n). ap (λ y. is_directory u y) same ∙ is_a_directory u n slots parent own.here ∙ sym (ap (λ y. is_directory w y) same ∙ is_a_directory w n slots old is))
          (λ (other : x ≡ n → ⊥). ap (λ (o : Option Node). is_directory_node (unwrap_or o (file [] []))) (own.others x other))
          (cases_eq x n);
      base = λ g base low. base_set g w u n (directory slots parent) base own (base.in_range n (is_there w n (directory slots old) is)) (λ same. absurd (low same)) (base.nodes n (directory slots old) is);
      files = λ x content present now. sym (own.others x (λ same. absurd {A = ⊥} (let wrong : Some (directory slots parent) ≡ Some (file content present) = sym own.here ∙ ap u (sym same) ∙ now in cc))) ∙ now;
      directories = λ x other_slots number now other. sym (own.others x other) ∙ now;
      moved = λ other_slots number now.
          let both : Some (directory slots parent) ≡ Some (directory other_slots number) = sym own.here ∙ now in
          let parents : parent ≡ number = cc in
          let same : slots ≡ other_slots = cc in
          (sym parents, (old, is ∙ ap (λ s. Some (directory s old)) same));
    }

by_node : (w : Tree) (n parent : ℕ) (o : Option Node) → w n ≡ o → ParentSet w (with_parent w n parent) n parent
by_node w n parent None is = rw is (no_directory w n parent (λ slots number wrong. none_some (directory slots number) (sym is ∙ wrong)))
by_node w n parent (Some (file content present)) is = rw is (no_directory w n parent (λ slots number wrong. absurd {A = ⊥} (let two : Some (file content present) ≡ Some (directory slots number) = sym is ∙ wrong in cc)))
by_node w n parent (Some (directory slots old)) is = rw is (is_directory_set w n parent slots old is)

pub parent_set : (w : Tree) (n parent : ℕ) → ParentSet w (with_parent w n parent) n parent
parent_set w n parent = by_node w n parent (w n) refl

-- ---- what is moved

-- The node of a name is to have the name of an entry in slot st of dt.
pub record IsRename (g : Request) (t : Tree) (to : List ℕ) (df : ℕ) (name : List ℕ) (found : Found) (dt st : ℕ) (entry : Entry) : Type 0 where
  pub tree : IsTree g t
  pub from : is_directory t df ≡ true
  pub at : find_name t df name ≡ Some found
  pub place : IsPlace g t dt st entry
  pub number : entry.number ≡ found.number
  pub goes : walk t (names_in to) ≡ Ok (within dt entry.name)
  pub outside : (is_directory t found.number && is_below t to found.number) ≡ false

-- What stands at the new name is replaced: it is no directory on the way, and another node.
pub record IsOver (t : Tree) (found : Found) (dt st : ℕ) (Replaced : ℕ → Type 0) : Type 0 where
  pub other : Replaced found.number → ⊥
  pub leaf : (n j : ℕ) → Replaced n → slot_at t n j ≡ None
  pub at_place : (f : Entry) → slot_at t dt st ≡ Some f → Replaced f.number
  pub holder : Replaced dt → ⊥

-- the tree with both names
abbrev both_names : Tree → ℕ → ℕ → Entry → Tree
both_names t dt st entry = placed t dt st entry

-- the tree with the new name alone
abbrev pub renamed_slots : Tree → ℕ → Found → ℕ → ℕ → Entry → Tree
renamed_slots t df found dt st entry = cleared (placed t dt st entry) df found.slot

slots_apart : (t : Tree) (df : ℕ) (found : Found) (dt st : ℕ) (Replaced : ℕ → Type 0) (f : Entry) → IsOver t found dt st Replaced → slot_at t df found.slot ≡ Some f → f.number ≡ found.number → dt ≡ df → st ≡ found.slot → ⊥
slots_apart t df found dt st Replaced f over was number same at = over.other (subst Replaced number (over.at_place f (ap (λ y. slot_at t y st) same ∙ ap (slot_at t df) at ∙ was)))

-- the slots and the nodes of the tree with the new name alone
pub record IsLeft (g : Request) (t left : Tree) (df : ℕ) (found : Found) (dt st : ℕ) (old entry : Entry) : Type 0 where
  pub was : slot_at t df found.slot ≡ Some old
  pub number : old.number ≡ found.number
  pub slots : SlotsMoved t left df found.slot dt st entry
  pub base : HasBase g left
  pub there : (x : ℕ) → is_some (left x) ≡ is_some (t x)
  pub kinds : (x : ℕ) → is_directory left x ≡ is_directory t x
  pub files : (x : ℕ) (content : List ℕ) (present : List Bool) → left x ≡ Some (file content present) → t x ≡ Some (file content present)
  pub directories : (x : ℕ) (slots : Slots) (parent : ℕ) → left x ≡ Some (directory slots parent) → t x ≡ Some (directory (slots_at t x) parent)
  pub counts : (n : ℕ) → names_of_number g left n + ones n (slot_at t dt st) ≡ names_of_number g t n

pub is_left : (g : Request) (t : Tree) (to : List ℕ) (df : ℕ) (name : List ℕ) (found : Found) (dt st : ℕ) (entry : Entry) (Replaced : ℕ → Type 0) → IsRename g t to df name found dt st entry → IsOver t found dt st Replaced
    → (old : Entry) × IsLeft g t (renamed_slots t df found dt st entry) df found dt st old entry
is_left g t to df name found dt st entry Replaced m over =
    let held = placed t dt st entry in
    let left = cleared held df found.slot in
    let f = is_found name (slots_at t df) found m.at in
    let base = base_of g t m.tree in
    let one = same_kinds t held dt _ (placed_set t dt st entry m.place.kind) in
    let dir : is_directory held df ≡ true = one.kinds df ∙ m.from in
    let two = same_kinds held left df _ (cleared_set held df found.slot dir) in
    let set = placed_slot t dt st entry m.place.kind m.place.within in
    let unset = cleared_slot held df found.slot dir in
    let apart = slots_apart t df found dt st Replaced f.entry over f.there f.number_is in
    let held_base = placed_base g t dt st entry base m.place.kind m.place.within m.place.good m.place.new m.place.room in
    let still : slot_at held df found.slot ≡ Some f.entry = set.others df found.slot (λ same at. apart (sym same) (sym at)) ∙ f.there in
    let to_range = number_of g t dt base m.place.kind in
    let from_range = number_of g t df base m.from in (
      f.entry,
      record {
        was = f.there;
        number = f.number_is;
        slots = slots_moved t held left left df found.slot dt st entry set unset (record { same = λ x j. refl }) apart;
        base = cleared_base g held df found.slot held_base dir;
        there = λ x. two.there x ∙ one.there x;
        kinds = λ x. two.kinds x ∙ one.kinds x;
        files = λ x content present is. one.files x content present (two.files x content present is);
        directories = λ x slots parent is. one.directories x (slots_at held x) parent (two.directories x slots parent is);
        counts = λ n.
            let a = names_changed g t held dt st (Some entry) n set to_range.0 to_range.1 in
            let b = names_changed g held left df found.slot None n unset from_range.0 from_range.1 in
            let c : ones n (slot_at held df found.slot) ≡ ones n (Some f.entry) = ap (ones n) still in
            let d : ones n (Some entry) ≡ ones n (Some f.entry) = ap (λ k. cond (k == n) 1 0) (m.number ∙ sym f.number_is) in
            omega arith;
      },
    )

-- ---- the directory of the new name is reached

not_on_way : (t : Tree) (to : List ℕ) (n b : ℕ) → (is_directory t n && is_below t to n) ≡ false → is_directory t b ≡ true → IsAmong (gone_through t 2 (names_in to)) b → b ≡ n → ⊥
not_on_way t to n b outside kind gone same =
    elim (is_directory t n) as (λ d. is_directory t n ≡ d → (d && is_below t to n) ≡ false → ⊥) [
      | true ↦ λ is on_way. false≢true (sym (each_is (λ x. (x == n) ≡ false) (gone_through t 2 (names_in to)) b (none_any (λ x. x == n) (gone_through t 2 (names_in to)) on_way) gone) ∙ eq-eqb b n same)
      | false ↦ λ is _. false≢true (sym is ∙ ap (λ m. is_directory t m) (sym same) ∙ kind)
    ] refl outside

pub holder_reached : (g : Request) (t u : Tree) (to : List ℕ) (df : ℕ) (name : List ℕ) (found : Found) (dt st : ℕ) (old entry : Entry) (Replaced : ℕ → Type 0) → IsRename g t to df name found dt st entry → IsOver t found dt st Replaced
    → slot_at t df found.slot ≡ Some old → old.number ≡ found.number → SlotsMoved t u df found.slot dt st entry → IsReached u dt
holder_reached g t u to df name found dt st old entry Replaced m over was number slots = walk_keeps t dt entry.name (IsReached u) (names_in to) m.goes goes root
  where
    goes : GoesOver t dt (IsReached u) (gone_through t 2 (names_in to))
    goes a b k e there is kind gone end reached =
        let differs = not_on_way t to found.number b m.outside kind gone in
        let kept : Replaced b → ⊥ = ⊎_elim (λ (same : b ≡ dt). λ replaced. over.holder (subst Replaced same replaced)) (λ (has : HasSlot t b). λ replaced. none_some has.entry (sym (over.leaf b has.slot replaced) ∙ has.there)) end in
        below a b reached (slot_names u a k b e
        (slots.others a k
        (λ same at. differs (sym is ∙ ap (λ (y : Entry). y.number) (some_same e old (sym there ∙ ap (λ y. slot_at t y k) same ∙ ap (slot_at t df) at ∙ was)) ∙ number))
        (λ same at. kept (subst Replaced is (over.at_place e (ap (λ y. slot_at t y st) (sym same) ∙ ap (slot_at t a) (sym at) ∙ there))))
        ∙ there) is)

-- ---- all together

-- w is the tree with the new name alone, but for what is lost
pub record IsLost (g : Request) (left w : Tree) (Lost : ℕ → Type 0) : Type 0 where
  pub slots : SameSlots left w
  pub base : HasBase g w
  pub stays : (n : ℕ) → is_some (w n) ≡ true → (is_some (left n) ≡ true) × (Lost n → ⊥)
  pub there : (n : ℕ) → is_some (left n) ≡ true → (Lost n → ⊥) → is_some (w n) ≡ true
  pub kinds : (n : ℕ) → (Lost n → ⊥) → is_directory w n ≡ is_directory left n
  pub files : (n : ℕ) (content : List ℕ) (present : List Bool) → w n ≡ Some (file content present) → left n ≡ Some (file content present)
  pub directories : (n : ℕ) (slots : Slots) (parent : ℕ) → w n ≡ Some (directory slots parent) → left n ≡ Some (directory slots parent)

-- what is replaced and what is lost with it
pub record Loses (g : Request) (t : Tree) (dt st : ℕ) (Replaced Lost : ℕ → Type 0) : Type 0 where
  pub lost_is : (n : ℕ) → Lost n → Replaced n
  pub cases : (n : ℕ) → Replaced n ⊎ (Replaced n → ⊥)
  pub cases_lost : (n : ℕ) → Lost n ⊎ (Lost n → ⊥)
  pub is_file : (n : ℕ) (slots : Slots) (parent : ℕ) → Replaced n → (Lost n → ⊥) → t n ≡ Some (directory slots parent) → ⊥
  pub none_at : (n : ℕ) → (Replaced n → ⊥) → ones n (slot_at t dt st) ≡ zero
  pub one_at : (n : ℕ) → Replaced n → ones n (slot_at t dt st) ≡ suc zero
  pub lost_one : (n : ℕ) → Lost n → names_of_number g t n ≡ 1
  pub kept_more : (n : ℕ) → Replaced n → (Lost n → ⊥) → names_of_number g t n ≡ 1 → ⊥

pub renamed_tree : (g : Request) (t w : Tree) (to : List ℕ) (df : ℕ) (name : List ℕ) (found : Found) (dt st : ℕ) (entry : Entry) (Replaced Lost : ℕ → Type 0) → IsRename g t to df name found dt st entry → IsOver t found dt st Replaced
    → Loses g t dt st Replaced Lost → IsLost g (renamed_slots t df found dt st entry) w Lost → IsTree g (with_parent w found.number dt)
renamed_tree g t w to df name found dt st entry Replaced Lost m over loses lost =
    let left = renamed_slots t df found dt st entry in
    let u = with_parent w found.number dt in
    let l = is_left g t to df name found dt st entry Replaced m over in
    let k = l.1 in
    let p = parent_set w found.number dt in
    let from = m.tree.named df found.number (slot_names t df found.slot found.number l.0 k.was k.number) in
    let slots : SlotsMoved t u df found.slot dt st entry = record {
      cleared = p.slots.same df found.slot ∙ lost.slots.same df found.slot ∙ k.slots.cleared;
      placed = p.slots.same dt st ∙ lost.slots.same dt st ∙ k.slots.placed;
      others = λ x j one two. p.slots.same x j ∙ lost.slots.same x j ∙ k.slots.others x j one two;
    } in
    let counts : (n : ℕ) → names_of_number g u n + ones n (slot_at t dt st) ≡ names_of_number g t n = λ n. (let a = same_names g w u n p.slots in let b = same_names g left w n lost.slots in let c = k.counts n in omega arith) in
    moved_tree g t u df found.slot dt st l.0 entry Replaced Lost m.tree (record {
      was = k.was;
      same = m.number ∙ sym k.number;
      slots = slots;
      base = p.base g lost.base from.1;
      holder = holder_reached g t u to df name found dt st l.0 entry Replaced m over k.was k.number slots;
      stays = λ n here. let a = lost.stays n (sym (p.there n) ∙ here) in (sym (k.there n) ∙ a.0, a.1);
      there = λ n here kept. p.there n ∙ lost.there n (k.there n ∙ here) kept;
      files = λ n content present is. k.files n content present (lost.files n content present (p.files n content present is));
      directories = λ n s parent is differs. k.directories n s parent (lost.directories n s parent (p.directories n s parent is (λ same. differs (same ∙ sym k.number))));
      moved = λ s parent is.
          let a = p.moved s parent (ap u (sym k.number) ∙ is) in
          let b = k.directories found.number s a.1.0 (lost.directories found.number s a.1.0 a.1.1) in
          (a.0, (a.1.0, subst (λ n. t n ≡ Some (directory (slots_at t n) a.1.0)) (sym k.number) b));
      lost_is = loses.lost_is;
      cases = loses.cases;
      cases_lost = loses.cases_lost;
      other = λ replaced. over.other (subst Replaced k.number replaced);
      leaf = over.leaf;
      at_place = over.at_place;
      is_file = loses.is_file;
      same_count = λ n kept. (let a = counts n in let b = loses.none_at n kept in omega arith);
      less = λ n replaced. (let a = counts n in let b = loses.one_at n replaced in omega arith);
      lost_one = loses.lost_one;
      kept_more = loses.kept_more;
    })

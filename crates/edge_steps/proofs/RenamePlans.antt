-- The plan of a rename leads to a tree.
use Rattle.std.proofs.Common.{◌≡◌, ℕ, zero, suc, ◌+◌, ◌%◌, ◌<◌, ◌≤◌, ◌==◌, ◌&&◌, ◌||◌, not, Bool, true, false, cond, List, [], length, is_some, nat_lt, unwrap_or, inr, ⊎_elim, Option, Some, None, Ok, refl, sym, ap, ◌∙◌, arith, eqb-true}
use Rattle.std.proofs.lemmas.Bool.{false≢true, cases_eq, cases_lt, or_parts, or_cases, ltb-false, eqb-false}
use Rattle.std.proofs.lemmas.List.{get_or_past}
use Rattle.std.proofs.Math.Nat.{le-div_iff_mul-le}
use Rattle.edge_base.specs.declared.geometry.Request.{Request}
use Rattle.edge_base.specs.declared.geometry.BadGeometry.{BadGeometry}
use Rattle.edge_base.specs.declared.geometry.BadGeometry.TheVariants.{BlockSize, Blocks, Inodes, NameMax}
use Rattle.edge_base.specs.declared.refusal.Refusal.TheVariants as refusal
use Rattle.edge_base.specs.commands.Refusals.{refuse_if, or_refuse}
use Rattle.edge_base.specs.layout.Sizes.{is_block_size}
use Rattle.edge_base.specs.layout.Places.{bad_geometry, IsGeometry}
use Rattle.edge_base.specs.commands.Descriptors.{Descriptors, is_open}
use Rattle.edge_base.specs.commands.Paths.{names_in, two_paths}
use Rattle.edge_base.specs.tree.Slots.{Entry, Slots, slots_in_block}
use Rattle.edge_base.specs.tree.Nodes.{Node, file, directory}
use Rattle.edge_model.specs.Tree.{Tree, is_directory, is_directory_node, slots_at, names_of_number, with_node}
use Rattle.edge_model.specs.Walk.{Spot, top, within, Found, at_spot, walk, is_top, find_name}
use Rattle.edge_model.specs.State.{State}
use Rattle.edge_model.specs.Named.{new_slot}
use Rattle.edge_model.specs.Names.{plan_rename, rename_to, rename_over, rename_same, rename_plan, has_one_link, is_busy, with_parent, is_below, is_empty}
use Rattle.edge_model.specs.Rules.{IsTree}
use Rattle.edge_model.proofs.Plans.{Gives, gives_ok, gives_after, gives_each}
use Rattle.edge_model.proofs.Changes.{passes, is_some_of, not_false}
use Rattle.edge_model.proofs.SlotLaws.{found_within}
use Rattle.edge_model.proofs.WalkLaws.{walk_in_directory, holder_is_directory}
use Rattle.edge_model.specs.Bytes.{AreBytes}
use Rattle.edge_steps.specs.Rules.{HasTrees}
use Rattle.edge_steps.proofs.SlotLaws.{slot_in, none_some, some_same, is_eq, eq_is, to_slotwise}
use Rattle.edge_steps.proofs.CountLaws.{slot_at, ones, ones_named, ones_other, slot_names}
use Rattle.edge_steps.proofs.NodeLaws.{node_set, base_of, base_dropped, directory_rules, directory_there, is_there, is_a_directory, slots_others}
use Rattle.edge_steps.proofs.WalkLaws.{IsGood, is_found}
use Rattle.edge_steps.proofs.MakeLaws.{IsPlace, slots_of}
use Rattle.edge_steps.proofs.FileLaws.{in_piece}
use Rattle.edge_steps.proofs.OpenLaws.{AreFor, for_stays, for_stays_but}
use Rattle.edge_steps.proofs.PlanLaws.{IsSound, kept, entry_is, new_place, empty_slot}
use Rattle.edge_steps.proofs.NameLaws.{is_leaf, only_name, other_names, second_name, other_false}
use Rattle.edge_steps.proofs.RenameLaws.{parent_set, IsRename, IsOver, renamed_slots, IsLeft, is_left, IsLost, Loses, renamed_tree}

-- ---- geometries

rest : (broken : Bool) (limit : BadGeometry) (more : Option BadGeometry) → cond broken (Some limit) more ≡ None → more ≡ None
rest false limit more e = e
rest true limit more e = absurd (none_some limit (sym e))

is_large : (n k : ℕ) → 512 ≤ k → (n == k) ≡ true → 512 ≤ n
is_large n k large h = let same = eqb-true n k h in omega arith

least_size : (n : ℕ) → is_block_size n ≡ true → 512 ≤ n
least_size n e = ⊎_elim
    (λ f. ⊎_elim
    (λ h. ⊎_elim (λ k. is_large n 512 (omega arith) k) (λ k. is_large n 1024 (omega arith) k) (or_cases (n == 512) (n == 1024) h))
    (λ h. is_large n 2048 (omega arith) h)
    (or_cases ((n == 512) || (n == 1024)) (n == 2048) f))
    (λ f. is_large n 4096 (omega arith) f)
    (or_cases ((n == 512) || (n == 1024) || (n == 2048)) (n == 4096) e)

pub some_slots : (g : Request) → IsGeometry g → 0 < slots_in_block g
unfolding bad_geometry
some_slots g is =
    let size = rest (not (is_block_size g.block_size)) BlockSize _ is in
    let blocks = rest (nat_lt 4194304 g.blocks) Blocks _ size in
    let names = rest ((g.inodes == 0) || nat_lt 65536 g.inodes) Inodes _ blocks in
    let short = ltb-false 252 g.name_max (or_parts (nat_lt g.name_max 12) (nat_lt 252 g.name_max) (or_parts (nat_lt g.name_max 12 || nat_lt 252 g.name_max) (not (g.name_max % 4 == 0)) (kept (nat_lt g.name_max 12 || nat_lt 252 g.name_max || not (g.name_max % 4 == 0)) NameMax _ names)).0).1 in
    let long = least_size g.block_size (not_false (is_block_size g.block_size) (kept (not (is_block_size g.block_size)) BlockSize _ is)) in
    (le-div_iff_mul-le {k = 4 + g.name_max} {x = 1} {y = g.block_size} (omega arith)).1 (omega arith)

-- ---- the place of a name that is there

pub inside : (slots : Slots) (i : ℕ) (e : Entry) → slot_in slots i ≡ Some e → i < length slots
inside slots i e h = ⊎_elim
    (λ (low : i < length slots). low)
    (λ (past : length slots ≤ i). absurd (none_some e (sym (get_or_past slots i None past) ∙ h)))
    (cases_lt i (length slots))

old_place : (g : Request) (t : Tree) (d : ℕ) (name : List ℕ) (found : Found) (n : ℕ) → IsGeometry g → IsTree g t → is_directory t d ≡ true → IsGood g name → 2 ≤ n → n < 2 + g.inodes → (n ≡ 2 → ⊥) → find_name t d name ≡ Some found → IsPlace g t d found.slot (record { name = name; number = n })
old_place g t d name found n is tree kind good low high other at =
    let f = is_found name (slots_at t d) found at in
    let rules = directory_rules g t d (base_of g t tree) kind in
    let size = rules.size in
    let piece = in_piece (slots_in_block g) (length (slots_at t d)) found.slot (some_slots g is) (inside (slots_at t d) found.slot f.entry f.there) in
    record {
      kind = kind;
      within = found_within name (slots_at t d) found at;
      good = entry_is g name n good low high other;
      new = λ j a there same. (to_slotwise g (slots_at t d) rules).apart j found.slot a f.entry there f.there (eq_is a.name f.entry.name (is_eq a.name name same ∙ sym (is_eq f.entry.name name f.named)));
      room = omega arith;
    }

-- ---- what is lost

Nothing : ℕ → Type 0
Nothing n = ⊥

pub nothing_lost : (g : Request) (t left : Tree) (df : ℕ) (found : Found) (dt st : ℕ) (old entry : Entry) → IsLeft g t left df found dt st old entry → IsLost g left left (λ _. ⊥)
nothing_lost g t left df found dt st old entry l = record {
  slots = record { same = λ x j. refl };
  base = l.base;
  stays = λ n here. (here, λ none. none);
  there = λ n here kept. here;
  kinds = λ n kept. refl;
  files = λ n content present is. is;
  directories = λ n slots parent is. is;
}

-- r is dropped, which has no names in it
pub one_lost : (g : Request) (t left : Tree) (df : ℕ) (found : Found) (dt st : ℕ) (old entry : Entry) (r : ℕ) → IsLeft g t left df found dt st old entry → (r ≡ 2 → ⊥) → (r ≡ df → ⊥) → (r ≡ dt → ⊥) → ((j : ℕ) → slot_at t r j ≡ None) → IsLost g left (with_node left r None) (λ n. n ≡ r)
one_lost g t left df found dt st old entry r l low not_from not_to leaf =
    let w = with_node left r None in
    let own = node_set left r None in
    let empty : (j : ℕ) → slot_at left r j ≡ None = λ j. l.slots.others r j (λ same _. not_from same) (λ same _. not_to same) ∙ leaf j in
    let gone : (n : ℕ) → is_some (w n) ≡ true → n ≡ r → ⊥ = λ n here is. false≢true (sym (ap (λ (o : Option Node). is_some o) (ap w is ∙ own.here)) ∙ here) in
    record {
      slots = record {
        same = λ x j. ⊎_elim
            (λ (is : x ≡ r). ap (λ y. slot_at w y j) is ∙ ap (λ (o : Option Node). slot_in (slots_of o) j) own.here ∙ sym (ap (λ y. slot_at left y j) is ∙ empty j))
            (λ (other : x ≡ r → ⊥). ap (λ s. slot_in s j) (slots_others left w r None x own other))
            (cases_eq x r);
      };
      base = base_dropped g left w r l.base own low;
      stays = λ n here. (ap (λ (o : Option Node). is_some o) (sym (own.others n (gone n here))) ∙ here, gone n here);
      there = λ n here kept. ap (λ (o : Option Node). is_some o) (own.others n kept) ∙ here;
      kinds = λ n kept. ap (λ (o : Option Node). is_directory_node (unwrap_or o (file [] []))) (own.others n kept);
      files = λ n content present is. sym (own.others n (gone n (is_there w n (file content present) is))) ∙ is;
      directories = λ n slots parent is. sym (own.others n (gone n (is_there w n (directory slots parent) is))) ∙ is;
    }

-- kinds and numbers of the renamed tree
renamed_stays : (g : Request) (t left w : Tree) (df : ℕ) (found : Found) (dt st : ℕ) (old entry : Entry) (Lost : ℕ → Type 0) (n parent : ℕ) → IsLeft g t left df found dt st old entry → IsLost g left w Lost
    → (x : ℕ) → (Lost x → ⊥) → is_some (t x) ≡ true → (is_some (with_parent w n parent x) ≡ true) × (is_directory (with_parent w n parent) x ≡ is_directory t x)
renamed_stays g t left w df found dt st old entry Lost n parent l lost x kept here =
    let p = parent_set w n parent in
    (p.there x ∙ lost.there x (l.there x ∙ here) kept, p.kinds x ∙ lost.kinds x kept ∙ l.kinds x)

-- ---- to a name that is not there

moves_sound : (g : Request) (s : State) (to : List ℕ) (df : ℕ) (name : List ℕ) (found : Found) (dt : ℕ) (target : List ℕ) → HasTrees g s → is_directory s.tree df ≡ true → find_name s.tree df name ≡ Some found
    → walk s.tree (names_in to) ≡ Ok (within dt target) → IsGood g target → (is_directory s.tree found.number && is_below s.tree to found.number) ≡ false → find_name s.tree dt target ≡ None → (slot : ℕ) → new_slot g s.tree dt ≡ Ok slot
    → IsSound g s (rename_plan g s (within df name) found (within dt target) slot None)
moves_sound g s to df name found dt target has from at goes good outside absent slot room =
    let t = s.tree in
    let entry : Entry = record { name = target; number = found.number } in
    let f = is_found name (slots_at t df) found at in
    let named = has.tree.named df found.number (slot_names t df found.slot found.number f.entry f.there f.number_is) in
    let range = has.tree.in_range found.number named.0 in
    let kind = walk_in_directory t (names_in to) dt target goes in
    let m : IsRename g t to df name found dt slot entry = record {
      tree = has.tree;
      from = from;
      at = at;
      number = refl;
      goes = goes;
      outside = outside;
      place = new_place g t dt target found.number slot kind good range.0 range.1 named.1 absent room;
    } in
    let empty = empty_slot g t dt slot room in
    let over : IsOver t found dt slot (λ _. ⊥) = record { other = λ h. h; leaf = λ n j h. absurd h; at_place = λ e h. none_some e (sym empty ∙ h); holder = λ h. h } in
    let l = is_left g t to df name found dt slot entry (λ _. ⊥) m over in
    let lost = nothing_lost g t (renamed_slots t df found dt slot entry) df found dt slot l.0 entry l.1 in
    let loses : Loses g t dt slot (λ _. ⊥) (λ _. ⊥) = record {
      lost_is = λ n h. h;
      cases = λ n. inr (λ h. h);
      cases_lost = λ n. inr (λ h. h);
      is_file = λ n slots parent h kept is. h;
      none_at = λ n kept. ap (ones n) empty;
      one_at = λ n h. absurd h;
      lost_one = λ n h. absurd h;
      kept_more = λ n h kept one. h;
    } in
    record {
      tree = renamed_tree g t (renamed_slots t df found dt slot entry) to df name found dt slot entry (λ _. ⊥) (λ _. ⊥) m over loses lost;
      table = for_stays t _ s.descriptors (λ x here. renamed_stays g t (renamed_slots t df found dt slot entry) (renamed_slots t df found dt slot entry) df found dt slot l.0 entry (λ _. ⊥) found.number dt l.1 lost x (λ h. h) here) has.descriptors;
    }

-- ---- to the name of another node

-- what is tested of the node that is replaced
record IsReplaceable (g : Request) (s : State) (found there : Found) : Type 0 where
  other : there.number ≡ found.number → ⊥
  empty : is_directory s.tree there.number ≡ true → is_empty (slots_at s.tree there.number) ≡ true
  closed : has_one_link g s.tree there.number ≡ true → is_open s.descriptors there.number ≡ false

-- what follows of the names and of the tests
record IsSet (g : Request) (t : Tree) (to : List ℕ) (df : ℕ) (name : List ℕ) (found : Found) (dt r st : ℕ) (entry : Entry) : Type 0 where
  move : IsRename g t to df name found dt st entry
  over : IsOver t found dt st (λ n. n ≡ r)
  low : r ≡ 2 → ⊥
  not_from : r ≡ df → ⊥
  not_to : r ≡ dt → ⊥
  leaf : (j : ℕ) → slot_at t r j ≡ None
  none_at : (n : ℕ) → (n ≡ r → ⊥) → ones n (slot_at t dt st) ≡ zero
  one_at : (n : ℕ) → n ≡ r → ones n (slot_at t dt st) ≡ suc zero

is_set : (g : Request) (s : State) (to : List ℕ) (df : ℕ) (name : List ℕ) (found : Found) (dt : ℕ) (target : List ℕ) (there : Found) → IsGeometry g → HasTrees g s → is_directory s.tree df ≡ true → find_name s.tree df name ≡ Some found
    → walk s.tree (names_in to) ≡ Ok (within dt target) → IsGood g target → (is_directory s.tree found.number && is_below s.tree to found.number) ≡ false → find_name s.tree dt target ≡ Some there → IsReplaceable g s found there
    → IsSet g s.tree to df name found dt there.number there.slot (record { name = target; number = found.number })
is_set g s to df name found dt target there is has from at goes good outside at_to tests =
    let t = s.tree in
    let r = there.number in
    let entry : Entry = record { name = target; number = found.number } in
    let f = is_found name (slots_at t df) found at in
    let k = is_found target (slots_at t dt) there at_to in
    let named = has.tree.named df found.number (slot_names t df found.slot found.number f.entry f.there f.number_is) in
    let replaced = has.tree.named dt r (slot_names t dt there.slot r k.entry k.there k.number_is) in
    let range = has.tree.in_range found.number named.0 in
    let kind = walk_in_directory t (names_in to) dt target goes in
    let empty = is_leaf g t r replaced.0 tests.empty in
    let elsewhere : r ≡ dt → ⊥ = λ same. none_some k.entry (sym (empty there.slot) ∙ ap (λ y. slot_at t y there.slot) same ∙ k.there) in
    record {
      move = record {
        tree = has.tree;
        from = from;
        at = at;
        number = refl;
        goes = goes;
        outside = outside;
        place = old_place g t dt target there found.number is has.tree kind good range.0 range.1 named.1 at_to;
      };
      over = record {
        other = λ same. tests.other (sym same);
        leaf = λ n j same. ap (λ y. slot_at t y j) same ∙ empty j;
        at_place = λ e h. ap (λ (x : Entry). x.number) (some_same e k.entry (sym h ∙ k.there)) ∙ k.number_is;
        holder = λ same. elsewhere (sym same);
      };
      low = replaced.1;
      not_from = λ same. none_some f.entry (sym (empty found.slot) ∙ ap (λ y. slot_at t y found.slot) same ∙ f.there);
      not_to = elsewhere;
      leaf = empty;
      none_at = λ n kept. ap (ones n) k.there ∙ ones_other n k.entry (λ same. kept (sym same ∙ k.number_is));
      one_at = λ n same. ap (ones n) k.there ∙ ones_named n k.entry (k.number_is ∙ sym same);
    }

-- the replaced node is lost with its only name
over_lost : (g : Request) (t : Tree) (table : Descriptors) (to : List ℕ) (df : ℕ) (name : List ℕ) (found : Found) (dt r st : ℕ) (entry : Entry) → IsTree g t → IsSet g t to df name found dt r st entry → has_one_link g t r ≡ true → is_open table r ≡ false → AreFor t table
    → IsTree g (with_parent (with_node (renamed_slots t df found dt st entry) r None) found.number dt) × AreFor (with_parent (with_node (renamed_slots t df found dt st entry) r None) found.number dt) table
over_lost g t table to df name found dt r st entry tree s one closed all =
    let left = renamed_slots t df found dt st entry in
    let w = with_node left r None in
    let l = is_left g t to df name found dt st entry (λ n. n ≡ r) s.move s.over in
    let lost = one_lost g t left df found dt st l.0 entry r l.1 s.low s.not_from s.not_to s.leaf in
    let only = only_name g t r tree s.low one in
    let loses : Loses g t dt st (λ n. n ≡ r) (λ n. n ≡ r) = record {
      lost_is = λ n same. same;
      cases = λ n. cases_eq n r;
      cases_lost = λ n. cases_eq n r;
      is_file = λ n slots parent same kept is. kept same;
      none_at = s.none_at;
      one_at = s.one_at;
      lost_one = λ n same. ap (names_of_number g t) same ∙ only;
      kept_more = λ n same kept _. kept same;
    } in (
      renamed_tree g t w to df name found dt st entry (λ n. n ≡ r) (λ n. n ≡ r) s.move s.over loses lost,
      for_stays_but t (with_parent w found.number dt) table r (λ x kept here. renamed_stays g t left w df found dt st l.0 entry (λ n. n ≡ r) found.number dt l.1 lost x kept here) closed all,
    )

-- the replaced file keeps another name
over_kept : (g : Request) (t : Tree) (table : Descriptors) (to : List ℕ) (df : ℕ) (name : List ℕ) (found : Found) (dt r st : ℕ) (entry : Entry) → IsTree g t → IsSet g t to df name found dt r st entry → has_one_link g t r ≡ false → AreFor t table
    → IsTree g (with_parent (renamed_slots t df found dt st entry) found.number dt) × AreFor (with_parent (renamed_slots t df found dt st entry) found.number dt) table
over_kept g t table to df name found dt r st entry tree s many all =
    let left = renamed_slots t df found dt st entry in
    let l = is_left g t to df name found dt st entry (λ n. n ≡ r) s.move s.over in
    let lost = nothing_lost g t left df found dt st l.0 entry l.1 in
    let other = other_names g t r many in
    let loses : Loses g t dt st (λ n. n ≡ r) (λ _. ⊥) = record {
      lost_is = λ n none. absurd none;
      cases = λ n. cases_eq n r;
      cases_lost = λ n. inr (λ none. none);
      is_file = λ n slots parent same kept is. false≢true (sym other.0 ∙ ap (λ m. is_directory t m) (sym same) ∙ is_a_directory t n slots parent is);
      none_at = s.none_at;
      one_at = s.one_at;
      lost_one = λ n none. absurd none;
      kept_more = λ n same kept count. other.1 (ap (names_of_number g t) (sym same) ∙ count);
    } in (
      renamed_tree g t left to df name found dt st entry (λ n. n ≡ r) (λ _. ⊥) s.move s.over loses lost,
      for_stays t (with_parent left found.number dt) table (λ x here. renamed_stays g t left left df found dt st l.0 entry (λ _. ⊥) found.number dt l.1 lost x (λ none. none) here) all,
    )

by_links : (g : Request) (t : Tree) (table : Descriptors) (to : List ℕ) (df : ℕ) (name : List ℕ) (found : Found) (dt r st : ℕ) (entry : Entry) → IsTree g t → IsSet g t to df name found dt r st entry → AreFor t table
    → (last : Bool) → has_one_link g t r ≡ last → (last ≡ true → is_open table r ≡ false)
    → IsTree g (with_parent (cond last (with_node (renamed_slots t df found dt st entry) r None) (renamed_slots t df found dt st entry)) found.number dt)
    × AreFor (with_parent (cond last (with_node (renamed_slots t df found dt st entry) r None) (renamed_slots t df found dt st entry)) found.number dt) table
by_links g t table to df name found dt r st entry tree s all true one closed = over_lost g t table to df name found dt r st entry tree s one (closed refl) all
by_links g t table to df name found dt r st entry tree s all false many closed = over_kept g t table to df name found dt r st entry tree s many all

over_sound : (g : Request) (s : State) (to : List ℕ) (df : ℕ) (name : List ℕ) (found : Found) (dt : ℕ) (target : List ℕ) (there : Found) → IsGeometry g → HasTrees g s → is_directory s.tree df ≡ true → find_name s.tree df name ≡ Some found
    → walk s.tree (names_in to) ≡ Ok (within dt target) → IsGood g target → (is_directory s.tree found.number && is_below s.tree to found.number) ≡ false → find_name s.tree dt target ≡ Some there → IsReplaceable g s found there
    → IsSound g s (rename_plan g s (within df name) found (within dt target) there.slot (Some there.number))
over_sound g s to df name found dt target there is has from at goes good outside at_to tests =
    let both = by_links g s.tree s.descriptors to df name found dt there.number there.slot (record { name = target; number = found.number }) has.tree
    (is_set g s to df name found dt target there is has from at goes good outside at_to tests) has.descriptors (has_one_link g s.tree there.number) refl tests.closed in
    record { tree = both.0; table = both.1 }

-- ---- the plan

over_tests_sound : (g : Request) (s : State) (to : List ℕ) (df : ℕ) (name : List ℕ) (found : Found) (dt : ℕ) (target : List ℕ) (there : Found) → IsGeometry g → HasTrees g s → is_directory s.tree df ≡ true → find_name s.tree df name ≡ Some found
    → walk s.tree (names_in to) ≡ Ok (within dt target) → IsGood g target → (is_directory s.tree found.number && is_below s.tree to found.number) ≡ false → find_name s.tree dt target ≡ Some there → (there.number == found.number) ≡ false
    → Gives (IsSound g s) (rename_over g s (within df name) found (within dt target) there)
over_tests_sound g s to df name found dt target there is has from at goes good outside at_to other =
    gives_each _ (refuse_if (is_directory s.tree found.number && not (is_directory s.tree there.number)) refusal.NotDir) _ (λ _.
    gives_each _ (refuse_if (not (is_directory s.tree found.number) && is_directory s.tree there.number) refusal.IsDir) _ (λ _.
    gives_after _ (refuse_if (is_directory s.tree there.number && not (is_empty (slots_at s.tree there.number))) refusal.NotEmpty) _ (λ u empty.
    gives_after _ (refuse_if (is_busy g s there.number) refusal.Busy) _ (λ v free.
    gives_ok _ _ (over_sound g s to df name found dt target there is has from at goes good outside at_to (record {
      other = eqb-false there.number found.number other;
      empty = λ kind. not_false (is_empty (slots_at s.tree there.number)) (other_false (is_directory s.tree there.number) (not (is_empty (slots_at s.tree there.number))) (passes _ _ u empty) kind);
      closed = other_false (has_one_link g s.tree there.number) (is_open s.descriptors there.number) (passes _ _ v free);
    }))))))

to_sound : (g : Request) (s : State) (to : List ℕ) (df : ℕ) (name : List ℕ) (found : Found) (dt : ℕ) (target : List ℕ) (there : Option Found) → IsGeometry g → HasTrees g s → is_directory s.tree df ≡ true → find_name s.tree df name ≡ Some found
    → walk s.tree (names_in to) ≡ Ok (within dt target) → IsGood g target → (is_directory s.tree found.number && is_below s.tree to found.number) ≡ false → find_name s.tree dt target ≡ there
    → Gives (IsSound g s) (rename_to g s (within df name) found (within dt target) there)
to_sound g s to df name found dt target (Some there) is has from at goes good outside at_to =
    elim (there.number == found.number) as (λ b. (there.number == found.number) ≡ b → Gives (IsSound g s) (cond b (Ok (rename_same g s)) (rename_over g s (within df name) found (within dt target) there))) [
      | true ↦ λ same. gives_ok _ _ (record { tree = has.tree; table = has.descriptors })
      | false ↦ λ other. over_tests_sound g s to df name found dt target there is has from at goes good outside at_to other
    ] refl
to_sound g s to df name found dt target None is has from at goes good outside at_to =
    gives_after _ (new_slot g s.tree dt) _ (λ slot room.
    gives_ok _ _ (moves_sound g s to df name found dt target has from at goes good outside at_to slot room))

-- number 0 is no directory
pub no_zero : (g : Request) (t : Tree) → IsTree g t → is_directory t 0 ≡ true → ⊥
no_zero g t tree kind = let range = tree.in_range 0 (directory_there t 0 kind) in absurd (omega arith)

spots_sound : (g : Request) (s : State) (path to : List ℕ) (from spot : Spot) (found : Found) → IsGeometry g → HasTrees g s → AreBytes to → two_paths g.name_max path to ≡ Ok tt → is_top path ≡ false → is_top to ≡ false → walk s.tree (names_in path) ≡ Ok from → at_spot s.tree from ≡ Some found
    → walk s.tree (names_in to) ≡ Ok spot → (is_directory s.tree found.number && is_below s.tree to found.number) ≡ false → Gives (IsSound g s) (rename_to g s from found spot (at_spot s.tree spot))
spots_sound g s path to top spot found is has bytes paths named named_to at there goes outside = absurd (no_zero g s.tree has.tree (holder_is_directory s.tree path top named at))
spots_sound g s path to (within df name) top found is has bytes paths named named_to at there goes outside = absurd (no_zero g s.tree has.tree (holder_is_directory s.tree to top named_to goes))
spots_sound g s path to (within df name) (within dt target) found is has bytes paths named named_to at there goes outside =
    to_sound g s to df name found dt target (find_name s.tree dt target) is has (walk_in_directory s.tree (names_in path) df name at) there goes (second_name g s.tree path to (within dt target) bytes paths goes dt target refl) outside refl

pub rename_sound : (g : Request) (s : State) (path to : List ℕ) → IsGeometry g → HasTrees g s → AreBytes to → Gives (IsSound g s) (plan_rename g s path to)
unfolding plan_rename
rename_sound g s path to is has bytes =
    gives_after _ (two_paths g.name_max path to) _ (λ u paths.
    gives_after _ (refuse_if (is_top path || is_top to) refusal.Busy) _ (λ v named.
    gives_after _ (walk s.tree (names_in path)) _ (λ from at.
    gives_after _ (or_refuse (at_spot s.tree from) refusal.NoEntry) _ (λ found there.
    gives_after _ (walk s.tree (names_in to)) _ (λ spot goes.
    gives_after _ (refuse_if (is_directory s.tree found.number && is_below s.tree to found.number) refusal.Invalid) _ (λ w outside.
    let both = or_parts (is_top path) (is_top to) (passes _ _ v named) in
    spots_sound g s path to from spot found is has bytes paths both.0 both.1 at (is_some_of (at_spot s.tree from) refusal.NoEntry found there) goes (passes _ _ w outside)))))))

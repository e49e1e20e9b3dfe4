-- Each change of a tree lists the data blocks that it removes.
use Rattle.std.proofs.Common.{◌≡◌, ℕ, ◌+◌, ◌-◌, ◌<◌, ◌≤◌, ◌||◌, not, Bool, true, false, cond, max, List, [], ◌∷◌, ◌++◌, length, map, ◌⊎◌, inl, inr, ⊎_elim, Option, Some, None, is_some, nat_eq, nat_le, unwrap_or, find, Ok, refl, sym, ap, ◌∙◌, subst, arith, eqb-true}
use Rattle.std.specs.List.{range_with_len}
use Rattle.std.proofs.lemmas.Bool.{false≢true, cases_lt, or_left, le-leb}
use Rattle.edge_base.specs.declared.geometry.Request.{Request}
use Rattle.edge_base.specs.declared.refusal.Refusal.TheVariants as refusal
use Rattle.edge_base.specs.commands.Refusals.{refuse_if}
use Rattle.edge_base.specs.tree.Positions.{Position, data_at}
use Rattle.edge_base.specs.tree.Slots.{Entry, Slots, pieces, slots_in_block, slot_blocks}
use Rattle.edge_base.specs.commands.Descriptors.{descriptor_at}
use Rattle.edge_base.specs.tree.Nodes.{Node, file, directory, marked_from, indices_of}
use Rattle.edge_base.specs.tree.NodeRules.{IsNode}
use Rattle.edge_base.specs.commands.Paths.{names_in}
use Rattle.edge_model.specs.Tree.{Tree, node_at, is_directory, is_directory_node, slots_at, slots_of_node, with_node, with_slots, data_positions, numbers_of}
use Rattle.edge_model.specs.Walk.{Spot, Found}
use Rattle.edge_model.specs.State.{State, Plan}
use Rattle.edge_model.specs.Asked.{Asked}
use Rattle.edge_model.specs.Step.{plan}
use Rattle.edge_model.specs.Named.{with_slot, without_slot, placed, cleared, clear_removes}
use Rattle.edge_model.specs.Open.{open_at, file_at, writable_at, emptied}
use Rattle.edge_model.specs.Files.{content_of, present_of, is_marked, is_touched, past_end, write_place, written, cut}
use Rattle.edge_model.specs.Names.{unnamed, has_one_link, holder, name_at, with_parent, renamed}
use Rattle.edge_model.specs.Laws.{HasNodes, IsOpenByKind}
use Rattle.edge_model.proofs.Members.{IsAmong, among_append, among_left, among_right, among_map, among_range, among_filter, from_range}
use Rattle.edge_model.proofs.Ways.{blocks_of}
use Rattle.edge_model.proofs.Plans.{Gives, gives_ok, gives_after, gives_each}
use Rattle.edge_model.proofs.SlotLaws.{more_pieces, length-with_slot, is_marked_in, passes_marked}
use Rattle.edge_model.proofs.DirtyLaws.{IsRemoved, IsRemovedPlan}
use Rattle.edge_model.proofs.WalkLaws.{in_directory, walk_in_directory, holder_is_directory}
use Rattle.edge_model.proofs.Changes.{Change, nothing, empties, makes_file, makes_dir, writes, cuts, links, drops, moves, moves_over, IsNewName, made, edit_of, by_change, passes, is_some_of}
use Rattle.edge_model.proofs.CompleteLaws.{slot_within, spot_within}

-- each data block of the tree t is one of u, or is listed
abbrev pub Stays : Request → Tree → List Position → Tree → Type 0
Stays g t removes u = (n i : ℕ) → IsAmong (blocks_of g (t n)) i → IsAmong (blocks_of g (u n)) i ⊎ IsAmong removes (data_at n i)

stays_then : (g : Request) (t u v : Tree) (removes : List Position) → Stays g t removes u → Stays g u removes v → Stays g t removes v
stays_then g t u v removes one two n i h = ⊎_elim (λ k. two n i k) (λ r. inr r) (one n i h)

-- ---- one node

-- another node at n, where its old blocks are accounted for
stays_node : (g : Request) (t u : Tree) (n : ℕ) (node : Option Node) (removes : List Position) → Stays g t removes u
    → ((i : ℕ) → IsAmong (blocks_of g (t n)) i → IsAmong (blocks_of g node) i ⊎ IsAmong removes (data_at n i)) → Stays g t removes (with_node u n node)
stays_node g t u n node removes others own x i h =
    elim (nat_eq n x) as (λ b. nat_eq n x ≡ b → IsAmong (blocks_of g (cond b node (u x))) i ⊎ IsAmong removes (data_at x i)) [
      | true ↦ λ same. let e = eqb-true n x same in subst (λ y. IsAmong (blocks_of g node) i ⊎ IsAmong removes (data_at y i)) e (own i (subst (λ y. IsAmong (blocks_of g (t y)) i) (sym e) h))
      | false ↦ λ other. others x i h
    ] refl

unchanged : (g : Request) (t : Tree) (removes : List Position) → Stays g t removes t
unchanged g t removes n i h = inl h

at_node : (g : Request) (t : Tree) (n : ℕ) (node : Option Node) (removes : List Position) → ((i : ℕ) → IsAmong (blocks_of g (t n)) i → IsAmong (blocks_of g node) i ⊎ IsAmong removes (data_at n i)) → Stays g t removes (with_node t n node)
at_node g t n node removes own = stays_node g t t n node removes (unchanged g t removes) own

-- the data positions of a node are those of its blocks
blocks_listed : (g : Request) (n i : ℕ) (node : Option Node) → IsAmong (blocks_of g node) i → IsAmong (map (data_at n) (indices_of g (unwrap_or node (file [] [])))) (data_at n i)
blocks_listed g n i None h = absurd h
blocks_listed g n i (Some node) h = among_map (data_at n) (indices_of g node) i h

-- no node, no blocks
none_there : (g : Request) (node : Option Node) (i : ℕ) → is_some node ≡ false → IsAmong (blocks_of g node) i → ⊥
none_there g None i e h = h
none_there g (Some node) i e h = false≢true (sym e)

-- ---- slots

slots_are : (g : Request) (node : Option Node) (i : ℕ) → is_directory_node (unwrap_or node (file [] [])) ≡ true → IsAmong (blocks_of g node) i → i < slot_blocks g (slots_of_node (unwrap_or node (file [] [])))
slots_are g None i kind h = absurd h
slots_are g (Some (file content present)) i kind h = absurd (false≢true kind)
slots_are g (Some (directory slots parent)) i kind h = let in_range = from_range 0 (slot_blocks g slots) i h in omega arith

at_slots : (g : Request) (t : Tree) (d : ℕ) (slots : Slots) (removes : List Position) → is_directory t d ≡ true → ((i : ℕ) → i < slot_blocks g (slots_at t d) → (i < slot_blocks g slots) ⊎ IsAmong removes (data_at d i)) → Stays g t removes (with_slots t d slots)
at_slots g t d slots removes kind own = at_node g t d (Some (directory slots _)) removes
    (λ i h. ⊎_elim (λ k. inl (among_range 0 (slot_blocks g slots) i (omega arith) (omega arith))) (λ r. inr r) (own i (slots_are g (t d) i kind h)))

placed_stays : (g : Request) (t : Tree) (d slot : ℕ) (e : Entry) (removes : List Position) → is_directory t d ≡ true → slot ≤ length (slots_at t d) → Stays g t removes (placed t d slot e)
placed_stays g t d slot e removes kind in_slots = at_slots g t d (with_slot (slots_at t d) slot e) removes kind
    (λ i h. inl (more_pieces (slots_in_block g) (length (slots_at t d)) (length (with_slot (slots_at t d) slot e)) i (not_fewer (length-with_slot (slots_at t d) slot e in_slots)) h))
  where
    not_fewer : (length (with_slot (slots_at t d) slot e) ≡ length (slots_at t d)) ⊎ ((length (with_slot (slots_at t d) slot e) ≡ length (slots_at t d) + 1) × (slot ≡ length (slots_at t d))) → length (slots_at t d) ≤ length (with_slot (slots_at t d) slot e)
    not_fewer (inl same) = omega arith
    not_fewer (inr more) = omega arith

in_difference : (low high i : ℕ) → low ≤ i → i < high → IsAmong (range_with_len low (high - low)) i
in_difference low high i one two = among_range low (high - low) i one (omega arith)

cleared_listed : (g : Request) (d : ℕ) (slots : Slots) (slot i : ℕ) → i < slot_blocks g slots → (i < slot_blocks g (without_slot slots slot)) ⊎ IsAmong (clear_removes g d slots slot) (data_at d i)
cleared_listed g d slots slot i h = ⊎_elim
    (λ (low : i < slot_blocks g (without_slot slots slot)). inl low)
    (λ (high : slot_blocks g (without_slot slots slot) ≤ i). inr (among_map (data_at d) (range_with_len (slot_blocks g (without_slot slots slot)) (slot_blocks g slots - slot_blocks g (without_slot slots slot))) i (in_difference (slot_blocks g (without_slot slots slot)) (slot_blocks g slots) i high h)))
    (cases_lt i (slot_blocks g (without_slot slots slot)))

cleared_stays : (g : Request) (t : Tree) (d slot : ℕ) (more : List Position) → is_directory t d ≡ true → Stays g t (clear_removes g d (slots_at t d) slot ++ more) (cleared t d slot)
cleared_stays g t d slot more kind = at_slots g t d (without_slot (slots_at t d) slot) _ kind
    (λ i h. ⊎_elim (λ k. inl k) (λ r. inr (among_left (clear_removes g d (slots_at t d) slot) more (data_at d i) r)) (cleared_listed g d (slots_at t d) slot i h))

still_directory : (t : Tree) (d x : ℕ) (node : Node) → is_directory_node node ≡ true → is_directory t x ≡ true → is_directory (with_node t d (Some node)) x ≡ true
still_directory t d x node own kind =
    elim (nat_eq d x) as (λ b. is_directory_node (unwrap_or (cond b (Some node) (t x)) (file [] [])) ≡ true) [
      | true ↦ own
      | false ↦ kind
    ]

-- a directory stays one where a name is placed
placed_directory : (t : Tree) (d slot : ℕ) (e : Entry) (x : ℕ) → is_directory t x ≡ true → is_directory (placed t d slot e) x ≡ true
placed_directory t d slot e x kind = still_directory t d x (directory (with_slot (slots_at t d) slot e) _) refl kind

-- ---- files

-- a node that is there keeps its rules
abbrev HasOne : Request → Option Node → Type 0
HasOne g node = (there : Node) → node ≡ Some there → IsNode g there

-- the blocks of a file are those that it marks
file_marks : (g : Request) (node : Option Node) (i : ℕ) → HasOne g node → is_directory_node (unwrap_or node (file [] [])) ≡ false → IsAmong (blocks_of g node) i
    → IsAmong (marked_from 0 (present_of (unwrap_or node (file [] [])))) i × (is_marked (present_of (unwrap_or node (file [] []))) i ≡ true) × (i < pieces g.block_size (length (content_of (unwrap_or node (file [] [])))))
file_marks g None i rules kind h = absurd h
file_marks g (Some (file content present)) i rules kind h = let m = is_marked_in present i h in let flags = (rules (file content present) refl).flags in (h, m.1, omega arith)
file_marks g (Some (directory slots parent)) i rules kind h = absurd (false≢true (sym kind))

written_removed : (g : Request) (t : Tree) (n at : ℕ) (new : List ℕ) → HasNodes g t → is_directory t n ≡ false → IsRemoved g t (written g t n at new)
written_removed g t n at new rules kind = at_node g t n (Some (file _ _)) []
    (λ i h. let m = file_marks g (t n) i (rules n) kind h in
    inl (passes_marked (λ j. is_marked (present_of (node_at t n)) j || is_touched g at (length new) j) 0 (pieces g.block_size (max (length (content_of (node_at t n))) (at + length new))) i (omega arith)
    (let more = more_pieces g.block_size (length (content_of (node_at t n))) (max (length (content_of (node_at t n))) (at + length new)) i (omega arith) m.2 in omega arith)
    (or_left _ _ m.1)))

cut_removed : (g : Request) (t : Tree) (n size : ℕ) → HasNodes g t → is_directory t n ≡ false → IsRemoved g t (cut g t n size)
cut_removed g t n size rules kind = at_node g t n (Some (file _ _)) _
    (λ i h. let m = file_marks g (t n) i (rules n) kind h in
    ⊎_elim
    (λ (low : i < pieces g.block_size size). inl (passes_marked (is_marked (present_of (node_at t n))) 0 (pieces g.block_size size) i (omega arith) (omega arith) m.1))
    (λ (high : pieces g.block_size size ≤ i). inr (among_map (data_at n) (past_end g (present_of (node_at t n)) size) i
    (among_filter (λ j. nat_le (pieces g.block_size size) j) (marked_from 0 (present_of (node_at t n))) i m.0 (le-leb (pieces g.block_size size) i high))))
    (cases_lt i (pieces g.block_size size)))

emptied_removed : (g : Request) (t : Tree) (n : ℕ) → IsRemoved g t (emptied g t n)
emptied_removed g t n = at_node g t n (Some (file [] [])) (data_positions g t n) (λ i h. inr (blocks_listed g n i (t n) h))

-- ---- names

none_some : (n : ℕ) → None ≡ Some n → ⊥
none_some n e = cc

same_number : (m n : ℕ) → Some m ≡ Some n → m ≡ n
same_number m n e = cc

free_is : (xs : List ℕ) (t : Tree) (n : ℕ) → find (λ m. not (is_some (t m))) xs ≡ Some n → is_some (t n) ≡ false
free_is [] t n h = absurd (none_some n h)
free_is (x ∷ xs) t n h =
    elim (is_some (t x)) as (λ b. is_some (t x) ≡ b → cond (not b) (Some x) (find (λ m. not (is_some (t m))) xs) ≡ Some n → is_some (t n) ≡ false) [
      | true ↦ λ taken k. free_is xs t n k
      | false ↦ λ free k. ap (λ m. is_some (t m)) (sym (same_number x n k)) ∙ free
    ] refl h

made_removed : (g : Request) (t : Tree) (path : List ℕ) (d : ℕ) (name : List ℕ) (n slot : ℕ) (node : Node) → IsNewName g t path d name n slot → IsRemoved g t (made g t d name n slot node)
made_removed g t path d name n slot node new =
    stays_node g t (placed t d slot (record { name = name; number = n })) n (Some node) []
    (placed_stays g t d slot (record { name = name; number = n }) [] (in_directory g t path d name new.spot) (slot_within g t d slot new.room))
    (λ i h. absurd (none_there g (t n) i (free_is (numbers_of g) t n new.number) h))

unnamed_removed : (g : Request) (t : Tree) (d : ℕ) (found : Found) (last : Bool) → is_directory t d ≡ true → IsRemoved g t (unnamed g t d found last)
unnamed_removed g t d found true kind = stays_node g t (cleared t d found.slot) found.number None _ (cleared_stays g t d found.slot (data_positions g t found.number) kind)
    (λ i h. inr (among_right (clear_removes g d (slots_at t d) found.slot) (data_positions g t found.number) (data_at found.number i) (blocks_listed g found.number i (t found.number) h)))
unnamed_removed g t d found false kind = λ n i h. ⊎_elim (λ k. inl k) (λ r. inr (no_more n i r)) (cleared_stays g t d found.slot [] kind n i h)
  where
    no_more : (n i : ℕ) → IsAmong (clear_removes g d (slots_at t d) found.slot ++ []) (data_at n i) → IsAmong (clear_removes g d (slots_at t d) found.slot) (data_at n i)
    no_more n i r = ⊎_elim (λ k. k) (λ none. absurd none) (among_append (clear_removes g d (slots_at t d) found.slot) [] (data_at n i) r)

node_parent : (g : Request) (t : Tree) (n parent : ℕ) (removes : List Position) (node : Option Node) → t n ≡ node → Stays g t removes (with_parent t n parent)
node_parent g t n parent removes None was = rw was (unchanged g t removes)
node_parent g t n parent removes (Some (file content present)) was = rw was (unchanged g t removes)
node_parent g t n parent removes (Some (directory slots old)) was = rw was (at_node g t n (Some (directory slots parent)) removes (λ i h. inl (subst (λ o. IsAmong (blocks_of g o) i) was h)))

parent_stays : (g : Request) (t : Tree) (n parent : ℕ) (removes : List Position) → Stays g t removes (with_parent t n parent)
parent_stays g t n parent removes = node_parent g t n parent removes (t n) refl

-- a node that loses its last name has its blocks listed
dropped_stays : (g : Request) (t u : Tree) (n : ℕ) (before : List Position) (last : Bool) → Stays g t (before ++ cond last (data_positions g t n) []) u
    → Stays g t (before ++ cond last (data_positions g t n) []) (cond last (with_node u n None) u)
dropped_stays g t u n before true others = stays_node g t u n None _ others (λ i h. inr (among_right before (data_positions g t n) (data_at n i) (blocks_listed g n i (t n) h)))
dropped_stays g t u n before false others = others

renamed_removed : (g : Request) (t : Tree) (from : Spot) (found : Found) (to : Spot) (slot : ℕ) (replaced : Option ℕ) → is_directory t (holder from) ≡ true → is_directory t (holder to) ≡ true → slot ≤ length (slots_at t (holder to))
    → IsRemoved g t (renamed g t from found to slot replaced)
renamed_removed g t from found to slot None kind kind_to in_slots =
    let entry : Entry = record { name = name_at to; number = found.number } in
    let held = placed t (holder to) slot entry in
    let left = cleared held (holder from) found.slot in
    let removes = (renamed g t from found to slot None).removes in
    stays_then g t left (with_parent left found.number (holder to)) removes
    (stays_then g t held left removes (placed_stays g t (holder to) slot entry removes kind_to in_slots) (cleared_stays g held (holder from) found.slot [] (placed_directory t (holder to) slot entry (holder from) kind)))
    (parent_stays g left found.number (holder to) removes)
renamed_removed g t from found to slot (Some n) kind kind_to in_slots =
    let entry : Entry = record { name = name_at to; number = found.number } in
    let held = placed t (holder to) slot entry in
    let left = cleared held (holder from) found.slot in
    let fewer = cond (has_one_link g t n) (with_node left n None) left in
    let dropped = cond (has_one_link g t n) (data_positions g t n) [] in
    let clears = clear_removes g (holder from) (slots_at held (holder from)) found.slot in
    let removes = clears ++ dropped in
    stays_then g t fewer (with_parent fewer found.number (holder to)) removes
    (dropped_stays g t left n clears (has_one_link g t n)
    (stays_then g t held left removes (placed_stays g t (holder to) slot entry removes kind_to in_slots) (cleared_stays g held (holder from) found.slot dropped (placed_directory t (holder to) slot entry (holder from) kind))))
    (parent_stays g fewer found.number (holder to) removes)

-- ---- each change

-- a descriptor of a file is not for a directory
file_kind : (s : State) (h : ℕ) → IsOpenByKind s → Gives (λ d. is_directory s.tree d.number ≡ false) (writable_at s h)
file_kind s h kinds =
    gives_after _ (file_at s h) _ (λ d at.
    gives_each _ (refuse_if (not d.write) refusal.BadDescriptor) _ (λ _.
    gives_ok _ d ((of_file s h kinds).holds d at)))
  where
    of_file : (s : State) (h : ℕ) → IsOpenByKind s → Gives (λ d. is_directory s.tree d.number ≡ false) (file_at s h)
    of_file s h kinds =
        gives_after _ (open_at s h) _ (λ d at.
        gives_after _ (refuse_if d.directory refusal.IsDir) _ (λ u kind.
        gives_ok _ d (kinds h d (is_some_of (descriptor_at s.descriptors h) refusal.BadDescriptor d at) ∙ passes d.directory _ u kind)))

removed_change : (g : Request) (s : State) → HasNodes g s.tree → IsOpenByKind s → (c : Change g s) → IsRemovedPlan g s.tree (edit_of g s c)
removed_change g s rules kinds nothing = tt
removed_change g s rules kinds (empties path spot found at there kind) = emptied_removed g s.tree found.number
removed_change g s rules kinds (makes_file path d name n slot new) = made_removed g s.tree path d name n slot (file [] []) new
removed_change g s rules kinds (makes_dir path d name n slot new) = made_removed g s.tree path d name n slot (directory [] d) new
removed_change g s rules kinds (writes h d new at fits) = written_removed g s.tree d.number (write_place s d) new rules ((file_kind s h kinds).holds d at)
removed_change g s rules kinds (cuts h d size at fits) = cut_removed g s.tree d.number size rules ((file_kind s h kinds).holds d at)
removed_change g s rules kinds (links path to from found d name slot new) = placed_stays g s.tree d slot (record { name = name; number = found.number }) [] (walk_in_directory s.tree (names_in to) d name new.spot_to) (slot_within g s.tree d slot new.room)
removed_change g s rules kinds (drops path d name found dropped) = unnamed_removed g s.tree d found (has_one_link g s.tree found.number) (in_directory g s.tree path d name dropped.spot)
removed_change g s rules kinds (moves path to from spot found slot moved absent room) =
    renamed_removed g s.tree from found spot slot None (holder_is_directory s.tree path from moved.is_named moved.spot) (holder_is_directory s.tree to spot moved.is_named_to moved.spot_to) (slot_within g s.tree (holder spot) slot room)
removed_change g s rules kinds (moves_over path to from spot found there moved at replaced) =
    renamed_removed g s.tree from found spot there.slot (Some there.number) (holder_is_directory s.tree path from moved.is_named moved.spot) (holder_is_directory s.tree to spot moved.is_named_to moved.spot_to) (spot_within s.tree spot there at)

pub each_removed : (g : Request) (s : State) → HasNodes g s.tree → IsOpenByKind s → (c : Asked) (p : Plan) → plan g s c ≡ Ok p → IsRemovedPlan g s.tree p.edit
each_removed g s rules kinds c p was = by_change g s (IsRemovedPlan g s.tree) (removed_change g s rules kinds) c p was

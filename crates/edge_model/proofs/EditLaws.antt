-- Each change of a tree lists the data blocks that it adds.
use Rattle.std.proofs.Common.{◌≡◌, ℕ, ◌+◌, ◌-◌, ◌/◌, ◌<◌, ◌≤◌, ◌||◌, Bool, true, false, cond, List, [], length, map, ◌⊎◌, inl, inr, ⊎_elim, Option, Some, None, nat_eq, unwrap_or, refl, sym, subst, arith, eqb-true, leb-true}
use Rattle.std.specs.List.{range_with_len}
use Rattle.std.proofs.lemmas.Bool.{false≢true, and_parts, or_cases}
use Rattle.edge_base.specs.declared.geometry.Request.{Request}
use Rattle.edge_base.specs.tree.Positions.{Position, data_at}
use Rattle.edge_base.specs.tree.Slots.{Entry, Slots, slots_in_block, slot_blocks}
use Rattle.edge_base.specs.tree.Nodes.{Node, file, directory}
use Rattle.edge_model.specs.Tree.{Tree, node_at, slots_at, slots_of_node, with_node, with_slots}
use Rattle.edge_model.specs.Walk.{Spot, Found}
use Rattle.edge_model.specs.Named.{slot_position, placed, cleared}
use Rattle.edge_model.specs.Open.{emptied}
use Rattle.edge_model.specs.Files.{present_of, is_marked, blocks_touched, first_touched, last_touched, is_touched, written, cut}
use Rattle.edge_model.specs.Names.{unnamed, has_one_link, holder, name_at, with_parent, renamed}
use Rattle.edge_model.proofs.Members.{IsAmong, among_map, among_range, from_range}
use Rattle.edge_model.proofs.Ways.{blocks_of}
use Rattle.edge_model.proofs.SlotLaws.{no_pieces, placed_blocks, cleared_blocks, marked_passes, is_in_marked}
use Rattle.edge_model.proofs.DirtyLaws.{IsComplete}

-- each data block of the tree u is one of t, or is listed
abbrev pub Grows : Request → Tree → List Position → Tree → Type 0
Grows g t writes u = (n i : ℕ) → IsAmong (blocks_of g (u n)) i → IsAmong (blocks_of g (t n)) i ⊎ IsAmong writes (data_at n i)

pub grows_then : (g : Request) (t u v : Tree) (writes : List Position) → Grows g t writes u → Grows g u writes v → Grows g t writes v
grows_then g t u v writes one two n i h = ⊎_elim (λ k. one n i k) (λ w. inr w) (two n i h)

-- ---- one node

at_node : (g : Request) (t : Tree) (n : ℕ) (node : Option Node) (writes : List Position) → ((i : ℕ) → IsAmong (blocks_of g node) i → IsAmong (blocks_of g (t n)) i ⊎ IsAmong writes (data_at n i)) → Grows g t writes (with_node t n node)
at_node g t n node writes own x i h =
    elim (nat_eq n x) as (λ b. nat_eq n x ≡ b → IsAmong (blocks_of g (cond b node (t x))) i → IsAmong (blocks_of g (t x)) i ⊎ IsAmong writes (data_at x i)) [
      | true ↦ λ same k. subst (λ y. IsAmong (blocks_of g (t y)) i ⊎ IsAmong writes (data_at y i)) (eqb-true n x same) (own i k)
      | false ↦ λ other k. inl k
    ] refl h

pub without_node : (g : Request) (t : Tree) (n : ℕ) (writes : List Position) → Grows g t writes (with_node t n None)
without_node g t n writes = at_node g t n None writes (λ i h. absurd h)

pub with_empty_file : (g : Request) (t : Tree) (n : ℕ) (writes : List Position) → Grows g t writes (with_node t n (Some (file [] [])))
with_empty_file g t n writes = at_node g t n (Some (file [] [])) writes (λ i h. absurd h)

pub with_empty_directory : (g : Request) (t : Tree) (n parent : ℕ) (writes : List Position) → Grows g t writes (with_node t n (Some (directory [] parent)))
with_empty_directory g t n parent writes = at_node g t n (Some (directory [] parent)) writes (λ i h. absurd (let in_range = from_range 0 (slot_blocks g []) i h in no_pieces (slots_in_block g) i (omega arith)))

-- ---- slots

-- the blocks of a node's slots are its own
pub slots_have : (g : Request) (node : Option Node) (i : ℕ) → i < slot_blocks g (slots_of_node (unwrap_or node (file [] []))) → IsAmong (blocks_of g node) i
slots_have g None i h = absurd (no_pieces (slots_in_block g) i h)
slots_have g (Some (file content present)) i h = absurd (no_pieces (slots_in_block g) i h)
slots_have g (Some (directory slots parent)) i h = among_range 0 (slot_blocks g slots) i (omega arith) (omega arith)

at_slots : (g : Request) (t : Tree) (d : ℕ) (slots : Slots) (writes : List Position) → ((i : ℕ) → i < slot_blocks g slots → (i < slot_blocks g (slots_at t d)) ⊎ IsAmong writes (data_at d i)) → Grows g t writes (with_slots t d slots)
at_slots g t d slots writes own = at_node g t d (Some (directory slots _)) writes
    (λ i h. let in_range = from_range 0 (slot_blocks g slots) i h in ⊎_elim (λ k. inl (slots_have g (t d) i k)) (λ w. inr w) (own i (omega arith)))

pub placed_grows : (g : Request) (t : Tree) (d slot : ℕ) (e : Entry) (writes : List Position) → slot ≤ length (slots_at t d) → IsAmong writes (slot_position g d slot) → Grows g t writes (placed t d slot e)
placed_grows g t d slot e writes in_slots listed = at_slots g t d _ writes
    (λ i h. ⊎_elim (λ k. inl k) (λ (same : i ≡ slot / slots_in_block g). inr (subst (λ j. IsAmong writes (data_at d j)) (sym same) listed)) (placed_blocks g (slots_at t d) slot e i in_slots h))

pub cleared_grows : (g : Request) (t : Tree) (d slot : ℕ) (writes : List Position) → Grows g t writes (cleared t d slot)
cleared_grows g t d slot writes = at_slots g t d _ writes (λ i h. inl (cleared_blocks g (slots_at t d) slot i h))

-- ---- files

pub flags_have : (g : Request) (node : Option Node) (i : ℕ) → is_marked (present_of (unwrap_or node (file [] []))) i ≡ true → IsAmong (blocks_of g node) i
flags_have g None i h = absurd (false≢true h)
flags_have g (Some (file content present)) i h = is_in_marked present i h
flags_have g (Some (directory slots parent)) i h = absurd (false≢true h)

in_between : (first last i : ℕ) → first ≤ i → i ≤ last → IsAmong (range_with_len first (last + 1 - first)) i
in_between first last i low high = among_range first (last + 1 - first) i low (omega arith)

pub touched_listed : (g : Request) (n at len i : ℕ) → is_touched g at len i ≡ true → IsAmong (map (data_at n) (blocks_touched g at len)) (data_at n i)
touched_listed g n at len i h =
    let ends = and_parts _ _ h in
    among_map (data_at n) (blocks_touched g at len) i (in_between (first_touched g at) (last_touched g at len) i (leb-true (first_touched g at) i ends.0) (leb-true i (last_touched g at len) ends.1))

pub written_complete : (g : Request) (t : Tree) (n at : ℕ) (new : List ℕ) → IsComplete g t (written g t n at new)
written_complete g t n at new = at_node g t n (Some (file _ _)) (map (data_at n) (blocks_touched g at (length new)))
    (λ i h. ⊎_elim
    (λ old. inl (flags_have g (t n) i old))
    (λ new_one. inr (touched_listed g n at (length new) i new_one))
    (or_cases _ _ (marked_passes (λ j. is_marked (present_of (node_at t n)) j || is_touched g at (length new) j) 0 _ i h)))

pub cut_complete : (g : Request) (t : Tree) (n size : ℕ) → IsComplete g t (cut g t n size)
cut_complete g t n size = at_node g t n (Some (file _ _)) _ (λ i h. inl (flags_have g (t n) i (marked_passes (is_marked (present_of (node_at t n))) 0 _ i h)))

pub emptied_complete : (g : Request) (t : Tree) (n : ℕ) → IsComplete g t (emptied g t n)
emptied_complete g t n = with_empty_file g t n []

-- ---- names

pub unnamed_complete : (g : Request) (t : Tree) (d : ℕ) (found : Found) (last : Bool) → IsComplete g t (unnamed g t d found last)
unnamed_complete g t d found true = grows_then g t (cleared t d found.slot) (with_node (cleared t d found.slot) found.number None) _ (cleared_grows g t d found.slot _) (without_node g (cleared t d found.slot) found.number _)
unnamed_complete g t d found false = cleared_grows g t d found.slot _

node_parent : (g : Request) (t : Tree) (n parent : ℕ) (writes : List Position) (node : Option Node) → t n ≡ node → Grows g t writes (with_parent t n parent)
node_parent g t n parent writes None was = rw was (λ x i h. inl h)
node_parent g t n parent writes (Some (file content present)) was = rw was (λ x i h. inl h)
node_parent g t n parent writes (Some (directory slots old)) was = rw was (at_node g t n (Some (directory slots parent)) writes (λ i h. inl (subst (λ o. IsAmong (blocks_of g o) i) (sym was) h)))

pub parent_grows : (g : Request) (t : Tree) (n parent : ℕ) (writes : List Position) → Grows g t writes (with_parent t n parent)
parent_grows g t n parent writes = node_parent g t n parent writes (t n) refl

dropped_grows : (g : Request) (t : Tree) (n : ℕ) (writes : List Position) (last : Bool) → Grows g t writes (cond last (with_node t n None) t)
dropped_grows g t n writes true = without_node g t n writes
dropped_grows g t n writes false = λ x i h. inl h

pub renamed_complete : (g : Request) (t : Tree) (from : Spot) (found : Found) (to : Spot) (slot : ℕ) (replaced : Option ℕ) → slot ≤ length (slots_at t (holder to)) → IsComplete g t (renamed g t from found to slot replaced)
renamed_complete g t from found to slot None in_slots =
    let writes = (renamed g t from found to slot None).writes in
    let held = placed t (holder to) slot (record { name = name_at to; number = found.number }) in
    let left = cleared held (holder from) found.slot in
    grows_then g t held (with_parent left found.number (holder to)) writes (placed_grows g t (holder to) slot _ writes in_slots (inl refl))
    (grows_then g held left (with_parent left found.number (holder to)) writes (cleared_grows g held (holder from) found.slot writes) (parent_grows g left found.number (holder to) writes))
renamed_complete g t from found to slot (Some n) in_slots =
    let writes = (renamed g t from found to slot (Some n)).writes in
    let held = placed t (holder to) slot (record { name = name_at to; number = found.number }) in
    let left = cleared held (holder from) found.slot in
    let fewer = cond (has_one_link g t n) (with_node left n None) left in
    grows_then g t held (with_parent fewer found.number (holder to)) writes (placed_grows g t (holder to) slot _ writes in_slots (inl refl))
    (grows_then g held left (with_parent fewer found.number (holder to)) writes (cleared_grows g held (holder from) found.slot writes)
    (grows_then g left fewer (with_parent fewer found.number (holder to)) writes (dropped_grows g left n writes (has_one_link g t n)) (parent_grows g fewer found.number (holder to) writes)))

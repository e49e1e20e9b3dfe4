-- A view stands for one tree alone.
use Rattle.std.proofs.Common.{◌≡◌, ◌≢◌, ◌↔◌, ℕ, zero, suc, ◌+◌, ◌*◌, ◌<◌, ◌≤◌, ◌==◌, ◌&&◌, inl, inr, Bool, true, false, List, length, get_or, Option, Some, None, refl, sym, ap, ◌∙◌, subst, arith}
use Rattle.std.specs.List.{list_any, range_with_len}
use Rattle.std.proofs.Math.Nat.{lt_of_mul-lt-mul_left, eq_of_mul-eq-mul_left}
use Rattle.std.proofs.lemmas.Bool.{cases_eq, eq-eqb, or_left, or_right}
use Rattle.std.proofs.lemmas.List.{ext_get_or}
use Rattle.edge_base.specs.declared.geometry.Request.{Request}
use Rattle.edge_base.specs.declared.node.Head.{Head}
use Rattle.edge_base.specs.declared.node.NodeType.TheVariants.{File, Directory}
use Rattle.edge_base.specs.layout.Places.{max_blocks_of}
use Rattle.edge_base.specs.tree.Positions.{data_at, positions_of, has}
use Rattle.edge_base.specs.tree.Slots.{Slots, pieces, slots_in_block, slot_blocks}
use Rattle.edge_base.specs.tree.Nodes.{Node, file, directory, marked_from, indices_of, size_of, kind_of, parent_of, block_of}
use Rattle.edge_base.specs.tree.NodeRules.{IsNode, IsFile, IsDirectory}
use Rattle.edge_base.proofs.ChainLaws.{has-positions_of}
use Rattle.edge_store.specs.View.{View, whole, bytes}
use Rattle.edge_store.specs.Placed.{data_block, HoldsNode}
use Rattle.edge_model.specs.Tree.{Tree}
use Rattle.edge_model.specs.Rules.{IsTree}
use Rattle.edge_disk.specs.Image.{Image}
use Rattle.edge_base.specs.declared.node.Master.{Master}
use Rattle.edge_image.specs.Image.{Live, live_of}
use Rattle.edge_image.specs.View.{view_of}
use Rattle.edge_image.specs.Opens.{StandsFor, HasHead, head_of_node, OpensTo}
use Rattle.edge_image.proofs.GeometryLaws.{IsUsable, usable}
use Rattle.edge_image.proofs.BlockLaws.{begun, marked, same_content, same_directory}

-- ---- data positions

-- a data position is among those of a node exactly where its index is
pub data_positions : (g : Request) (n : ℕ) (indices : List ℕ) (i : ℕ) → has (positions_of g n indices) (data_at n i) ≡ list_any (λ k. k == i) indices
data_positions g n indices i = has-positions_of g n indices (data_at n i) ∙ ap (λ b. b && list_any (λ k. k == i) indices) (eq-eqb n n refl)

-- ---- the data blocks of a node that a view holds

-- a node has data block i exactly where the index is one of its own
has_data : (g : Request) (v : View) (n : ℕ) (node : Node) (i : ℕ) → HoldsNode g v n node → i < max_blocks_of g → (data_block g v n i ≢ 0) ↔ (list_any (λ k. k == i) (indices_of g node) ≡ true)
has_data g v n node i holds below =
    let places = holds.places.places (data_at n i) refl below in
    (λ some. sym (data_positions g n (indices_of g node) i) ∙ places.0 some, λ there. places.1 (data_positions g n (indices_of g node) i ∙ there))

same_answer : (a b : Bool) → (a ≡ true → b ≡ true) → (b ≡ true → a ≡ true) → a ≡ b
same_answer true b f g = sym (f refl)
same_answer false true f g = g refl
same_answer false false f g = refl

-- two nodes that a view holds at one number have the same indices
same_indices : (g : Request) (v : View) (n : ℕ) (one two : Node) (i : ℕ) → HoldsNode g v n one → HoldsNode g v n two → i < max_blocks_of g
    → list_any (λ k. k == i) (indices_of g one) ≡ list_any (λ k. k == i) (indices_of g two)
same_indices g v n one two i p q below =
    let first = has_data g v n one i p below in
    let second = has_data g v n two i q below in
    same_answer _ _ (λ e. second.0 (first.1 e)) (λ e. first.0 (second.1 e))

-- and the same bytes in each
same_block : (g : Request) (v : View) (n : ℕ) (one two : Node) (i : ℕ) → HoldsNode g v n one → HoldsNode g v n two
    → list_any (λ k. k == i) (indices_of g one) ≡ true → list_any (λ k. k == i) (indices_of g two) ≡ true → block_of g one i ≡ block_of g two i
same_block g v n one two i p q in_one in_two = let both : bytes (block_of g one i) ≡ bytes (block_of g two i) = sym (p.contents i in_one) ∙ q.contents i in_two in cc

in_range : (a n i : ℕ) → a ≤ i → i < a + n → list_any (λ k. k == i) (range_with_len a n) ≡ true
in_range a zero i from to = absurd (omega arith)
in_range a (suc n) i from to = elim (cases_eq a i) [
  | inl e ↦ or_left (a == i) _ (eq-eqb a i e)
  | inr apart ↦ or_right (a == i) _ (in_range (a + 1) n i (omega arith) (omega arith))
]

flag_of : (i : ℕ) (flags : List Bool) → list_any (λ k. k == i) (marked_from 0 flags) ≡ get_or flags i false
flag_of i flags = ap (λ (j : ℕ). list_any (λ k. k == j) (marked_from 0 flags)) (let here : i ≡ 0 + i = omega arith in here) ∙ marked 0 i flags

index_of_file : (g : Request) (content : List ℕ) (present : List Bool) (i : ℕ) → 0 < g.block_size → IsFile g content present → i < length present → i < max_blocks_of g
index_of_file g content present i some is inside =
    let flags = is.flags in
    let from = begun g.block_size (length content) i some (omega arith) in
    let size = is.size in
    lt_of_mul-lt-mul_left g.block_size (let below : g.block_size * i < g.block_size * max_blocks_of g = in_order g.block_size i (max_blocks_of g) (length content) from size in below)
  where
    in_order : (b i m n : ℕ) → i * b < n → n ≤ m * b → b * i < b * m
    in_order b i m n from size = omega arith

same_files : (g : Request) (v : View) (n : ℕ) (one two : List ℕ) (p q : List Bool) → 0 < g.block_size → IsFile g one p → IsFile g two q → HoldsNode g v n (file one p) → HoldsNode g v n (file two q)
    → length one ≡ length two → file one p ≡ file two q
same_files g v n one two p q some is_one is_two holds_one holds_two long =
    let flags : p ≡ q = ext_get_or false p q (is_one.flags ∙ ap (pieces g.block_size) long ∙ sym is_two.flags) (λ i inside.
    sym (flag_of i p) ∙ same_indices g v n (file one p) (file two q) i holds_one holds_two (index_of_file g one p i some is_one inside) ∙ flag_of i q) in
    let is_like = subst (IsFile g two) (sym flags) is_two in
    let content = same_content g one two p some is_one is_like long (λ i set.
    same_block g v n (file one p) (file two q) i holds_one holds_two (flag_of i p ∙ set) (flag_of i q ∙ ap (λ f. get_or f i false) (sym flags) ∙ set)) in
    λ i. file (content i) (flags i)

same_directories : (g : Request) (v : View) (n : ℕ) (one two : Slots) (p q : ℕ) → g.inodes ≤ 65536 → 0 < slots_in_block g → IsDirectory g one → IsDirectory g two → HoldsNode g v n (directory one p) → HoldsNode g v n (directory two q)
    → slot_blocks g one ≡ slot_blocks g two → p ≡ q → directory one p ≡ directory two q
same_directories g v n one two p q few some is_one is_two holds_one holds_two blocks parent =
    let slots = same_directory g one two p q few some is_one is_two blocks (λ i below.
    same_block g v n (directory one p) (directory two q) i holds_one holds_two (in_range 0 (slot_blocks g one) i (omega arith) (omega arith)) (in_range 0 (slot_blocks g two) i (omega arith) (omega arith))) in
    λ i. directory (slots i) (parent i)

-- ---- a view stands for one tree

-- nodes with one head that a view holds at one number
same_node : (g : Request) (v : View) (n : ℕ) (a b : Node) → IsUsable g → IsNode g a → IsNode g b → HoldsNode g v n a → HoldsNode g v n b
    → size_of g a ≡ size_of g b → kind_of a ≡ kind_of b → parent_of a ≡ parent_of b → a ≡ b
same_node g v n (file one p) (file two q) is_usable is_one is_two holds_one holds_two size kind parent = same_files g v n one two p q is_usable.some_bytes is_one is_two holds_one holds_two size
same_node g v n (file one p) (directory two q) is_usable is_one is_two holds_one holds_two size kind parent = absurd (let wrong : File ≡ Directory = kind in cc)
same_node g v n (directory one p) (file two q) is_usable is_one is_two holds_one holds_two size kind parent = absurd (let wrong : Directory ≡ File = kind in cc)
same_node g v n (directory one p) (directory two q) is_usable is_one is_two holds_one holds_two size kind parent =
    same_directories g v n one two p q is_usable.few_inodes is_usable.some_slots is_one is_two holds_one holds_two (eq_of_mul-eq-mul_left g.block_size is_usable.some_bytes (slot_blocks g one) (slot_blocks g two) size) parent

same_head : (v : View) (n : ℕ) (a b : Head) → HasHead v n a → HasHead v n b → a ≡ b
same_head v n a b p q = let e : Some (whole a p.entries) ≡ Some (whole b q.entries) = sym p.inode ∙ q.inode in cc

same_at : (g : Request) (v : View) (t u : Tree) → IsUsable g → IsTree g t → IsTree g u → StandsFor g v t → StandsFor g v u → (n : ℕ) (x y : Option Node) → t n ≡ x → u n ≡ y → x ≡ y
same_at g v t u is_usable is_t is_u for_t for_u n None None p q = refl
same_at g v t u is_usable is_t is_u for_t for_u n None (Some b) p q = absurd (let wrong : Some b ≡ None = sym q ∙ (for_u.numbers n).1 ((for_t.numbers n).0 p) in cc)
same_at g v t u is_usable is_t is_u for_t for_u n (Some a) None p q = absurd (let wrong : Some a ≡ None = sym p ∙ (for_t.numbers n).1 ((for_u.numbers n).0 q) in cc)
same_at g v t u is_usable is_t is_u for_t for_u n (Some a) (Some b) p q =
    let head = same_head v n (head_of_node g t n a) (head_of_node g u n b) (for_t.heads n a p) (for_u.heads n b q) in
    ap Some (same_node g v n a b is_usable (is_t.nodes n a p) (is_u.nodes n b q) (for_t.nodes n a p) (for_u.nodes n b q)
    (ap (λ (h : Head). h.size) head) (ap (λ (h : Head). h.kind) head) (ap (λ (h : Head). h.parent) head))

pub one_tree : (g : Request) (v : View) (t u : Tree) → IsUsable g → IsTree g t → IsTree g u → StandsFor g v t → StandsFor g v u → t ≡ u
one_tree g v t u is_usable is_t is_u for_t for_u = λ i n. same_at g v t u is_usable is_t is_u for_t for_u n (t n) (u n) refl refl i

-- ---- an image opens to one tree

pub one_opened : (image : Image) (t u : Tree) → OpensTo image t → OpensTo image u → t ≡ u
one_opened image t u one two =
    let master : one.master ≡ two.master = let e = sym one.is_master ∙ two.is_master in cc in
    let live : one.live ≡ two.live = let e = sym one.is_live ∙ ap (λ (m : Master). live_of m.geometry image) master ∙ two.is_live in cc in
    let tree = subst (λ (m : Master). IsTree m.geometry u) (sym master) two.tree in
    let stands = subst (λ (l : Live). StandsFor one.master.geometry (view_of one.master.geometry image l) u) (sym live) (subst (λ (m : Master). StandsFor m.geometry (view_of m.geometry image two.live) u) (sym master) two.stands) in
    one_tree one.master.geometry (view_of one.master.geometry image one.live) t u (usable (image.block 0) one.master one.is_master) one.tree tree one.stands stands

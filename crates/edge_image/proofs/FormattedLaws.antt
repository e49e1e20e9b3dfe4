-- A formatted image opens to the tree with the root alone, by any geometry.
use Rattle.std.proofs.Common.{◌≡◌, ◌≢◌, inl, inr, ℕ, zero, suc, ◌+◌, ◌-◌, ◌*◌, ◌/◌, ◌%◌, ◌<◌, ◌≤◌, ◌==◌, ◌&&◌, ◌||◌, not, Bool, true, false, cond, List, ◌∷◌, drop, get_or, replicate, Option, Some, None, Ok, Err, refl, sym, ap, ◌∙◌, arith}
use Rattle.std.specs.Prelude.{Result, is_ok, nat_lt, nat_le, count_by}
use Rattle.std.specs.List.{list_any, range_with_len}
use Rattle.std.specs.Int.{bit_at}
use Rattle.std.proofs.lemmas.Bool.{cases_eq, eq-eqb, ne_eqb, and_parts, and_from, and_left, not_from_false, not_from_true, ltb-false, leb-true, ltb-true, eqb-true, cases_Bool, lt-ltb, or_parts, false≢true, agree_below_at}
use Rattle.std.proofs.lemmas.List.{get_or-drop}
use Rattle.std.proofs.Math.Nat.{div-add-mod, zero-div, zero-mod}
use Rattle.edge_base.specs.declared.geometry.BadGeometry.{BadGeometry}
use Rattle.edge_base.specs.declared.geometry.BadGeometry.TheVariants.{BlockSize, Blocks, Inodes, NameMax, Pointers, Room}
use Rattle.edge_base.specs.declared.damage.Damage.{Damage}
use Rattle.edge_base.specs.declared.geometry.Request.{Request}
use Rattle.edge_base.specs.declared.node.Metaroot.{Metaroot}
use Rattle.edge_base.specs.declared.node.NodeFault.{NodeFault}
use Rattle.edge_base.specs.declared.node.NodeFault.TheVariants.{WrongSignature}
use Rattle.edge_base.specs.layout.Sizes.{is_block_size, node_bits}
use Rattle.edge_base.specs.layout.Places.{bad_geometry, entries_of, is_inline_of, imap_nodes_of, imap_place_of, table_start_of, inode_place_of, first_allocable_of, allocable_of}
use Rattle.edge_base.specs.layout.Bitmap.{live_place, bit_under, used_under}
use Rattle.edge_base.specs.layout.Bytes.{signature_in, bit_in}
use Rattle.edge_base.proofs.LayoutLaws.{node_of_bit}
use Rattle.edge_base.specs.layout.Spelling.{metaroot_signature, metaroot_in, inode_in}
use Rattle.edge_disk.specs.Image.{Image}
use Rattle.edge_store.specs.View.{View, whole, broken, is_allocable, is_number}
use Rattle.edge_model.specs.Tree.{only_root}
use Rattle.edge_image.specs.Image.{Live, live_among, live_of, used_in, is_unused, is_free, free_blocks_of, free_inodes_of, has_bad_imap, spells_imap}
use Rattle.edge_image.specs.View.{inode_told, inode_by, view_of}
use Rattle.edge_image.specs.Opens.{OpensTo}
use Rattle.edge_image.specs.Formatted.{master_of, first_metaroot, empty_root, root_place, HasFirstMetaroot, HasFirstImaps, HasEmptyRoot, IsFormatted, OpensFresh}
use Rattle.edge_image.proofs.AlikeLaws.{count-cons}
use Rattle.edge_image.proofs.GeometryLaws.{master_geometry, usable}
use Rattle.edge_image.proofs.ReasonLaws.{mountable}
use Rattle.edge_image.proofs.SlotLaws.{zeros_read}
use Rattle.edge_image.proofs.EmptyRootLaws.{IsEmptyView, only_root_is_tree, stands_for_root}

-- ---- limits

-- what is left of the limits of a geometry
record IsRoomy (g : Request) : Type 0 where
  some_inode : 1 ≤ g.inodes
  room : 3 ≤ allocable_of g

kept : (broken : Bool) (limit : BadGeometry) (rest : Option BadGeometry) → cond broken (Some limit) rest ≡ None → (broken ≡ false) × (rest ≡ None)
kept false limit rest e = (refl, e)
kept true limit rest e = absurd (let wrong : Some limit ≡ None = e in cc)

some_number : (n : ℕ) → (n == 0) ≡ false → 1 ≤ n
some_number zero e = absurd (false≢true (sym e))
some_number (suc n) e = omega arith

roomy : (g : Request) → bad_geometry g ≡ None → IsRoomy g
unfolding bad_geometry
roomy g e =
    let size = kept (not (is_block_size g.block_size)) BlockSize _ e in
    let blocks = kept (nat_lt 4194304 g.blocks) Blocks _ size.1 in
    let inodes = kept ((g.inodes == 0) || nat_lt 65536 g.inodes) Inodes _ blocks.1 in
    let names = kept _ NameMax _ inodes.1 in
    let pointers = kept _ Pointers _ names.1 in
    let room = kept (nat_lt (allocable_of g) 3) Room _ pointers.1 in
    record {
      some_inode = some_number g.inodes (or_parts (g.inodes == 0) (nat_lt 65536 g.inodes) inodes.0).0;
      room = ltb-false (allocable_of g) 3 room.0;
    }

-- ---- the live metaroot

pub no_signature : (n : ℕ) → signature_in (replicate n 0) ≡ 0
unfolding signature_in
no_signature n = let a = zeros_read n 0 in let b = zeros_read n 1 in let c = zeros_read n 2 in let d = zeros_read n 3 in omega arith

refused : (test : Bool) (rest : Result Metaroot NodeFault) → test ≡ true → cond test (Err WrongSignature) rest ≡ Err WrongSignature
refused true rest e = refl
refused false rest e = absurd (false≢true e)

no_metaroot : (g : Request) (n : ℕ) → metaroot_in g (replicate n 0) ≡ Err WrongSignature
unfolding metaroot_in
no_metaroot g n = refused _ _ (ap (λ (s : ℕ). not (s == metaroot_signature)) (no_signature n))

abbrev first_live : Request → Live
first_live g = record { place = 1; root = first_metaroot g }

is_first : (g : Request) (image : Image) → metaroot_in g (image.block 1) ≡ Ok (first_metaroot g) → image.block 2 ≡ replicate g.block_size 0 → live_of g image ≡ Some (first_live g)
is_first g image one two = let none = ap (metaroot_in g) two ∙ no_metaroot g g.block_size in λ i. live_among (one i) (none i)

-- ---- counts

pub none_passes : (p : ℕ → Bool) (a n : ℕ) → ((k : ℕ) → a ≤ k → k < a + n → p k ≡ false) → list_any p (range_with_len a n) ≡ false
none_passes p a zero each = refl
none_passes p a (suc n) each =
    let first = each a (omega arith) (omega arith) in
    let rest = none_passes p (a + 1) n (λ k from below. each k (omega arith) (omega arith)) in
    λ t. first t || rest t

count_all : (p : ℕ → Bool) (a n : ℕ) → ((k : ℕ) → a ≤ k → k < a + n → p k ≡ true) → count_by p (range_with_len a n) ≡ n
count_all p a zero each = refl
count_all p a (suc n) each =
    let rest = count_all p (a + 1) n (λ k from below. each k (omega arith) (omega arith)) in
    count-cons p a (range_with_len (a + 1) n) ∙ ap (λ b. cond b 1 0 + count_by p (range_with_len (a + 1) n)) (each a (omega arith) (omega arith)) ∙ omega arith

count_but_first : (p : ℕ → Bool) (a n : ℕ) → 1 ≤ n → p a ≡ false → ((k : ℕ) → a + 1 ≤ k → k < a + n → p k ≡ true) → count_by p (range_with_len a n) ≡ n - 1
count_but_first p a zero some first each = absurd (omega arith)
count_but_first p a (suc n) some first each =
    let rest = count_all p (a + 1) n (λ k from below. each k from (omega arith)) in
    count-cons p a (range_with_len (a + 1) n) ∙ ap (λ b. cond b 1 0 + count_by p (range_with_len (a + 1) n)) first ∙ omega arith

-- ---- bits

-- a bitmap with the first bit alone
first_byte_bit : (r : ℕ) → r < 8 → (bit_at 1 r == 1) ≡ (r == 0)
first_byte_bit r below = agree_below_at (λ i. bit_at 1 i == 1) (λ i. i == 0) 8 r refl below

no_bit : (r : ℕ) → r < 8 → (bit_at 0 r == 1) ≡ false
no_bit r below = agree_below_at (λ i. bit_at 0 i == 1) (λ i. false) 8 r refl below

in_byte : (n i q r : ℕ) → i ≡ 8 * q + r → r < 8 → (bit_at (get_or (1 ∷ replicate n 0) q 0) r == 1) ≡ (i == 0)
in_byte n i zero r at below = first_byte_bit r below ∙ ap (λ (k : ℕ). k == 0) (let same : r ≡ i = omega arith in same)
in_byte n i (suc q) r at below = ap (λ (x : ℕ). bit_at x r == 1) (zeros_read n q) ∙ no_bit r below ∙ sym (ne_eqb i 0 (λ e. omega arith))

pub first_bit : (from : ℕ) (b : List ℕ) (n i : ℕ) → drop from b ≡ 1 ∷ replicate n 0 → bit_in from b i ≡ (i == 0)
unfolding bit_in
first_bit from b n i bits =
    ap (λ (x : ℕ). bit_at x (i % 8) == 1) (sym (get_or-drop from b (i / 8) 0) ∙ ap (λ (l : List ℕ). get_or l (i / 8) 0) bits) ∙ in_byte n i (i / 8) (i % 8) (omega arith) (omega arith)

no_set_bit : (from : ℕ) (b : List ℕ) (n i : ℕ) → drop from b ≡ replicate n 0 → bit_in from b i ≡ false
unfolding bit_in
no_set_bit from b n i bits =
    ap (λ (x : ℕ). bit_at x (i % 8) == 1) (sym (get_or-drop from b (i / 8) 0) ∙ ap (λ (l : List ℕ). get_or l (i / 8) 0) bits ∙ zeros_read n (i / 8)) ∙ no_bit (i % 8) (omega arith)

-- a bitmap with its first bit or none
pub only_first_bit : (first : Bool) (from : ℕ) (b : List ℕ) (n i : ℕ) → drop from b ≡ cond first 1 0 ∷ replicate n 0 → bit_in from b i ≡ (first && (i == 0))
only_first_bit true from b n i bits = first_bit from b n i bits
only_first_bit false from b n i bits = no_set_bit from b (suc n) i bits

-- a bitmap behind a place, and by itself
bit_in-drop : (from : ℕ) (b : List ℕ) (i : ℕ) → bit_in from b i ≡ bit_in 0 (drop from b) i
unfolding bit_in
bit_in-drop from b i =
    ap (λ (x : ℕ). bit_at x (i % 8) == 1) (sym (get_or-drop from b (i / 8) 0) ∙ ap (λ (k : ℕ). get_or (drop from b) k 0) (omega arith))

same_tests : (i j k : ℕ) → k ≡ i + j → (i == 0) ≡ (k == j)
same_tests i j k at = elim (cases_eq i 0) [
  | inl e ↦ eq-eqb i 0 e ∙ sym (eq-eqb k j (omega arith))
  | inr apart ↦ ne_eqb i 0 apart ∙ sym (ne_eqb k j (λ e. apart (omega arith)))
]

-- ---- what the bitmap says

-- a bit is the first of all where it is the first of the first node
first_of_nodes : (n node : ℕ) → ((n / node == 0) && (n % node == 0)) ≡ (n == 0)
first_of_nodes n node = elim (cases_eq n 0) [
  | inl e ↦
      let q : n / node ≡ 0 = ap (λ (k : ℕ). k / node) e ∙ zero-div node in
      let r : n % node ≡ 0 = ap (λ (k : ℕ). k % node) e ∙ zero-mod node in
      and_from _ _ (eq-eqb (n / node) 0 q) (eq-eqb (n % node) 0 r) ∙ sym (eq-eqb n 0 e)
  | inr apart ↦ elim (cases_Bool ((n / node == 0) && (n % node == 0))) [
    | inl both ↦
        let parts = and_parts (n / node == 0) (n % node == 0) both in
        let whole = div-add-mod n node in
        let q : node * (n / node) ≡ node * 0 = ap (λ (k : ℕ). node * k) (eqb-true (n / node) 0 parts.0) in
        let r = eqb-true (n % node) 0 parts.1 in
        absurd (apart (omega arith))
    | inr none ↦ none ∙ sym (ne_eqb n 0 apart)
  ]
]

-- the nodes of a geometry as they are on a formatted image, by what blocks hold
module _ (g : Request) (content : ℕ → List ℕ) (long : 16 < g.block_size) (some : 1 ≤ g.inodes) (room : 3 ≤ allocable_of g) (has : HasFirstMetaroot g (content 1)) (imap : HasFirstImaps g content) where
  abbrev used : ℕ → Bool
  used = used_under g (drop 32 (content 1)) content

  abbrev node_of : ℕ → ℕ
  node_of i = i / node_bits g.block_size

  root_bit : (k : ℕ) → bit_in 0 (drop 32 (content 1)) k ≡ (is_inline_of g && (k == 0))
  root_bit k = sym (bit_in-drop 32 (content 1) k) ∙ has.bits k

  inline_bit : (i : ℕ) → is_inline_of g ≡ true → bit_under g (drop 32 (content 1)) content i ≡ (i == 0)
  inline_bit i inline =
      ap (λ b. cond b (bit_in 0 (drop 32 (content 1)) i) (bit_in 16 (content (live_place g (drop 32 (content 1)) (node_of i))) (i % node_bits g.block_size))) inline
      ∙ root_bit i ∙ ap (λ b. b && (i == 0)) inline

  -- the first node of each pair is live
  first_live_node : (i : ℕ) → is_inline_of g ≡ false → live_place g (drop 32 (content 1)) i ≡ imap_place_of g i false
  first_live_node i external = ap (imap_place_of g i) (root_bit i ∙ ap (λ b. b && (i == 0)) external)

  node_bit : (i : ℕ) → is_inline_of g ≡ false → node_of i < imap_nodes_of g → bit_under g (drop 32 (content 1)) content i ≡ (i == 0)
  node_bit i external inside =
      ap (λ b. cond b (bit_in 0 (drop 32 (content 1)) i) (bit_in 16 (content (live_place g (drop 32 (content 1)) (node_of i))) (i % node_bits g.block_size))) external
      ∙ ap (λ (b : ℕ). bit_in 16 (content b) (i % node_bits g.block_size)) (first_live_node (node_of i) external)
      ∙ (imap (node_of i) inside).bits (i % node_bits g.block_size) ∙ first_of_nodes i (node_bits g.block_size)

  -- of the blocks from the inode table on the root's first place alone is used
  pub root_alone : (b : ℕ) → table_start_of g ≤ b → b < g.blocks → used b ≡ (b == root_place g)
  root_alone b from below =
      let i = b - table_start_of g in
      let same = same_tests i (root_place g) b (omega arith) in
      elim (cases_Bool (is_inline_of g)) [
        | inl inline ↦ inline_bit i inline ∙ same
        | inr external ↦ node_bit i external (node_of_bit g long external b from below) ∙ same
      ]

  no_bad_imap : has_bad_imap g (drop 32 (content 1)) content ≡ false
  no_bad_imap = elim (cases_Bool (is_inline_of g)) [
    | inl inline ↦
        ap (λ b. list_any (λ i. not (spells_imap g i (content (live_place g (drop 32 (content 1)) i)))) (range_with_len 0 (cond b 0 ((g.blocks - 3 + node_bits g.block_size + 1) / (node_bits g.block_size + 2))))) inline
    | inr external ↦ none_passes (λ i. not (spells_imap g i (content (live_place g (drop 32 (content 1)) i)))) 0 (imap_nodes_of g) (λ i from below.
        ap (λ (b : ℕ). not (spells_imap g i (content b))) (first_live_node i external) ∙ ap (λ r. not (is_ok r)) (imap i (omega arith)).spells)
  ]

  root_used : used (root_place g) ≡ true
  root_used = root_alone (root_place g) (omega arith) (omega arith) ∙ eq-eqb (root_place g) (root_place g) refl

  not_used : (k : ℕ) → root_place g < k → k < g.blocks → used k ≡ false
  not_used k past below = root_alone k (omega arith) below ∙ ne_eqb k (root_place g) (λ e. omega arith)

  all_free : free_blocks_of g used ≡ allocable_of g
  all_free = count_all (is_unused used) (first_allocable_of g) (allocable_of g) (λ k from below. not_from_false _ (not_used k (omega arith) (omega arith)))

  free_number : (n : ℕ) → 3 ≤ n → n < 2 + g.inodes → is_free g used n ≡ true
  free_number n past below = and_from _ _ (not_from_false _ (not_used (inode_place_of g n false) (omega arith) (omega arith))) (not_from_false _ (not_used (inode_place_of g n true) (omega arith) (omega arith)))

  root_not_free : is_free g used 2 ≡ false
  root_not_free = and_left _ _ (not_from_true _ root_used)

  others_free : free_inodes_of g used ≡ g.inodes - 1
  others_free = count_but_first (is_free g used) 2 g.inodes some root_not_free (λ n from below. free_number n from (omega arith))

-- ---- the view

not_if : {A : Type 0} (b : Bool) (x : Option A) → (b ≡ true → x ≡ None) → cond b x None ≡ None
not_if true x e = e refl
not_if false x e = refl

module _ (g : Request) (image : Image) (long : 16 < g.block_size) (some : 1 ≤ g.inodes) (room : 3 ≤ allocable_of g) (has : HasFirstMetaroot g (image.block 1)) (imap : HasFirstImaps g image.block) where
  unused : (k : ℕ) → root_place g < k → k < g.blocks → used_in g image (first_live g) k ≡ false
  unused = not_used g image.block long some room has imap

  no_inode : (n : ℕ) → n ≢ 2 → (view_of g image (first_live g)).inodes n ≡ None
  unfolding view_of
  no_inode n apart = not_if (is_number g n) _ (λ inside.
      let parts = and_parts (nat_le 2 n) (nat_lt n (2 + g.inodes)) inside in
      let from = leb-true 2 n parts.0 in
      let below = ltb-true n (2 + g.inodes) parts.1 in
      let past : 3 ≤ n = omega arith in
      let first = unused (inode_place_of g n false) (omega arith) (omega arith) in
      let second = unused (inode_place_of g n true) (omega arith) (omega arith) in
      λ i. inode_by g image.block n (first i) (second i))

  no_block : (b : ℕ) → (view_of g image (first_live g)).blocks b ≡ None
  unfolding view_of
  no_block b = not_if (is_allocable g b && used_in g image (first_live g) b) _ (λ both.
      let parts = and_parts (is_allocable g b) (used_in g image (first_live g) b) both in
      let range = and_parts (nat_le (first_allocable_of g) b) (nat_lt b (first_allocable_of g + allocable_of g)) parts.0 in
      let from = leb-true (first_allocable_of g) b range.0 in
      let below = ltb-true b (first_allocable_of g + allocable_of g) range.1 in
      absurd (false≢true (sym (unused b (omega arith) (omega arith)) ∙ parts.1)))

  root_inode : HasEmptyRoot g (image.block (root_place g)) → (view_of g image (first_live g)).inodes 2 ≡ Some (whole empty_root (replicate (entries_of g) 0))
  unfolding view_of
  root_inode root =
      let inside : is_number g 2 ≡ true = and_from (nat_le 2 2) (nat_lt 2 (2 + g.inodes)) refl (lt-ltb 2 (2 + g.inodes) (omega arith)) in
      let first = root_used g image.block long some room has imap in
      let second = unused (inode_place_of g 2 true) (omega arith) (omega arith) in
      let here : inode_told g (root_place g) (image.block (root_place g)) (inode_in (image.block (root_place g))) ≡ whole empty_root (replicate (entries_of g) 0)
      = ap (inode_told g (root_place g) (image.block (root_place g))) root.spells ∙ ap (whole empty_root) root.entries in
      ap (λ b. cond b (inode_by g image.block 2 (used_in g image (first_live g) (inode_place_of g 2 false)) (used_in g image (first_live g) (inode_place_of g 2 true))) None) inside
      ∙ (λ i. inode_by g image.block 2 (first i) (second i)) ∙ ap Some here

  empty_view : HasEmptyRoot g (image.block (root_place g)) → IsEmptyView (view_of g image (first_live g))
  empty_view root = record {
    entries = replicate (entries_of g) 0;
    root = root_inode root;
    no_entry = zeros_read (entries_of g);
    no_other = no_inode;
    no_block = no_block;
  }

never_broken : (v : View) → IsEmptyView v → (n : ℕ) (d : Damage) → v.inodes n ≢ Some (broken d)
never_broken v empty n d e = elim (cases_eq n 2) [
  | inl two ↦ let wrong : Some (whole empty_root empty.entries) ≡ Some (broken d) = sym empty.root ∙ ap v.inodes (sym two) ∙ e in cc
  | inr apart ↦ let wrong : None ≡ Some (broken d) = sym (empty.no_other n apart) ∙ e in cc
]

-- ---- the image

pub opens_fresh : (g : Request) (time : ℕ) (image : Image) → IsFormatted g time image → OpensFresh g time image
opens_fresh g time image formatted =
    let limits = roomy g (master_geometry (image.block 0) (master_of g time) formatted.master) in
    let usable_too = usable (image.block 0) (master_of g time) formatted.master in
    let live = is_first g image formatted.metaroot.spells formatted.second in
    let long : 16 < g.block_size = let least = usable_too.long in omega arith in
    let empty = empty_view g image long limits.some_inode limits.room formatted.metaroot formatted.imap formatted.root in
    let opens : OpensTo image only_root = record {
      mounts = mountable image (
        master_of g time,
        first_live g,
        record {
          blocks = let room = limits.room in let fits = formatted.blocks in omega arith;
          is_master = formatted.master;
          size = sym formatted.block_size;
          fits = formatted.blocks;
          is_live = live;
          sequence = omega arith;
          imap_nodes = no_bad_imap g image.block long limits.some_inode limits.room formatted.metaroot formatted.imap;
          free_blocks = sym (all_free g image.block long limits.some_inode limits.room formatted.metaroot formatted.imap);
          free_inodes = sym (others_free g image.block long limits.some_inode limits.room formatted.metaroot formatted.imap);
          room = limits.room;
        },
      );
      master = master_of g time;
      is_master = formatted.master;
      live = first_live g;
      is_live = live;
      unbroken = never_broken (view_of g image (first_live g)) empty;
      tree = only_root_is_tree g limits.some_inode usable_too.some_slots;
      stands = stands_for_root g (view_of g image (first_live g)) usable_too.some_slots empty;
    } in
    record { opens = opens; master = refl; sequence = refl; formatted = formatted }

-- What an image opens to depends on its own blocks alone.
use Rattle.std.proofs.Common.{◌≡◌, inl, inr, ℕ, zero, suc, ◌+◌, ◌-◌, ◌/◌, ◌%◌, ◌<◌, ◌≤◌, ◌||◌, ◌&&◌, not, Bool, true, false, cond, List, ◌∷◌, drop, Option, Some, None, Ok, Err, refl, sym, ap, ◌∙◌, subst, arith}
use Rattle.std.specs.Prelude.{Result, nat_lt, nat_le, count_by}
use Rattle.std.specs.List.{list_any, range_with_len}
use Rattle.std.proofs.lemmas.Bool.{and_parts, leb-true, ltb-true, cases_Bool}
use Rattle.std.proofs.lemmas.List.Sums.{sum_by-cons}
use Rattle.edge_base.specs.declared.geometry.Request.{Request}
use Rattle.edge_base.specs.declared.node.Master.{Master}
use Rattle.edge_base.specs.declared.node.Metaroot.{Metaroot}
use Rattle.edge_base.specs.declared.node.NodeFault.{NodeFault}
use Rattle.edge_base.specs.layout.Bitmap.{live_place, used_under}
use Rattle.edge_base.specs.layout.Places.{imap_nodes_of, is_inline_of, table_start_of, inode_place_of, first_allocable_of, allocable_of}
use Rattle.edge_base.specs.layout.Bytes.{bit_in}
use Rattle.edge_base.specs.layout.Sizes.{place_of, node_bits}
use Rattle.edge_base.specs.layout.Spelling.{master_in, metaroot_in}
use Rattle.edge_base.proofs.LayoutLaws.{node_of_bit}
use Rattle.edge_disk.specs.Image.{Image}
use Rattle.edge_store.specs.View.{View, is_allocable, is_number}
use Rattle.edge_model.specs.Tree.{Tree}
use Rattle.edge_image.specs.Image.{Live, greater, live_among, live_of, roots_in, used_in, is_unused, is_free, spells_imap, has_bad_imap, free_blocks_of, free_inodes_of}
use Rattle.edge_image.specs.Ready.{IsMountable}
use Rattle.edge_image.specs.View.{inode_at, inode_by, inode_under, block_told, block_under, view_of}
use Rattle.edge_image.specs.Opens.{OpensTo, StandsFor, IsAlike}
use Rattle.edge_image.proofs.GeometryLaws.{usable}
use Rattle.edge_image.proofs.ReasonLaws.{without_a_reason, mountable}

-- ---- the live metaroot

abbrev place_or : ℕ → Option Live → ℕ
place_or n None = n
place_or n (Some live) = live.place

greater_below : (one two : Metaroot) → (greater one two).place < 3
greater_below one two = grind arith

place_below : (one two : Result Metaroot NodeFault) (live : Live) → live_among one two ≡ Some live → live.place < 3
place_below (Ok one) (Ok two) live is = let h : greater one two ≡ live = cc in subst (λ (l : Live). l.place < 3) h (greater_below one two)
place_below (Ok one) (Err fault) live is = let p = ap (place_or 0) is in omega arith
place_below (Err fault) (Ok two) live is = let p = ap (place_or 0) is in omega arith
place_below (Err fault) (Err other) live is = absurd (let wrong : None ≡ Some live = is in cc)

-- ---- imap nodes

any_alike : (p q : ℕ → Bool) (a n : ℕ) → ((i : ℕ) → a ≤ i → i < a + n → p i ≡ q i) → list_any p (range_with_len a n) ≡ list_any q (range_with_len a n)
any_alike p q a zero same = refl
any_alike p q a (suc n) same =
    let first = same a (omega arith) (omega arith) in
    let rest = any_alike p q (a + 1) n (λ i from to. same i (omega arith) (omega arith)) in
    λ t. first t || rest t

low_place : (second : Bool) → place_of second ≤ 1
low_place true = omega arith
low_place false = omega arith

imap_below : (g : Request) (roots : List ℕ) (i : ℕ) → first_allocable_of g ≤ g.blocks → i < imap_nodes_of g → live_place g roots i < g.blocks
imap_below g roots i room below = let low = low_place (bit_in 0 roots i) in omega arith

-- ---- places of inodes

place_inside : (g : Request) (n : ℕ) (second : Bool) → first_allocable_of g ≤ g.blocks → is_number g n ≡ true → inode_place_of g n second < g.blocks
place_inside g n second room is =
    let parts = and_parts (nat_le 2 n) (nat_lt n (2 + g.inodes)) is in
    let from = leb-true 2 n parts.0 in
    let below = ltb-true n (2 + g.inodes) parts.1 in
    let low = low_place second in
    omega arith

block_inside : (g : Request) (b : ℕ) → first_allocable_of g ≤ g.blocks → is_allocable g b ≡ true → b < g.blocks
block_inside g b room is =
    let parts = and_parts (nat_le (first_allocable_of g) b) (nat_lt b (first_allocable_of g + allocable_of g)) is in
    let below = ltb-true b (first_allocable_of g + allocable_of g) parts.1 in
    inside (first_allocable_of g) g.blocks b room below
  where
    inside : (first blocks b : ℕ) → first ≤ blocks → b < first + (blocks - first) → b < blocks
    inside first blocks b room below = omega arith

behind_table : (g : Request) (b : ℕ) → is_allocable g b ≡ true → table_start_of g ≤ b
behind_table g b is =
    let from = leb-true (first_allocable_of g) b (and_parts (nat_le (first_allocable_of g) b) (nat_lt b (first_allocable_of g + allocable_of g)) is).0 in
    omega arith

-- ---- the view

cond_else : (b x y z : Bool) → (b ≡ false → y ≡ z) → cond b x y ≡ cond b x z
cond_else true x y z same = refl
cond_else false x y z same = same refl

pub count-cons : (p : ℕ → Bool) (x : ℕ) (xs : List ℕ) → count_by p (x ∷ xs) ≡ cond (p x) 1 0 + count_by p xs
count-cons p x xs = sum_by-cons (λ (y : ℕ). cond (p y) 1 0) x xs

pub count_alike : (p q : ℕ → Bool) (a n : ℕ) → ((i : ℕ) → a ≤ i → i < a + n → p i ≡ q i) → count_by p (range_with_len a n) ≡ count_by q (range_with_len a n)
count_alike p q a zero same = refl
count_alike p q a (suc n) same =
    let first = same a (omega arith) (omega arith) in
    let rest = count_alike p q (a + 1) n (λ i from to. same i (omega arith) (omega arith)) in
    count-cons p a (range_with_len (a + 1) n) ∙ (λ t. cond (first t) 1 0 + rest t) ∙ sym (count-cons q a (range_with_len (a + 1) n))

cond_alike : {A : Type 0} (b : Bool) (x y : Option A) → (b ≡ true → x ≡ y) → cond b x None ≡ cond b y None
cond_alike true x y same = same refl
cond_alike false x y same = refl

module _ (g : Request) (image other : Image) (alike : IsAlike image other) (fits : g.blocks ≤ image.blocks) (room : first_allocable_of g ≤ g.blocks) where
  same_block : (b : ℕ) → b < g.blocks → other.block b ≡ image.block b
  same_block b below = alike.same b (omega arith)

  inode_by_alike : (n : ℕ) (first second : Bool) → is_number g n ≡ true → inode_by g other.block n first second ≡ inode_by g image.block n first second
  inode_by_alike n first second is =
      let at_first = ap (inode_at g (inode_place_of g n false)) (same_block (inode_place_of g n false) (place_inside g n false room is)) in
      let at_second = ap (inode_at g (inode_place_of g n true)) (same_block (inode_place_of g n true) (place_inside g n true room is)) in
      elim first as (λ t. inode_by g other.block n t second ≡ inode_by g image.block n t second) [
        | true ↦ elim second as (λ t. inode_by g other.block n true t ≡ inode_by g image.block n true t) [ true ↦ cc | false ↦ cc ]
        | false ↦ elim second as (λ t. inode_by g other.block n false t ≡ inode_by g image.block n false t) [ true ↦ cc | false ↦ cc ]
      ]

  -- a block from the inode table on is used in both or in none
  used_alike : 16 < g.block_size → (live : Live) → other.block live.place ≡ image.block live.place → (b : ℕ) → table_start_of g ≤ b → b < g.blocks → used_in g other live b ≡ used_in g image live b
  used_alike long live root b from below =
      let i = b - table_start_of g in
      let node = i / node_bits g.block_size in
      let at = live_place g (roots_in image live) node in
      ap (λ (bytes : List ℕ). used_under g (drop 32 bytes) other.block b) root
      ∙ cond_else (is_inline_of g) (bit_in 0 (roots_in image live) i) (bit_in 16 (other.block at) (i % node_bits g.block_size)) (bit_in 16 (image.block at) (i % node_bits g.block_size)) (λ external.
      ap (λ bytes. bit_in 16 bytes (i % node_bits g.block_size)) (same_block at (imap_below g (roots_in image live) node room (node_of_bit g long external b from below))))

  module _ (long : 16 < g.block_size) (live : Live) (root : other.block live.place ≡ image.block live.place) where
    inode_alike : (n : ℕ) → inode_under g (used_in g other live) other.block n ≡ inode_under g (used_in g image live) image.block n
    inode_alike n = cond_alike (is_number g n) _ _ (λ is.
        let first = used_alike long live root (inode_place_of g n false) (omega arith) (place_inside g n false room is) in
        let second = used_alike long live root (inode_place_of g n true) (omega arith) (place_inside g n true room is) in
        (λ t. inode_by g other.block n (first t) (second t)) ∙ inode_by_alike n (used_in g image live (inode_place_of g n false)) (used_in g image live (inode_place_of g n true)) is)

    block_alike : (b : ℕ) → block_under g (used_in g other live) other.block b ≡ block_under g (used_in g image live) image.block b
    block_alike b = elim (cases_Bool (is_allocable g b)) [
      | inl is ↦
          let inside = block_inside g b room is in
          let bytes = same_block b inside in
          let used = used_alike long live root b (behind_table g b is) inside in
          λ t. cond (is_allocable g b && used t) (Some (block_told g (bytes t))) None
      | inr not_it ↦ (λ t. cond (not_it t && used_in g other live b) (Some (block_told g (other.block b))) None) ∙ sym (λ t. cond (not_it t && used_in g image live b) (Some (block_told g (image.block b))) None)
    ]

    view_alike : view_of g other live ≡ view_of g image live
    unfolding view_of
    view_alike = λ t. record { inodes = λ n. inode_alike n t; blocks = λ b. block_alike b t }

    free_blocks_alike : free_blocks_of g (used_in g other live) ≡ free_blocks_of g (used_in g image live)
    free_blocks_alike = count_alike (is_unused (used_in g other live)) (is_unused (used_in g image live)) (first_allocable_of g) (allocable_of g) (λ b from below. ap not (used_alike long live root b (omega arith) (omega arith)))

    free_inodes_alike : free_inodes_of g (used_in g other live) ≡ free_inodes_of g (used_in g image live)
    free_inodes_alike = count_alike (is_free g (used_in g other live)) (is_free g (used_in g image live)) 2 g.inodes (λ n from below.
        let first = used_alike long live root (inode_place_of g n false) (omega arith) (omega arith) in
        let second = used_alike long live root (inode_place_of g n true) (omega arith) (omega arith) in
        λ t. not (first t) && not (second t))

    bad_imap_alike : has_bad_imap g (roots_in other live) other.block ≡ has_bad_imap g (roots_in image live) image.block
    bad_imap_alike =
        ap (λ (bytes : List ℕ). has_bad_imap g (drop 32 bytes) other.block) root
        ∙ any_alike (λ i. not (spells_imap g i (other.block (live_place g (roots_in image live) i)))) (λ i. not (spells_imap g i (image.block (live_place g (roots_in image live) i)))) 0 (imap_nodes_of g)
        (λ i from below. ap (λ b. not (spells_imap g i b)) (same_block (live_place g (roots_in image live) i) (imap_below g (roots_in image live) i room (omega arith))))

-- ---- what an image is mounted with

-- an image that opens is mounted with its master and its live metaroot
pub mounted_with : (image : Image) (t : Tree) → (opens : OpensTo image t) → IsMountable image opens.master opens.live
mounted_with image t opens =
    let so = without_a_reason image opens.mounts in
    let master : so.0 ≡ opens.master = let e = sym so.2.is_master ∙ opens.is_master in cc in
    let live : so.1 ≡ opens.live = let e = sym so.2.is_live ∙ ap (λ (m : Master). live_of m.geometry image) master ∙ opens.is_live in cc in
    subst (IsMountable image opens.master) live (subst (λ (m : Master). IsMountable image m so.1) master so.2)

mounted_alike : (image other : Image) (master : Master) (live : Live) → IsAlike image other → first_allocable_of master.geometry ≤ master.geometry.blocks → 16 < master.geometry.block_size → IsMountable image master live
    → IsMountable other master live
mounted_alike image other master live alike room long is =
    let g = master.geometry in
    let same : (b : ℕ) → b < 3 → other.block b ≡ image.block b = λ b low. alike.same b (let enough = is.blocks in omega arith) in
    let zero_same = same 0 (omega arith) in
    let one_same = same 1 (omega arith) in
    let two_same = same 2 (omega arith) in
    let root = same live.place (place_below (metaroot_in g (image.block 1)) (metaroot_in g (image.block 2)) live is.is_live) in
    record {
      blocks = subst (λ (n : ℕ). 3 ≤ n) (sym alike.blocks) is.blocks;
      is_master = ap master_in zero_same ∙ is.is_master;
      size = is.size ∙ sym alike.block_size;
      fits = subst (λ (n : ℕ). g.blocks ≤ n) (sym alike.blocks) is.fits;
      is_live = (λ t. live_among (metaroot_in g (one_same t)) (metaroot_in g (two_same t))) ∙ is.is_live;
      sequence = is.sequence;
      imap_nodes = bad_imap_alike g image other alike is.fits room long live root ∙ is.imap_nodes;
      free_blocks = is.free_blocks ∙ sym (free_blocks_alike g image other alike is.fits room long live root);
      free_inodes = is.free_inodes ∙ sym (free_inodes_alike g image other alike is.fits room long live root);
      room = is.room;
    }

pub opens_alike : (image other : Image) (t : Tree) → IsAlike image other → OpensTo image t → OpensTo other t
opens_alike image other t alike opens =
    let g = opens.master.geometry in
    let is = mounted_with image t opens in
    let is_usable = usable (image.block 0) opens.master opens.is_master in
    let room = is_usable.room in
    let long : 16 < g.block_size = let least = is_usable.long in omega arith in
    let then = mounted_alike image other opens.master opens.live alike room long is in
    let low = place_below (metaroot_in g (image.block 1)) (metaroot_in g (image.block 2)) opens.live opens.is_live in
    let view = view_alike g image other alike is.fits room long opens.live (alike.same opens.live.place (let enough = is.blocks in omega arith)) in
    record {
      mounts = mountable other (opens.master, opens.live, then);
      master = opens.master;
      is_master = then.is_master;
      live = opens.live;
      is_live = then.is_live;
      unbroken = λ n damage e. opens.unbroken n damage (ap (λ (v : View). v.inodes n) (sym view) ∙ e);
      tree = opens.tree;
      stands = subst (λ (v : View). StandsFor g v t) (sym view) opens.stands;
    }

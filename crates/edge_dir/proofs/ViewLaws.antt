-- What a view that has a directory says of its blocks.
use Rattle.std.proofs.Common.{◌≡◌, ◌∙◌, ℕ, ◌+◌, ◌-◌, ◌*◌, ◌/◌, ◌<◌, ◌≤◌, ◌==◌, true, false, List, length, take, Option, Some, None, is_some, refl, sym, ap, arith}
use Rattle.std.specs.Prelude.{slice_range}
use Rattle.std.specs.List.{range_with_len}
use Rattle.std.proofs.lemmas.List.{take_all}
use Rattle.std.proofs.lemmas.Bool.{eq-eqb, eqb-true}
use Rattle.std.proofs.Math.Nat.{div-lt_iff_lt-mul, le-div_iff_mul-le, mul_comm, mul-le-mul_right}
use Rattle.edge_base.specs.declared.form.Form.TheVariants.{Plain}
use Rattle.edge_base.specs.declared.geometry.Request.{Request}
use Rattle.edge_base.specs.declared.node.Head.{Head}
use Rattle.edge_base.specs.declared.node.NodeType.TheVariants.{Directory}
use Rattle.edge_base.specs.layout.Places.{max_blocks_of}
use Rattle.edge_base.specs.tree.Nodes.{block_of, directory}
use Rattle.edge_base.specs.tree.Slots.{Slots, pieces, slot_blocks, slot_bytes, slots_in_block}
use Rattle.edge_store.specs.Damages.{slot_in, HasWrongSlot}
use Rattle.edge_store.specs.Placed.{data_block, HasNode, IsShaped, IsSized}
use Rattle.edge_store.specs.View.{View, Block, IsView, bytes, bytes_in, content, content_at, entries_of_inode, head_of_inode, is_used, unused}
use Rattle.edge_store.proofs.ViewLaws.{unused_zero, whole_with_head}
use Rattle.edge_shape.proofs.ListLaws.{range_some, range_found}
use Rattle.edge_slots.specs.Block.{HasWrong}
use Rattle.edge_slots.proofs.DirectoryLaws.{block_slot}
use Rattle.edge_dir.specs.Directory.{slot_of, IsBlockOf}

pub whole_pieces : (b k : ℕ) → 0 < b → pieces b (b * k) ≡ k
whole_pieces b k some =
    let low : k ≤ (b * k + (b - 1)) / b = (le-div_iff_mul-le some).1 (omega (arith, mul_comm b k)) in
    let high : (b * k + (b - 1)) / b < k + 1 = (div-lt_iff_lt-mul some).1 (omega (arith, mul_comm b k)) in
    omega arith

-- what is used as bytes has some
pub used_bytes : (v : View) (b : ℕ) → is_used v b ≡ true → content_at v Plain b ≡ bytes (bytes_in (content_at v Plain b))
used_bytes v b used = by (v.blocks b) used
  where
    by : (o : Option Block) → is_some o ≡ true → content Plain o ≡ bytes (bytes_in (content Plain o))
    by None e = absurd (let f : false ≡ true = e in cc)
    by (Some block) e = refl

-- what was read from the first byte on, as long as the block, is all of it
pub whole_part : (list part : List ℕ) (n : ℕ) → length list ≡ n → length part ≡ n → part ≡ slice_range list 0 (0 + length part) → part ≡ list
whole_part list part n long same is = is ∙ ap (λ (k : ℕ). take k list) (let e : 0 + length part - 0 ≡ length part = omega arith in e) ∙ take_all (length part) list (omega (arith, long, same))

-- what was read of slot k of a block, as many bytes as a slot has, is that slot
pub slot_of_part : (g : Request) (list part : List ℕ) (k at : ℕ) → at ≡ k * (4 + g.name_max) → length part ≡ 4 + g.name_max → part ≡ slice_range list at (at + length part) → part ≡ slot_in g list k
slot_of_part g list part k at place long is = is ∙ (λ t. slice_range list (place t) (place t + long t))

-- a wrong slot of a directory's data block
pub wrong_of : (g : Request) (v : View) (d i : ℕ) (list : List ℕ) (b : ℕ) (head : Head) → head_of_inode (v.inodes d) ≡ Some head → head.kind ≡ Directory → i < max_blocks_of g → IsBlockOf g v d i list b → HasWrong g list → HasWrongSlot g v b
wrong_of g v d i list b head is kind low block bad = record {
  list = list;
  directory = record {
    number = d;
    head = head;
    entries = entries_of_inode (v.inodes d);
    inode = whole_with_head (v.inodes d) head is;
    kind = kind;
    index = i;
    in_range = low;
    block = block.block;
    content = block.content;
  };
  slot = bad.slot;
  in_range = bad.in_range;
  not_empty = bad.wrong.not_empty;
  no_entry = bad.wrong.no_entry;
}

module _ (g : Request) (v : View) (d : ℕ) (slots : Slots) (parent : ℕ) (node : HasNode g v d (directory slots parent)) where
  -- the head that is read is the node's
  pub head_is : (head : Head) → head_of_inode (v.inodes d) ≡ Some head → node.head ≡ head
  head_is head e = let f : Some node.head ≡ Some head = sym (ap head_of_inode node.inode) ∙ e in cc

  pub blocks_are : (head : Head) → head_of_inode (v.inodes d) ≡ Some head → 0 < g.block_size → pieces g.block_size head.size ≡ slot_blocks g slots
  blocks_are head e some =
      let size : head.size ≡ g.block_size * slot_blocks g slots = sym (ap (λ (h : Head). h.size) (head_is head e)) ∙ node.size in
      ap (pieces g.block_size) size ∙ whole_pieces g.block_size (slot_blocks g slots) some

  -- it has the shape and the size of a node
  pub shaped : IsShaped g v d
  shaped = record {
    head = node.head;
    entries = node.entries;
    inode = node.inode;
    indices = range_with_len 0 (slot_blocks g slots);
    places = node.holds.places;
    once = node.once;
  }

  pub sized : 0 < g.block_size → IsSized g v d
  unfolding shaped
  sized some = record {
    shaped = shaped;
    size =
        let fits = mul-le-mul_right {m = slot_blocks g slots} {n = max_blocks_of g} g.block_size node.rules.size in
        let turned : g.block_size * slot_blocks g slots ≡ slot_blocks g slots * g.block_size = grind arith in
        omega (arith, node.size, fits, turned);
    ends = λ i there.
        let found = range_found (λ k. k == i) 0 (slot_blocks g slots) there in
        let here : found.0 ≡ i = eqb-true found.0 i found.3 in
        let count = blocks_of some in
        omega (arith, found.2, here, count);
  }
    where
      blocks_of : 0 < g.block_size → pieces g.block_size node.head.size ≡ slot_blocks g slots
      blocks_of some = ap (pieces g.block_size) node.size ∙ whole_pieces g.block_size (slot_blocks g slots) some

  -- what block i holds below the end
  pub holds : (i : ℕ) → i < slot_blocks g slots → content_at v Plain (data_block g v d i) ≡ bytes (block_of g (directory slots parent) i)
  holds i low = node.holds.contents i (range_some (λ k. k == i) 0 (slot_blocks g slots) i (omega arith) (omega arith) (eq-eqb i i refl))

  pub is_there : (i : ℕ) → IsView g v → i < slot_blocks g slots → data_block g v d i ≡ 0 → ⊥
  is_there i view low none =
      let e : unused ≡ bytes (block_of g (directory slots parent) i) = sym (ap (content Plain) (ap v.blocks none ∙ unused_zero g v view)) ∙ holds i low in
      absurd (cc)

  -- the bytes of block i have the slots
  pub slots_are : (i : ℕ) (list : List ℕ) → i < slot_blocks g slots → content_at v Plain (data_block g v d i) ≡ bytes list
      → (j : ℕ) → j < slots_in_block g → slot_in g list j ≡ slot_bytes g (slot_of slots (i * slots_in_block g + j))
  slots_are i list low is j inside =
      let same : list ≡ block_of g (directory slots parent) i = (let e : bytes list ≡ bytes (block_of g (directory slots parent) i) = sym is ∙ holds i low in cc) in
      ap (λ (l : List ℕ). slot_in g l j) same ∙ block_slot g slots i j node.rules inside

-- Reading, writing and cutting files.
use Rattle.std.specs.Prelude.{ℕ, ◌+◌, ◌-◌, ◌/◌, ◌%◌, ◌==◌, ◌&&◌, ◌||◌, not, Bool, false, nat_lt, nat_le, max, if◌then◌else◌, List, [], ◌∷◌, ◌++◌, length, take, drop, map, filter, replicate, slice_index_or, Some, Result, Ok}
use Rattle.std.specs.List.{range_with_len}
use Rattle.edge_base.specs.declared.geometry.Request.{Request}
use Rattle.edge_base.specs.declared.refusal.Refusal.{Refusal}
use Rattle.edge_base.specs.declared.refusal.Refusal.TheVariants as refusal
use Rattle.edge_base.specs.commands.Refusals.{◌>>=◌, refuse_if}
use Rattle.edge_base.specs.layout.Places.{max_size_of}
use Rattle.edge_base.specs.tree.Positions.{data_at}
use Rattle.edge_base.specs.tree.Slots.{pieces}
use Rattle.edge_base.specs.commands.Descriptors.{Descriptor}
use Rattle.edge_base.specs.commands.Events as event
use Rattle.edge_base.specs.tree.Nodes.{Node, file, directory, marked_from}
use Rattle.edge_model.specs.Tree.{Tree, node_at, with_node}
use Rattle.edge_model.specs.State.{State, Edit, Plan, keeps, changes}
use Rattle.edge_model.specs.Asked.{done, number, bytes, end}
use Rattle.edge_model.specs.Open.{file_at, writable_at, moved}

abbrev pub content_of : Node → List ℕ
content_of (file content present) = content
content_of (directory slots parent) = []

abbrev pub present_of : Node → List Bool
present_of (file content present) = present
present_of (directory slots parent) = []

-- whether a flag is set; those past the end are not
abbrev pub is_marked : List Bool → ℕ → Bool
is_marked flags i = slice_index_or flags i false

-- flags for the blocks of so many bytes
abbrev pub flags_for : Request → ℕ → (ℕ → Bool) → List Bool
flags_for g size test = map test (range_with_len 0 (pieces g.block_size size))

-- ---- read

abbrev pub read_plan : State → ℕ → Descriptor → List ℕ → List ℕ → Plan
read_plan s h d [] piece = keeps s end
read_plan s h d (byte ∷ rest) piece = record (keeps s (bytes piece)) { descriptors = moved s.descriptors h d (d.at + length piece) }

unfoldable pub plan_read : State → ℕ → ℕ → Result Plan Refusal
plan_read s h count = do
  d ← file_at s h
  _ ← refuse_if (not d.read) refusal.BadDescriptor
  Ok (read_plan s h d (drop d.at (content_of (node_at s.tree d.number))) (take count (drop d.at (content_of (node_at s.tree d.number)))))

-- ---- write and fill

-- the bytes put at a place, with zeros before them where the content ends earlier
abbrev pub put_at : List ℕ → ℕ → List ℕ → List ℕ
put_at content at new = take at (content ++ replicate (at - length content) 0) ++ new ++ drop (at + length new) content

-- the first and the last block that bytes from a place touch
abbrev pub first_touched : Request → ℕ → ℕ
first_touched g at = at / g.block_size

abbrev pub last_touched : Request → ℕ → ℕ → ℕ
last_touched g at len = (at + len - 1) / g.block_size

abbrev pub blocks_touched : Request → ℕ → ℕ → List ℕ
blocks_touched g at len = range_with_len (first_touched g at) (last_touched g at len + 1 - first_touched g at)

abbrev pub is_touched : Request → ℕ → ℕ → ℕ → Bool
is_touched g at len i = nat_le (first_touched g at) i && nat_le i (last_touched g at len)

-- the file of number n with bytes put at a place
abbrev pub written : Request → Tree → ℕ → ℕ → List ℕ → Edit
written g t n at new =
    let content = content_of (node_at t n) in
    record {
      tree = with_node t n (Some (file (put_at content at new)
          (flags_for g (max (length content) (at + length new)) (λ i. is_marked (present_of (node_at t n)) i || is_touched g at (length new) i))));
      writes = map (data_at n) (blocks_touched g at (length new));
      removes = [];
      reserve = 3;
    }

-- where a write begins: with append at the end
abbrev pub write_place : State → Descriptor → ℕ
write_place s d = if d.append then length (content_of (node_at s.tree d.number)) else d.at

unfoldable pub plan_write : Request → State → ℕ → List ℕ → Result Plan Refusal
plan_write g s h new = do
  d ← writable_at s h
  _ ← refuse_if (nat_lt (max_size_of g) (write_place s d + length new)) refusal.TooBig
  Ok (record (changes s (written g s.tree d.number (write_place s d) new) event.write (number (length new)))
      { descriptors = moved s.descriptors h d (write_place s d + length new) })

-- ---- truncate

-- the first bytes, or zeros behind them
abbrev pub resized : List ℕ → ℕ → List ℕ
resized content size = take size content ++ replicate (size - length content) 0

-- the block that is cut in two, where it is present
abbrev pub cut_block : Request → List ℕ → List Bool → ℕ → List ℕ
cut_block g content present size =
    if nat_lt size (length content) && not (size % g.block_size == 0) && is_marked present (size / g.block_size) then size / g.block_size ∷ [] else []

-- the present blocks past the end
abbrev pub past_end : Request → List Bool → ℕ → List ℕ
past_end g present size = filter (λ i. nat_le (pieces g.block_size size) i) (marked_from 0 present)

abbrev pub cut : Request → Tree → ℕ → ℕ → Edit
cut g t n size =
    let content = content_of (node_at t n) in
    let present = present_of (node_at t n) in
    record {
      tree = with_node t n (Some (file (resized content size) (flags_for g size (is_marked present))));
      writes = map (data_at n) (cut_block g content present size);
      removes = map (data_at n) (past_end g present size);
      reserve = if nat_le size (length content) then 0 else 3;
    }

unfoldable pub plan_truncate : Request → State → ℕ → ℕ → Result Plan Refusal
plan_truncate g s h size = do
  d ← writable_at s h
  _ ← refuse_if (nat_lt (max_size_of g) size) refusal.TooBig
  Ok (changes s (cut g s.tree d.number size) event.truncate done)

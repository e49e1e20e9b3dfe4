-- A tree of files and directories, by numbers.
use Rattle.std.specs.Prelude.{ℕ, ◌==◌, Bool, true, false, is_some, not, nat_eq, if◌then◌else◌, List, [], flat_map, sum_by, count_by, find, map, unwrap_or, Option, Some, None}
use Rattle.std.specs.List.{range_with_len}
use Rattle.std.specs.Map.{update}
use Rattle.edge_base.specs.declared.geometry.Request.{Request}
use Rattle.edge_base.specs.tree.Positions.{Position, data_at, positions_of}
use Rattle.edge_base.specs.tree.Slots.{Entry, Slots}
use Rattle.edge_base.specs.tree.Nodes.{Node, file, directory, indices_of}

abbrev pub Tree : Type 0
Tree = ℕ → Option Node

-- the tree of a fresh volume: an empty root directory
abbrev pub only_root : Tree
only_root n = if n == 2 then Some (directory [] 0) else None

-- ---- reading

-- the numbers that a node may have
abbrev pub numbers_of : Request → List ℕ
numbers_of g = range_with_len 2 g.inodes

-- the node of a number that has one
abbrev pub node_at : Tree → ℕ → Node
node_at t n = unwrap_or (t n) (file [] [])

abbrev pub is_directory_node : Node → Bool
is_directory_node (file content present) = false
is_directory_node (directory slots parent) = true

abbrev pub is_directory : Tree → ℕ → Bool
is_directory t n = is_directory_node (node_at t n)

-- no slots where it is no directory
abbrev pub slots_of_node : Node → Slots
slots_of_node (file content present) = []
slots_of_node (directory slots parent) = slots

abbrev pub slots_at : Tree → ℕ → Slots
slots_at t n = slots_of_node (node_at t n)

abbrev pub names_it : ℕ → Option Entry → Bool
names_it n None = false
names_it n (Some e) = e.number == n

-- how many slots of the tree name a number
abbrev pub names_of_number : Request → Tree → ℕ → ℕ
names_of_number g t n = sum_by (λ d. count_by (names_it n) (slots_at t d)) (numbers_of g)

-- a file's links are the slots that name it; a directory has one
abbrev pub links_of : Request → Tree → ℕ → ℕ
links_of g t n = if is_directory t n then 1 else names_of_number g t n

-- the least number without a node
abbrev pub free_number : Request → Tree → Option ℕ
free_number g t = find (λ n. not (is_some (t n))) (numbers_of g)

-- how many numbers have no node
abbrev pub free_numbers : Request → Tree → ℕ
free_numbers g t = count_by (λ n. not (is_some (t n))) (numbers_of g)

-- ---- positions

abbrev pub node_positions : Request → ℕ → Option Node → List Position
node_positions g n None = []
node_positions g n (Some node) = positions_of g n (indices_of g node)

-- the positions of all nodes
unfoldable pub tree_positions : Request → Tree → List Position
tree_positions g t = flat_map (λ n. node_positions g n (t n)) (numbers_of g)

-- the data positions of a node
abbrev pub data_positions : Request → Tree → ℕ → List Position
data_positions g t n = map (data_at n) (indices_of g (node_at t n))

-- ---- changing

abbrev pub with_node : Tree → ℕ → Option Node → Tree
with_node t n node = update nat_eq t n node

-- another directory's slots, with the parent that it has
abbrev pub with_slots : Tree → ℕ → Slots → Tree
with_slots t d slots = with_node t d (Some (directory slots (parent (node_at t d))))
  where
    parent : Node → ℕ
    parent (file content present) = 0
    parent (directory old number) = number

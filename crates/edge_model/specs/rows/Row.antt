-- Worked scripts of a fresh volume: what they need to be told.
use Rattle.std.specs.Prelude.{◌≡◌, ℕ, ◌+◌, ◌/◌, ◌%◌, true, false, List, [], ◌∷◌, length, map, replicate, codes, Option, Some, None, Ok, Err}
use Rattle.std.specs.List.{range_with_len}
use Rattle.edge_base.specs.declared.geometry.Request.{Request}
use Rattle.edge_base.specs.declared.node.NodeType.{NodeType}
use Rattle.edge_base.specs.declared.refusal.Refusal.{Refusal}
use Rattle.edge_model.specs.declared.command.OpenFlags.{OpenFlags}
use Rattle.edge_model.specs.Asked.{Asked, Reply, status, room}
use Rattle.edge_base.specs.tree.Slots.{Entry}
use Rattle.edge_base.specs.tree.Nodes.{file, directory, parent_of}
use Rattle.edge_model.specs.Tree.{Tree, only_root, with_node, node_at}
use Rattle.edge_model.specs.Run.{Answered, run_of, closed}

-- a line and what it is answered; a line that is no command has None, and is answered None
pub record Exchange : Type 0 where
  pub line : Option Asked
  pub answer : Answered

-- a script on a volume with a tree, with its answers and the number of points that it takes, the one at the end among them
pub record Row : Type 0 where
  pub request : Request
  pub tree : Tree
  pub exchanges : List Exchange
  pub points : ℕ

-- the answers and the number of points are those of the run
pub record Passes (row : Row) : Type 0 where
  pub answers : (run_of row.request row.tree (map (λ e. e.line) row.exchanges)).answers ≡ map (λ e. e.answer) row.exchanges
  pub points : length (closed (run_of row.request row.tree (map (λ e. e.line) row.exchanges))).trees ≡ row.points + 1

-- so are those of each row
abbrev pub AllPass : List Row → Type 0
AllPass [] = Unit {0}
AllPass (row ∷ rows) = Passes row × AllPass rows

-- after the script, node n has this parent
abbrev pub HasParent : Row → ℕ → ℕ → Type 0
HasParent row n parent = parent_of (node_at (run_of row.request row.tree (map (λ e. e.line) row.exchanges)).state.tree n) ≡ parent

-- ---- short words

abbrev pub says : Asked → Answered → Exchange
says command answer = record { line = Some command; answer = answer }

abbrev pub bad : Exchange
bad = record { line = None; answer = None }

abbrev pub told : Reply → Answered
told reply = Some (Ok reply)

abbrev pub no : Refusal → Answered
no e = Some (Err e)

abbrev pub stated : ℕ → NodeType → ℕ → ℕ → Reply
stated n kind size links = status (record { number = n; kind = kind; size = size; links = links })

abbrev pub left : ℕ → ℕ → ℕ → ℕ → ℕ → Reply
left now after blocks free_inodes inodes = room (record { now = now; after = after; blocks = blocks; free_inodes = free_inodes; inodes = inodes })

-- 64 blocks of 512 bytes and 8 inodes: 45 blocks are allocable
abbrev pub small : Request
small = record { block_size = 512; blocks = 64; inodes = 8; name_max = 28; direct = 4; indirect = 32 }

abbrev pub blocks_22 : Request
blocks_22 = record small { blocks = 22 }

abbrev pub blocks_23 : Request
blocks_23 = record small { blocks = 23 }

abbrev pub blocks_24 : Request
blocks_24 = record small { blocks = 24 }

abbrev pub blocks_3843 : Request
blocks_3843 = record small { blocks = 3843 }

abbrev pub blocks_3844 : Request
blocks_3844 = record small { blocks = 3844 }

abbrev pub blocks_100000 : Request
blocks_100000 = record small { blocks = 100000 }

abbrev pub names_of_252 : Request
names_of_252 = record small { name_max = 252 }

-- no pointer nodes: a node has at most 120 blocks
abbrev pub direct_alone : Request
direct_alone = record small { direct = 120; indirect = 0 }

-- and a block has two slots
abbrev pub long_names : Request
long_names = record { block_size = 512; blocks = 300; inodes = 8; name_max = 252; direct = 120; indirect = 0 }

-- ---- trees

-- names of two letters, from aa on, all of one file
abbrev pub lettered : ℕ → Option Entry
lettered i = Some (record { name = (97 + i / 16) ∷ (97 + i % 16) ∷ []; number = 3 })

-- 240 names in the root
abbrev pub crowded : Tree
crowded = with_node (with_node only_root 3 (Some (file [] []))) 2 (Some (directory (map lettered (range_with_len 0 240)) 0))

-- 65,535 slots of the root name one file
abbrev pub many_names : Tree
many_names = with_node (with_node only_root 3 (Some (file [] []))) 2
    (Some (directory (Some (record { name = codes "a"; number = 3 }) ∷ replicate 65534 (Some (record { name = codes "b"; number = 3 }))) 0))

-- flags by their letters
abbrev pub r : OpenFlags
r = record { read = true; write = false; create = false; exclusive = false; truncate = false; append = false }

abbrev pub w : OpenFlags
w = record { read = false; write = true; create = false; exclusive = false; truncate = false; append = false }

abbrev pub wc : OpenFlags
wc = record { read = false; write = true; create = true; exclusive = false; truncate = false; append = false }

abbrev pub rwc : OpenFlags
rwc = record { read = true; write = true; create = true; exclusive = false; truncate = false; append = false }

abbrev pub wca : OpenFlags
wca = record { read = false; write = true; create = true; exclusive = false; truncate = false; append = true }

abbrev pub wt : OpenFlags
wt = record { read = false; write = true; create = false; exclusive = false; truncate = true; append = false }

abbrev pub rwt : OpenFlags
rwt = record { read = true; write = true; create = false; exclusive = false; truncate = true; append = false }

abbrev pub wcx : OpenFlags
wcx = record { read = false; write = true; create = true; exclusive = true; truncate = false; append = false }

abbrev pub wx : OpenFlags
wx = record { read = false; write = true; create = false; exclusive = true; truncate = false; append = false }

abbrev pub c : OpenFlags
c = record { read = false; write = false; create = true; exclusive = false; truncate = false; append = false }

abbrev pub rc : OpenFlags
rc = record { read = true; write = false; create = true; exclusive = false; truncate = false; append = false }

abbrev pub rt : OpenFlags
rt = record { read = true; write = false; create = false; exclusive = false; truncate = true; append = false }

abbrev pub ra : OpenFlags
ra = record { read = true; write = false; create = false; exclusive = false; truncate = false; append = true }

abbrev pub none_at_all : OpenFlags
none_at_all = record { read = false; write = false; create = false; exclusive = false; truncate = false; append = false }

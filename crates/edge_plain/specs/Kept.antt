-- A view that is kept in memory, in flat lists: of each number its head and its entries; of each block what it was taken as, its owner, its
-- pointers and its bytes.
use Rattle.std.specs.Prelude.{ℕ, ◌*◌, if◌then◌else◌, List, take, drop, slice_index, slice_index_or, Option, Some, None, Ok, Err}
use Rattle.edge_base.specs.declared.form.Form.{Form}
use Rattle.edge_base.specs.declared.form.Form.TheVariants.{Plain, Indirect, Double}
use Rattle.edge_base.specs.declared.geometry.Request.{Request}
use Rattle.edge_base.specs.declared.node.Head.{Head}
use Rattle.edge_base.specs.declared.node.NodeFault.TheVariants.{WrongSignature}
use Rattle.edge_base.specs.layout.Places.{entries_of, pointers_of}
use Rattle.edge_store.specs.View.{View, Inode, whole, Block, is_allocable, is_number}

-- row i of a list of rows of a size
abbrev pub row : {X : Type 0} → ℕ → List X → ℕ → List X
row size list i = take size (drop (i * size) list)

-- A block, by what it was taken as, its owner, its pointers and its bytes. Under another form than that it spells no pointer node.
abbrev pub block_kept : Option Form → ℕ → List ℕ → List ℕ → Option Block
block_kept None owner ps bs = None
block_kept (Some Plain) owner ps bs = Some (record { bytes = bs; indirect = Err WrongSignature; double = Err WrongSignature })
block_kept (Some Indirect) owner ps bs =
    Some (record { bytes = bs; indirect = Ok (record { owner = owner; entries = ps }); double = Err WrongSignature })
block_kept (Some Double) owner ps bs =
    Some (record { bytes = bs; indirect = Err WrongSignature; double = Ok (record { owner = owner; entries = ps }) })

abbrev pub inode_kept : Option Head → List ℕ → Option Inode
inode_kept None es = None
inode_kept (Some head) es = Some (whole head es)

-- the inode of a number, where a node may have the number
abbrev pub inode_in : Request → List (Option Head) → List ℕ → ℕ → Option Inode
inode_in g heads entries n =
    if is_number g n then inode_kept (slice_index_or heads n None) (row (entries_of g) entries n) else None

-- block b, where it is allocable
abbrev pub block_in : Request → List (Option Form) → List ℕ → List ℕ → List ℕ → ℕ → Option Block
block_in g forms owners pointers bytes b =
    if is_allocable g b then
    block_kept (slice_index_or forms b None) (slice_index owners b) (row (pointers_of g) pointers b) (row g.block_size bytes b)
    else None

abbrev pub view_in : Request → List (Option Head) → List ℕ → List (Option Form) → List ℕ → List ℕ → List ℕ → View
view_in g heads entries forms owners pointers bytes = record {
  inodes = inode_in g heads entries;
  blocks = block_in g forms owners pointers bytes;
}

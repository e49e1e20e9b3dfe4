-- Where the pointers of a node lead, whatever its data blocks are.
use Rattle.std.specs.Prelude.{◌≡◌, ◌≢◌, ℕ, ◌<◌, true}
use Rattle.edge_base.specs.declared.form.Form.{Form}
use Rattle.edge_base.specs.declared.geometry.Request.{Request}
use Rattle.edge_base.specs.tree.Positions.{Position, positions_of_form}
use Rattle.edge_store.specs.View.{View, is_spot}
use Rattle.edge_store.specs.Placed.{block_at}

-- number k of a form of node n
abbrev pub numbered : ℕ → Form → ℕ → Position
numbered n form k = record { number = n; form = form; index = k }

-- Each block of node n is used, with the form and the owner of its position.
abbrev pub IsSound : Request → View → ℕ → Type 0
IsSound g v n = (form : Form) (k : ℕ) → k < positions_of_form g form → block_at g v (numbered n form k) ≢ 0
    → is_spot v form n (block_at g v (numbered n form k)) ≡ true

-- No block of node n is at two of its positions.
abbrev pub IsApart : Request → View → ℕ → Type 0
IsApart g v n = (form other : Form) (k l : ℕ) → k < positions_of_form g form → l < positions_of_form g other
    → block_at g v (numbered n form k) ≢ 0 → block_at g v (numbered n form k) ≡ block_at g v (numbered n other l)
    → numbered n form k ≡ numbered n other l

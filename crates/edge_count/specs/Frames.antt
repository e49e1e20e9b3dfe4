-- Nodes that a step at another node leaves as they were.
use Rattle.std.specs.Prelude.{◌≡◌, ◌≢◌, ◌⊎◌, ℕ, ◌<◌, ◌==◌, true, List}
use Rattle.std.specs.List.{list_any}
use Rattle.edge_base.specs.declared.form.Form.{Form}
use Rattle.edge_base.specs.declared.geometry.Request.{Request}
use Rattle.edge_base.specs.tree.Positions.{Position, has, positions_of_form}
use Rattle.edge_store.specs.View.{View, is_used}
use Rattle.edge_store.specs.Placed.{block_at}
use Rattle.edge_moves.specs.Sound.{numbered}

-- From v to w each position of node m keeps its block, and that is used if it was.
pub record KeepsBlocks (g : Request) (v w : View) (m : ℕ) : Type 0 where
  pub places : (form : Form) (k : ℕ) → k < positions_of_form g form → block_at g w (numbered m form k) ≡ block_at g v (numbered m form k)
  pub used : (form : Form) (k : ℕ) → k < positions_of_form g form → is_used w (block_at g v (numbered m form k)) ≡ is_used v (block_at g v (numbered m form k))

-- No block of node n is one of node m.
abbrev pub AreApart : Request → View → ℕ → ℕ → Type 0
AreApart g v n m = (form other : Form) (k l : ℕ) → block_at g v (numbered n form k) ≢ 0 → block_at g v (numbered n form k) ≢ block_at g v (numbered m other l)

-- ---- positions, by their nodes

-- each is of a node that keeps its blocks
abbrev pub AreKept : Request → View → View → List Position → Type 0
AreKept g v w ps = (p : Position) → has ps p ≡ true → KeepsBlocks g v w p.number

-- each is of node n, or of a node that keeps its blocks
abbrev pub AreOfOrKept : Request → View → View → ℕ → List Position → Type 0
AreOfOrKept g v w n ps = (p : Position) → has ps p ≡ true → (p.number ≡ n) ⊎ KeepsBlocks g v w p.number

-- none is of node n
abbrev pub AreElsewhere : ℕ → List Position → Type 0
AreElsewhere n ps = (p : Position) → has ps p ≡ true → p.number ≢ n

-- those of node n are of these data blocks
abbrev pub AreAmong : ℕ → List ℕ → List Position → Type 0
AreAmong n indices ps = (p : Position) → has ps p ≡ true → p.number ≡ n → list_any (λ k. k == p.index) indices ≡ true

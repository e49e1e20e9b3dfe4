-- Positions of a node that are of each form those with the numbers of a range, and those above a run of data blocks.
use Rattle.std.specs.Prelude.{◌≡◌, ℕ, ◌+◌, ◌-◌, ◌/◌, ◌&&◌, true, nat_le, nat_lt, max, if◌then◌else◌, List}
use Rattle.edge_base.specs.declared.form.Form.{Form}
use Rattle.edge_base.specs.declared.form.Form.TheVariants.{Plain, Indirect, Double}
use Rattle.edge_base.specs.declared.geometry.Request.{Request}
use Rattle.edge_base.specs.layout.Places.{pointers_of}
use Rattle.edge_base.specs.tree.Positions.{Position, has}
use Rattle.edge_moves.specs.Sound.{numbered}

-- The positions are of node n, and of each form those with so many numbers from a first one on.
pub record IsRanges (ps : List Position) (n : ℕ) (first count : Form → ℕ) : Type 0 where
  pub number : (p : Position) → has ps p ≡ true → p.number ≡ n
  pub range : (form : Form) (k : ℕ) → has ps (numbered n form k) ≡ (nat_le (first form) k && nat_lt k (first form + count form))

-- Behind the first a numbers, rows of k: those of len numbers from lo on, the first of them and how many.
abbrev pub first_row : ℕ → ℕ → ℕ → ℕ
first_row a k lo = (lo - a) / k

abbrev pub row_count : ℕ → ℕ → ℕ → ℕ → ℕ
row_count a k lo len = if nat_le (lo + len) (max lo a) then 0 else (lo + len - 1 - a) / k + 1 - first_row a k lo

-- of each form the first of the positions of len data blocks from lo on, and how many there are
abbrev pub run_first : Request → ℕ → ℕ → Form → ℕ
run_first g lo len Plain = lo
run_first g lo len Indirect = first_row g.direct (pointers_of g) lo
run_first g lo len Double = first_row g.indirect (pointers_of g) (first_row g.direct (pointers_of g) lo)

abbrev pub run_count : Request → ℕ → ℕ → Form → ℕ
run_count g lo len Plain = len
run_count g lo len Indirect = row_count g.direct (pointers_of g) lo len
run_count g lo len Double = row_count g.indirect (pointers_of g) (first_row g.direct (pointers_of g) lo) (row_count g.direct (pointers_of g) lo len)

-- The positions of a tree's blocks: of node x the data block i, the indirect node j and the double-indirect node d.
use Rattle.std.specs.Prelude.{ℕ, ◌+◌, ◌-◌, ◌*◌, ◌/◌, ◌==◌, ◌&&◌, not, Bool, true, false, nat_lt, if◌then◌else◌, List, [], ◌∷◌, ◌++◌, filter, flat_map}
use Rattle.std.specs.Set.{is_member, distinct_count}
use Rattle.edge_base.specs.declared.form.Form.{Form}
use Rattle.edge_base.specs.declared.form.Form.TheVariants.{Plain, Indirect, Double}
use Rattle.edge_base.specs.declared.geometry.Request.{Request}
use Rattle.edge_base.specs.layout.Places.{pointers_of, entries_of, max_blocks_of}

-- The indirect nodes are numbered through: first the single ones, and then those below each double-indirect node.
pub record Position : Type 0 where
  pub number : ℕ
  pub form : Form
  pub index : ℕ

abbrev pub same_form : Form → Form → Bool
same_form Plain Plain = true
same_form Plain Indirect = false
same_form Plain Double = false
same_form Indirect Plain = false
same_form Indirect Indirect = true
same_form Indirect Double = false
same_form Double Plain = false
same_form Double Indirect = false
same_form Double Double = true

abbrev pub same_position : Position → Position → Bool
same_position p q = (p.number == q.number) && same_form p.form q.form && (p.index == q.index)

abbrev pub data_at : ℕ → ℕ → Position
data_at x i = record { number = x; form = Plain; index = i }

abbrev pub indirect_at : ℕ → ℕ → Position
indirect_at x j = record { number = x; form = Indirect; index = j }

abbrev pub double_at : ℕ → ℕ → Position
double_at x d = record { number = x; form = Double; index = d }

-- how many positions of a form a node may have
abbrev pub positions_of_form : Request → Form → ℕ
positions_of_form g Plain = max_blocks_of g
positions_of_form g Indirect = g.indirect + doubles * pointers_of g
  where
    doubles : ℕ
    doubles = entries_of g - g.direct - g.indirect
positions_of_form g Double = entries_of g - g.direct - g.indirect

-- ---- the chain of an index

-- the double-indirect node above an indirect node, if it is no single one
abbrev pub above_indirect : Request → ℕ → ℕ → List Position
above_indirect g x j = if nat_lt j g.indirect then [] else double_at x ((j - g.indirect) / pointers_of g) ∷ []

-- the pointer nodes above a data block
abbrev pub above_data : Request → ℕ → ℕ → List Position
above_data g x i = if nat_lt i g.direct then [] else indirect_at x ((i - g.direct) / pointers_of g) ∷ above_indirect g x ((i - g.direct) / pointers_of g)

-- the ancestors of a position: the pointer nodes on the chain to it
abbrev pub ancestors : Request → Position → List Position
ancestors g p = by_form p.form
  where
    by_form : Form → List Position
    by_form Plain = above_data g p.number p.index
    by_form Indirect = above_indirect g p.number p.index
    by_form Double = []

abbrev pub all_ancestors : Request → List Position → List Position
all_ancestors g ps = flat_map (ancestors g) ps

-- the data block of an index and its ancestors
abbrev pub chain : Request → ℕ → ℕ → List Position
chain g x i = data_at x i ∷ above_data g x i

-- the positions of a node with these data blocks
abbrev pub positions_of : Request → ℕ → List ℕ → List Position
positions_of g x indices = flat_map (chain g x) indices

-- ---- lists of positions as sets

abbrev pub has : List Position → Position → Bool
has ps p = is_member same_position ps p

-- how many positions a list names
abbrev pub count_of : List Position → ℕ
count_of ps = distinct_count same_position ps

-- ---- dirty positions: those written since the last point

-- What a change touches: the data positions that it writes or adds, and the ancestors of those that it adds, removes, or writes where they were not dirty. (A
-- position that is added was not dirty.)
abbrev pub touched : Request → (Position → Bool) → List Position → List Position → List Position
touched g is_dirty writes removes = writes ++ all_ancestors g (removes ++ filter (λ p. not (is_dirty p)) writes)

-- The dirty positions after a change: of those that are there then, the ones that were dirty and those that it touched.
abbrev pub dirty_after : Request → (Position → Bool) → List Position → List Position → List Position → List Position
dirty_after g there dirty writes removes = filter there (dirty ++ touched g (has dirty) writes removes)

-- Which data blocks of a node stand under a position.
use Rattle.std.specs.Prelude.{ℕ, ◌-◌, ◌/◌, ◌==◌, ◌&&◌, not, Bool, nat_lt}
use Rattle.edge_base.specs.declared.form.Form.{Form}
use Rattle.edge_base.specs.declared.form.Form.TheVariants.{Plain, Indirect, Double}
use Rattle.edge_base.specs.declared.geometry.Request.{Request}
use Rattle.edge_base.specs.layout.Places.{pointers_of}

-- whether the chain of data block i has the position of a form and an index
abbrev pub is_on_chain : Request → Form → ℕ → ℕ → Bool
is_on_chain g Plain k i = i == k
is_on_chain g Indirect k i = not (nat_lt i g.direct) && ((i - g.direct) / pointers_of g == k)
is_on_chain g Double k i = not (nat_lt i g.direct) && (not (nat_lt ((i - g.direct) / pointers_of g) g.indirect)
    && (((i - g.direct) / pointers_of g - g.indirect) / pointers_of g == k))

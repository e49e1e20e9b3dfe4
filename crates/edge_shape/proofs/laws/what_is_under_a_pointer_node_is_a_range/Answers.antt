use Rattle.edge_base.specs.declared.form.Form.TheVariants.{Plain, Indirect, Double}
use Rattle.edge_moves.proofs.SlotLaws.{some_pointers_fit}
use Rattle.edge_shape.proofs.RangeLaws.{on_indirect-range, on_double-range}
use Rattle.edge_shape.proofs.laws.what_is_under_a_pointer_node_is_a_range.Goals as goal

pub returns : goal.returns
returns c g Plain m x geometry node = absurd (node (λ i. Plain))
returns c g Indirect j x geometry node = on_indirect-range g (some_pointers_fit g geometry) j x
returns c g Double d x geometry node = on_double-range g (some_pointers_fit g geometry) d x

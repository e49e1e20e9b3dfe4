use Rattle.edge_moves.proofs.RelinkLaws.{blocks_are}
use Rattle.edge_moves.proofs.SlotLaws.{entries_fit}
use Rattle.edge_shape.proofs.LeadLaws.{shape_from_layout, shape_from_shaped}
use Rattle.edge_shape.proofs.MemberLaws.{shaped_by}
use Rattle.edge_shape.proofs.laws.a_layout_makes_a_shape.Goals as goal

pub returns-clause-layout : goal.returns-clause-layout
returns-clause-layout c g v n indices to geometry view inode links layout = shape_from_layout g v n indices to geometry view inode (blocks_are g v n to (entries_fit g geometry) links) layout

pub returns-clause-shaped : goal.returns-clause-shaped
returns-clause-shaped c = shape_from_shaped

pub returns-clause-is_shaped : goal.returns-clause-is_shaped
returns-clause-is_shaped c = shaped_by

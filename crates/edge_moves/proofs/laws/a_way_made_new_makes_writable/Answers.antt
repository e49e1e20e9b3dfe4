use Rattle.std.proofs.Common.{refl}
use Rattle.edge_base.specs.layout.Places.{way_of}
use Rattle.edge_moves.proofs.WritableLaws.{way_done}
use Rattle.edge_moves.proofs.laws.a_way_made_new_makes_writable.Goals as goal

pub returns-clause-made : goal.returns-clause-made
returns-clause-made c g d v w n i b indices geometry view view_w low is places once renewed = (way_done g d v w n i b indices (way_of g i) geometry view view_w low refl is places once renewed).made

pub returns-clause-block : goal.returns-clause-block
returns-clause-block c g d v w n i b indices geometry view view_w low is places once renewed = (way_done g d v w n i b indices (way_of g i) geometry view view_w low refl is places once renewed).block

use Rattle.std.proofs.Common.{◌∙◌}
use Rattle.std.proofs.lemmas.Bool.{cond-true}
use Rattle.edge_moves.proofs.SlotLaws.{some_pointers_fit}
use Rattle.edge_file.proofs.StepLaws.{some_bytes}
use Rattle.edge_space.specs.Changes.{is_longer}
use Rattle.edge_space.proofs.SizeLaws.{counted_size, counted_longer}
use Rattle.edge_space.proofs.laws.sizes_ask_for_their_fresh_positions.Goals as goal

pub returns-clause-shorter : goal.returns-clause-shorter
returns-clause-shorter c g past v n size indices left shape most longer =
    counted_size g past v n size indices left shape (some_bytes g (some_pointers_fit g shape.geometry)) most ∙ cond-true (is_longer v n size) _ 0 longer

pub returns-clause-longer : goal.returns-clause-longer
returns-clause-longer c g past v n size indices left low = counted_longer g past v n size indices left low

use Rattle.edge_moves.proofs.SlotLaws.{entries_fit, some_pointers_fit}
use Rattle.edge_file.proofs.WriteLaws.{more_written}
use Rattle.edge_file.proofs.StepLaws.{some_bytes}
use Rattle.edge_file.proofs.laws.writes_follow_each_other.Goals as goal

pub returns : goal.returns
returns c g past v m w n at first second indices geometry view_v view_m view_w is_v is_m places one two =
    more_written g past v m n at first indices (entries_fit g geometry) (some_pointers_fit g geometry) (some_bytes g (some_pointers_fit g geometry)) view_v view_m is_v is_m places one w second view_w two

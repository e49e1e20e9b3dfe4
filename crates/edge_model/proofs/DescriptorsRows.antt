-- Descriptors: each script computed.
use Rattle.std.proofs.Common.{refl}
use Rattle.edge_model.specs.Run.{run_of}
use Rattle.edge_model.specs.Tree.{tree_positions}
use Rattle.edge_model.specs.State.{judged, outcome_of}
use Rattle.edge_model.specs.Step.{step, plan_stat, plan_fstat, room_of, plan_set_mask}
use Rattle.edge_model.specs.Open.{plan_open, plan_close, plan_seek, plan_fsync, plan_open_dir, plan_read_dir, plan_rewind}
use Rattle.edge_model.specs.Files.{plan_read, plan_write, plan_truncate}
use Rattle.edge_model.specs.Names.{plan_make_dir, plan_link, plan_unlink, plan_remove_dir, plan_rename}
use Rattle.edge_model.specs.rows.Row.{AllPass}
use Rattle.edge_model.specs.rows.Descriptors.{descriptor_rows}

pub descriptor_rows_pass : AllPass descriptor_rows
unfolding run_of step judged outcome_of tree_positions plan_stat plan_fstat room_of plan_set_mask plan_open plan_close plan_seek plan_fsync plan_open_dir plan_read_dir plan_rewind plan_read plan_write plan_truncate plan_make_dir plan_link plan_unlink plan_remove_dir plan_rename
descriptor_rows_pass = (
  record { answers = refl; points = refl },
  (
    record { answers = refl; points = refl },
    (
      record { answers = refl; points = refl },
      (
        record { answers = refl; points = refl },
        tt,
      ),
    ),
  ),
)

-- What each command does: the step of a session.
use Rattle.std.specs.Prelude.{ℕ, ◌-◌, true, nat_lt, List, replicate, Result, Ok}
use Rattle.edge_base.specs.declared.geometry.Request.{Request}
use Rattle.edge_base.specs.declared.refusal.Refusal.{Refusal}
use Rattle.edge_base.specs.declared.refusal.Refusal.TheVariants as refusal
use Rattle.edge_base.specs.commands.Refusals.{◌>>=◌, refuse_if}
use Rattle.edge_base.specs.layout.Places.{allocable_of}
use Rattle.edge_base.specs.tree.Positions.{count_of}
use Rattle.edge_base.specs.commands.Events.{greatest_mask}
use Rattle.edge_base.specs.tree.Nodes.{kind_of, size_of}
use Rattle.edge_model.specs.Tree.{Tree, node_at, tree_positions, links_of, free_numbers}
use Rattle.edge_model.specs.Walk.{at_spot, spot_of, found_number}
use Rattle.edge_model.specs.State.{State, Plan, Outcome, keeps, in_use, outcome_of}
use Rattle.edge_model.specs.Asked.{Asked, open_file, close, read, write, fill, seek, truncate, fsync, link, unlink, rename, make_dir, remove_dir, open_dir, read_dir, rewind, stat, fstat, space, mask, set_mask, transact, Reply, done, number, status, room}
use Rattle.edge_model.specs.Open.{open_at, plan_open, plan_close, plan_seek, plan_fsync, plan_open_dir, plan_read_dir, plan_rewind}
use Rattle.edge_model.specs.Files.{plan_read, plan_write, plan_truncate}
use Rattle.edge_model.specs.Names.{plan_make_dir, plan_link, plan_unlink, plan_remove_dir, plan_rename}

-- what is told of node n
abbrev pub status_of : Request → Tree → ℕ → Reply
status_of g t n = status (record { number = n; kind = kind_of (node_at t n); size = size_of g (node_at t n); links = links_of g t n })

unfoldable pub plan_stat : Request → State → List ℕ → Result Plan Refusal
plan_stat g s path = do
  spot ← spot_of g s.tree path
  n ← found_number (at_spot s.tree spot)
  Ok (keeps s (status_of g s.tree n))

unfoldable pub plan_fstat : Request → State → ℕ → Result Plan Refusal
plan_fstat g s h = do
  d ← open_at s h
  Ok (keeps s (status_of g s.tree d.number))

unfoldable pub room_of : Request → State → Reply
room_of g s = room (record {
  now = allocable_of g - in_use g s.committed s.dirty;
  after = allocable_of g - count_of (tree_positions g s.tree);
  blocks = allocable_of g;
  free_inodes = free_numbers g s.tree;
  inodes = g.inodes;
})

unfoldable pub plan_set_mask : State → ℕ → Result Plan Refusal
plan_set_mask s events = do
  _ ← refuse_if (nat_lt greatest_mask events) refusal.Invalid
  Ok (record (keeps s done) { mask = events })

-- What a command does, or the first refusal that holds, but for room.
abbrev pub plan : Request → State → Asked → Result Plan Refusal
plan g s (open_file path flags) = plan_open g s path flags
plan g s (close h) = plan_close s h
plan g s (read h count) = plan_read s h count
plan g s (write h new) = plan_write g s h new
plan g s (fill h count byte) = plan_write g s h (replicate count byte)
plan g s (seek h to) = plan_seek g s h to
plan g s (truncate h size) = plan_truncate g s h size
plan g s (fsync h) = plan_fsync s h
plan g s (link path to) = plan_link g s path to
plan g s (unlink path) = plan_unlink g s path
plan g s (rename path to) = plan_rename g s path to
plan g s (make_dir path) = plan_make_dir g s path
plan g s (remove_dir path) = plan_remove_dir g s path
plan g s (open_dir path) = plan_open_dir g s path
plan g s (read_dir h) = plan_read_dir s h
plan g s (rewind h) = plan_rewind s h
plan g s (stat path) = plan_stat g s path
plan g s (fstat h) = plan_fstat g s h
plan g s space = Ok (keeps s (room_of g s))
plan g s mask = Ok (keeps s (number s.mask))
plan g s (set_mask events) = plan_set_mask s events
plan g s transact = Ok (record (keeps s done) { point = true })

-- The step: what the command does, judged for room last.
unfoldable pub step : Request → State → Asked → Outcome
step g s command = outcome_of g s (plan g s command)

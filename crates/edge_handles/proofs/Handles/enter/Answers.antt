use Rattle.std.proofs.Common.{Some, arith}
use Rattle.edge_handles.proofs.TableLaws.{put-slot, first-is-empty}
use Rattle.edge_handles.proofs.Handles.enter.Goals as goal

pub returns-clause-entered : goal.returns-clause-entered
returns-clause-entered c = put-slot c.self.inside.slots c.args.self.now c.first_free-h.result (Some c.args.s) c.self.view_is

pub returns-clause-free : goal.returns-clause-free
returns-clause-free c = first-is-empty c.self.inside.slots c.args.self.now c.first_free-h.result c.self.view_is c.first_free-h.ensures (omega arith)

use Rattle.std.proofs.Common.{◌≡◌, ◌≤◌, ◌+◌, ◌-◌, ◌*◌, ◌++◌, true, take}
use Rattle.std.specs.Prelude.{IsTrue}
use Rattle.edge_model.specs.State.{State, first_state}
use Rattle.edge_model.specs.Tree.{Tree}
use Rattle.edge_session.specs.Feeds.{SeesEnd}
use Rattle.edge_session.specs.Line.{moments_of, moments_after}
use Rattle.edge_session.specs.Object.{Stands}
use Rattle.edge_session.specs.Script.{lines_of}
use Rattle.edge_session.specs.Session.{run_before, text_of}
use Rattle.edge_session.specs.Stream.{stream_of, used_of, ended_of}
use Rattle.edge_session.specs.Turn.{Progress}
use Rattle.edge_session.proofs.TurnLaws.{Follows}
use Rattle.edge_session.proofs.serve.serve.Given as goal

abbrev pub invariant-loop-commands : goal.invariant-loop-commands
invariant-loop-commands g l =
    let source = g.S.Source in
    let sink = g.K.Sink in
    let clock = g.C.Clock in
    let a = g.A.Ask in
    record {
      few : l.commands ≤ l.limit.lines;
      used : used_of l.b.lines ≤ l.limit.bytes;
      seen : SeesEnd (source.tells l.src) (ended_of l.b.lines) (source.left l.src);
      source_tells : source.tells l.src ≡ source.tells l.fn.src;
      sink_tells : sink.tells l.out ≡ sink.tells l.fn.out;
      clock_tells : clock.tells l.clock ≡ clock.tells l.fn.clock;
      source_faults : source.faults l.src ≡ source.faults l.fn.src;
      sink_faults : sink.faults l.out ≡ sink.faults l.fn.out;
      object_faults : a.faults l.ask ≡ a.faults l.fn.ask;
      damage : a.damage l.ask ≡ a.damage l.fn.ask;
      live : a.live l.ask ≡ true;
      origin : a.origin l.ask ≡ a.origin l.fn.ask;
      guarded : a.guarded l.fn.ask → a.guarded l.ask;
      later : a.reached l.fn.ask ≤ a.reached l.ask;
      few_points : a.reached l.ask ≤ a.reached l.fn.ask + 2 * l.commands;
      standing : (s : State) → a.stands_for l.fn.ask s → Stands a l.ask;
      progress : IsTrue (source.tells l.fn.src)
          → Progress (source.left l.fn.src) (stream_of l.b.lines (source.left l.src)) (ended_of l.b.lines) (used_of l.b.lines) l.commands;
      moments : IsTrue (source.tells l.fn.src) → IsTrue (clock.tells l.fn.clock)
          → clock.moments l.clock ≡ moments_after (moments_of (take l.commands (lines_of (source.left l.fn.src)))) (clock.moments l.fn.clock);
      text : IsTrue (source.tells l.fn.src) → IsTrue (sink.tells l.fn.out) → (t : Tree) → a.stands_for l.fn.ask (first_state t)
          → sink.taken l.out ≡ sink.taken l.fn.out ++ text_of (run_before (a.origin l.fn.ask).request t (source.left l.fn.src) l.commands);
      follows : IsTrue (source.tells l.fn.src) → (t : Tree) → a.stands_for l.fn.ask (first_state t)
          → Follows a (run_before (a.origin l.fn.ask).request t (source.left l.fn.src) l.commands) l.fn.ask l.ask;
    }

abbrev pub decreases-loop-commands : goal.decreases-loop-commands
decreases-loop-commands g l = l.limit.lines - l.commands

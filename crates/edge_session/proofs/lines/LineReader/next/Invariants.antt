use Rattle.std.proofs.Common.{◌≡◌, ◌≤◌, ◌-◌}
use Rattle.std.specs.Prelude.{IsTrue}
use Rattle.edge_session.specs.Feeds.{HasBegun, SeesEnd}
use Rattle.edge_session.specs.Stream.{stream_of, kept_of, used_of, ended_of}
use Rattle.edge_session.proofs.lines.LineReader.next.Given as goal

abbrev pub invariant-loop-self : goal.invariant-loop-self
invariant-loop-self g l =
    let source = g.S.Source in
    record {
      start : l.start ≡ used_of l.fn.self;
      within : used_of l.self ≤ l.limit;
      later : used_of l.fn.self ≤ used_of l.self;
      tells : source.tells l.src ≡ source.tells l.fn.src;
      faults : source.faults l.src ≡ source.faults l.fn.src;
      ended : ended_of l.self ≡ ended_of l.fn.self;
      seen : SeesEnd (source.tells l.src) (ended_of l.self) (source.left l.src);
      begun : IsTrue (source.tells l.fn.src)
          → HasBegun (stream_of l.fn.self (source.left l.fn.src)) (stream_of l.self (source.left l.src)) (kept_of l.self) (used_of l.fn.self) (used_of l.self);
    }

abbrev pub decreases-loop-self : goal.decreases-loop-self
decreases-loop-self g l = l.limit - l.self.used

use Rattle.std.proofs.Common.{◌≤◌, ◌-◌, ◌+◌, drop, ap, ◌∙◌, arith}
use Rattle.edge_session.specs.Stream.{pending, used_of}
use Rattle.edge_session.proofs.StreamLaws.{ended, begun, piece_of, length-pending}
use Rattle.edge_session.proofs.lines.LineReader.take_up.Goals as goal

pub returns-in-Some-clause-taken : goal.returns-in-Some-clause-taken
returns-in-Some-clause-taken c =
    let s = c.args.self.now in
    let n = c.min-n.result in
    let short : n ≤ s.end - s.at = omega arith in
    let whole = length-pending s.at s.end s.input.items c.deref.result.now c.deref.ensures.value (omega (arith, c.deref.ensures.len, s.end_in)) in
    ended (pending s) _ _ _ _ _ n c.in-Some.len (used_of s) (used_of c.skip.new.self)
    (piece_of s.at n s.end s.input.items c.deref.result.now c.deref.ensures.value short) (omega (arith, whole)) c.in-Some.ensures
    c.keep.ensures.kept (c.skip.ensures.pending ∙ ap (drop (c.in-Some.len + 1)) c.keep.ensures.pending) c.skip.ensures.kept
    (omega (arith, c.skip.ensures.used, c.keep.ensures.used))

pub returns-in-None-clause-taken : goal.returns-in-None-clause-taken
returns-in-None-clause-taken c =
    let s = c.args.self.now in
    let n = c.min-n.result in
    let short : n ≤ s.end - s.at = omega arith in
    let whole = length-pending s.at s.end s.input.items c.deref.result.now c.deref.ensures.value (omega (arith, c.deref.ensures.len, s.end_in)) in
    begun (pending s) _ _ _ _ _ n (used_of s) (used_of c.skip-in-None.new.self)
    (piece_of s.at n s.end s.input.items c.deref.result.now c.deref.ensures.value short) (omega (arith, whole)) c.in-None.ensures
    c.keep-in-None.ensures.kept (c.skip-in-None.ensures.pending ∙ ap (drop n) c.keep-in-None.ensures.pending) c.skip-in-None.ensures.kept
    (omega (arith, c.skip-in-None.ensures.used, c.keep-in-None.ensures.used))

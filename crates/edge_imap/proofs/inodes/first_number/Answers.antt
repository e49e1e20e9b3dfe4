use Rattle.std.proofs.Common.{refl, arith}
use Rattle.edge_cache.specs.Calls.{content_in}
use Rattle.edge_imap.specs.Bitmaps.{IsLive}
use Rattle.edge_imap.proofs.CallLaws.{reads_same, why_passed, why_after}
use Rattle.edge_imap.proofs.PairLaws.{number_least, number_none}
use Rattle.edge_imap.proofs.inodes.first_number.Goals as goal

pub returns-in_err-i-clause-cause : goal.returns-in_err-i-clause-cause
returns-in_err-i-clause-cause g c =
    let live = IsLive c.args.g.now c.args.roots.now in
    why_after g.D.Disk live live c.args.cache.now c.args.cache.now c.first_pair.new.cache c.first_pair.result _ c.in_err-i.field-0.0 (λ k h. h) (reads_same g.D.Disk c.args.cache.now) refl
    c.first_pair.ensures.cause c.in_err-i.was c.from_residual.ensures

pub returns-in-Some-clause-found : goal.returns-in-Some-clause-found
returns-in-Some-clause-found g c = λ tells.
    number_least c.args.g.now c.args.roots.now (content_in g.D.Disk c.args.cache.now) c.args.g.now.inodes c.in-Some.i (rw c.in-Some.is at (c.in_ok-i.ensures.found tells))

pub returns-in-Some-clause-bound : goal.returns-in-Some-clause-bound
returns-in-Some-clause-bound g c = let below = rw c.in-Some.is at c.in_ok-i.ensures.bound in (omega arith, omega (arith, below))

pub returns-in-Some-clause-cause : goal.returns-in-Some-clause-cause
returns-in-Some-clause-cause g c = why_passed g.D.Disk (IsLive c.args.g.now c.args.roots.now) _ _ _ c.in_ok-i.ensures.cause.passed

pub returns-in-None-clause-found : goal.returns-in-None-clause-found
returns-in-None-clause-found g c = λ tells.
    number_none c.args.g.now c.args.roots.now (content_in g.D.Disk c.args.cache.now) c.args.g.now.inodes (rw c.in-None.is at (c.in_ok-i.ensures.found tells))

pub returns-in-None-clause-cause : goal.returns-in-None-clause-cause
returns-in-None-clause-cause g c = why_passed g.D.Disk (IsLive c.args.g.now c.args.roots.now) _ _ _ c.in_ok-i.ensures.cause.passed

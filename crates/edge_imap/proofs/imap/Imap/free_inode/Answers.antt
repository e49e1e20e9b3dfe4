use Rattle.std.proofs.Common.{◌≡◌, ◌+◌, inr, subst, ◌∙◌}
use Rattle.std.specs.Prelude.{IfOk, IfSome}
use Rattle.edge_cache.specs.Calls.{content_in}
use Rattle.edge_imap.specs.Bitmaps.{Bitmaps, bitmaps, IsLive, IsNamed, working_use}
use Rattle.edge_imap.specs.Inodes.{is_free_number}
use Rattle.edge_imap.specs.Reading.{TellsWhy}
use Rattle.edge_imap.specs.Search.{FindsLeast, IsWithin}
use Rattle.edge_imap.proofs.CallLaws.{why_within}
use Rattle.edge_imap.proofs.TieLaws.{never_damaged}
use Rattle.edge_imap.proofs.imap.Imap.free_inode.Goals as goal

pub returns-clause-found : goal.returns-clause-found
returns-clause-found g c = λ tells.
    let s = c.self.inside in
    let view : bitmaps s.geometry s.committed.items c.deref.result.now s.counts ≡ c.args.self.now = (λ i. bitmaps s.geometry s.committed.items (c.deref.ensures.value i) s.counts) ∙ c.self.view_is in
    subst (λ (m : Bitmaps). IfOk c.first_number.result (FindsLeast (is_free_number m.geometry (working_use m (content_in g.D.Disk c.args.cache.now))) 2 (2 + m.geometry.inodes))) view (c.first_number.ensures.found tells)

pub returns-clause-bound : goal.returns-clause-bound
returns-clause-bound g c = subst (λ (m : Bitmaps). IfOk c.first_number.result (λ found. IfSome found (IsWithin 2 (2 + m.geometry.inodes)))) c.self.view_is c.first_number.ensures.bound

pub returns-clause-cause : goal.returns-clause-cause
returns-clause-cause g c =
    let s = c.self.inside in
    let view : bitmaps s.geometry s.committed.items c.deref.result.now s.counts ≡ c.args.self.now = (λ i. bitmaps s.geometry s.committed.items (c.deref.ensures.value i) s.counts) ∙ c.self.view_is in
    let m = c.args.self.now in
    why_within g.D.Disk (IsLive m.geometry m.working) (IsNamed m) c.args.cache.now c.first_number.new.cache c.first_number.result (λ k h. inr h)
    (subst (λ (n : Bitmaps). TellsWhy g.D.Disk (IsLive n.geometry n.working) c.args.cache.now c.first_number.new.cache c.first_number.result) view c.first_number.ensures.cause)

pub returns-clause-sound : goal.returns-clause-sound
returns-clause-sound g c = never_damaged g.D.Disk c.args.self.now c.args.cache.now c.first_number.new.cache c.first_number.result (returns-clause-cause g c)

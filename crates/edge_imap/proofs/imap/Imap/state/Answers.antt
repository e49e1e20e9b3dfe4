use Rattle.std.proofs.Common.{◌≡◌, subst, ◌∙◌}
use Rattle.std.specs.Prelude.{IfOk}
use Rattle.edge_cache.specs.Calls.{content_in}
use Rattle.edge_imap.specs.Bitmaps.{Bitmaps, bitmaps, IsNamed, IsNamedFor, state_of, committed_bit, working_bit}
use Rattle.edge_imap.specs.Reading.{TellsWhy}
use Rattle.edge_imap.proofs.CallLaws.{why_within}
use Rattle.edge_imap.proofs.TieLaws.{named_for, never_damaged}
use Rattle.edge_imap.proofs.imap.Imap.state.Goals as goal

pub returns-clause-state : goal.returns-clause-state
returns-clause-state g c = λ tells.
    let s = c.self.inside in
    let view : bitmaps s.geometry c.deref.result.now c.deref-2.result.now s.counts ≡ c.args.self.now = (λ i. bitmaps s.geometry (c.deref.ensures.value i) (c.deref-2.ensures.value i) s.counts) ∙ c.self.view_is in
    subst (λ (m : Bitmaps). IfOk c.state_of_bit.result (λ x. x ≡ state_of (committed_bit m (content_in g.D.Disk c.args.cache.now) c.args.bit) (working_bit m (content_in g.D.Disk c.args.cache.now) c.args.bit))) view (c.state_of_bit.ensures.state tells)

pub returns-clause-cause : goal.returns-clause-cause
returns-clause-cause g c =
    let s = c.self.inside in
    let view : bitmaps s.geometry c.deref.result.now c.deref-2.result.now s.counts ≡ c.args.self.now = (λ i. bitmaps s.geometry (c.deref.ensures.value i) (c.deref-2.ensures.value i) s.counts) ∙ c.self.view_is in
    subst (λ (m : Bitmaps). TellsWhy g.D.Disk (IsNamedFor m c.args.bit) c.args.cache.now c.state_of_bit.new.cache c.state_of_bit.result) view c.state_of_bit.ensures.cause

pub returns-clause-sound : goal.returns-clause-sound
returns-clause-sound g c = never_damaged g.D.Disk c.args.self.now c.args.cache.now c.state_of_bit.new.cache c.state_of_bit.result
    (why_within g.D.Disk (IsNamedFor c.args.self.now c.args.bit) (IsNamed c.args.self.now) c.args.cache.now c.state_of_bit.new.cache c.state_of_bit.result (named_for c.args.self.now c.args.bit) (returns-clause-cause g c))

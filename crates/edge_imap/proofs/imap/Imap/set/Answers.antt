use Rattle.std.proofs.Common.{◌≡◌, ℕ, List, sym, ap, subst, ◌∙◌, arith}
use Rattle.std.proofs.lemmas.List.{with_items_is}
use Rattle.std.specs.Prelude.{OnOk}
use Rattle.edge_cache.specs.Calls.{content_in}
use Rattle.edge_imap.specs.Bitmaps.{Bitmaps, bitmaps, IsNamed, IsNamedFor, IsTied, working_bit}
use Rattle.edge_imap.specs.Reading.{TellsWhy, Sets}
use Rattle.edge_imap.proofs.CallLaws.{why_within}
use Rattle.edge_imap.proofs.TieLaws.{named_for, never_damaged, err_map}
use Rattle.edge_imap.proofs.imap.Imap.set.Goals as goal

pub returns-clause-sets : goal.returns-clause-sets
returns-clause-sets g c =
    let s = c.self.inside in
    let is = with_items_is s.working c.set_bit.new.working (omega (arith, c.set_bit.auto.working, c.deref_mut.ensures.len)) in
    let view : bitmaps s.geometry c.deref.result.now c.deref_mut.result.now s.counts ≡ c.args.self.now = (λ i. bitmaps s.geometry (c.deref.ensures.value i) (c.deref_mut.ensures.value i) s.counts) ∙ c.self.view_is in
    let sets = λ (m n : Bitmaps). OnOk c.set_bit.result (Sets g.D.Disk c.args.sequence c.args.bit c.args.used m n c.args.cache.now c.set_bit.new.cache) in
    subst (λ (l : List ℕ). sets c.args.self.now (bitmaps s.geometry s.committed.items l c.set_bit.new.counts)) (sym is)
    (subst (λ (l : List ℕ). sets c.args.self.now (bitmaps s.geometry l c.set_bit.new.working c.set_bit.new.counts)) c.deref.ensures.value
    (subst (λ (m : Bitmaps). sets m (bitmaps s.geometry c.deref.result.now c.set_bit.new.working c.set_bit.new.counts)) view c.set_bit.ensures.sets))

pub returns-clause-idle : goal.returns-clause-idle
returns-clause-idle g c = λ tells has.
    let s = c.self.inside in
    let is = with_items_is s.working c.set_bit.new.working (omega (arith, c.set_bit.auto.working, c.deref_mut.ensures.len)) in
    let view : bitmaps s.geometry c.deref.result.now c.deref_mut.result.now s.counts ≡ c.args.self.now = (λ i. bitmaps s.geometry (c.deref.ensures.value i) (c.deref_mut.ensures.value i) s.counts) ∙ c.self.view_is in
    let did = c.set_bit.ensures.idle tells (ap (λ (m : Bitmaps). working_bit m (content_in g.D.Disk c.args.cache.now) c.args.bit) view ∙ has) in
    ((λ i. bitmaps s.geometry s.committed.items ((is ∙ did.0 ∙ c.deref_mut.ensures.value) i) (did.1 i)) ∙ c.self.view_is, did.2)

pub returns-clause-unset : goal.returns-clause-unset
returns-clause-unset g c =
    let s = c.self.inside in
    let is = with_items_is s.working c.set_bit.new.working (omega (arith, c.set_bit.auto.working, c.deref_mut.ensures.len)) in
    err_map c.set_bit.result (λ h. (λ i. bitmaps s.geometry s.committed.items ((is ∙ h.0 ∙ c.deref_mut.ensures.value) i) (h.1 i)) ∙ c.self.view_is) c.set_bit.ensures.unset

pub returns-clause-cause : goal.returns-clause-cause
returns-clause-cause g c =
    let s = c.self.inside in
    let view : bitmaps s.geometry c.deref.result.now c.deref_mut.result.now s.counts ≡ c.args.self.now = (λ i. bitmaps s.geometry (c.deref.ensures.value i) (c.deref_mut.ensures.value i) s.counts) ∙ c.self.view_is in
    subst (λ (m : Bitmaps). TellsWhy g.D.Disk (IsNamedFor m c.args.bit) c.args.cache.now c.set_bit.new.cache c.set_bit.result) view c.set_bit.ensures.cause

pub returns-clause-tied : goal.returns-clause-tied
returns-clause-tied g c = λ tells t.
    let s = c.self.inside in
    let view : bitmaps s.geometry c.deref.result.now c.deref_mut.result.now s.counts ≡ c.args.self.now = (λ i. bitmaps s.geometry (c.deref.ensures.value i) (c.deref_mut.ensures.value i) s.counts) ∙ c.self.view_is in
    let was = subst (λ (m : Bitmaps). IsTied m (content_in g.D.Disk c.args.cache.now)) (sym view) t in
    let is = with_items_is s.working c.set_bit.new.working (omega (arith, c.set_bit.auto.working, c.deref_mut.ensures.len)) in
    subst (λ (l : List ℕ). IsTied (bitmaps s.geometry s.committed.items l c.set_bit.new.counts) (content_in g.D.Disk c.set_bit.new.cache)) (sym is)
    (subst (λ (l : List ℕ). IsTied (bitmaps s.geometry l c.set_bit.new.working c.set_bit.new.counts) (content_in g.D.Disk c.set_bit.new.cache)) c.deref.ensures.value (c.set_bit.ensures.tied tells was))

pub returns-clause-sound : goal.returns-clause-sound
returns-clause-sound g c = never_damaged g.D.Disk c.args.self.now c.args.cache.now c.set_bit.new.cache c.set_bit.result
    (why_within g.D.Disk (IsNamedFor c.args.self.now c.args.bit) (IsNamed c.args.self.now) c.args.cache.now c.set_bit.new.cache c.set_bit.result (named_for c.args.self.now c.args.bit) (returns-clause-cause g c))

use Rattle.std.proofs.Common.{◌≡◌, ℕ, List, sym, subst, ◌∙◌}
use Rattle.edge_alloc.specs.declared.Counts.{Counts}
use Rattle.edge_imap.specs.Bitmaps.{Bitmaps, bitmaps, IsTied, counts_settled}
use Rattle.edge_imap.proofs.TieLaws.{tie_settled}
use Rattle.edge_imap.proofs.imap.Imap.settle.Goals as goal

pub returns-clause-tied : goal.returns-clause-tied
returns-clause-tied c = λ content t.
    let s = c.self.inside in
    let m = bitmaps s.geometry s.committed.items s.working.items s.counts in
    let counts : Counts = record { free = c.saturating_add.result; almost = 0 } in
    let settled : counts ≡ counts_settled s.counts = λ i. record { free = c.saturating_add.ensures i; almost = 0 } in
    let was = subst (λ (x : Bitmaps). IsTied x content) (sym c.self.view_is) t in
    subst (λ (l : List ℕ). IsTied (bitmaps s.geometry l s.working.items counts) content) (sym (c.copy_from_slice.ensures.items ∙ c.deref.ensures.value))
    (tie_settled m counts content c.request-within_limits.ensures.limits.blocks settled was)

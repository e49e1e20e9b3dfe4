use Rattle.std.proofs.Common.{◌≡◌, ◌∙◌, true, sym, ap, arith}
use Rattle.std.proofs.lemmas.List.{with_items_is}
use Rattle.edge_cache.specs.Kept.{as_read}
use Rattle.edge_cache.proofs.GivenLaws.{gives_write}
use Rattle.edge_cache.proofs.buffer.Buffer.write_to.Goals as goal

pub returns-in_err-write-clause-gives : goal.returns-in_err-write-clause-gives
returns-in_err-write-clause-gives g c =
    let k = c.args.self.now in
    let raw = c.self.inside.bytes.items in
    let new = c.settle-self-inside.new.bytes in
    let is = with_items_is c.self.inside.bytes new (omega (arith, c.settle-self-inside.auto.bytes, c.deref_mut.ensures.len)) in
    let settled : new ≡ k.bytes = c.settle-self-inside.ensures.bytes ∙ ap (as_read c.self.inside.word) c.deref_mut.ensures.value ∙ ap (λ x. x.bytes) c.self.view_is in
    let read = ap (as_read c.settle-self-inside.result) is ∙ c.settle-self-inside.ensures.settled ∙ settled in
    let was : k.changed ≡ true = sym (ap (λ x. x.changed) c.self.view_is) ∙ c.if-self.true in
    gives_write (g.D.Disk.origin c.args.disk.now) k _ c.self.inside.block c.deref.result.now c.write.result (g.D.Disk.faults c.args.disk.now) _ _ _ _ _ _
    was (ap (λ x. x.block) c.self.view_is) (c.deref.ensures.value ∙ is ∙ settled) (ap (λ x. x.block) c.self.view_is) read
    (λ tells off. absurd (cc (off, c.if-self.true)))
    c.write.ensures.shown c.write.ensures.candidates c.write.ensures.sure

pub returns-in_ok-write-clause-gives : goal.returns-in_ok-write-clause-gives
returns-in_ok-write-clause-gives g c =
    let k = c.args.self.now in
    let new = c.settle-self-inside.new.bytes in
    let is = with_items_is c.self.inside.bytes new (omega (arith, c.settle-self-inside.auto.bytes, c.deref_mut.ensures.len)) in
    let settled : new ≡ k.bytes = c.settle-self-inside.ensures.bytes ∙ ap (as_read c.self.inside.word) c.deref_mut.ensures.value ∙ ap (λ x. x.bytes) c.self.view_is in
    let read = ap (as_read c.settle-self-inside.result) is ∙ c.settle-self-inside.ensures.settled ∙ settled in
    let was : k.changed ≡ true = sym (ap (λ x. x.changed) c.self.view_is) ∙ c.if-self.true in
    gives_write (g.D.Disk.origin c.args.disk.now) k _ c.self.inside.block c.deref.result.now c.write.result (g.D.Disk.faults c.args.disk.now) _ _ _ _ _ _
    was (ap (λ x. x.block) c.self.view_is) (c.deref.ensures.value ∙ is ∙ settled) (ap (λ x. x.block) c.self.view_is) read
    (λ tells off. ap (g.D.Disk.shown c.write.new.self) (sym (ap (λ x. x.block) c.self.view_is)) ∙ c.in_ok-write.ensures.shown.done tells ∙ c.deref.ensures.value ∙ is ∙ settled)
    c.write.ensures.shown c.write.ensures.candidates c.write.ensures.sure

use Rattle.std.proofs.Common.{◌∙◌, length, sym, ap, arith}
use Rattle.std.proofs.lemmas.List.{with_items_is}
use Rattle.edge_cache.proofs.SealLaws.{length_as_read}
use Rattle.edge_cache.proofs.buffer.Buffer.fill.Goals as goal

pub read-requires-clause-whole : goal.read-requires-clause-whole
read-requires-clause-whole g c = ap length c.deref_mut.ensures.value ∙ sym (length_as_read c.self.inside.word c.self.inside.bytes.items c.self.invariant.0) ∙ ap (λ k. length k.bytes) c.self.view_is ∙ c.requires.whole

pub returns-in_err-read-clause-len : goal.returns-in_err-read-clause-len
returns-in_err-read-clause-len g c =
    let is = with_items_is c.self.inside.bytes c.read.new.out (omega (arith, c.read.auto.out, c.deref_mut.ensures.len)) in
    ap length is ∙ c.read.auto.out ∙ ap length c.deref_mut.ensures.value ∙ sym (length_as_read c.self.inside.word c.self.inside.bytes.items c.self.invariant.0) ∙ ap (λ k. length k.bytes) c.self.view_is

pub returns-clause-len : goal.returns-clause-len
returns-clause-len g c =
    let is = with_items_is c.self.inside.bytes c.read.new.out (omega (arith, c.read.auto.out, c.deref_mut.ensures.len)) in
    ap length is ∙ c.read.auto.out ∙ ap length c.deref_mut.ensures.value ∙ sym (length_as_read c.self.inside.word c.self.inside.bytes.items c.self.invariant.0) ∙ ap (λ k. length k.bytes) c.self.view_is

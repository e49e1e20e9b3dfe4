use Rattle.std.proofs.Common.{◌≡◌, ℕ, List, length, refl, sym, ap, subst, ◌∙◌, arith}
use Rattle.edge_cache.specs.Calls.{content_in}
use Rattle.edge_cache.specs.Given.{or_shown}
use Rattle.edge_imap.specs.Reading.{ChangesCopy}
use Rattle.edge_imap.proofs.BitLaws.{copy_changes, copy_sequence}
use Rattle.edge_imap.proofs.CallLaws.{reads_same, reads_fault, reads_after, writes_call, writes_after, why_passed, why_device, why_after, shows_on}
use Rattle.edge_imap.proofs.TieLaws.{on_err}
use Rattle.edge_imap.proofs.change.copy_bit.Goals as goal

pub returns-in_err-read_node-clause-fault : goal.returns-in_err-read_node-clause-fault
returns-in_err-read_node-clause-fault g c = on_err c.from_residual.result c.read_node.ensures.reads

pub returns-in_err-read_node-clause-cause : goal.returns-in_err-read_node-clause-cause
returns-in_err-read_node-clause-cause g c =
    why_after g.D.Disk (λ k. k ≡ c.args.from) (λ k. k ≡ c.args.from) c.args.cache.now c.args.cache.now c.read_node.new.cache c.read_node.result _ c.in_err-read_node.field-0.0 (λ k h. h) (reads_same g.D.Disk c.args.cache.now) refl
    c.read_node.ensures.cause c.in_err-read_node.was c.from_residual.ensures

pub change_node-requires : goal.change_node-requires
change_node-requires g c = omega (arith, c.requires.inside, c.requires.whole, c.read_node.auto.out)

pub write-requires-clause-in_range : goal.write-requires-clause-in_range
write-requires-clause-in_range g c = omega (arith, c.requires.to, ap (λ o. o.blocks) c.read_node.ensures.reads.origin)

pub write-requires-clause-inside : goal.write-requires-clause-inside
write-requires-clause-inside g c = omega (arith, c.requires.whole, c.read_node.auto.out, c.change_node.auto.block, ap (λ o. o.block_size) c.read_node.ensures.reads.origin)

pub returns-in_err-write-clause-fault : goal.returns-in_err-write-clause-fault
returns-in_err-write-clause-fault g c = on_err c.from_residual-in_err-write.result (reads_after g.D.Disk _ _ _ c.read_node.ensures.reads (reads_fault g.D.Disk _ _ c.write.ensures.origin c.in_err-write.ensures.fault))

pub returns-in_err-write-clause-cause : goal.returns-in_err-write-clause-cause
returns-in_err-write-clause-cause g c =
    why_device g.D.Disk (λ k. k ≡ c.args.from) c.args.cache.now c.read_node.new.cache c.write.new.self _ c.from_residual-in_err-write.ensures c.in_ok-read_node.ensures.cause.passed c.write.ensures.cause.later c.in_err-write.ensures.cause.failed

pub returns-clause-writes : goal.returns-clause-writes
returns-clause-writes g c = writes_after g.D.Disk c.args.to _ _ _ c.read_node.ensures.reads (writes_call g.D.Disk c.args.to _ _ c.write.ensures.origin c.in_ok-write.ensures.changes)

pub returns-clause-cause : goal.returns-clause-cause
returns-clause-cause g c = why_passed g.D.Disk (λ k. k ≡ c.args.from) _ _ _ (c.in_ok-write.ensures.cause.passed ∙ c.in_ok-read_node.ensures.cause.passed)

pub returns-clause-bits : goal.returns-clause-bits
returns-clause-bits g c = λ tells.
    let d = g.D.Disk in
    let start = c.args.cache.now in
    let mid = c.read_node.new.cache in
    let new = c.write.new.self in
    let tells_mid = shows_on d start mid c.read_node.ensures.reads.origin tells in
    let old = content_in d start c.args.from in
    let read : c.read_node.new.out ≡ old = c.in_ok-read_node.ensures.bytes tells in
    let size : length old ≡ (d.origin start.disk).block_size = sym (ap length read) ∙ c.read_node.auto.out ∙ c.requires.whole in
    let len : length c.change_node.new.block ≡ length old = c.change_node.auto.block ∙ ap length read in
    let spare = content_in d mid c.args.to in
    let len_spare : length spare ≡ length old = c.write.ensures.whole tells_mid c.args.to (omega (arith, c.requires.to, ap (λ o. o.blocks) c.read_node.ensures.reads.origin)) ∙ ap (λ o. o.block_size) c.read_node.ensures.reads.origin ∙ sym size in
    let put = ap (λ w. or_shown w (d.shown new.disk c.args.to)) (c.in_ok-write.ensures.bytes tells_mid) in
    let change = subst (λ (l : List ℕ). ChangesCopy c.args.change.bit c.args.change.used l c.change_node.new.block) read c.change_node.ensures.changed in
    copy_changes _ c.args.change.bit c.args.change.used old spare c.change_node.new.block (content_in d new c.args.to) (omega (arith, c.requires.inside, size)) len len_spare (c.in_ok-write.ensures.word refl) put change

pub returns-clause-sequence : goal.returns-clause-sequence
returns-clause-sequence g c = λ tells.
    let d = g.D.Disk in
    let start = c.args.cache.now in
    let mid = c.read_node.new.cache in
    let new = c.write.new.self in
    let tells_mid = shows_on d start mid c.read_node.ensures.reads.origin tells in
    let size : length c.change_node.new.block ≡ (d.origin start.disk).block_size = c.change_node.auto.block ∙ c.read_node.auto.out ∙ c.requires.whole in
    let spare = content_in d mid c.args.to in
    let len_spare : length spare ≡ length c.change_node.new.block = c.write.ensures.whole tells_mid c.args.to (omega (arith, c.requires.to, ap (λ o. o.blocks) c.read_node.ensures.reads.origin)) ∙ ap (λ o. o.block_size) c.read_node.ensures.reads.origin ∙ sym size in
    let put = ap (λ w. or_shown w (d.shown new.disk c.args.to)) (c.in_ok-write.ensures.bytes tells_mid) in
    copy_sequence spare c.change_node.new.block (content_in d new c.args.to) (omega (arith, size, c.requires.inside)) len_spare put ∙ c.change_node.ensures.sequence

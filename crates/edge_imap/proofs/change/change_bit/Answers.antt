use Rattle.std.proofs.Common.{◌≡◌, ℕ, ◌+◌, ◌/◌, ◌==◌, List, [], ◌∷◌, true, get_or, refl, ap, ◌∙◌, arith}
use Rattle.std.specs.Int.{bit_at}
use Rattle.edge_cache.specs.Blocks.{changed_by}
use Rattle.edge_cache.specs.Calls.{content_in}
use Rattle.edge_cache.specs.Given.{or_shown}
use Rattle.edge_imap.proofs.BitLaws.{read_byte, put_changes, put_sequence}
use Rattle.edge_imap.proofs.CallLaws.{reads_same, reads_call, reads_fault, reads_after, writes_call, writes_after, why_passed, why_device, why_after, shows_on}
use Rattle.edge_imap.proofs.TieLaws.{on_err}
use Rattle.edge_imap.proofs.change.change_bit.Goals as goal

pub returns-in_err-check_word-clause-fault : goal.returns-in_err-check_word-clause-fault
returns-in_err-check_word-clause-fault g c = on_err c.from_residual.result c.check_word.ensures.reads

pub returns-in_err-check_word-clause-cause : goal.returns-in_err-check_word-clause-cause
returns-in_err-check_word-clause-cause g c =
    why_after g.D.Disk (λ k. k ≡ c.args.block) (λ k. k ≡ c.args.block) c.args.cache.now c.args.cache.now c.check_word.new.cache c.check_word.result _ c.in_err-check_word.field-0.0 (λ k h. h) (reads_same g.D.Disk c.args.cache.now) refl
    c.check_word.ensures.cause c.in_err-check_word.was c.from_residual.ensures

pub returns-in_err-read-clause-fault : goal.returns-in_err-read-clause-fault
returns-in_err-read-clause-fault g c = on_err c.from_residual-in_err-read.result (reads_after g.D.Disk _ _ _ c.check_word.ensures.reads (reads_call g.D.Disk _ _ c.read.ensures.origin c.read.ensures.only c.read.ensures.clean))

pub returns-in_err-read-clause-cause : goal.returns-in_err-read-clause-cause
returns-in_err-read-clause-cause g c =
    why_device g.D.Disk (λ k. k ≡ c.args.block) c.args.cache.now c.check_word.new.cache c.read.new.self _ c.from_residual-in_err-read.ensures c.in_ok-check_word.ensures.cause.passed c.read.ensures.cause.later c.in_err-read.ensures.cause.failed

pub returns-in_err-write-clause-fault : goal.returns-in_err-write-clause-fault
returns-in_err-write-clause-fault g c = on_err c.from_residual-in_err-write.result
    (reads_after g.D.Disk _ _ _ (reads_after g.D.Disk _ _ _ c.check_word.ensures.reads (reads_call g.D.Disk _ _ c.read.ensures.origin c.read.ensures.only c.read.ensures.clean))
    (reads_fault g.D.Disk _ _ c.write.ensures.origin c.in_err-write.ensures.fault))

pub returns-in_err-write-clause-cause : goal.returns-in_err-write-clause-cause
returns-in_err-write-clause-cause g c =
    why_device g.D.Disk (λ k. k ≡ c.args.block) c.args.cache.now c.read.new.self c.write.new.self _ c.from_residual-in_err-write.ensures (c.in_ok-read.ensures.cause.passed ∙ c.in_ok-check_word.ensures.cause.passed) c.write.ensures.cause.later c.in_err-write.ensures.cause.failed

pub returns-clause-writes : goal.returns-clause-writes
returns-clause-writes g c =
    writes_after g.D.Disk c.args.block _ _ _ (reads_after g.D.Disk _ _ _ c.check_word.ensures.reads (reads_call g.D.Disk _ _ c.read.ensures.origin c.read.ensures.only c.read.ensures.clean))
    (writes_call g.D.Disk c.args.block _ _ c.write.ensures.origin c.in_ok-write.ensures.changes)

pub returns-clause-cause : goal.returns-clause-cause
returns-clause-cause g c = why_passed g.D.Disk (λ k. k ≡ c.args.block) _ _ _ (c.in_ok-write.ensures.cause.passed ∙ c.in_ok-read.ensures.cause.passed ∙ c.in_ok-check_word.ensures.cause.passed)

pub returns-clause-bits : goal.returns-clause-bits
returns-clause-bits g c = λ tells.
    let d = g.D.Disk in
    let start = c.args.cache.now in
    let one = c.check_word.new.cache in
    let two = c.read.new.self in
    let three = c.write.new.self in
    let block = c.args.block in
    let n = 16 + c.args.at / 8 in
    let reads = reads_after d _ _ _ c.check_word.ensures.reads (reads_call d _ _ c.read.ensures.origin c.read.ensures.only c.read.ensures.clean) in
    let tells_one = shows_on d start one c.check_word.ensures.reads.origin tells in
    let tells_two = shows_on d start two reads.origin tells in
    let old = content_in d start block in
    let len = c.check_word.ensures.whole tells block c.requires.in_range in
    let byte : get_or c.read.new.out 0 0 ≡ get_or old n 0 = read_byte (content_in d one block) c.read.new.out n _ refl (c.in_ok-read.ensures.bytes tells_one) ∙ ap (λ (l : List ℕ). get_or l n 0) (c.check_word.ensures.reads.contents tells block) in
    let put = ap (λ w. or_shown w (d.shown three.disk block)) (c.in_ok-write.ensures.bytes tells_two) ∙ ap (changed_by n (c.with_bit.result ∷ []) true) (reads.contents tells block) in
    put_changes _ c.args.at c.with_bit.result c.args.used old (content_in d three block) (omega (arith, c.requires.inside, len)) (c.in_ok-write.ensures.word refl) put
    c.with_bit.ensures.here (λ k low far. c.with_bit.ensures.others k low far ∙ ap (λ (y : ℕ). bit_at y k == 1) byte)

pub returns-clause-sequence : goal.returns-clause-sequence
returns-clause-sequence g c = λ tells.
    let d = g.D.Disk in
    let start = c.args.cache.now in
    let two = c.read.new.self in
    let three = c.write.new.self in
    let block = c.args.block in
    let reads = reads_after d _ _ _ c.check_word.ensures.reads (reads_call d _ _ c.read.ensures.origin c.read.ensures.only c.read.ensures.clean) in
    let tells_two = shows_on d start two reads.origin tells in
    let len = c.check_word.ensures.whole tells block c.requires.in_range in
    let put = ap (λ w. or_shown w (d.shown three.disk block)) (c.in_ok-write.ensures.bytes tells_two) ∙ ap (changed_by (16 + c.args.at / 8) (c.with_bit.result ∷ []) true) (reads.contents tells block) in
    put_sequence c.args.at c.with_bit.result (content_in d start block) (content_in d three block) (omega (arith, c.requires.inside, len)) put

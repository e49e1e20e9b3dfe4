use Rattle.std.proofs.Common.{sym, ap, ◌∙◌, refl, arith}
use Rattle.edge_base.specs.layout.Spelling.{master_in}
use Rattle.edge_cache.specs.Calls.{content_in}
use Rattle.edge_imap.proofs.BitLaws.{whole_read}
use Rattle.edge_imap.proofs.CallLaws.{reads_call}
use Rattle.edge_mount.specs.Mounting.{image_of}
use Rattle.edge_mount.proofs.ReasonLaws.{no_master, other_size, too_large}
use Rattle.edge_mount.proofs.TellsLaws.{tells_device, tells_passed, tells_reason}
use Rattle.edge_mount.proofs.master.read_master.Goals as goal

pub returns-in_err-read-clause-reads : goal.returns-in_err-read-clause-reads
returns-in_err-read-clause-reads g c = reads_call g.D.Disk _ _ c.read.ensures.origin c.read.ensures.only c.read.ensures.clean

pub returns-in_err-read-clause-cause : goal.returns-in_err-read-clause-cause
returns-in_err-read-clause-cause g c = tells_device g.D.Disk _ c.args.cache.now c.args.cache.now c.read.new.self _ c.from_residual.ensures refl
    c.read.ensures.cause.later c.in_err-read.ensures.cause.failed

pub returns-in_default-clause-reads : goal.returns-in_default-clause-reads
returns-in_default-clause-reads g c = reads_call g.D.Disk _ _ c.read.ensures.origin c.read.ensures.only c.read.ensures.clean

pub returns-in_default-clause-cause : goal.returns-in_default-clause-cause
returns-in_default-clause-cause g c = tells_reason g.D.Disk _ c.args.cache.now c.read.new.self 1 c.in_ok-read.ensures.cause.passed (λ shows.
    let content = content_in g.D.Disk c.args.cache.now in
    let len = c.read.ensures.whole shows 0 (omega (arith, c.requires.blocks, c.requires.three)) in
    let bytes = c.in_ok-read.ensures.bytes shows ∙ whole_read (content 0) c.args.block.now (len ∙ sym c.requires.block) in
    no_master (image_of g.D.Disk c.args.cache.now) (omega (arith, c.requires.blocks, c.requires.three)) c.in_default.field-0
    (sym (ap master_in bytes) ∙ sym c.in_default.ensures.exact))

pub returns-then-request-block_size-clause-reads : goal.returns-then-request-block_size-clause-reads
returns-then-request-block_size-clause-reads g c = reads_call g.D.Disk _ _ c.read.ensures.origin c.read.ensures.only c.read.ensures.clean

pub returns-then-request-block_size-clause-cause : goal.returns-then-request-block_size-clause-cause
returns-then-request-block_size-clause-cause g c = tells_reason g.D.Disk _ c.args.cache.now c.read.new.self 2 c.in_ok-read.ensures.cause.passed (λ shows.
    let content = content_in g.D.Disk c.args.cache.now in
    let len = c.read.ensures.whole shows 0 (omega (arith, c.requires.blocks, c.requires.three)) in
    let bytes = c.in_ok-read.ensures.bytes shows ∙ whole_read (content 0) c.args.block.now (len ∙ sym c.requires.block) in
    other_size (image_of g.D.Disk c.args.cache.now) c.in-Ok.master (omega (arith, c.requires.blocks, c.requires.three))
    (sym (ap master_in bytes) ∙ sym c.in-Ok.ensures.exact)
    (λ e. c.if-request-block_size.true (ap (λ r. r.block_size) c.request-request.ensures.same ∙ e ∙ sym c.requires.size)))

pub returns-then-blocks-request-clause-reads : goal.returns-then-blocks-request-clause-reads
returns-then-blocks-request-clause-reads g c = reads_call g.D.Disk _ _ c.read.ensures.origin c.read.ensures.only c.read.ensures.clean

pub returns-then-blocks-request-clause-cause : goal.returns-then-blocks-request-clause-cause
returns-then-blocks-request-clause-cause g c = tells_reason g.D.Disk _ c.args.cache.now c.read.new.self 3 c.in_ok-read.ensures.cause.passed (λ shows.
    let content = content_in g.D.Disk c.args.cache.now in
    let len = c.read.ensures.whole shows 0 (omega (arith, c.requires.blocks, c.requires.three)) in
    let bytes = c.in_ok-read.ensures.bytes shows ∙ whole_read (content 0) c.args.block.now (len ∙ sym c.requires.block) in
    too_large (image_of g.D.Disk c.args.cache.now) c.in-Ok.master (omega (arith, c.requires.blocks, c.requires.three))
    (sym (ap master_in bytes) ∙ sym c.in-Ok.ensures.exact)
    (sym (ap (λ r. r.block_size) c.request-request.ensures.same) ∙ c.if-request-block_size.false ∙ c.requires.size)
    (omega (arith, c.requires.blocks, ap (λ r. r.blocks) c.request-request.ensures.same)))

pub returns-clause-master : goal.returns-clause-master
returns-clause-master g c = λ shows.
    let content = content_in g.D.Disk c.args.cache.now in
    let len = c.read.ensures.whole shows 0 (omega (arith, c.requires.blocks, c.requires.three)) in
    let bytes = c.in_ok-read.ensures.bytes shows ∙ whole_read (content 0) c.args.block.now (len ∙ sym c.requires.block) in
    sym (ap master_in bytes) ∙ sym c.in-Ok.ensures.exact

pub returns-clause-fits : goal.returns-clause-fits
returns-clause-fits g c = record {
  size = sym (sym (ap (λ r. r.block_size) c.request-request.ensures.same) ∙ c.if-request-block_size.false ∙ c.requires.size);
  blocks = omega (arith, c.requires.blocks, ap (λ r. r.blocks) c.request-request.ensures.same);
}

pub returns-clause-reads : goal.returns-clause-reads
returns-clause-reads g c = reads_call g.D.Disk _ _ c.read.ensures.origin c.read.ensures.only c.read.ensures.clean

pub returns-clause-cause : goal.returns-clause-cause
returns-clause-cause g c = tells_passed g.D.Disk _ c.args.cache.now c.read.new.self _ c.in_ok-read.ensures.cause.passed

use Rattle.edge_cache.specs.Calls.{content_in}
use Rattle.edge_imap.proofs.LoadLaws.{not_memory, tells_same, tells_passed, load_tied}
use Rattle.edge_imap.proofs.imap.Imap.load_in.Goals as goal

pub returns-clause-tied : goal.returns-clause-tied
returns-clause-tied g c = λ tells.
    load_tied c.args.g c.args.live_bits.now c.copy_from_slice.new.self.items c.copy_from_slice-2.new.self.items (content_in g.D.Disk c.args.cache.now) (content_in g.D.Disk c.load_roots.new.cache) c.in_ok-tally.tally.blocks
    c.copy_from_slice.ensures.items c.copy_from_slice-2.ensures.items (c.load_roots.ensures.reads.contents tells) (c.in_ok-tally.ensures.nodes tells) (c.in_ok-tally.ensures.count tells)

pub returns-clause-cause : goal.returns-clause-cause
returns-clause-cause g c = tells_passed g.D.Disk c.args.g c.args.live_bits.now c.args.cache.now c.load_roots.new.cache _ c.in_ok-tally.ensures.cause.passed

pub returns-in_err-tally-clause-memory : goal.returns-in_err-tally-clause-memory
returns-in_err-tally-clause-memory g c = not_memory c.load_roots.result _ c.in_err-tally.field-0.0 c.load_roots.ensures.memory c.in_err-tally.was c.from_residual.ensures

pub returns-in_err-tally-clause-cause : goal.returns-in_err-tally-clause-cause
returns-in_err-tally-clause-cause g c =
    tells_same g.D.Disk c.args.g c.args.live_bits.now c.args.cache.now c.load_roots.new.cache c.load_roots.result _ c.in_err-tally.field-0.0 c.load_roots.ensures.cause c.in_err-tally.was c.from_residual.ensures

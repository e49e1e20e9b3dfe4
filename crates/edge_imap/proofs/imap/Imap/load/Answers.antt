use Rattle.edge_imap.proofs.CallLaws.{reads_same}
use Rattle.edge_imap.proofs.LoadLaws.{tells_memory, tells_same}
use Rattle.edge_imap.proofs.imap.Imap.load.Goals as goal

pub returns-in_err-room-clause-cause : goal.returns-in_err-room-clause-cause
returns-in_err-room-clause-cause g c = tells_memory g.D.Disk c.args.g c.args.live_bits.now c.args.cache.now _ c.from_residual.ensures

pub returns-in_err-room-clause-reads : goal.returns-in_err-room-clause-reads
returns-in_err-room-clause-reads g c = reads_same g.D.Disk c.args.cache.now

pub returns-in_err-load_in-clause-cause : goal.returns-in_err-load_in-clause-cause
returns-in_err-load_in-clause-cause g c =
    tells_same g.D.Disk c.args.g c.args.live_bits.now c.args.cache.now c.load_in.new.cache c.load_in.result _ c.in_err-load_in.field-0.0
    c.load_in.ensures.cause c.in_err-load_in.was c.from_residual-in_err-load_in.ensures

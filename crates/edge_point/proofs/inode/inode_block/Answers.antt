use Rattle.std.proofs.Common.{refl}
use Rattle.edge_point.specs.Seen.{state_of}
use Rattle.edge_point.proofs.FoundLaws.{called_err, called_ok, meets_err, meets_ok, place_found}
use Rattle.edge_point.proofs.inode.inode_block.Goals as goal

pub returns-in-Ok-clause-called : goal.returns-in-Ok-clause-called
returns-in-Ok-clause-called g c = called_ok (state_of g.D.Disk c.args.p.now) (state_of g.D.Disk c.find.new.p) c.in-Ok.found _ c.in-Ok.ensures.called

pub returns-in-Ok-clause-damage : goal.returns-in-Ok-clause-damage
returns-in-Ok-clause-damage g c = λ told.
    let p = c.args.p.now in
    let q = c.find.new.p in
    meets_ok (state_of g.D.Disk p) (state_of g.D.Disk q) p.master.geometry _ q.block.items _ c.find.ensures.working c.in-Ok.found _ (c.in-Ok.ensures.tells told)

pub returns-in-Ok-clause-place : goal.returns-in-Ok-clause-place
returns-in-Ok-clause-place g c = λ told.
    let p = c.args.p.now in
    place_found p.master.geometry ((state_of g.D.Disk p).places c.args.n) c.find.new.p.block.items ((state_of g.D.Disk p).working.inodes c.args.n) c.in-Ok.found c.block_of.result
    (c.requires.there told) (c.in-Ok.ensures.tells told) c.block_of.ensures

pub returns-in-Err-clause-called : goal.returns-in-Err-clause-called
returns-in-Err-clause-called g c =
    called_err (state_of g.D.Disk c.args.p.now) (state_of g.D.Disk c.find.new.p) c.find.result _ c.in-Err.fault c.find.ensures.called c.in-Err.is refl

pub returns-in-Err-clause-damage : goal.returns-in-Err-clause-damage
returns-in-Err-clause-damage g c = λ told.
    let p = c.args.p.now in
    let q = c.find.new.p in
    meets_err (state_of g.D.Disk p) (state_of g.D.Disk q) p.master.geometry _ q.block.items _ c.find.ensures.working c.find.result _ c.in-Err.fault (c.find.ensures.tells told) c.in-Err.is refl

use Rattle.std.proofs.Common.{◌≡◌, ◌+◌, ◌*◌, refl, ap, ◌∙◌, length, arith}
use Rattle.edge_base.specs.declared.geometry.Request.{Request}
use Rattle.edge_base.specs.layout.Bytes.{number_at}
use Rattle.edge_point.specs.Seen.{state_of}
use Rattle.edge_point.proofs.FoundLaws.{called_err, called_ok, meets_err, meets_ok, entry_found}
use Rattle.edge_point.proofs.inode.entry.Goals as goal

pub returns-in-Ok-clause-called : goal.returns-in-Ok-clause-called
returns-in-Ok-clause-called g c = called_ok (state_of g.D.Disk c.args.p.now) (state_of g.D.Disk c.find.new.p) c.in-Ok.field-0 _ c.in-Ok.ensures.called

pub returns-in-Ok-clause-damage : goal.returns-in-Ok-clause-damage
returns-in-Ok-clause-damage g c = λ told.
    let p = c.args.p.now in
    let q = c.find.new.p in
    meets_ok (state_of g.D.Disk p) (state_of g.D.Disk q) p.master.geometry _ q.block.items _ c.find.ensures.working c.in-Ok.field-0 _ (c.in-Ok.ensures.tells told)

pub entry_of-requires : goal.entry_of-requires
entry_of-requires g c =
    let block : length c.find.new.p.block.items ≡ c.args.p.now.master.geometry.block_size
    = c.find.ensures.stands.block ∙ ap (λ (r : Request). r.block_size) c.find.ensures.geometry in
    omega (arith, block, c.requires.entry)

pub returns-in-Ok-clause-entry : goal.returns-in-Ok-clause-entry
returns-in-Ok-clause-entry g c = λ told.
    let p = c.args.p.now in
    let s = state_of g.D.Disk p in
    entry_found p.master.geometry (s.places c.args.n) c.find.new.p.block.items (s.working.inodes c.args.n) c.in-Ok.field-0 c.args.i c.entry_of.result
    (c.requires.there told) (c.in-Ok.ensures.tells told) c.requires.entry (c.entry_of.ensures ∙ ap (number_at (32 + 4 * c.args.i) 4) c.deref.ensures.value)

pub returns-in-Err-clause-called : goal.returns-in-Err-clause-called
returns-in-Err-clause-called g c =
    called_err (state_of g.D.Disk c.args.p.now) (state_of g.D.Disk c.find.new.p) c.find.result _ c.in-Err.fault c.find.ensures.called c.in-Err.is refl

pub returns-in-Err-clause-damage : goal.returns-in-Err-clause-damage
returns-in-Err-clause-damage g c = λ told.
    let p = c.args.p.now in
    let q = c.find.new.p in
    meets_err (state_of g.D.Disk p) (state_of g.D.Disk q) p.master.geometry _ q.block.items _ c.find.ensures.working c.find.result _ c.in-Err.fault (c.find.ensures.tells told) c.in-Err.is refl

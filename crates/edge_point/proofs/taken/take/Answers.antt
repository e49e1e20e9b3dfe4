use Rattle.std.proofs.Common.{◌+◌, ◌∙◌}
use Rattle.edge_point.specs.Seen.{state_of}
use Rattle.edge_point.proofs.AnswerLaws.{allocable_mid, called_then, keeps_then, moved_called, moved_keeps, moved_point, never_told, number_mid, told_mid}
use Rattle.edge_point.proofs.FindLaws.{err_is}
use Rattle.edge_point.proofs.FoundLaws.{called_err, called_ok}
use Rattle.edge_point.proofs.FreeLaws.{free_mid, takes_from}
use Rattle.edge_point.proofs.taken.take.Goals as goal

pub returns-in_err-b-clause-called : goal.returns-in_err-b-clause-called
returns-in_err-b-clause-called g c = called_err (state_of g.D.Disk c.args.p.now) (state_of g.D.Disk c.find_free.new.p) c.find_free.result _ c.in_err-b.field-0.0
    c.find_free.ensures.called c.in_err-b.was (err_is _ _ c.from_residual.ensures)

pub returns-in_err-b-clause-undamaged : goal.returns-in_err-b-clause-undamaged
returns-in_err-b-clause-undamaged g c = λ told.
    never_told c.find_free.result _ c.in_err-b.field-0.0 c.in_err-b.was (err_is _ _ c.from_residual.ensures) (c.find_free.ensures.undamaged told)

pub take_at-requires-clause-live : goal.take_at-requires-clause-live
take_at-requires-clause-live g c = c.in_ok-b.ensures.called.live

pub take_at-requires-clause-block : goal.take_at-requires-clause-block
take_at-requires-clause-block g c = allocable_mid (state_of g.D.Disk c.args.p.now) (state_of g.D.Disk c.find_free.new.p) c.find_free.ensures.called.origin _
    c.in_ok-b.ensures.block

pub take_at-requires-clause-owner : goal.take_at-requires-clause-owner
take_at-requires-clause-owner g c = number_mid (state_of g.D.Disk c.args.p.now) (state_of g.D.Disk c.find_free.new.p) c.find_free.ensures.called.origin
    c.args.owner c.requires.owner

pub take_at-requires-clause-free : goal.take_at-requires-clause-free
take_at-requires-clause-free g c = free_mid (state_of g.D.Disk c.args.p.now) (state_of g.D.Disk c.find_free.new.p) c.find_free.ensures.called.origin
    (state_of g.D.Disk c.find_free.new.p) c.find_free.ensures.point.committed c.find_free.ensures.working.working _ c.in_ok-b.ensures.free

pub returns-in_err-take_at-clause-called : goal.returns-in_err-take_at-clause-called
returns-in_err-take_at-clause-called g c =
    let s = state_of g.D.Disk c.args.p.now in
    let m = state_of g.D.Disk c.find_free.new.p in
    let n = state_of g.D.Disk c.take_at.new.p in
    called_err s n c.take_at.result _ c.in_err-take_at.field-0.0
    (called_then s m n c.in_ok-b.b c.take_at.result c.in_ok-b.ensures.called c.take_at.ensures.called) c.in_err-take_at.was
    (err_is _ _ c.from_residual-in_err-take_at.ensures)

pub returns-in_err-take_at-clause-point : goal.returns-in_err-take_at-clause-point
returns-in_err-take_at-clause-point g c = keeps_then (state_of g.D.Disk c.args.p.now) (state_of g.D.Disk c.find_free.new.p) (state_of g.D.Disk c.take_at.new.p)
    c.find_free.ensures.point c.take_at.ensures.point

pub returns-in_err-take_at-clause-undamaged : goal.returns-in_err-take_at-clause-undamaged
returns-in_err-take_at-clause-undamaged g c = λ told.
    never_told c.take_at.result _ c.in_err-take_at.field-0.0 c.in_err-take_at.was (err_is _ _ c.from_residual-in_err-take_at.ensures)
    (c.take_at.ensures.undamaged (told_mid (state_of g.D.Disk c.args.p.now) (state_of g.D.Disk c.find_free.new.p) c.find_free.ensures.called.origin told))

pub returns-clause-stands : goal.returns-clause-stands
returns-clause-stands g c = moved_point g.D.Disk c.take_at.new.p (c.in_ok-b.b + 1) c.take_at.ensures.stands

pub returns-clause-called : goal.returns-clause-called
returns-clause-called g c =
    let s = state_of g.D.Disk c.args.p.now in
    let m = state_of g.D.Disk c.find_free.new.p in
    let n = state_of g.D.Disk c.take_at.new.p in
    moved_called g.D.Disk s c.take_at.new.p (c.in_ok-b.b + 1) c.in_ok-b.b
    (called_ok s n tt c.in_ok-b.b (called_then s m n c.in_ok-b.b _ c.in_ok-b.ensures.called c.in_ok-take_at.ensures.called))

pub returns-clause-point : goal.returns-clause-point
returns-clause-point g c = moved_keeps g.D.Disk (state_of g.D.Disk c.args.p.now) c.take_at.new.p (c.in_ok-b.b + 1)
    (keeps_then (state_of g.D.Disk c.args.p.now) (state_of g.D.Disk c.find_free.new.p) (state_of g.D.Disk c.take_at.new.p)
    c.find_free.ensures.point c.take_at.ensures.point)

pub returns-clause-places : goal.returns-clause-places
returns-clause-places g c = c.in_ok-take_at.ensures.places ∙ c.find_free.ensures.working.places

pub returns-clause-taken : goal.returns-clause-taken
returns-clause-taken g c = takes_from (state_of g.D.Disk c.args.p.now) (state_of g.D.Disk c.find_free.new.p) c.find_free.ensures.called.origin
    (state_of g.D.Disk c.take_at.new.p) c.find_free.ensures.point.committed c.find_free.ensures.working.working c.args.form c.args.owner c.in_ok-b.b
    c.in_ok-take_at.ensures.taken

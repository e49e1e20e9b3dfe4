use Rattle.std.proofs.Common.{◌∙◌}
use Rattle.edge_point.specs.Seen.{state_of}
use Rattle.edge_point.proofs.AnswerLaws.{allocable_mid, called_then, keeps_then, never_told, number_mid, told_mid}
use Rattle.edge_point.proofs.PlacedLaws.{ok_map}
use Rattle.edge_point.proofs.EffectLaws.{taken_of}
use Rattle.edge_point.proofs.FindLaws.{err_is}
use Rattle.edge_point.proofs.FoundLaws.{called_err}
use Rattle.edge_point.proofs.FreeLaws.{emptied_from, new_of}
use Rattle.edge_point.proofs.taken.take_at.Goals as goal

pub returns-in_err-set_use-clause-called : goal.returns-in_err-set_use-clause-called
returns-in_err-set_use-clause-called g c = called_err (state_of g.D.Disk c.args.p.now) (state_of g.D.Disk c.set_use.new.p) c.set_use.result _
    c.in_err-set_use.field-0.0
    c.set_use.ensures.called c.in_err-set_use.was (err_is _ _ c.from_residual.ensures)

pub returns-in_err-set_use-clause-undamaged : goal.returns-in_err-set_use-clause-undamaged
returns-in_err-set_use-clause-undamaged g c = λ told.
    never_told c.set_use.result _ c.in_err-set_use.field-0.0 c.in_err-set_use.was (err_is _ _ c.from_residual.ensures) (c.set_use.ensures.undamaged told)

pub put_empty-requires-clause-live : goal.put_empty-requires-clause-live
put_empty-requires-clause-live g c = c.in_ok-set_use.ensures.called.live

pub put_empty-requires-clause-block : goal.put_empty-requires-clause-block
put_empty-requires-clause-block g c = allocable_mid (state_of g.D.Disk c.args.p.now) (state_of g.D.Disk c.set_use.new.p) c.set_use.ensures.called.origin
    c.args.b c.requires.block

pub put_empty-requires-clause-owner : goal.put_empty-requires-clause-owner
put_empty-requires-clause-owner g c = number_mid (state_of g.D.Disk c.args.p.now) (state_of g.D.Disk c.set_use.new.p) c.set_use.ensures.called.origin
    c.args.owner c.requires.owner

pub put_empty-requires-clause-is_new : goal.put_empty-requires-clause-is_new
put_empty-requires-clause-is_new g c = new_of (state_of g.D.Disk c.args.p.now) (state_of g.D.Disk c.set_use.new.p) c.set_use.ensures.called.origin c.args.b
    c.set_use.ensures.point c.requires.free c.in_ok-set_use.ensures.set

pub returns-clause-called : goal.returns-clause-called
returns-clause-called g c = called_then (state_of g.D.Disk c.args.p.now) (state_of g.D.Disk c.set_use.new.p) (state_of g.D.Disk c.put_empty.new.p) tt
    c.put_empty.result
    c.in_ok-set_use.ensures.called c.put_empty.ensures.called

pub returns-clause-point : goal.returns-clause-point
returns-clause-point g c = keeps_then (state_of g.D.Disk c.args.p.now) (state_of g.D.Disk c.set_use.new.p) (state_of g.D.Disk c.put_empty.new.p)
    c.set_use.ensures.point c.put_empty.ensures.point

pub returns-clause-undamaged : goal.returns-clause-undamaged
returns-clause-undamaged g c = λ told.
    c.put_empty.ensures.undamaged (told_mid (state_of g.D.Disk c.args.p.now) (state_of g.D.Disk c.set_use.new.p) c.set_use.ensures.called.origin told)

pub returns-clause-places : goal.returns-clause-places
returns-clause-places g c = ok_map c.put_empty.result (λ e. e ∙ c.in_ok-set_use.ensures.places) c.put_empty.ensures.places

pub returns-clause-taken : goal.returns-clause-taken
returns-clause-taken g c =
    let s = state_of g.D.Disk c.args.p.now in
    let m = state_of g.D.Disk c.set_use.new.p in
    let n = state_of g.D.Disk c.put_empty.new.p in
    ok_map c.put_empty.result (λ empties told. taken_of s.origin.request s.committed s.working m.working n.working c.args.form c.args.owner c.args.b
    (c.requires.free told) (c.in_ok-set_use.ensures.set told) (emptied_from s m c.set_use.ensures.called.origin n c.args.form c.args.owner c.args.b empties
    told))
    c.put_empty.ensures.empties

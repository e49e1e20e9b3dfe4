use Rattle.std.proofs.Common.{◌+◌, ◌*◌, true, length, replicate, refl, ap, ◌∙◌, arith}
use Rattle.edge_cache.specs.Blocks.{changed_by}
use Rattle.edge_cache.proofs.SealLaws.{word_put}
use Rattle.edge_nodes.proofs.GeometryLaws.{geometry_long}
use Rattle.edge_store.specs.Damages.{damage_at}
use Rattle.edge_store.proofs.ViewLaws.{spot_of}
use Rattle.edge_point.specs.Seen.{state_of}
use Rattle.edge_point.proofs.AnswerLaws.{allocable_mid, called_then, keeps_then, on_both, told_mid}
use Rattle.edge_point.proofs.PlacedLaws.{ok_map}
use Rattle.edge_point.proofs.EffectLaws.{meets_as, meets_then, pointer_of}
use Rattle.edge_point.proofs.FindLaws.{err_is}
use Rattle.edge_point.proofs.FoundLaws.{called_err}
use Rattle.edge_point.proofs.FreeLaws.{new_mid, put_from}
use Rattle.edge_point.proofs.PutLaws.{block_held}
use Rattle.edge_point.proofs.written.set_pointer.Goals as goal

pub returns-in_err-look-clause-called : goal.returns-in_err-look-clause-called
returns-in_err-look-clause-called g c = called_err (state_of g.D.Disk c.args.p.now) (state_of g.D.Disk c.look.new.p) c.look.result _ c.in_err-look.field-0.0
    c.look.ensures.called c.in_err-look.was (err_is _ _ c.from_residual.ensures)

pub returns-in_err-look-clause-damage : goal.returns-in_err-look-clause-damage
returns-in_err-look-clause-damage g c = λ told.
    let s = state_of g.D.Disk c.args.p.now in
    meets_as (damage_at s.working c.args.s.form c.args.s.owner c.args.s.block) s (state_of g.D.Disk c.look.new.p) c.look.result _ c.in_err-look.field-0.0
    (c.look.ensures.damage told) c.in_err-look.was (err_is _ _ c.from_residual.ensures)

pub put-requires-clause-live : goal.put-requires-clause-live
put-requires-clause-live g c = c.in_ok-look.ensures.called.live

pub put-requires-clause-block : goal.put-requires-clause-block
put-requires-clause-block g c = allocable_mid (state_of g.D.Disk c.args.p.now) (state_of g.D.Disk c.look.new.p) c.look.ensures.called.origin c.args.s.block
    c.requires.block

pub put-requires-clause-is_new : goal.put-requires-clause-is_new
put-requires-clause-is_new g c = new_mid (state_of g.D.Disk c.args.p.now) (state_of g.D.Disk c.look.new.p) c.look.ensures.called.origin
    (state_of g.D.Disk c.look.new.p) c.look.ensures.point.committed c.look.ensures.working.working c.args.s.block c.requires.is_new

pub returns-clause-called : goal.returns-clause-called
returns-clause-called g c = called_then (state_of g.D.Disk c.args.p.now) (state_of g.D.Disk c.look.new.p) (state_of g.D.Disk c.put.new.p) tt c.put.result
    c.in_ok-look.ensures.called c.put.ensures.called

pub returns-clause-point : goal.returns-clause-point
returns-clause-point g c = keeps_then (state_of g.D.Disk c.args.p.now) (state_of g.D.Disk c.look.new.p) (state_of g.D.Disk c.put.new.p) c.look.ensures.point
    c.put.ensures.point

pub returns-clause-damage : goal.returns-clause-damage
returns-clause-damage g c = λ told.
    let s = state_of g.D.Disk c.args.p.now in
    let m = state_of g.D.Disk c.look.new.p in
    meets_then (damage_at s.working c.args.s.form c.args.s.owner c.args.s.block) s m (state_of g.D.Disk c.put.new.p) tt c.put.result
    (c.in_ok-look.ensures.damage told) (c.put.ensures.undamaged (told_mid s m c.look.ensures.called.origin told))

pub returns-clause-places : goal.returns-clause-places
returns-clause-places g c = ok_map c.put.result (λ e. e ∙ c.look.ensures.working.places) c.put.ensures.places

pub returns-clause-set : goal.returns-clause-set
returns-clause-set g c =
    let d = g.D.Disk in
    let p = c.args.p.now in
    let s = state_of d p in
    let m = state_of d c.look.new.p in
    let q = c.put.new.p in
    let n = state_of d q in
    let b = c.args.s.block in
    let long = geometry_long p.master.geometry c.requires.stands.geometry in
    let word = c.write_u32.new.buf in
    on_both c.put.result (λ puts holds told. pointer_of p.master.geometry s.working n.working c.args.s.owner b c.args.i c.args.to word
    (let place = c.requires.place in let whole = long.pointers in omega arith) (c.ranges.to.fits)
    (word_put c.args.to word (replicate 4 0) refl c.write_u32.ensures)
    (put_from s m c.look.ensures.called.origin n b (changed_by (20 + 4 * c.args.i) word true) c.look.ensures.working.working puts told)
    (λ block e. holds (told_mid m n c.put.ensures.called.origin (told_mid s m c.look.ensures.called.origin told)) block e)
    c.args.s.form c.requires.form
    (λ block e. ap length (block_held d p b c.requires.block c.requires.stands c.requires.live told block e)
    ∙ (c.requires.stands.told c.requires.live told).whole b c.requires.block)
    (spot_of s.working c.args.s.form c.args.s.owner b (c.in_ok-look.ensures.damage told).none)) c.put.ensures.put (c.put.ensures.word refl)

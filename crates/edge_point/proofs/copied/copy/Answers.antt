use Rattle.std.proofs.Common.{◌∙◌, ◌+◌, sym, subst}
use Rattle.edge_store.specs.Damages.{damage_at}
use Rattle.edge_store.proofs.ViewLaws.{spot_of}
use Rattle.edge_point.specs.Seen.{state_of}
use Rattle.edge_point.specs.Uses.{HoldsBytes}
use Rattle.edge_point.proofs.AnswerLaws.{allocable_mid, called_then, keeps_then, moved_called, moved_keeps, moved_point, never_ok, never_told, room_mid, told_mid}
use Rattle.edge_point.proofs.EffectLaws.{meets_as, meets_then}
use Rattle.edge_point.proofs.FindLaws.{err_is}
use Rattle.edge_point.proofs.FoundLaws.{called_err, called_ok}
use Rattle.edge_point.proofs.FreeLaws.{bytes_mid, copies_from, free_mid, spot_mid}
use Rattle.edge_point.proofs.copied.copy.Goals as goal

pub returns-in_err-open_block-clause-called : goal.returns-in_err-open_block-clause-called
returns-in_err-open_block-clause-called g c = called_err (state_of g.D.Disk c.args.p.now) (state_of g.D.Disk c.open_block.new.p) c.open_block.result _
    c.in_err-open_block.field-0.0
    c.open_block.ensures.called c.in_err-open_block.was (err_is _ _ c.from_residual.ensures)

pub returns-in_err-open_block-clause-damage : goal.returns-in_err-open_block-clause-damage
returns-in_err-open_block-clause-damage g c = λ told.
    let s = state_of g.D.Disk c.args.p.now in
    meets_as (damage_at s.working c.args.s.form c.args.s.owner c.args.s.block) s (state_of g.D.Disk c.open_block.new.p) c.open_block.result _
    c.in_err-open_block.field-0.0
    (c.open_block.ensures.damage told) c.in_err-open_block.was (err_is _ _ c.from_residual.ensures)

pub find_free-requires-clause-live : goal.find_free-requires-clause-live
find_free-requires-clause-live g c = c.in_ok-open_block.ensures.called.live

pub find_free-requires-clause-room : goal.find_free-requires-clause-room
find_free-requires-clause-room g c = room_mid (state_of g.D.Disk c.args.p.now) (state_of g.D.Disk c.open_block.new.p) c.open_block.ensures.called.origin
    c.open_block.ensures.point.committed c.open_block.ensures.working.working c.requires.room

pub returns-in_err-b-clause-called : goal.returns-in_err-b-clause-called
returns-in_err-b-clause-called g c =
    let s = state_of g.D.Disk c.args.p.now in
    let m = state_of g.D.Disk c.open_block.new.p in
    let n = state_of g.D.Disk c.find_free.new.p in
    called_err s n c.find_free.result _ c.in_err-b.field-0.0
    (called_then s m n tt c.find_free.result c.in_ok-open_block.ensures.called c.find_free.ensures.called) c.in_err-b.was
    (err_is _ _ c.from_residual-in_err-b.ensures)

pub returns-in_err-b-clause-point : goal.returns-in_err-b-clause-point
returns-in_err-b-clause-point g c = keeps_then (state_of g.D.Disk c.args.p.now) (state_of g.D.Disk c.open_block.new.p) (state_of g.D.Disk c.find_free.new.p)
    c.open_block.ensures.point c.find_free.ensures.point

pub returns-in_err-b-clause-damage : goal.returns-in_err-b-clause-damage
returns-in_err-b-clause-damage g c = λ told.
    let s = state_of g.D.Disk c.args.p.now in
    let m = state_of g.D.Disk c.open_block.new.p in
    meets_then (damage_at s.working c.args.s.form c.args.s.owner c.args.s.block) s m (state_of g.D.Disk c.find_free.new.p) tt _
    (c.in_ok-open_block.ensures.damage told)
    (never_told c.find_free.result _ c.in_err-b.field-0.0 c.in_err-b.was (err_is _ _ c.from_residual-in_err-b.ensures)
    (c.find_free.ensures.undamaged (told_mid s m c.open_block.ensures.called.origin told)))

pub copy_to-requires-clause-live : goal.copy_to-requires-clause-live
copy_to-requires-clause-live g c = c.in_ok-b.ensures.called.live

pub copy_to-requires-clause-from : goal.copy_to-requires-clause-from
copy_to-requires-clause-from g c = allocable_mid (state_of g.D.Disk c.args.p.now) (state_of g.D.Disk c.find_free.new.p)
    (c.find_free.ensures.called.origin ∙ c.open_block.ensures.called.origin) c.args.s.block c.requires.block

pub copy_to-requires-clause-block : goal.copy_to-requires-clause-block
copy_to-requires-clause-block g c = allocable_mid (state_of g.D.Disk c.open_block.new.p) (state_of g.D.Disk c.find_free.new.p)
    c.find_free.ensures.called.origin c.in_ok-b.b c.in_ok-b.ensures.block

pub copy_to-requires-clause-free : goal.copy_to-requires-clause-free
copy_to-requires-clause-free g c = free_mid (state_of g.D.Disk c.open_block.new.p) (state_of g.D.Disk c.find_free.new.p) c.find_free.ensures.called.origin
    (state_of g.D.Disk c.find_free.new.p) c.find_free.ensures.point.committed c.find_free.ensures.working.working c.in_ok-b.b c.in_ok-b.ensures.free

pub copy_to-requires-clause-spot : goal.copy_to-requires-clause-spot
copy_to-requires-clause-spot g c =
    let s = state_of g.D.Disk c.args.p.now in
    let m = state_of g.D.Disk c.find_free.new.p in
    spot_mid s m (c.find_free.ensures.called.origin ∙ c.open_block.ensures.called.origin) m
    (c.find_free.ensures.point.committed ∙ c.open_block.ensures.point.committed)
    (c.find_free.ensures.working.working ∙ c.open_block.ensures.working.working) c.args.s
    (λ told. spot_of s.working c.args.s.form c.args.s.owner c.args.s.block (c.in_ok-open_block.ensures.damage told).none)

pub copy_to-requires-clause-room : goal.copy_to-requires-clause-room
copy_to-requires-clause-room g c =
    let s = state_of g.D.Disk c.args.p.now in
    let m = state_of g.D.Disk c.find_free.new.p in
    subst (HoldsBytes m c.args.s.block) (sym c.find_free.ensures.room)
    (bytes_mid s m (c.find_free.ensures.called.origin ∙ c.open_block.ensures.called.origin) m
    (c.find_free.ensures.point.committed ∙ c.open_block.ensures.point.committed)
    (c.find_free.ensures.working.working ∙ c.open_block.ensures.working.working) c.args.s.block c.open_block.new.p.block.items c.in_ok-open_block.ensures.room)

pub returns-in_err-copy_to-clause-called : goal.returns-in_err-copy_to-clause-called
returns-in_err-copy_to-clause-called g c =
    let s = state_of g.D.Disk c.args.p.now in
    let o = state_of g.D.Disk c.open_block.new.p in
    let m = state_of g.D.Disk c.find_free.new.p in
    let n = state_of g.D.Disk c.copy_to.new.p in
    called_err s n c.copy_to.result _ c.in_err-copy_to.field-0.0
    (called_then s m n c.in_ok-b.b c.copy_to.result (called_then s o m tt _ c.in_ok-open_block.ensures.called c.in_ok-b.ensures.called)
    c.copy_to.ensures.called)
    c.in_err-copy_to.was (err_is _ _ c.from_residual-in_err-copy_to.ensures)

pub returns-in_err-copy_to-clause-point : goal.returns-in_err-copy_to-clause-point
returns-in_err-copy_to-clause-point g c =
    let s = state_of g.D.Disk c.args.p.now in
    let o = state_of g.D.Disk c.open_block.new.p in
    let m = state_of g.D.Disk c.find_free.new.p in
    keeps_then s m (state_of g.D.Disk c.copy_to.new.p) (keeps_then s o m c.open_block.ensures.point c.find_free.ensures.point) c.copy_to.ensures.point

pub returns-in_err-copy_to-clause-damage : goal.returns-in_err-copy_to-clause-damage
returns-in_err-copy_to-clause-damage g c = λ told.
    let s = state_of g.D.Disk c.args.p.now in
    let o = state_of g.D.Disk c.open_block.new.p in
    let m = state_of g.D.Disk c.find_free.new.p in
    meets_then (damage_at s.working c.args.s.form c.args.s.owner c.args.s.block) s o (state_of g.D.Disk c.copy_to.new.p) tt _
    (c.in_ok-open_block.ensures.damage told)
    (never_told c.copy_to.result _ c.in_err-copy_to.field-0.0 c.in_err-copy_to.was (err_is _ _ c.from_residual-in_err-copy_to.ensures)
    (c.copy_to.ensures.undamaged (told_mid s m (c.find_free.ensures.called.origin ∙ c.open_block.ensures.called.origin) told)))

pub returns-clause-stands : goal.returns-clause-stands
returns-clause-stands g c = moved_point g.D.Disk c.copy_to.new.p _ c.copy_to.ensures.stands

pub returns-clause-called : goal.returns-clause-called
returns-clause-called g c =
    let s = state_of g.D.Disk c.args.p.now in
    let o = state_of g.D.Disk c.open_block.new.p in
    let m = state_of g.D.Disk c.find_free.new.p in
    let n = state_of g.D.Disk c.copy_to.new.p in
    moved_called g.D.Disk s c.copy_to.new.p _ c.in_ok-b.b
    (called_ok s n tt c.in_ok-b.b (called_then s m n c.in_ok-b.b _ (called_then s o m tt _ c.in_ok-open_block.ensures.called c.in_ok-b.ensures.called)
    c.in_ok-copy_to.ensures.called))

pub returns-clause-point : goal.returns-clause-point
returns-clause-point g c =
    let s = state_of g.D.Disk c.args.p.now in
    let o = state_of g.D.Disk c.open_block.new.p in
    let m = state_of g.D.Disk c.find_free.new.p in
    moved_keeps g.D.Disk s c.copy_to.new.p (c.in_ok-b.b + 1)
    (keeps_then s m (state_of g.D.Disk c.copy_to.new.p) (keeps_then s o m c.open_block.ensures.point c.find_free.ensures.point) c.copy_to.ensures.point)

pub returns-clause-damage : goal.returns-clause-damage
returns-clause-damage g c = λ told.
    let s = state_of g.D.Disk c.args.p.now in
    meets_then (damage_at s.working c.args.s.form c.args.s.owner c.args.s.block) s (state_of g.D.Disk c.open_block.new.p) _ tt _
    (c.in_ok-open_block.ensures.damage told) (never_ok c.in_ok-b.b)

pub returns-clause-block : goal.returns-clause-block
returns-clause-block g c = allocable_mid (state_of g.D.Disk c.open_block.new.p) (state_of g.D.Disk c.args.p.now) (sym c.open_block.ensures.called.origin)
    c.in_ok-b.b c.in_ok-b.ensures.block

pub returns-clause-places : goal.returns-clause-places
returns-clause-places g c = c.in_ok-copy_to.ensures.places ∙ c.find_free.ensures.working.places ∙ c.open_block.ensures.working.places

pub returns-clause-copied : goal.returns-clause-copied
returns-clause-copied g c =
    let s = state_of g.D.Disk c.args.p.now in
    let m = state_of g.D.Disk c.find_free.new.p in
    copies_from s m (c.find_free.ensures.called.origin ∙ c.open_block.ensures.called.origin) (state_of g.D.Disk c.copy_to.new.p)
    (c.find_free.ensures.point.committed ∙ c.open_block.ensures.point.committed) (c.find_free.ensures.working.working ∙ c.open_block.ensures.working.working)
    c.args.s c.in_ok-b.b
    c.in_ok-copy_to.ensures.copied

use Rattle.std.proofs.Common.{◌∙◌, ℕ, Bool, List, subst}
use Rattle.edge_store.proofs.ViewLaws.{used_of}
use Rattle.edge_point.specs.Seen.{state_of}
use Rattle.edge_point.specs.Uses.{CopyPut, is_node}
use Rattle.edge_point.proofs.AnswerLaws.{allocable_mid, called_then, keeps_then, never_told, told_mid}
use Rattle.edge_point.proofs.PlacedLaws.{ok_map}
use Rattle.edge_point.proofs.EffectLaws.{copied_of}
use Rattle.edge_point.proofs.FindLaws.{err_is}
use Rattle.edge_point.proofs.FoundLaws.{called_err}
use Rattle.edge_point.proofs.FreeLaws.{copied_from, new_of}
use Rattle.edge_point.proofs.copied.copy_to.Goals as goal

pub returns-in_err-set_use-clause-called : goal.returns-in_err-set_use-clause-called
returns-in_err-set_use-clause-called g c = called_err (state_of g.D.Disk c.args.p.now) (state_of g.D.Disk c.set_use.new.p) c.set_use.result _
    c.in_err-set_use.field-0.0
    c.set_use.ensures.called c.in_err-set_use.was (err_is _ _ c.from_residual.ensures)

pub returns-in_err-set_use-clause-undamaged : goal.returns-in_err-set_use-clause-undamaged
returns-in_err-set_use-clause-undamaged g c = λ told.
    never_told c.set_use.result _ c.in_err-set_use.field-0.0 c.in_err-set_use.was (err_is _ _ c.from_residual.ensures) (c.set_use.ensures.undamaged told)

pub put_room-requires-clause-live : goal.put_room-requires-clause-live
put_room-requires-clause-live g c = c.in_ok-set_use.ensures.called.live

pub put_room-requires-clause-block : goal.put_room-requires-clause-block
put_room-requires-clause-block g c = allocable_mid (state_of g.D.Disk c.args.p.now) (state_of g.D.Disk c.set_use.new.p) c.set_use.ensures.called.origin
    c.args.b c.requires.block

pub put_room-requires-clause-is_new : goal.put_room-requires-clause-is_new
put_room-requires-clause-is_new g c = new_of (state_of g.D.Disk c.args.p.now) (state_of g.D.Disk c.set_use.new.p) c.set_use.ensures.called.origin c.args.b
    c.set_use.ensures.point c.requires.free c.in_ok-set_use.ensures.set

pub returns-in_err-put_room-clause-called : goal.returns-in_err-put_room-clause-called
returns-in_err-put_room-clause-called g c =
    let s = state_of g.D.Disk c.args.p.now in
    let m = state_of g.D.Disk c.set_use.new.p in
    let n = state_of g.D.Disk c.put_room.new.p in
    called_err s n c.put_room.result _ c.in_err-put_room.field-0.0
    (called_then s m n tt c.put_room.result c.in_ok-set_use.ensures.called c.put_room.ensures.called) c.in_err-put_room.was
    (err_is _ _ c.from_residual-in_err-put_room.ensures)

pub returns-in_err-put_room-clause-point : goal.returns-in_err-put_room-clause-point
returns-in_err-put_room-clause-point g c = keeps_then (state_of g.D.Disk c.args.p.now) (state_of g.D.Disk c.set_use.new.p) (state_of g.D.Disk c.put_room.new.p)
    c.set_use.ensures.point c.put_room.ensures.point

pub returns-in_err-put_room-clause-undamaged : goal.returns-in_err-put_room-clause-undamaged
returns-in_err-put_room-clause-undamaged g c = λ told.
    never_told c.put_room.result _ c.in_err-put_room.field-0.0 c.in_err-put_room.was (err_is _ _ c.from_residual-in_err-put_room.ensures)
    (c.put_room.ensures.undamaged (told_mid (state_of g.D.Disk c.args.p.now) (state_of g.D.Disk c.set_use.new.p) c.set_use.ensures.called.origin told))

pub set_use-requires-2-clause-live : goal.set_use-requires-2-clause-live
set_use-requires-2-clause-live g c = c.in_ok-put_room.ensures.called.live

pub set_use-requires-2-clause-block : goal.set_use-requires-2-clause-block
set_use-requires-2-clause-block g c = allocable_mid (state_of g.D.Disk c.args.p.now) (state_of g.D.Disk c.put_room.new.p)
    (c.put_room.ensures.called.origin ∙ c.set_use.ensures.called.origin) c.args.s.block c.requires.from

pub returns-clause-called : goal.returns-clause-called
returns-clause-called g c =
    let s = state_of g.D.Disk c.args.p.now in
    let m = state_of g.D.Disk c.set_use.new.p in
    let n = state_of g.D.Disk c.put_room.new.p in
    called_then s n (state_of g.D.Disk c.set_use-2.new.p) tt c.set_use-2.result
    (called_then s m n tt _ c.in_ok-set_use.ensures.called c.in_ok-put_room.ensures.called) c.set_use-2.ensures.called

pub returns-clause-point : goal.returns-clause-point
returns-clause-point g c =
    let s = state_of g.D.Disk c.args.p.now in
    let m = state_of g.D.Disk c.set_use.new.p in
    let n = state_of g.D.Disk c.put_room.new.p in
    keeps_then s n (state_of g.D.Disk c.set_use-2.new.p) (keeps_then s m n c.set_use.ensures.point c.put_room.ensures.point) c.set_use-2.ensures.point

pub returns-clause-undamaged : goal.returns-clause-undamaged
returns-clause-undamaged g c = λ told.
    c.set_use-2.ensures.undamaged (told_mid (state_of g.D.Disk c.args.p.now) (state_of g.D.Disk c.put_room.new.p)
    (c.put_room.ensures.called.origin ∙ c.set_use.ensures.called.origin) told)

pub returns-clause-places : goal.returns-clause-places
returns-clause-places g c = ok_map c.set_use-2.result (λ e. e ∙ c.in_ok-put_room.ensures.places ∙ c.in_ok-set_use.ensures.places) c.set_use-2.ensures.places

pub returns-clause-copied : goal.returns-clause-copied
returns-clause-copied g c =
    let s = state_of g.D.Disk c.args.p.now in
    let m = state_of g.D.Disk c.set_use.new.p in
    let x = state_of g.D.Disk c.put_room.new.p in
    let n = state_of g.D.Disk c.set_use-2.new.p in
    let form = c.args.s.form in
    let owner = c.args.s.owner in
    let from = c.args.s.block in
    ok_map c.set_use-2.result (λ drops told.
    let spot = c.requires.spot told in
    let put = copied_from s m c.set_use.ensures.called.origin x c.args.b c.is_pointers-node.result c.set_use.new.p.block.items c.in_ok-put_room.ensures.copies
    told in
    copied_of s.origin.request s.committed s.working m.working x.working n.working form owner from c.args.b c.args.p.now.block.items (c.requires.free told) spot
    (c.requires.room told (used_of form (s.working.blocks from) owner spot)) (c.in_ok-set_use.ensures.set told)
    (subst (λ (y : List ℕ). CopyPut s.origin.request m.working x.working c.args.b (is_node form) y) c.set_use.ensures.room
    (subst (λ (t : Bool). CopyPut s.origin.request m.working x.working c.args.b t c.set_use.new.p.block.items) c.is_pointers-node.ensures put))
    (drops (told_mid s x (c.put_room.ensures.called.origin ∙ c.set_use.ensures.called.origin) told))) c.set_use-2.ensures.set

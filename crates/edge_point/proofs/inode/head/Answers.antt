use Rattle.std.proofs.Common.{refl, sym, ap, ◌∙◌, subst}
use Rattle.edge_store.specs.Effects.{IsHeadAt}
use Rattle.edge_store.specs.View.{is_head_or_none}
use Rattle.edge_point.specs.Seen.{state_of}
use Rattle.edge_point.proofs.FoundLaws.{called_err, called_ok, meets_err, meets_ok, head_found, head_keeps}
use Rattle.edge_point.proofs.inode.head.Goals as goal

pub returns-in-Ok-clause-called : goal.returns-in-Ok-clause-called
returns-in-Ok-clause-called g c = called_ok (state_of g.D.Disk c.args.p.now) (state_of g.D.Disk c.find.new.p) c.in-Ok.found _ c.in-Ok.ensures.called

pub returns-in-Ok-clause-damage : goal.returns-in-Ok-clause-damage
returns-in-Ok-clause-damage g c = λ told.
    let p = c.args.p.now in
    let q = c.find.new.p in
    meets_ok (state_of g.D.Disk p) (state_of g.D.Disk q) p.master.geometry _ q.block.items _ c.find.ensures.working c.in-Ok.found _ (c.in-Ok.ensures.tells told)

pub returns-in-Ok-clause-head : goal.returns-in-Ok-clause-head
returns-in-Ok-clause-head g c = λ told.
    let p = c.args.p.now in
    let s = state_of g.D.Disk p in
    subst (IsHeadAt s.working c.args.n) (sym c.head_of.ensures)
    (head_found s.working c.args.n p.master.geometry (s.places c.args.n) c.find.new.p.block.items c.in-Ok.found (c.in-Ok.ensures.tells told))

pub returns-in-Ok-clause-rules : goal.returns-in-Ok-clause-rules
returns-in-Ok-clause-rules g c = ap is_head_or_none c.head_of.ensures ∙ head_keeps c.in-Ok.found c.in-Ok.ensures.rules

pub returns-in-Err-clause-called : goal.returns-in-Err-clause-called
returns-in-Err-clause-called g c =
    called_err (state_of g.D.Disk c.args.p.now) (state_of g.D.Disk c.find.new.p) c.find.result _ c.in-Err.fault c.find.ensures.called c.in-Err.is refl

pub returns-in-Err-clause-damage : goal.returns-in-Err-clause-damage
returns-in-Err-clause-damage g c = λ told.
    let p = c.args.p.now in
    let q = c.find.new.p in
    meets_err (state_of g.D.Disk p) (state_of g.D.Disk q) p.master.geometry _ q.block.items _ c.find.ensures.working c.find.result _ c.in-Err.fault (c.find.ensures.tells told) c.in-Err.is refl

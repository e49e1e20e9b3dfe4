use Rattle.std.proofs.Common.{Bool, Err, sym, ap, ◌∙◌, subst}
use Rattle.edge_store.specs.declared.fault.StoreFault.{StoreFault}
use Rattle.edge_point.specs.Ended.{is_committed_by}
use Rattle.edge_point.specs.Finding.{Sees}
use Rattle.edge_point.proofs.EndedLaws.{imap_never, committed_by}
use Rattle.edge_point.proofs.FindLaws.{sees_imap, sees_passed}
use Rattle.edge_point.proofs.make.is_committed.Goals as goal

pub returns-in-Ok-clause-sees : goal.returns-in-Ok-clause-sees
returns-in-Ok-clause-sees g c =
    let all = c.block_state.ensures in
    sees_passed g.D.Disk c.args.p.now c.block_state.new.p _ all.rest all.imap all.reads all.cause.later c.in-Ok.ensures.cause.passed

pub returns-in-Ok-clause-used : goal.returns-in-Ok-clause-used
returns-in-Ok-clause-used g c = λ shows. c.is_committed_state.ensures ∙ ap is_committed_by (c.in-Ok.ensures.state shows) ∙ committed_by _ _

pub returns-in-Err-clause-sees : goal.returns-in-Err-clause-sees
returns-in-Err-clause-sees g c =
    let all = c.block_state.ensures in
    subst (λ (f : StoreFault). Sees {T = Bool} g.D.Disk c.args.p.now c.block_state.new.p (Err f)) (sym c.fault_of.ensures)
    (sees_imap g.D.Disk _ c.args.p.now c.block_state.new.p c.block_state.result c.in-Err.fault all.rest all.imap all.reads all.cause c.in-Err.is)

pub returns-in-Err-clause-sound : goal.returns-in-Err-clause-sound
returns-in-Err-clause-sound g c = λ shows tied x h.
    imap_never c.block_state.result c.in-Err.fault x c.in-Err.is (c.block_state.ensures.sound shows tied) (sym c.fault_of.ensures ∙ cc h)

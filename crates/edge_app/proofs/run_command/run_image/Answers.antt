use Rattle.std.proofs.Common.{inl, inr, refl, sym, subst, arith}
use Rattle.edge_disk.specs.State.{disk_of}
use Rattle.edge_disk.proofs.StateLaws.{untouched}
use Rattle.edge_app.specs.Causes.{HasCauses, IsBeforeDisk}
use Rattle.edge_app.specs.Runs.{Runs}
use Rattle.edge_app.specs.World.{world}
use Rattle.edge_app.specs.declared.report.Report.{Report}
use Rattle.edge_app.proofs.UnservedLaws.{causes_unserved, runs_unserved}
use Rattle.edge_app.proofs.MountLaws.{causes_unmounted, no_call_served, no_call_unmounted, runs_unmounted}
use Rattle.edge_app.proofs.run_command.run_image.Goals as goal

-- ---- no memory

pub returns-in_default-clause-causes : goal.returns-in_default-clause-causes
returns-in_default-clause-causes g c =
    let start = world g.S.Source g.K.Sink g.C.Clock g.D.Disk c.args.src.now c.args.out.now c.args.clock.now c.args.disk in
    subst (λ (r : Report). HasCauses start start r) (sym c.unserved.ensures)
    (causes_unserved start (disk_of g.D.Disk c.args.disk) 7 0 (inr (inl refl)) (λ e. absurd (omega arith)) (λ shows e. absurd (omega arith)) refl (inr refl) (inr refl))

pub returns-in_default-clause-runs : goal.returns-in_default-clause-runs
returns-in_default-clause-runs g c =
    let start = world g.S.Source g.K.Sink g.C.Clock g.D.Disk c.args.src.now c.args.out.now c.args.clock.now c.args.disk in
    subst (λ (r : Report). Runs start start r) (sym c.unserved.ensures)
    (runs_unserved start (disk_of g.D.Disk c.args.disk) 7 0 (inr (inl refl)) (λ e. absurd (omega arith)) (λ shows e. absurd (omega arith)) (g.met.D.Disk.sure_is_shown c.args.disk) untouched)

-- ---- the image is not mounted

pub returns-in-Err-clause-causes : goal.returns-in-Err-clause-causes
returns-in-Err-clause-causes g c =
    let start = world g.S.Source g.K.Sink g.C.Clock g.D.Disk c.args.src.now c.args.out.now c.args.clock.now c.args.disk in
    subst (λ (r : Report). HasCauses start (record start { disk = disk_of g.D.Disk c.in-Err.disk }) r) (sym c.unmounted.ensures)
    (causes_unmounted g.D.Disk start c.args.disk c.in-Err.disk c.in-Err.fault c.in-Err.ensures.refuses)

pub returns-in-Err-clause-runs : goal.returns-in-Err-clause-runs
returns-in-Err-clause-runs g c =
    let start = world g.S.Source g.K.Sink g.C.Clock g.D.Disk c.args.src.now c.args.out.now c.args.clock.now c.args.disk in
    subst (λ (r : Report). Runs start (record start { disk = disk_of g.D.Disk c.in-Err.disk }) r) (sym c.unmounted.ensures)
    (runs_unmounted g.D.Disk start c.args.disk c.in-Err.disk c.in-Err.fault (g.met.D.Disk.sure_is_shown c.args.disk) c.in-Err.ensures.refuses)

pub returns-in-Err-clause-no_call : goal.returns-in-Err-clause-no_call
returns-in-Err-clause-no_call g c = λ early.
    no_call_unmounted g.D.Disk (world g.S.Source g.K.Sink g.C.Clock g.D.Disk c.args.src.now c.args.out.now c.args.clock.now c.args.disk) c.args.disk c.in-Err.disk c.in-Err.fault c.in-Err.ensures.refuses
    (subst (λ (r : Report). IsBeforeDisk r.status) c.unmounted.ensures early)

-- ---- a session

pub returns-clause-causes : goal.returns-clause-causes
returns-clause-causes g c = (c.serve.ensures.served c.args.disk c.in-Ok-mount.ensures.mounts).0

pub returns-clause-runs : goal.returns-clause-runs
returns-clause-runs g c = (c.serve.ensures.served c.args.disk c.in-Ok-mount.ensures.mounts).1

pub returns-clause-no_call : goal.returns-clause-no_call
returns-clause-no_call g c = λ early. absurd (no_call_served _ c.serve.ensures.session early)

use Rattle.std.proofs.Common.{◌<◌, subst, sym, ◌∙◌}
use Rattle.std.specs.Prelude.{IsTrue}
use Rattle.edge_disk.specs.Disk.{Origin}
use Rattle.edge_disk.specs.State.{disk_of}
use Rattle.edge_format.proofs.CutLaws.{on_err, still_told, beside_nodes, has_room, shown_opens, all_open, cut_writing, cut_clearing, cut_ending}
use Rattle.edge_format.proofs.formatter.format.Goals as goal

pub returns-in_err-clear_master-clause-cut : goal.returns-in_err-clear_master-clause-cut
returns-in_err-clear_master-clause-cut g c = λ settled.
    let old = disk_of g.D.Disk c.args.disk.now in
    let disk = disk_of g.D.Disk c.clear_master.new.disk in
    let clear = c.clear_master.ensures in
    let room = has_room c.args.g _ disk.origin c.request-within_limits.ensures.limits c.requires.size c.requires.fits clear.origin in
    on_err c.from_residual.result _ (cut_clearing c.args.g c.args.time disk room (g.met.D.Disk.sure_is_shown c.clear_master.new.disk)
    old (g.met.D.Disk.sure_is_shown c.args.disk.now) clear.kept clear.origin
    (λ b below. settled.sure b (subst (λ (o : Origin). b < o.blocks) clear.origin below)) clear.adds)

pub returns-in_err-write_nodes-clause-cut : goal.returns-in_err-write_nodes-clause-cut
returns-in_err-write_nodes-clause-cut g c = λ settled.
    let disk = disk_of g.D.Disk c.write_nodes.new.disk in
    let clear = c.in_ok-clear_master.ensures in
    let nodes = c.write_nodes.ensures in
    let beside = beside_nodes c.args.g in
    let room = has_room c.args.g _ disk.origin c.request-within_limits.ensures.limits c.requires.size c.requires.fits (nodes.origin ∙ clear.origin) in
    on_err c.from_residual-in_err-write_nodes.result _ (cut_writing c.args.g c.args.time disk room (g.met.D.Disk.sure_is_shown c.write_nodes.new.disk)
    _ (nodes.kept.sure 0 beside (clear.sure settled.told 0)) (nodes.kept.shown 0 beside ∙ clear.shown settled.told.shows))

pub returns-in_err-write_master-clause-cut : goal.returns-in_err-write_master-clause-cut
returns-in_err-write_master-clause-cut g c = λ settled.
    let cleared = disk_of g.D.Disk c.clear_master.new.disk in
    let before = disk_of g.D.Disk c.write_nodes.new.disk in
    let disk = disk_of g.D.Disk c.write_master.new.disk in
    let clear = c.in_ok-clear_master.ensures in
    let nodes = c.in_ok-write_nodes.ensures in
    let end = c.write_master.ensures in
    let told = still_told (disk_of g.D.Disk c.args.disk.now) cleared clear.origin clear.cause.passed settled.told in
    let room = has_room c.args.g _ disk.origin c.request-within_limits.ensures.limits c.requires.size c.requires.fits (end.origin ∙ nodes.origin ∙ clear.origin) in
    on_err c.from_residual-in_err-write_master.result _ (cut_ending c.args.g c.args.time disk room (g.met.D.Disk.sure_is_shown c.write_master.new.disk)
    before (g.met.D.Disk.sure_is_shown c.write_nodes.new.disk) end.kept
    _ (nodes.sure told) (nodes.kept.shown 0 (beside_nodes c.args.g) ∙ clear.shown settled.told.shows) (nodes.shown told.shows) end.adds)

pub returns-clause-opens : goal.returns-clause-opens
returns-clause-opens g c = λ settled.
    let cleared = disk_of g.D.Disk c.clear_master.new.disk in
    let before = disk_of g.D.Disk c.write_nodes.new.disk in
    let disk = disk_of g.D.Disk c.write_master.new.disk in
    let clear = c.in_ok-clear_master.ensures in
    let nodes = c.in_ok-write_nodes.ensures in
    let end = c.in_ok-write_master.ensures in
    let told = still_told (disk_of g.D.Disk c.args.disk.now) cleared clear.origin clear.cause.passed settled.told in
    let told_again = still_told cleared before nodes.origin nodes.cause.passed told in
    let room = has_room c.args.g _ disk.origin c.request-within_limits.ensures.limits c.requires.size c.requires.fits (end.origin ∙ nodes.origin ∙ clear.origin) in
    all_open c.args.g c.args.time disk room (g.met.D.Disk.sure_is_shown c.write_master.new.disk)
    before.shown (end.sure told_again) (nodes.shown told.shows) end.kept.shown (end.shown told_again.shows)

pub returns-clause-shown : goal.returns-clause-shown
returns-clause-shown g c = λ shows.
    let before = disk_of g.D.Disk c.write_nodes.new.disk in
    let disk = disk_of g.D.Disk c.write_master.new.disk in
    let clear = c.in_ok-clear_master.ensures in
    let nodes = c.in_ok-write_nodes.ensures in
    let end = c.in_ok-write_master.ensures in
    let shows_then = subst (λ (o : Origin). IsTrue o.shows) (sym clear.origin) shows in
    let shows_again = subst (λ (o : Origin). IsTrue o.shows) (sym nodes.origin) shows_then in
    let room = has_room c.args.g _ disk.origin c.request-within_limits.ensures.limits c.requires.size c.requires.fits (end.origin ∙ nodes.origin ∙ clear.origin) in
    shown_opens c.args.g c.args.time disk room before.shown (nodes.shown shows_then) end.kept.shown (end.shown shows_again)

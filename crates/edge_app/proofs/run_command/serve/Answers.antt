use Rattle.std.proofs.Common.{◌≡◌, ◌≤◌, true, sym, ap, ◌∙◌, subst, arith}
use Rattle.std.specs.Prelude.{IsTrue}
use Rattle.edge_disk.specs.State.{disk_of, shown_by}
use Rattle.edge_model.specs.State.{first_state}
use Rattle.edge_anchor.specs.Opens.{OpensAs}
use Rattle.edge_store.specs.State.{IsMade}
use Rattle.edge_point.specs.Mounted.{MountsPoint}
use Rattle.edge_point.specs.Seen.{anchor_of, last_view, state_of}
use Rattle.edge_session.specs.Object.{most_points}
use Rattle.edge_app.specs.Causes.{HasCauses, has_no_session}
use Rattle.edge_app.specs.Report.{served_by}
use Rattle.edge_app.specs.Runs.{Runs}
use Rattle.edge_app.specs.World.{world}
use Rattle.edge_app.specs.declared.report.Report.{Report}
use Rattle.edge_app.proofs.SessionLaws.{both_served, leaves_trees, mounted_of_tree, mounted_room, mounted_tells}
use Rattle.edge_app.proofs.StatusLaws.{some_session}
use Rattle.edge_app.proofs.run_command.serve.Goals as goal

pub returns-clause-session : goal.returns-clause-session
returns-clause-session g c = ap (λ (r : Report). has_no_session r.status) c.served.ensures ∙ some_session c.session-ended.result.how

pub returns-clause-served : goal.returns-clause-served
returns-clause-served g c = λ disk mounts.
    let d = g.D.Disk in
    let volume = c.new-volume.result in
    let finished = c.session-ended.new.ask in
    let ended = c.session-ended.result in
    let e = c.session-ended.ensures in
    let p = volume.store.parts in
    let q = finished.store.parts in
    let start = world g.S.Source g.K.Sink g.C.Clock d c.args.src.now c.args.out.now c.args.clock.now disk in
    let finish = world g.S.Source g.K.Sink g.C.Clock d c.session-ended.new.src c.session-ended.new.out c.session-ended.new.clock q.cache.disk in
    let mounted : MountsPoint d disk p = subst (λ x. MountsPoint d disk x.parts) (sym c.new-volume.ensures.store) mounts in
    let made : IsMade (state_of d p) = subst (λ x. IsMade (state_of d x.parts)) (sym c.new-volume.ensures.store) c.requires.made in
    let tells = mounted_tells d disk c.args.point.parts mounts in
    let room = mounted_room d disk c.args.point.parts mounts in
    let of_tree = mounted_of_tree d disk c.args.point.parts mounts in
    let stands = c.new-volume.ensures.stands in
    let shown = subst (λ x. x.parts.live ≡ true → IsTrue (d.origin x.parts.cache.disk).shows → OpensAs (anchor_of d x.parts) (last_view d x.parts) (shown_by (disk_of d x.parts.cache.disk))) c.end.ensures
    (subst (λ back. c.end.result.parts.live ≡ true → IsTrue (d.origin back).shows → OpensAs (anchor_of d c.end.result.parts) (last_view d c.end.result.parts) (shown_by (disk_of d back)))
    c.end-2.ensures.disk c.end-2.ensures.shown) in
    let few : q.points ≤ most_points ended.how ended.commands = let m = e.few_points in let z = made.points in omega arith in
    let report : c.served.result ≡ served_by ended.how ended.commands ended.taken q.points = c.served.ensures ∙ ap (served_by ended.how ended.commands ended.taken) c.points-points.ensures in
    let back : c.end-2.result ≡ q.cache.disk = c.end-2.ensures.disk ∙ ap (λ x. x.parts.cache.disk) c.end.ensures in
    subst (λ x. HasCauses start (world g.S.Source g.K.Sink g.C.Clock d c.session-ended.new.src c.session-ended.new.out c.session-ended.new.clock x) c.served.result
    × Runs start (world g.S.Source g.K.Sink g.C.Clock d c.session-ended.new.src c.session-ended.new.out c.session-ended.new.clock x) c.served.result) (sym back)
    (subst (λ (r : Report). HasCauses start finish r × Runs start finish r) (sym report)
    (both_served d start finish disk p q ended.how ended.commands ended.taken mounted finished.store.stands e.origin e.source e.sink e.object e.live
    e.few e.short e.room e.reached e.limit_bytes e.end e.lines e.no_more few e.moments e.guarded shown e.there
    (λ shows t opens. e.undamaged (first_state t) (stands t (tells shows t opens) (room shows t opens) (of_tree shows t opens)))
    (λ shows told takes t opens. e.text told takes t (stands t (tells shows t opens) (room shows t opens) (of_tree shows t opens)))
    (λ shows told t opens.
    let left = e.tree told t (stands t (tells shows t opens) (room shows t opens) (of_tree shows t opens)) in
    leaves_trees d q p.master.geometry t ended.how (g.S.Source.left c.args.src.now) ended.commands ended.taken p.points made.points left.trees left.least (λ fine. (left.whole fine).points))
    made))

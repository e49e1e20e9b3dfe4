use Rattle.std.proofs.Common.{◌≡◌, ◌∙◌, sym, ap}
use Rattle.edge_base.specs.declared.geometry.Request.{Request}
use Rattle.edge_base.specs.outside.Below.{Origin}
use Rattle.edge_base.specs.tree.Slots.{pieces}
use Rattle.edge_store.specs.State.{Told}
use Rattle.edge_file.proofs.AnswerLaws.{on_ok_map}
use Rattle.edge_file.proofs.SizeLaws.{shortens_both, shortens_room}
use Rattle.edge_file.proofs.StepLaws.{view_too}
use Rattle.edge_file.proofs.shorten.cut_behind.Goals as goal

pub returns-clause-undamaged : goal.returns-clause-undamaged
returns-clause-undamaged g c told shaped room =
    let old = g.S.Store.state c.args.s.now in
    let mid = g.S.Store.state c.clear_rest.new.s in
    let first = c.in_ok-clear_rest.ensures in
    let told_mid : Told mid = ap (λ (o : Origin). o.tells) first.called.origin ∙ told in
    let is : c.block_count-count.result ≡ pieces old.origin.request.block_size c.args.size =
    c.block_count-count.ensures.count ∙ ap (λ (r : Request). pieces r.block_size c.args.size) (c.geometry.ensures ∙ ap (λ (o : Origin). o.request) first.called.origin) in
    let both = shortens_room old mid c.args.n c.args.size c.block_count-count.result first.called.origin first.point.committed
    (λ told. view_too old.origin.request mid.origin.request mid.working (ap (λ (o : Origin). o.request) (sym first.called.origin)) (g.met.S.Store.working_is_view c.clear_rest.new.s (ap (λ (o : Origin). o.tells) first.called.origin ∙ told) first.called.live))
    first.cleared first.stays first.heads is told (g.met.S.Store.is_geometry c.args.s.now) (g.met.S.Store.working_is_view c.args.s.now told c.requires.live) shaped room in
    c.cut_from.ensures.undamaged told_mid both.0 both.1

pub returns-clause-untangled : goal.returns-clause-untangled
returns-clause-untangled g c told rules =
    let old = g.S.Store.state c.args.s.now in
    let mid = g.S.Store.state c.clear_rest.new.s in
    let first = c.in_ok-clear_rest.ensures in
    let told_mid : Told mid = ap (λ (o : Origin). o.tells) first.called.origin ∙ told in
    let is : c.block_count-count.result ≡ pieces old.origin.request.block_size c.args.size =
    c.block_count-count.ensures.count ∙ ap (λ (r : Request). pieces r.block_size c.args.size) (c.geometry.ensures ∙ ap (λ (o : Origin). o.request) first.called.origin) in
    let both = shortens_room old mid c.args.n c.args.size c.block_count-count.result first.called.origin first.point.committed
    (λ told. view_too old.origin.request mid.origin.request mid.working (ap (λ (o : Origin). o.request) (sym first.called.origin)) (g.met.S.Store.working_is_view c.clear_rest.new.s (ap (λ (o : Origin). o.tells) first.called.origin ∙ told) first.called.live))
    first.cleared first.stays first.heads is told (g.met.S.Store.is_geometry c.args.s.now) (g.met.S.Store.working_is_view c.args.s.now told c.requires.live) rules.0 rules.1 in
    c.cut_from.ensures.untangled told_mid both.1

pub returns-clause-tangled : goal.returns-clause-tangled
returns-clause-tangled g c told =
    let told_mid : Told (g.S.Store.state c.clear_rest.new.s) = ap (λ (o : Origin). o.tells) c.in_ok-clear_rest.ensures.called.origin ∙ told in
    c.cut_from.ensures.tangled told_mid

pub returns-clause-heads : goal.returns-clause-heads
returns-clause-heads g c =
    on_ok_map c.cut_from.result (λ ok heads told.
    let first = c.in_ok-clear_rest.ensures in
    let told_mid : Told (g.S.Store.state c.clear_rest.new.s) = ap (λ (o : Origin). o.tells) first.called.origin ∙ told in
    record {
      others = λ x apart. (heads told_mid).others x apart ∙ (first.heads told).others x apart;
      head = (heads told_mid).head ∙ (first.heads told).head;
    })
    c.cut_from.ensures.heads

pub returns-clause-shortened : goal.returns-clause-shortened
returns-clause-shortened g c =
    let old = g.S.Store.state c.args.s.now in
    let mid = g.S.Store.state c.clear_rest.new.s in
    let first = c.in_ok-clear_rest.ensures in
    let is : c.block_count-count.result ≡ pieces old.origin.request.block_size c.args.size =
    c.block_count-count.ensures.count ∙ ap (λ (r : Request). pieces r.block_size c.args.size) (c.geometry.ensures ∙ ap (λ (o : Origin). o.request) first.called.origin) in
    on_ok_map c.cut_from.result (λ ok cut. shortens_both old mid c.args.n c.args.size c.block_count-count.result first.called.origin first.point.committed
    (λ told. view_too old.origin.request mid.origin.request mid.working (ap (λ (o : Origin). o.request) (sym first.called.origin)) (g.met.S.Store.working_is_view c.clear_rest.new.s (ap (λ (o : Origin). o.tells) first.called.origin ∙ told) first.called.live))
    first.cleared first.stays first.heads is (g.S.Store.state c.cut_from.new.s) cut)
    c.cut_from.ensures.cut

use Rattle.std.proofs.Common.{◌∙◌, sym, ap}
use Rattle.std.proofs.lemmas.Result.{err_from_is_err_and}
use Rattle.std.specs.Prelude.{Err}
use Rattle.edge_base.specs.outside.Below.{Origin}
use Rattle.edge_store.specs.State.{Told}
use Rattle.edge_store.specs.View.{View, with_head}
use Rattle.edge_store.proofs.ViewLaws.{with_inode_apart}
use Rattle.edge_moves.proofs.SpentLaws.{whole_by_head}
use Rattle.edge_tree.proofs.KindLaws.{inode_untangled}
use Rattle.edge_file.proofs.AnswerLaws.{on_ok_map}
use Rattle.edge_file.proofs.GrowLaws.{whole_of_head, whole_set}
use Rattle.edge_file.proofs.SizeLaws.{shortens_head}
use Rattle.edge_file.proofs.StepLaws.{view_too}
use Rattle.edge_file.proofs.shorten.shorten.Goals as goal

pub returns-clause-shortened : goal.returns-clause-shortened
returns-clause-shortened g c =
    let old = g.S.Store.state c.args.s.now in
    let mid = g.S.Store.state c.cut_behind.new.s in
    let new = g.S.Store.state c.set_head.new.self in
    let first = c.in_ok-cut_behind.ensures in
    on_ok_map c.set_head.result (λ ok set. shortens_head old mid new c.args.n c.args.size (record c.args.head { size = c.args.size })
    (λ told. set (ap (λ (o : Origin). o.tells) first.called.origin ∙ told))
    (λ told. view_too old.origin.request new.origin.request new.working (ap (λ (o : Origin). o.request) (sym first.called.origin ∙ sym c.set_head.ensures.called.origin))
    (g.met.S.Store.working_is_view c.set_head.new.self (ap (λ (o : Origin). o.tells) c.set_head.ensures.called.origin ∙ ap (λ (o : Origin). o.tells) first.called.origin ∙ told) (c.set_head.ensures.called.live ∙ ok)))
    first.heads first.shortened)
    c.set_head.ensures.set

pub returns-clause-readable : goal.returns-clause-readable
returns-clause-readable g c =
    on_ok_map c.set_head.result (λ ok set told.
    let old = g.S.Store.state c.args.s.now in
    let mid = g.S.Store.state c.cut_behind.new.s in
    let first = c.in_ok-cut_behind.ensures in
    let told_mid : Told mid = ap (λ (o : Origin). o.tells) (sym c.set_head.ensures.called.origin) ∙ told in
    let told_old : Told old = ap (λ (o : Origin). o.tells) (sym first.called.origin) ∙ told_mid in
    let was = whole_of_head (old.working.inodes c.args.n) c.args.head (c.requires.head told_old) in
    whole_set mid.working (g.S.Store.state c.set_head.new.self).working c.args.n (record c.args.head { size = c.args.size }) (set told_mid)
    (whole_by_head (old.working.inodes c.args.n) (mid.working.inodes c.args.n) (first.heads told_old).head was))
    c.set_head.ensures.set

pub returns-clause-inodes : goal.returns-clause-inodes
returns-clause-inodes g c =
    on_ok_map c.set_head.result (λ ok set told x apart.
    let mid = g.S.Store.state c.cut_behind.new.s in
    let first = c.in_ok-cut_behind.ensures in
    let told_mid : Told mid = ap (λ (o : Origin). o.tells) first.called.origin ∙ told in
    ap (λ (v : View). v.inodes x) (set told_mid) ∙ with_inode_apart mid.working c.args.n (with_head (mid.working.inodes c.args.n) (record c.args.head { size = c.args.size })) x apart
    ∙ (first.heads told).others x apart)
    c.set_head.ensures.set

pub returns-in_err-cut_behind-clause-untangled : goal.returns-in_err-cut_behind-clause-untangled
returns-in_err-cut_behind-clause-untangled g c told rules d e =
    let p = err_from_is_err_and c.from_residual.result c.from_residual.ensures.1 in
    c.in_err-cut_behind.ensures.untangled told rules d (ap Err (sym p.2) ∙ sym p.1 ∙ e)

pub returns-in_err-cut_behind-clause-tangled : goal.returns-in_err-cut_behind-clause-tangled
returns-in_err-cut_behind-clause-tangled g c told d e =
    let p = err_from_is_err_and c.from_residual.result c.from_residual.ensures.1 in
    c.in_err-cut_behind.ensures.tangled told d (ap Err (sym p.2) ∙ sym p.1 ∙ e)

pub returns-clause-untangled : goal.returns-clause-untangled
returns-clause-untangled g c told rules =
    let mid = g.S.Store.state c.cut_behind.new.s in
    let told_mid : Told mid = ap (λ (o : Origin). o.tells) c.in_ok-cut_behind.ensures.called.origin ∙ told in
    inode_untangled mid (g.S.Store.state c.set_head.new.self) c.args.n c.set_head.result (g.met.S.Store.working_is_view c.cut_behind.new.s told_mid c.in_ok-cut_behind.ensures.called.live) (c.set_head.ensures.damage told_mid)

pub returns-clause-tangled : goal.returns-clause-tangled
returns-clause-tangled g c told d e kind =
    let mid = g.S.Store.state c.cut_behind.new.s in
    let told_mid : Told mid = ap (λ (o : Origin). o.tells) c.in_ok-cut_behind.ensures.called.origin ∙ told in
    absurd (inode_untangled mid (g.S.Store.state c.set_head.new.self) c.args.n c.set_head.result (g.met.S.Store.working_is_view c.cut_behind.new.s told_mid c.in_ok-cut_behind.ensures.called.live) (c.set_head.ensures.damage told_mid) d e kind)

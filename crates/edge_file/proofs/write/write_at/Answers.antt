use Rattle.std.proofs.Common.{◌∙◌, length, sym, ap}
use Rattle.std.proofs.lemmas.Result.{err_from_is_err_and}
use Rattle.std.specs.Prelude.{Err}
use Rattle.edge_base.specs.outside.Below.{Origin}
use Rattle.edge_store.specs.State.{Told}
use Rattle.edge_store.specs.View.{View}
use Rattle.edge_file.proofs.AnswerLaws.{on_ok_map, same_fault}
use Rattle.edge_file.proofs.HeadLaws.{written_from, written_head}
use Rattle.edge_file.proofs.SizeLaws.{clears_from}
use Rattle.edge_file.proofs.write.write_at.Goals as goal

pub returns-clause-written : goal.returns-clause-written
returns-clause-written g c =
    on_ok_map c.reach.result (λ ok blocks told indices places once.
    let old = g.S.Store.state c.args.s.now in
    let mid = g.S.Store.state c.sized_head.new.s in
    let far = g.S.Store.state c.write_bytes.new.s in
    let new = g.S.Store.state c.reach.new.s in
    let first = c.in_ok-head.ensures in
    let second = c.in_ok-write_bytes.ensures in
    let told_mid : Told mid = ap (λ (o : Origin). o.tells) first.called.origin ∙ told in
    let told_far : Told far = ap (λ (o : Origin). o.tells) second.called.origin ∙ told_mid in
    let written = written_from old mid far c.args.n c.args.at c.args.bytes.now first.called.origin first.reads.working first.point.committed second.written in
    written_head old.origin.request old.committed old.working far.working new.working c.args.n (blocks told_far) c.args.at c.args.bytes.now indices (written told indices places once))
    c.reach.ensures.blocks

pub returns-clause-inodes : goal.returns-clause-inodes
returns-clause-inodes g c =
    on_ok_map c.reach.result (λ ok blocks told x apart.
    let mid = g.S.Store.state c.sized_head.new.s in
    let far = g.S.Store.state c.write_bytes.new.s in
    let first = c.in_ok-head.ensures in
    let second = c.in_ok-write_bytes.ensures in
    let told_mid : Told mid = ap (λ (o : Origin). o.tells) first.called.origin ∙ told in
    let told_far : Told far = ap (λ (o : Origin). o.tells) second.called.origin ∙ told_mid in
    (blocks told_far).others x apart ∙ (second.heads told_mid).others x apart ∙ ap (λ (v : View). v.inodes x) first.reads.working)
    c.reach.ensures.blocks

pub returns-in_err-head-clause-untangled : goal.returns-in_err-head-clause-untangled
returns-in_err-head-clause-untangled g c told rules d e =
    let p = err_from_is_err_and c.from_residual.result c.from_residual.ensures.1 in
    c.in_err-head.ensures.untangled told d (ap Err (sym p.2) ∙ same_fault _ _ (sym p.1 ∙ e))

pub returns-in_err-head-clause-tangled : goal.returns-in_err-head-clause-tangled
returns-in_err-head-clause-tangled g c told d e kind =
    let p = err_from_is_err_and c.from_residual.result c.from_residual.ensures.1 in
    absurd (c.in_err-head.ensures.untangled told d (ap Err (sym p.2) ∙ same_fault _ _ (sym p.1 ∙ e)) kind)

pub returns-in_err-write_bytes-clause-untangled : goal.returns-in_err-write_bytes-clause-untangled
returns-in_err-write_bytes-clause-untangled g c told rules d e =
    let old = g.S.Store.state c.args.s.now in
    let mid = g.S.Store.state c.sized_head.new.s in
    let first = c.in_ok-head.ensures in
    let told_mid : Told mid = ap (λ (o : Origin). o.tells) first.called.origin ∙ told in
    let both = clears_from old mid c.args.n c.args.at (length c.args.bytes.now) first.called.origin first.reads.working first.point.committed rules.0 rules.1 in
    let p = err_from_is_err_and c.from_residual-in_err-write_bytes.result c.from_residual-in_err-write_bytes.ensures.1 in
    c.in_err-write_bytes.ensures.untangled told_mid both d (ap Err (sym p.2) ∙ sym p.1 ∙ e)

pub returns-in_err-write_bytes-clause-tangled : goal.returns-in_err-write_bytes-clause-tangled
returns-in_err-write_bytes-clause-tangled g c told d e =
    let told_mid : Told (g.S.Store.state c.sized_head.new.s) = ap (λ (o : Origin). o.tells) c.in_ok-head.ensures.called.origin ∙ told in
    let p = err_from_is_err_and c.from_residual-in_err-write_bytes.result c.from_residual-in_err-write_bytes.ensures.1 in
    c.in_err-write_bytes.ensures.tangled told_mid d (ap Err (sym p.2) ∙ sym p.1 ∙ e)

pub returns-clause-untangled : goal.returns-clause-untangled
returns-clause-untangled g c told rules =
    let told_mid : Told (g.S.Store.state c.sized_head.new.s) = ap (λ (o : Origin). o.tells) c.in_ok-head.ensures.called.origin ∙ told in
    c.reach.ensures.untangled (ap (λ (o : Origin). o.tells) c.in_ok-write_bytes.ensures.called.origin ∙ told_mid)

pub returns-clause-tangled : goal.returns-clause-tangled
returns-clause-tangled g c told d e kind =
    let told_mid : Told (g.S.Store.state c.sized_head.new.s) = ap (λ (o : Origin). o.tells) c.in_ok-head.ensures.called.origin ∙ told in
    absurd (c.reach.ensures.untangled (ap (λ (o : Origin). o.tells) c.in_ok-write_bytes.ensures.called.origin ∙ told_mid) d e kind)

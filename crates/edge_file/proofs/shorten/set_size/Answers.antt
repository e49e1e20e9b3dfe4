use Rattle.std.proofs.Common.{◌≡◌, ◌<◌, ◌≤◌, ◌∙◌, sym, ap, subst, arith}
use Rattle.std.proofs.lemmas.Result.{err_from_is_err_and}
use Rattle.std.specs.Prelude.{Err}
use Rattle.edge_base.specs.outside.Below.{Origin}
use Rattle.edge_store.specs.Effects.{HeadSet}
use Rattle.edge_store.specs.State.{Told}
use Rattle.edge_store.specs.View.{View, head_of_inode}
use Rattle.edge_file.specs.Bytes.{size_at, size_in}
use Rattle.edge_file.specs.Writing.{SameBlocks}
use Rattle.edge_file.proofs.AnswerLaws.{on_ok_map, same_fault}
use Rattle.edge_file.proofs.GrowLaws.{grows_no_less}
use Rattle.edge_file.proofs.SizeLaws.{shortens_from}
use Rattle.edge_file.proofs.shorten.set_size.Goals as goal

pub returns-then-size-head-clause-lengthened : goal.returns-then-size-head-clause-lengthened
returns-then-size-head-clause-lengthened g c =
    on_ok_map c.shorten.result (λ ok short told low.
    let old = g.S.Store.state c.args.s.now in
    let is : size_at old.working c.args.n ≡ c.in_ok-head.head.size = ap size_in (c.in_ok-head.ensures.head told) in
    let less : size_at old.working c.args.n ≤ c.args.size = low in
    absurd (omega (arith, is, less)))
    c.shorten.ensures.sized

pub returns-clause-lengthened : goal.returns-clause-lengthened
returns-clause-lengthened g c =
    on_ok_map c.reach.result (λ ok blocks told low.
    let first = c.in_ok-head.ensures in
    let told_mid : Told (g.S.Store.state c.sized_head.new.s) = ap (λ (o : Origin). o.tells) first.called.origin ∙ told in
    subst (λ (v : View). SameBlocks v (g.S.Store.state c.reach.new.s).working c.args.n) first.reads.working (blocks told_mid))
    c.reach.ensures.blocks

pub returns-clause-inodes : goal.returns-clause-inodes
returns-clause-inodes g c =
    on_ok_map c.reach.result (λ ok blocks told x apart.
    let first = c.in_ok-head.ensures in
    let told_mid : Told (g.S.Store.state c.sized_head.new.s) = ap (λ (o : Origin). o.tells) first.called.origin ∙ told in
    (blocks told_mid).others x apart ∙ ap (λ (v : View). v.inodes x) first.reads.working)
    c.reach.ensures.blocks

pub returns-then-size-head-clause-untangled : goal.returns-then-size-head-clause-untangled
returns-then-size-head-clause-untangled g c told low =
    let is : size_at (g.S.Store.state c.args.s.now).working c.args.n ≡ c.in_ok-head.head.size = ap size_in (c.in_ok-head.ensures.head told) in
    let less : size_at (g.S.Store.state c.args.s.now).working c.args.n ≤ c.args.size = low in
    absurd (omega (arith, is, less))

pub returns-then-size-head-clause-set : goal.returns-then-size-head-clause-set
returns-then-size-head-clause-set g c =
    on_ok_map c.shorten.result (λ ok short told head was low.
    let old = g.S.Store.state c.args.s.now in
    let is : size_at old.working c.args.n ≡ c.in_ok-head.head.size = ap size_in (c.in_ok-head.ensures.head told) in
    let same : size_at old.working c.args.n ≡ head.size = ap size_in was in
    let less : head.size ≤ c.args.size = low in
    absurd (omega (arith, is, same, less)))
    c.shorten.ensures.sized

pub returns-clause-set : goal.returns-clause-set
returns-clause-set g c =
    on_ok_map c.reach.result (λ ok grows told head was low.
    let first = c.in_ok-head.ensures in
    let mid = g.S.Store.state c.sized_head.new.s in
    let new = g.S.Store.state c.reach.new.s in
    let told_mid : Told mid = ap (λ (o : Origin). o.tells) first.called.origin ∙ told in
    let here = ap (λ (v : View). head_of_inode (v.inodes c.args.n)) first.reads.working ∙ was in
    subst (λ (v : View). HeadSet v new.working c.args.n (record head { size = c.args.size })) first.reads.working
    (grows_no_less mid.working new.working c.args.n c.args.size (grows told_mid) head here low))
    c.reach.ensures.set

pub returns-in_err-head-clause-untangled_shaped : goal.returns-in_err-head-clause-untangled_shaped
returns-in_err-head-clause-untangled_shaped g c told rules d e =
    let p = err_from_is_err_and c.from_residual.result c.from_residual.ensures.1 in
    c.in_err-head.ensures.untangled told d (ap Err (sym p.2) ∙ same_fault _ _ (sym p.1 ∙ e))

pub returns-in_err-head-clause-tangled : goal.returns-in_err-head-clause-tangled
returns-in_err-head-clause-tangled g c told d e kind =
    let p = err_from_is_err_and c.from_residual.result c.from_residual.ensures.1 in
    absurd (c.in_err-head.ensures.untangled told d (ap Err (sym p.2) ∙ same_fault _ _ (sym p.1 ∙ e)) kind)

pub returns-then-size-head-clause-untangled_shaped : goal.returns-then-size-head-clause-untangled_shaped
returns-then-size-head-clause-untangled_shaped g c told rules =
    let old = g.S.Store.state c.args.s.now in
    let mid = g.S.Store.state c.sized_head.new.s in
    let first = c.in_ok-head.ensures in
    let told_mid : Told mid = ap (λ (o : Origin). o.tells) first.called.origin ∙ told in
    let is : size_at old.working c.args.n ≡ c.in_ok-head.head.size = ap size_in (first.head told) in
    let shorter : c.args.size < size_at old.working c.args.n = omega (arith, is) in
    c.shorten.ensures.untangled told_mid (shortens_from old mid c.args.n c.args.size first.called.origin first.reads.working first.point.committed rules.0 (rules.1 shorter))

pub returns-then-size-head-clause-tangled : goal.returns-then-size-head-clause-tangled
returns-then-size-head-clause-tangled g c told =
    let told_mid : Told (g.S.Store.state c.sized_head.new.s) = ap (λ (o : Origin). o.tells) c.in_ok-head.ensures.called.origin ∙ told in
    c.shorten.ensures.tangled told_mid

pub returns-clause-untangled_shaped : goal.returns-clause-untangled_shaped
returns-clause-untangled_shaped g c told rules =
    let told_mid : Told (g.S.Store.state c.sized_head.new.s) = ap (λ (o : Origin). o.tells) c.in_ok-head.ensures.called.origin ∙ told in
    c.reach.ensures.untangled told_mid

pub returns-clause-tangled : goal.returns-clause-tangled
returns-clause-tangled g c told d e kind =
    let told_mid : Told (g.S.Store.state c.sized_head.new.s) = ap (λ (o : Origin). o.tells) c.in_ok-head.ensures.called.origin ∙ told in
    absurd (c.reach.ensures.untangled told_mid d e kind)

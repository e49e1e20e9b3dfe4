use Rattle.std.proofs.Common.{◌≡◌, ◌≢◌, ◌∙◌, ◌-◌, ◌/◌, ◌%◌, lit<, refl, sym, ap, subst}
use Rattle.std.specs.Prelude.{replicate, slice_index}
use Rattle.std.proofs.lemmas.Bool.{both_ways}
use Rattle.std.proofs.lemmas.List.{get_or-replicate}
use Rattle.edge_base.specs.declared.geometry.Request.{Request}
use Rattle.edge_base.specs.outside.Below.{Origin}
use Rattle.edge_store.specs.Placed.{data_block}
use Rattle.edge_store.specs.State.{Told}
use Rattle.edge_file.specs.Shortened.{has_rest}
use Rattle.edge_file.proofs.AnswerLaws.{on_ok_map}
use Rattle.edge_file.proofs.RestLaws.{rest_none, rest_absent, rest_there}
use Rattle.edge_file.proofs.SizeLaws.{clears_none, clears_some, clears_room, clears_from}
use Rattle.edge_file.proofs.shorten.clear_rest.Goals as goal

pub returns-in_default-clause-cleared : goal.returns-in_default-clause-cleared
returns-in_default-clause-cleared g c =
    let old = g.S.Store.state c.args.s.now in
    let r = old.origin.request in
    let none : c.args.size % r.block_size ≡ 0 = subst (λ (q : Request). c.args.size % q.block_size ≡ 0) c.geometry.ensures (c.rest_behind.ensures.none c.in_default.is) in
    clears_none old old c.args.n c.args.size refl (λ told. rest_none r old.working c.args.n c.args.size none)

pub returns-then-branch-eq0-clause-cleared : goal.returns-then-branch-eq0-clause-cleared
returns-then-branch-eq0-clause-cleared g c =
    let old = g.S.Store.state c.args.s.now in
    let mid = g.S.Store.state c.block_of.new.s in
    let r = old.origin.request in
    let first = c.in_ok-block_of.ensures in
    let index : c.in-Some.rest.index ≡ c.args.size / r.block_size = c.in-Some.ensures.index ∙ ap (λ (q : Request). c.args.size / q.block_size) c.geometry.ensures in
    clears_none old mid c.args.n c.args.size first.reads.working
    (λ told. rest_absent r old.working c.args.n c.args.size (ap (data_block r old.working c.args.n) (sym index) ∙ sym (first.block told) ∙ c.if-branch-eq0.true))

pub returns-clause-undamaged : goal.returns-clause-undamaged
returns-clause-undamaged g c told shaped room =
    let old = g.S.Store.state c.args.s.now in
    let mid = g.S.Store.state c.block_of.new.s in
    let r = old.origin.request in
    let first = c.in_ok-block_of.ensures in
    let rest = c.in-Some.rest in
    let index : rest.index ≡ c.args.size / r.block_size = c.in-Some.ensures.index ∙ ap (λ (q : Request). c.args.size / q.block_size) c.geometry.ensures in
    let part : c.args.size % r.block_size ≢ 0 = subst (λ (q : Request). c.args.size % q.block_size ≢ 0) c.geometry.ensures c.in-Some.ensures.part in
    let len : rest.len ≡ r.block_size - c.args.size % r.block_size = c.in-Some.ensures.len ∙ ap (λ (q : Request). q.block_size - c.args.size % q.block_size) c.geometry.ensures in
    let is = rest_there r old.working c.args.n c.args.size part (λ none. c.if-branch-eq0.false (first.block told ∙ ap (data_block r old.working c.args.n) index ∙ none)) in
    let told_mid : Told mid = ap (λ (o : Origin). o.tells) first.called.origin ∙ told in
    let need = clears_room old c.args.n c.args.size rest.len (g.met.S.Store.is_geometry c.args.s.now) (g.met.S.Store.working_is_view c.args.s.now told c.requires.live) is len shaped room in
    let both = clears_from old mid c.args.n c.args.size rest.len first.called.origin first.reads.working first.point.committed shaped need in
    c.fill_bytes.ensures.undamaged told_mid both.0 both.1

pub returns-clause-untangled : goal.returns-clause-untangled
returns-clause-untangled g c told rules =
    let old = g.S.Store.state c.args.s.now in
    let mid = g.S.Store.state c.block_of.new.s in
    let r = old.origin.request in
    let first = c.in_ok-block_of.ensures in
    let rest = c.in-Some.rest in
    let index : rest.index ≡ c.args.size / r.block_size = c.in-Some.ensures.index ∙ ap (λ (q : Request). c.args.size / q.block_size) c.geometry.ensures in
    let part : c.args.size % r.block_size ≢ 0 = subst (λ (q : Request). c.args.size % q.block_size ≢ 0) c.geometry.ensures c.in-Some.ensures.part in
    let len : rest.len ≡ r.block_size - c.args.size % r.block_size = c.in-Some.ensures.len ∙ ap (λ (q : Request). q.block_size - c.args.size % q.block_size) c.geometry.ensures in
    let is = rest_there r old.working c.args.n c.args.size part (λ none. c.if-branch-eq0.false (first.block told ∙ ap (data_block r old.working c.args.n) index ∙ none)) in
    let told_mid : Told mid = ap (λ (o : Origin). o.tells) first.called.origin ∙ told in
    let need = clears_room old c.args.n c.args.size rest.len (g.met.S.Store.is_geometry c.args.s.now) (g.met.S.Store.working_is_view c.args.s.now told c.requires.live) is len rules.0 rules.1 in
    let both = clears_from old mid c.args.n c.args.size rest.len first.called.origin first.reads.working first.point.committed rules.0 need in
    c.fill_bytes.ensures.untangled told_mid both

pub returns-clause-tangled : goal.returns-clause-tangled
returns-clause-tangled g c told =
    let told_mid : Told (g.S.Store.state c.block_of.new.s) = ap (λ (o : Origin). o.tells) c.in_ok-block_of.ensures.called.origin ∙ told in
    c.fill_bytes.ensures.tangled told_mid

pub returns-clause-heads : goal.returns-clause-heads
returns-clause-heads g c =
    on_ok_map c.fill_bytes.result (λ ok heads told.
    let first = c.in_ok-block_of.ensures in
    let told_mid : Told (g.S.Store.state c.block_of.new.s) = ap (λ (o : Origin). o.tells) first.called.origin ∙ told in
    rw first.reads.working at (heads told_mid))
    c.fill_bytes.ensures.heads

pub returns-clause-cleared : goal.returns-clause-cleared
returns-clause-cleared g c =
    let old = g.S.Store.state c.args.s.now in
    let mid = g.S.Store.state c.block_of.new.s in
    let r = old.origin.request in
    let first = c.in_ok-block_of.ensures in
    let rest = c.in-Some.rest in
    let index : rest.index ≡ c.args.size / r.block_size = c.in-Some.ensures.index ∙ ap (λ (q : Request). c.args.size / q.block_size) c.geometry.ensures in
    let part : c.args.size % r.block_size ≢ 0 = subst (λ (q : Request). c.args.size % q.block_size ≢ 0) c.geometry.ensures c.in-Some.ensures.part in
    let len : rest.len ≡ r.block_size - c.args.size % r.block_size = c.in-Some.ensures.len ∙ ap (λ (q : Request). q.block_size - c.args.size % q.block_size) c.geometry.ensures in
    on_ok_map c.fill_bytes.result (λ ok written.
    clears_some old mid (g.S.Store.state c.fill_bytes.new.s) c.args.n c.args.size rest.len (slice_index (replicate 4096 0) 0) first.called.origin first.reads.working first.point.committed
    (λ told. rest_there r old.working c.args.n c.args.size part (λ none. c.if-branch-eq0.false (first.block told ∙ ap (data_block r old.working c.args.n) index ∙ none)))
    len (get_or-replicate 4096 0 0 0 (lit< tt)) written)
    c.fill_bytes.ensures.written

pub returns-clause-stays : goal.returns-clause-stays
returns-clause-stays g c =
    let old = g.S.Store.state c.args.s.now in
    let r = old.origin.request in
    let first = c.in_ok-block_of.ensures in
    let rest = c.in-Some.rest in
    let index : rest.index ≡ c.args.size / r.block_size = c.in-Some.ensures.index ∙ ap (λ (q : Request). c.args.size / q.block_size) c.geometry.ensures in
    let part : c.args.size % r.block_size ≢ 0 = subst (λ (q : Request). c.args.size % q.block_size ≢ 0) c.geometry.ensures c.in-Some.ensures.part in
    on_ok_map c.fill_bytes.result (λ ok heads told none.
    absurd (both_ways (has_rest r old.working c.args.n c.args.size) none
    (rest_there r old.working c.args.n c.args.size part (λ zero. c.if-branch-eq0.false (first.block told ∙ ap (data_block r old.working c.args.n) index ∙ zero)))))
    c.fill_bytes.ensures.heads

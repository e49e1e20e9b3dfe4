use Rattle.std.proofs.Common.{◌≡◌, ◌<◌, sym, ap, ◌∙◌, subst, arith}
use Rattle.edge_base.specs.declared.geometry.Request.{Request}
use Rattle.edge_base.specs.declared.way.Way.{Way}
use Rattle.edge_base.specs.declared.way.Way.TheVariants as way
use Rattle.edge_base.specs.layout.Places.{IsWithinNodes, max_blocks_of, way_of}
use Rattle.edge_shape.specs.declared.cut.Cut.TheVariants.{Whole}
use Rattle.edge_shape.specs.Where.{cut_of_way}
use Rattle.edge_shape.proofs.WithinLaws.{cut_at-below, cut_at-end}
use Rattle.edge_cut.specs.Through.{HasSomeOnWay}
use Rattle.edge_cut.proofs.GoLaws.{on_ok_map}
use Rattle.edge_cut.proofs.ThroughLaws.{at_way, within_way}
use Rattle.edge_cut.proofs.through.cut_through.Goals as goal

pub returns-then-i-max_blocks-clause-cut : goal.returns-then-i-max_blocks-clause-cut
returns-then-i-max_blocks-clause-cut g c told =
    let old = g.S.Store.state c.args.s.now in
    let most : c.max_blocks.result ≡ max_blocks_of old.origin.request = c.max_blocks.ensures ∙ ap max_blocks_of c.geometry-g.ensures in
    let is = c.if-i-max_blocks.true in
    ap (λ e. Whole e) c.entries.ensures ∙ sym (cut_at-end old.origin.request old.working c.args.n c.args.i (omega (arith, is, most)))

pub returns-in-Direct-clause-cut : goal.returns-in-Direct-clause-cut
returns-in-Direct-clause-cut g c told =
    let old = g.S.Store.state c.args.s.now in
    let most : c.max_blocks.result ≡ max_blocks_of old.origin.request = c.max_blocks.ensures ∙ ap max_blocks_of c.geometry-g.ensures in
    let low : c.args.i < max_blocks_of old.origin.request = let away = c.if-i-max_blocks.false in omega (arith, c.requires.index, most, away) in
    let is : way_of old.origin.request c.args.i ≡ way.Direct c.in-Direct.entry = ap (λ (r : Request). way_of r c.args.i) (sym c.geometry-g.ensures) ∙ sym c.way.ensures.way ∙ c.in-Direct.is in
    sym (cut_at-below old.origin.request old.working c.args.n c.args.i low ∙ ap (cut_of_way old.origin.request old.working c.args.n) is)

pub returns-in-Single-clause-cut : goal.returns-in-Single-clause-cut
returns-in-Single-clause-cut g c =
    let old = g.S.Store.state c.args.s.now in
    let most : c.max_blocks.result ≡ max_blocks_of old.origin.request = c.max_blocks.ensures ∙ ap max_blocks_of c.geometry-g.ensures in
    let low : c.args.i < max_blocks_of old.origin.request = let away = c.if-i-max_blocks.false in omega (arith, c.requires.index, most, away) in
    let is : way_of old.origin.request c.args.i ≡ way.Single c.in-Single.entry c.in-Single.place = ap (λ (r : Request). way_of r c.args.i) (sym c.geometry-g.ensures) ∙ sym c.way.ensures.way ∙ c.in-Single.is in
    at_way old c.args.n c.args.i _ c.single.result low is c.single.ensures.cut

pub returns-in-Double-clause-cut : goal.returns-in-Double-clause-cut
returns-in-Double-clause-cut g c =
    let old = g.S.Store.state c.args.s.now in
    let most : c.max_blocks.result ≡ max_blocks_of old.origin.request = c.max_blocks.ensures ∙ ap max_blocks_of c.geometry-g.ensures in
    let low : c.args.i < max_blocks_of old.origin.request = let away = c.if-i-max_blocks.false in omega (arith, c.requires.index, most, away) in
    let is : way_of old.origin.request c.args.i ≡ way.Double c.in-Double.entry c.in-Double.outer c.in-Double.place =
    ap (λ (r : Request). way_of r c.args.i) (sym c.geometry-g.ensures) ∙ sym c.way.ensures.way ∙ c.in-Double.is in
    at_way old c.args.n c.args.i _ c.double.result low is c.double.ensures.cut

pub returns-in-Single-clause-within : goal.returns-in-Single-clause-within
returns-in-Single-clause-within g c =
    let old = g.S.Store.state c.args.s.now in
    let within : IsWithinNodes old.origin.request (way.Single c.in-Single.entry c.in-Single.place) =
    subst (λ (w : Way). IsWithinNodes old.origin.request w) c.in-Single.is (subst (λ (r : Request). IsWithinNodes r c.way.result) c.geometry-g.ensures c.way.ensures.within) in
    within_way old c.args.n (way.Single c.in-Single.entry c.in-Single.place) c.single.result within c.single.ensures.cut

pub returns-in-Double-clause-within : goal.returns-in-Double-clause-within
returns-in-Double-clause-within g c =
    let old = g.S.Store.state c.args.s.now in
    let within : IsWithinNodes old.origin.request (way.Double c.in-Double.entry c.in-Double.outer c.in-Double.place) =
    subst (λ (w : Way). IsWithinNodes old.origin.request w) c.in-Double.is (subst (λ (r : Request). IsWithinNodes r c.way.result) c.geometry-g.ensures c.way.ensures.within) in
    within_way old c.args.n (way.Double c.in-Double.entry c.in-Double.outer c.in-Double.place) c.double.result within c.double.ensures.cut

pub returns-then-i-max_blocks-clause-some : goal.returns-then-i-max_blocks-clause-some
returns-then-i-max_blocks-clause-some g c told low =
    let old = g.S.Store.state c.args.s.now in
    let most : c.max_blocks.result ≡ max_blocks_of old.origin.request = c.max_blocks.ensures ∙ ap max_blocks_of c.geometry-g.ensures in
    let is = c.if-i-max_blocks.true in
    let below : c.args.i < max_blocks_of old.origin.request = low in
    absurd (omega (arith, is, most, below))

pub returns-in-Direct-clause-some : goal.returns-in-Direct-clause-some
returns-in-Direct-clause-some g c told low =
    let old = g.S.Store.state c.args.s.now in
    let is : way_of old.origin.request c.args.i ≡ way.Direct c.in-Direct.entry = ap (λ (r : Request). way_of r c.args.i) (sym c.geometry-g.ensures) ∙ sym c.way.ensures.way ∙ c.in-Direct.is in
    subst (HasSomeOnWay old.working c.args.n) (sym is) tt

pub returns-in-Single-clause-some : goal.returns-in-Single-clause-some
returns-in-Single-clause-some g c =
    let old = g.S.Store.state c.args.s.now in
    let is : way_of old.origin.request c.args.i ≡ way.Single c.in-Single.entry c.in-Single.place = ap (λ (r : Request). way_of r c.args.i) (sym c.geometry-g.ensures) ∙ sym c.way.ensures.way ∙ c.in-Single.is in
    on_ok_map c.single.result (λ some told low. subst (HasSomeOnWay old.working c.args.n) (sym is) (some told)) c.single.ensures.some

pub returns-in-Double-clause-some : goal.returns-in-Double-clause-some
returns-in-Double-clause-some g c =
    let old = g.S.Store.state c.args.s.now in
    let is : way_of old.origin.request c.args.i ≡ way.Double c.in-Double.entry c.in-Double.outer c.in-Double.place =
    ap (λ (r : Request). way_of r c.args.i) (sym c.geometry-g.ensures) ∙ sym c.way.ensures.way ∙ c.in-Double.is in
    on_ok_map c.double.result (λ some told low. subst (HasSomeOnWay old.working c.args.n) (sym is) (some told)) c.double.ensures.some

use Rattle.std.proofs.Common.{◌≡◌, ◌∙◌, ap, sym}
use Rattle.edge_base.specs.declared.geometry.Request.{Request}
use Rattle.edge_base.specs.declared.way.Way.TheVariants as way
use Rattle.edge_base.specs.layout.Places.{way_of}
use Rattle.edge_tree.proofs.WayForms.{on_way}
use Rattle.edge_tree.proofs.walk.block_of.Goals as goal

pub returns-in-Direct-clause-block : goal.returns-in-Direct-clause-block
returns-in-Direct-clause-block g c =
    let old = g.S.Store.state c.args.s.now in
    let is : way_of old.origin.request c.args.i ≡ way.Direct c.in-Direct.entry = ap (λ (r : Request). way_of r c.args.i) (sym c.geometry.ensures) ∙ sym c.way.ensures.way ∙ c.in-Direct.is in
    on_way old c.args.n c.args.i _ c.entry_link.result c.requires.index is c.entry_link.ensures.entry

pub returns-in-Single-clause-block : goal.returns-in-Single-clause-block
returns-in-Single-clause-block g c =
    let old = g.S.Store.state c.args.s.now in
    let is : way_of old.origin.request c.args.i ≡ way.Single c.in-Single.entry c.in-Single.place = ap (λ (r : Request). way_of r c.args.i) (sym c.geometry.ensures) ∙ sym c.way.ensures.way ∙ c.in-Single.is in
    on_way old c.args.n c.args.i _ c.block_under.result c.requires.index is c.block_under.ensures.block

pub returns-in-Double-clause-block : goal.returns-in-Double-clause-block
returns-in-Double-clause-block g c =
    let old = g.S.Store.state c.args.s.now in
    let is : way_of old.origin.request c.args.i ≡ way.Double c.in-Double.entry c.in-Double.outer c.in-Double.place =
    ap (λ (r : Request). way_of r c.args.i) (sym c.geometry.ensures) ∙ sym c.way.ensures.way ∙ c.in-Double.is in
    on_way old c.args.n c.args.i _ c.block_below.result c.requires.index is c.block_below.ensures.block

use Rattle.std.proofs.Common.{◌≡◌, ◌∙◌, ap, sym}
use Rattle.edge_base.specs.declared.geometry.Request.{Request}
use Rattle.edge_base.specs.declared.way.Way.TheVariants as way
use Rattle.edge_base.specs.layout.Places.{way_of}
use Rattle.edge_tree.proofs.WayForms.{chain_on_way, costs_on_way, entry_costs}
use Rattle.edge_tree.proofs.chain.chain_of.Goals as goal

pub returns-in-Direct-clause-block : goal.returns-in-Direct-clause-block
returns-in-Direct-clause-block g c =
    let old = g.S.Store.state c.args.s.now in
    let is : way_of old.origin.request c.args.i ≡ way.Direct c.in-Direct.entry = ap (λ (r : Request). way_of r c.args.i) (sym c.geometry.ensures) ∙ sym c.way.ensures.way ∙ c.in-Direct.is in
    chain_on_way old c.args.n c.args.i _ c.entry_chain.result c.requires.index is c.entry_chain.ensures.entry

pub returns-in-Single-clause-block : goal.returns-in-Single-clause-block
returns-in-Single-clause-block g c =
    let old = g.S.Store.state c.args.s.now in
    let is : way_of old.origin.request c.args.i ≡ way.Single c.in-Single.entry c.in-Single.place = ap (λ (r : Request). way_of r c.args.i) (sym c.geometry.ensures) ∙ sym c.way.ensures.way ∙ c.in-Single.is in
    chain_on_way old c.args.n c.args.i _ c.chain_under.result c.requires.index is c.chain_under.ensures.block

pub returns-in-Double-clause-block : goal.returns-in-Double-clause-block
returns-in-Double-clause-block g c =
    let old = g.S.Store.state c.args.s.now in
    let is : way_of old.origin.request c.args.i ≡ way.Double c.in-Double.entry c.in-Double.outer c.in-Double.place =
    ap (λ (r : Request). way_of r c.args.i) (sym c.geometry.ensures) ∙ sym c.way.ensures.way ∙ c.in-Double.is in
    chain_on_way old c.args.n c.args.i _ c.chain_below.result c.requires.index is c.chain_below.ensures.block

pub returns-in-Direct-clause-fresh : goal.returns-in-Direct-clause-fresh
returns-in-Direct-clause-fresh g c =
    let old = g.S.Store.state c.args.s.now in
    let is : way_of old.origin.request c.args.i ≡ way.Direct c.in-Direct.entry = ap (λ (r : Request). way_of r c.args.i) (sym c.geometry.ensures) ∙ sym c.way.ensures.way ∙ c.in-Direct.is in
    costs_on_way old c.args.n c.args.i _ c.entry_chain.result c.requires.index is (entry_costs old c.args.n c.in-Direct.entry c.entry_chain.result c.entry_chain.ensures.entry c.entry_chain.ensures.cost)

pub returns-in-Single-clause-fresh : goal.returns-in-Single-clause-fresh
returns-in-Single-clause-fresh g c =
    let old = g.S.Store.state c.args.s.now in
    let is : way_of old.origin.request c.args.i ≡ way.Single c.in-Single.entry c.in-Single.place = ap (λ (r : Request). way_of r c.args.i) (sym c.geometry.ensures) ∙ sym c.way.ensures.way ∙ c.in-Single.is in
    costs_on_way old c.args.n c.args.i _ c.chain_under.result c.requires.index is c.chain_under.ensures.cost

pub returns-in-Double-clause-fresh : goal.returns-in-Double-clause-fresh
returns-in-Double-clause-fresh g c =
    let old = g.S.Store.state c.args.s.now in
    let is : way_of old.origin.request c.args.i ≡ way.Double c.in-Double.entry c.in-Double.outer c.in-Double.place =
    ap (λ (r : Request). way_of r c.args.i) (sym c.geometry.ensures) ∙ sym c.way.ensures.way ∙ c.in-Double.is in
    costs_on_way old c.args.n c.args.i _ c.chain_below.result c.requires.index is c.chain_below.ensures.cost

use Rattle.std.proofs.Common.{◌≡◌, ◌<◌, ℕ, List, Option, sym, ap, ◌∙◌, subst}
use Rattle.std.specs.Prelude.{OnOk, IsTrue}
use Rattle.edge_base.specs.declared.damage.Damage.{Damage}
use Rattle.edge_base.specs.declared.geometry.Request.{Request}
use Rattle.edge_disk.specs.Disk.{Origin}
use Rattle.edge_nodes.proofs.GeometryLaws.{limits}
use Rattle.edge_anchor.proofs.PlaceLaws.{allocable_within}
use Rattle.edge_point.specs.Blocks.{TellsMet}
use Rattle.edge_point.proofs.BlockLaws.{tells_as}
use Rattle.edge_point.proofs.FindLaws.{err_is, sees_after, sees_as, sees_content, sees_geometry, sees_point, sees_shows}
use Rattle.edge_point.proofs.look.load.Goals as goal

pub returns-in_err-seek_block-clause-sees : goal.returns-in_err-seek_block-clause-sees
returns-in_err-seek_block-clause-sees g c =
    sees_as g.D.Disk c.args.p.now c.seek_block.new.p c.seek_block.result _ c.in_err-seek_block.field-0.0 c.seek_block.ensures.sees c.in_err-seek_block.was
    (err_is _ _ c.from_residual.ensures)

pub returns-in_err-seek_block-clause-met : goal.returns-in_err-seek_block-clause-met
returns-in_err-seek_block-clause-met g c = λ shows tied.
    tells_as _ c.seek_block.result _ c.in_err-seek_block.field-0.0 (c.seek_block.ensures.met shows tied) c.in_err-seek_block.was
    (err_is _ _ c.from_residual.ensures)

pub read_rest-requires-clause-stands : goal.read_rest-requires-clause-stands
read_rest-requires-clause-stands g c = sees_point g.D.Disk c.args.p.now c.seek_block.new.p c.seek_block.result c.seek_block.ensures.sees c.requires.stands
    c.requires.live

pub read_rest-requires-clause-block : goal.read_rest-requires-clause-block
read_rest-requires-clause-block g c =
    let r = c.args.p.now.master.geometry in
    subst (λ (x : Request). c.args.s.block < x.blocks) (sym (sees_geometry g.D.Disk c.args.p.now c.seek_block.new.p c.seek_block.result
    c.seek_block.ensures.sees))
    (allocable_within r (limits r c.requires.stands.geometry) c.args.s.block c.requires.block).1

pub read_rest-requires-clause-node : goal.read_rest-requires-clause-node
read_rest-requires-clause-node g c = λ shows far.
    let before : IsTrue (g.D.Disk.origin c.args.p.now.cache.disk).shows = subst (λ (o : Origin). IsTrue o.shows) c.seek_block.ensures.sees.reads.origin shows in
    c.in_ok-seek_block.ensures.bytes before far
    ∙ ap (λ (x : ℕ → List ℕ). x c.args.s.block) (sym (sees_content g.D.Disk c.args.p.now c.seek_block.new.p c.seek_block.result c.seek_block.ensures.sees
    before))

pub returns-clause-sees : goal.returns-clause-sees
returns-clause-sees g c = sees_after g.D.Disk c.args.p.now c.seek_block.new.p c.read_rest.new.p _ c.read_rest.result c.in_ok-seek_block.ensures.sees
    c.read_rest.ensures.sees

pub returns-clause-bytes : goal.returns-clause-bytes
returns-clause-bytes g c = λ shows.
    let d = g.D.Disk in
    let p = c.args.p.now in
    let m = c.seek_block.new.p in
    subst (λ (x : ℕ → List ℕ). OnOk c.read_rest.result (c.read_rest.new.p.block.items ≡ x c.args.s.block))
    (sees_content d p m c.seek_block.result c.seek_block.ensures.sees shows)
    (c.read_rest.ensures.bytes (sees_shows d p m c.seek_block.result c.seek_block.ensures.sees shows))

pub returns-clause-met : goal.returns-clause-met
returns-clause-met g c = λ shows tied.
    subst (λ (x : Option Damage). TellsMet x c.read_rest.result) (sym (c.in_ok-seek_block.ensures.met shows tied)) c.read_rest.ensures.met

use Rattle.std.proofs.Common.{◌≡◌, ◌<◌, ℕ, List, Option, Some, Err, sym, ap, ◌∙◌, subst}
use Rattle.std.specs.Prelude.{OnOk, Result}
use Rattle.edge_base.specs.declared.damage.Damage.{Damage}
use Rattle.edge_base.specs.declared.damage.DamageKind.TheVariants as kinds
use Rattle.edge_base.specs.declared.geometry.Request.{Request}
use Rattle.edge_base.specs.layout.Bitmap.{used_under}
use Rattle.edge_cache.specs.Calls.{content_in}
use Rattle.edge_image.specs.View.{block_told}
use Rattle.edge_nodes.proofs.GeometryLaws.{limits}
use Rattle.edge_store.specs.Damages.{damage_at, damage_in}
use Rattle.edge_store.specs.View.{content}
use Rattle.edge_store.specs.declared.fault.StoreFault.{StoreFault}
use Rattle.edge_anchor.proofs.PlaceLaws.{block_has_bit}
use Rattle.edge_point.specs.Blocks.{TellsMet}
use Rattle.edge_point.specs.Seen.{next_view}
use Rattle.edge_point.proofs.BlockLaws.{met_unused, met_used, tells_damage, tells_fault}
use Rattle.edge_point.proofs.FindLaws.{err_is, sees_after, sees_content, sees_geometry, sees_point, sees_shows}
use Rattle.edge_point.proofs.block.seek_block.Goals as goal

pub is_used-requires-clause-block : goal.is_used-requires-clause-block
is_used-requires-clause-block g c =
    let r = c.args.p.now.master.geometry in
    block_has_bit r (limits r c.requires.stands.geometry) c.args.s.block c.requires.block

pub returns-in_err-used-clause-met : goal.returns-in_err-used-clause-met
returns-in_err-used-clause-met g c = λ shows tied.
    tells_fault (damage_at (next_view g.D.Disk c.args.p.now) c.args.s.form c.args.s.owner c.args.s.block) c.is_used.result _ c.in_err-used.field-0.0
    c.in_err-used.was
    (c.is_used.ensures.sound shows tied) (err_is _ _ c.from_residual.ensures)

pub returns-then-not-used-clause-met : goal.returns-then-not-used-clause-met
returns-then-not-used-clause-met g c = λ shows tied.
    let p = c.args.p.now in
    let s = c.args.s in
    let answer : StoreFault → Result (Unit {0}) StoreFault = λ f. Err f in
    tells_damage {T = Unit {0}} (damage_at (next_view g.D.Disk p) s.form s.owner s.block) (Err c.damaged.result)
    (record { block = s.block; kind = kinds.NotUsed })
    (ap answer c.damaged.ensures)
    (met_unused p.master.geometry (used_under p.master.geometry p.imap.working (content_in g.D.Disk p.cache))
    (content_in g.D.Disk p.cache) s.form s.owner s.block c.requires.block
    (sym (c.in_ok-used.ensures.used shows) ∙ c.if-not-used.true))

pub read_form-requires-clause-stands : goal.read_form-requires-clause-stands
read_form-requires-clause-stands g c = sees_point g.D.Disk c.args.p.now c.is_used.new.p c.is_used.result c.is_used.ensures.sees c.requires.stands
    c.requires.live

pub read_form-requires-clause-block : goal.read_form-requires-clause-block
read_form-requires-clause-block g c =
    let r = c.args.p.now.master.geometry in
    subst (λ (x : Request). c.args.s.block < x.blocks) (sym (sees_geometry g.D.Disk c.args.p.now c.is_used.new.p c.is_used.result c.is_used.ensures.sees))
    (block_has_bit r (limits r c.requires.stands.geometry) c.args.s.block c.requires.block).below

pub returns-clause-sees : goal.returns-clause-sees
returns-clause-sees g c = sees_after g.D.Disk c.args.p.now c.is_used.new.p c.read_form.new.p c.in_ok-used.used c.read_form.result
    c.in_ok-used.ensures.sees c.read_form.ensures.sees

pub returns-clause-bytes : goal.returns-clause-bytes
returns-clause-bytes g c = λ shows node.
    let p = c.args.p.now in
    let m = c.is_used.new.p in
    let sees = c.is_used.ensures.sees in
    subst (λ (x : ℕ → List ℕ). OnOk c.read_form.result (c.read_form.new.p.block.items ≡ x c.args.s.block))
    (sees_content g.D.Disk p m c.is_used.result sees shows)
    (c.read_form.ensures.bytes (sees_shows g.D.Disk p m c.is_used.result sees shows) node)

pub returns-clause-met : goal.returns-clause-met
returns-clause-met g c = λ shows tied.
    let p = c.args.p.now in
    let m = c.is_used.new.p in
    let s = c.args.s in
    let r = c.read_form.result in
    let sees = c.is_used.ensures.sees in
    let bytes = content_in g.D.Disk p.cache in
    subst (λ (d : Option Damage). TellsMet d r)
    (sym (met_used p.master.geometry (used_under p.master.geometry p.imap.working bytes) bytes s.form s.owner s.block c.requires.block
    (sym (c.in_ok-used.ensures.used shows) ∙ c.if-not-used.false)))
    (subst (λ (x : Request). TellsMet (damage_in s.block s.owner (content s.form (Some (block_told x (bytes s.block))))) r)
    (sees_geometry g.D.Disk p m c.is_used.result sees)
    (subst (λ (x : ℕ → List ℕ). TellsMet (damage_in s.block s.owner (content s.form (Some (block_told m.master.geometry (x s.block))))) r)
    (sees_content g.D.Disk p m c.is_used.result sees shows) (c.read_form.ensures.met (sees_shows g.D.Disk p m c.is_used.result sees shows))))

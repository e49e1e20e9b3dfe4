use Rattle.std.proofs.Common.{◌≡◌, ◌+◌, ℕ, List, None, refl, sym, ap, ◌∙◌, subst, length, arith}
use Rattle.std.specs.Prelude.{slice_range}
use Rattle.edge_base.specs.declared.form.Form.{Form}
use Rattle.edge_base.specs.layout.Bitmap.{used_under}
use Rattle.edge_cache.specs.Calls.{content_in}
use Rattle.edge_imap.proofs.CallLaws.{reads_call}
use Rattle.edge_nodes.proofs.GeometryLaws.{limits}
use Rattle.edge_store.specs.Damages.{damage_at}
use Rattle.edge_store.specs.declared.fault.StoreFault.TheVariants.{Device}
use Rattle.edge_anchor.proofs.PlaceLaws.{block_has_bit}
use Rattle.edge_point.specs.Seen.{next_view}
use Rattle.edge_point.proofs.BlockLaws.{bytes_met, tells_as}
use Rattle.edge_point.proofs.FindLaws.{err_is, sees_after, sees_as, sees_content, sees_failed, sees_passed, sees_shows}
use Rattle.edge_point.proofs.block.seek_bytes.Goals as goal

pub returns-in_err-seek_block-clause-sees : goal.returns-in_err-seek_block-clause-sees
returns-in_err-seek_block-clause-sees g c =
    sees_as g.D.Disk c.args.p.now c.seek_block.new.p c.seek_block.result _ c.in_err-seek_block.field-0.0 c.seek_block.ensures.sees
    c.in_err-seek_block.was (err_is _ _ c.from_residual.ensures)

pub returns-in_err-seek_block-clause-met : goal.returns-in_err-seek_block-clause-met
returns-in_err-seek_block-clause-met g c = λ shows tied.
    let s = c.args.s in
    tells_as (damage_at (next_view g.D.Disk c.args.p.now) s.form s.owner s.block) c.seek_block.result _ c.in_err-seek_block.field-0.0
    (c.seek_block.ensures.met shows tied) c.in_err-seek_block.was (err_is _ _ c.from_residual.ensures)

pub read-requires-clause-in_range : goal.read-requires-clause-in_range
read-requires-clause-in_range g c =
    let p = c.args.p.now in
    let origin = c.seek_block.ensures.sees.reads.origin in
    let same : (g.D.Disk.origin c.seek_block.new.p.cache.disk).blocks ≡ (g.D.Disk.origin p.cache.disk).blocks = λ t. (origin t).blocks in
    let below = (block_has_bit p.master.geometry (limits p.master.geometry c.requires.stands.geometry) c.args.s.block c.requires.block).below in
    omega (arith, same, below, c.requires.stands.fits.blocks)

pub read-requires-clause-inside : goal.read-requires-clause-inside
read-requires-clause-inside g c =
    let p = c.args.p.now in
    let origin = c.seek_block.ensures.sees.reads.origin in
    let same : (g.D.Disk.origin c.seek_block.new.p.cache.disk).block_size ≡ (g.D.Disk.origin p.cache.disk).block_size = λ t. (origin t).block_size in
    omega (arith, same, c.requires.range, c.requires.stands.fits.size)

pub returns-in-Ok-clause-sees : goal.returns-in-Ok-clause-sees
returns-in-Ok-clause-sees g c =
    let d = g.D.Disk in
    let m = c.seek_block.new.p in
    sees_after d c.args.p.now m _ _ _ c.in_ok-seek_block.ensures.sees (sees_passed d m _ tt (record {
      master = refl;
      place = refl;
      root = refl;
      points = refl;
      numbers = refl;
      next = refl;
      live = refl;
      torn = refl;
      damage = refl;
      block = refl;
    }) refl (reads_call d m.cache c.read.new.self c.read.ensures.origin c.read.ensures.only c.read.ensures.clean) c.read.ensures.cause.later
    c.in-Ok.ensures.cause.passed)

pub returns-in-Ok-clause-met : goal.returns-in-Ok-clause-met
returns-in-Ok-clause-met g c = c.in_ok-seek_block.ensures.met

pub returns-in-Ok-clause-bytes : goal.returns-in-Ok-clause-bytes
returns-in-Ok-clause-bytes g c = λ shows tied.
    let d = g.D.Disk in
    let p = c.args.p.now in
    let m = c.seek_block.new.p in
    let s = c.args.s in
    let sees = c.seek_block.ensures.sees in
    let content = content_in d p.cache in
    let until = c.args.at + length c.args.out.now in
    let none = subst (λ (f : Form). damage_at (next_view d p) f s.owner s.block ≡ None) c.requires.form (c.in_ok-seek_block.ensures.met shows tied) in
    c.in-Ok.ensures.bytes (sees_shows d p m c.seek_block.result sees shows)
    ∙ ap (λ (x : ℕ → List ℕ). slice_range (x s.block) c.args.at until) (sees_content d p m c.seek_block.result sees shows)
    ∙ sym (ap (λ (b : List ℕ). slice_range b c.args.at until)
    (bytes_met p.master.geometry (used_under p.master.geometry p.imap.working content) content s.owner s.block c.requires.block none))

pub returns-in-Err-clause-sees : goal.returns-in-Err-clause-sees
returns-in-Err-clause-sees g c =
    let d = g.D.Disk in
    let m = c.seek_block.new.p in
    sees_after d c.args.p.now m _ _ _ c.in_ok-seek_block.ensures.sees (sees_failed d m _ Device (record {
      master = refl;
      place = refl;
      root = refl;
      points = refl;
      numbers = refl;
      next = refl;
      live = refl;
      torn = refl;
      damage = refl;
      block = refl;
    }) refl (reads_call d m.cache c.read.new.self c.read.ensures.origin c.read.ensures.only c.read.ensures.clean) c.read.ensures.cause.later
    (c.in-Err.ensures.cause.failed, refl))

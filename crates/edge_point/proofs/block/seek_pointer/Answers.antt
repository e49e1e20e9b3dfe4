use Rattle.std.proofs.Common.{◌≡◌, ◌+◌, ◌*◌, ◌∙◌, ap, length, arith}
use Rattle.edge_base.specs.layout.Bitmap.{used_under}
use Rattle.edge_base.specs.layout.Bytes.{number_at}
use Rattle.edge_cache.specs.Calls.{content_in}
use Rattle.edge_store.specs.Damages.{damage_at}
use Rattle.edge_point.specs.Seen.{next_view}
use Rattle.edge_point.proofs.BlockLaws.{entry_met, tells_as}
use Rattle.edge_point.proofs.FindLaws.{err_is, sees_as, sees_passed}
use Rattle.edge_point.proofs.block.seek_pointer.Goals as goal

pub returns-in_err-seek_block-clause-sees : goal.returns-in_err-seek_block-clause-sees
returns-in_err-seek_block-clause-sees g c =
    sees_as g.D.Disk c.args.p.now c.seek_block.new.p c.seek_block.result _ c.in_err-seek_block.field-0.0 c.seek_block.ensures.sees
    c.in_err-seek_block.was (err_is _ _ c.from_residual.ensures)

pub returns-in_err-seek_block-clause-met : goal.returns-in_err-seek_block-clause-met
returns-in_err-seek_block-clause-met g c = λ shows tied.
    let s = c.args.s in
    tells_as (damage_at (next_view g.D.Disk c.args.p.now) s.form s.owner s.block) c.seek_block.result _ c.in_err-seek_block.field-0.0
    (c.seek_block.ensures.met shows tied) c.in_err-seek_block.was (err_is _ _ c.from_residual.ensures)

pub entry_of-requires : goal.entry_of-requires
entry_of-requires g c =
    let block : length c.seek_block.new.p.block.items ≡ c.args.p.now.master.geometry.block_size = c.seek_block.ensures.sees.rest.block
    ∙ c.requires.stands.block in
    omega (arith, block, c.requires.place)

pub returns-clause-sees : goal.returns-clause-sees
returns-clause-sees g c =
    let sees = c.in_ok-seek_block.ensures.sees in
    sees_passed g.D.Disk c.args.p.now c.seek_block.new.p _ sees.rest sees.imap sees.reads sees.cause.later sees.cause.passed.0

pub returns-clause-met : goal.returns-clause-met
returns-clause-met g c = c.in_ok-seek_block.ensures.met

pub returns-clause-pointer : goal.returns-clause-pointer
returns-clause-pointer g c = λ shows tied.
    let p = c.args.p.now in
    let s = c.args.s in
    let content = content_in g.D.Disk p.cache in
    entry_met p.master.geometry (used_under p.master.geometry p.imap.working content) content s.owner s.block c.requires.block
    ((c.requires.stands.told c.requires.live shows).whole s.block c.requires.block) s.form c.seek_block.new.p.block.items c.args.i c.entry_of.result
    c.requires.form
    (c.in_ok-seek_block.ensures.met shows tied) (c.in_ok-seek_block.ensures.bytes shows c.requires.form) c.requires.place
    (c.entry_of.ensures ∙ ap (number_at (20 + 4 * c.args.i) 4) c.deref.ensures.value)

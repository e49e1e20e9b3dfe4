use Rattle.std.proofs.Common.{length, refl, sym, ap, ◌∙◌, arith}
use Rattle.edge_cache.specs.Calls.{content_in}
use Rattle.edge_store.specs.declared.fault.StoreFault.TheVariants.{Device}
use Rattle.edge_imap.proofs.BitLaws.{whole_read}
use Rattle.edge_imap.proofs.CallLaws.{reads_call}
use Rattle.edge_mount.proofs.WholeLaws.{length-back}
use Rattle.edge_point.proofs.FindLaws.{sees_failed, sees_passed, whole_back}
use Rattle.edge_point.proofs.look.read_whole.Goals as goal

pub read-requires-clause-in_range : goal.read-requires-clause-in_range
read-requires-clause-in_range g c = omega (arith, c.requires.block, c.requires.stands.fits.blocks)

pub read-requires-clause-inside : goal.read-requires-clause-inside
read-requires-clause-inside g c = omega (arith, c.requires.stands.block, c.requires.stands.fits.size)

pub returns-in-Ok-clause-sees : goal.returns-in-Ok-clause-sees
returns-in-Ok-clause-sees g c =
    let p = c.args.p.now in
    sees_passed g.D.Disk p _ _ (record {
      master = refl;
      place = refl;
      root = refl;
      points = refl;
      numbers = refl;
      next = refl;
      live = refl;
      torn = refl;
      damage = refl;
      block = length-back p.block.len c.read.new.out p.block.items (omega arith) p.block.ok.0;
    }) refl (reads_call g.D.Disk p.cache c.read.new.self c.read.ensures.origin c.read.ensures.only c.read.ensures.clean) c.read.ensures.cause.later
    c.in-Ok.ensures.cause.passed

pub returns-in-Ok-clause-bytes : goal.returns-in-Ok-clause-bytes
returns-in-Ok-clause-bytes g c = λ shows.
    let p = c.args.p.now in
    let content = content_in g.D.Disk p.cache c.args.b in
    let len = c.read.ensures.whole shows c.args.b (omega (arith, c.requires.block, c.requires.stands.fits.blocks)) in
    whole_back p.block.len c.read.new.out p.block.items (omega arith) p.block.ok.0
    ∙ c.in-Ok.ensures.bytes shows ∙ whole_read content c.deref_mut.result.now
    (len ∙ c.requires.stands.fits.size ∙ sym c.requires.stands.block ∙ sym (ap length c.deref_mut.ensures.value))

pub returns-in-Err-clause-sees : goal.returns-in-Err-clause-sees
returns-in-Err-clause-sees g c =
    let p = c.args.p.now in
    sees_failed g.D.Disk p _ Device (record {
      master = refl;
      place = refl;
      root = refl;
      points = refl;
      numbers = refl;
      next = refl;
      live = refl;
      torn = refl;
      damage = refl;
      block = length-back p.block.len c.read.new.out p.block.items (omega arith) p.block.ok.0;
    }) refl (reads_call g.D.Disk p.cache c.read.new.self c.read.ensures.origin c.read.ensures.only c.read.ensures.clean) c.read.ensures.cause.later
    (c.in-Err.ensures.cause.failed, refl)

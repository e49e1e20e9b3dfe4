use Rattle.std.proofs.Common.{List, ℕ, refl, sym, ap, ◌∙◌, subst, arith, length}
use Rattle.edge_base.specs.layout.Spelling.{pointer_in}
use Rattle.edge_cache.specs.Calls.{content_in}
use Rattle.edge_imap.proofs.BitLaws.{whole_read}
use Rattle.edge_imap.proofs.CallLaws.{reads_call}
use Rattle.edge_mount.proofs.WholeLaws.{length-back}
use Rattle.edge_store.specs.Damages.{damage_in}
use Rattle.edge_store.specs.View.{pointers}
use Rattle.edge_store.specs.declared.fault.StoreFault.TheVariants.{Device}
use Rattle.edge_point.specs.Blocks.{TellsMet}
use Rattle.edge_point.proofs.BlockLaws.{sees_met, tells_met}
use Rattle.edge_point.proofs.FindLaws.{always, sees_failed, whole_back}
use Rattle.edge_point.proofs.block.read_node.Goals as goal

pub read-requires-clause-in_range : goal.read-requires-clause-in_range
read-requires-clause-in_range g c = omega (arith, c.requires.block, c.requires.stands.fits.blocks)

pub read-requires-clause-inside : goal.read-requires-clause-inside
read-requires-clause-inside g c = omega (arith, c.requires.stands.block, c.requires.stands.fits.size)

pub node_in-requires : goal.node_in-requires
node_in-requires g c =
    ap length c.deref.ensures.value ∙ length-back c.args.p.now.block.len c.read.new.out c.args.p.now.block.items (omega arith) c.args.p.now.block.ok.0
    ∙ c.requires.stands.block

pub returns-in-Ok-clause-sees : goal.returns-in-Ok-clause-sees
returns-in-Ok-clause-sees g c =
    let p = c.args.p.now in
    sees_met g.D.Disk p _ _ c.node_in.result (record {
      master = refl;
      place = refl;
      root = refl;
      points = refl;
      numbers = refl;
      next = refl;
      live = refl;
      torn = refl;
      damage = refl;
      block = length-back p.block.len c.read.new.out p.block.items (omega arith) p.block.ok.0;
    }) refl (reads_call g.D.Disk p.cache c.read.new.self c.read.ensures.origin c.read.ensures.only c.read.ensures.clean) c.read.ensures.cause.later
    c.in-Ok.ensures.cause.passed
    c.node_in.ensures

pub returns-in-Ok-clause-bytes : goal.returns-in-Ok-clause-bytes
returns-in-Ok-clause-bytes g c = λ shows.
    let p = c.args.p.now in
    let content = content_in g.D.Disk p.cache c.args.s.block in
    let len = c.read.ensures.whole shows c.args.s.block (omega (arith, c.requires.block, c.requires.stands.fits.blocks)) in
    always c.node_in.result _ (whole_back p.block.len c.read.new.out p.block.items (omega arith) p.block.ok.0
    ∙ c.in-Ok.ensures.bytes shows ∙ whole_read content c.deref_mut.result.now
    (len ∙ c.requires.stands.fits.size ∙ sym c.requires.stands.block ∙ sym (ap length c.deref_mut.ensures.value)))

pub returns-in-Ok-clause-met : goal.returns-in-Ok-clause-met
returns-in-Ok-clause-met g c = λ shows.
    let p = c.args.p.now in
    let s = c.args.s in
    let content = content_in g.D.Disk p.cache s.block in
    let len = c.read.ensures.whole shows s.block (omega (arith, c.requires.block, c.requires.stands.fits.blocks)) in
    subst (λ (x : List ℕ). TellsMet (damage_in s.block s.owner (pointers (pointer_in p.master.geometry c.args.double x))) c.node_in.result)
    (c.deref.ensures.value ∙ whole_back p.block.len c.read.new.out p.block.items (omega arith) p.block.ok.0
    ∙ c.in-Ok.ensures.bytes shows ∙ whole_read content c.deref_mut.result.now
    (len ∙ c.requires.stands.fits.size ∙ sym c.requires.stands.block ∙ sym (ap length c.deref_mut.ensures.value)))
    (tells_met _ c.node_in.result c.node_in.ensures)

pub returns-in-Err-clause-sees : goal.returns-in-Err-clause-sees
returns-in-Err-clause-sees g c =
    let p = c.args.p.now in
    sees_failed g.D.Disk p _ Device (record {
      master = refl;
      place = refl;
      root = refl;
      points = refl;
      numbers = refl;
      next = refl;
      live = refl;
      torn = refl;
      damage = refl;
      block = length-back p.block.len c.read.new.out p.block.items (omega arith) p.block.ok.0;
    }) refl (reads_call g.D.Disk p.cache c.read.new.self c.read.ensures.origin c.read.ensures.only c.read.ensures.clean) c.read.ensures.cause.later
    (c.in-Err.ensures.cause.failed, refl)

use Rattle.std.proofs.Common.{refl, sym, ap, ◌∙◌, subst, arith, length, List, ℕ}
use Rattle.std.specs.Prelude.{IfOk}
use Rattle.edge_base.specs.layout.Spelling.{inode_in}
use Rattle.edge_cache.specs.Calls.{content_in}
use Rattle.edge_store.specs.declared.fault.StoreFault.TheVariants.{Device}
use Rattle.edge_point.specs.Finding.{SpellsHead, head_told}
use Rattle.edge_imap.proofs.BitLaws.{whole_read}
use Rattle.edge_imap.proofs.CallLaws.{reads_call}
use Rattle.edge_mount.proofs.WholeLaws.{length-back}
use Rattle.edge_point.proofs.FindLaws.{always, sees_failed, sees_read, whole_back}
use Rattle.edge_point.proofs.inode.read_inode.Goals as goal

pub read-requires-clause-in_range : goal.read-requires-clause-in_range
read-requires-clause-in_range g c = omega (arith, c.requires.block, c.requires.stands.fits.blocks)

pub read-requires-clause-inside : goal.read-requires-clause-inside
read-requires-clause-inside g c = omega (arith, c.requires.stands.block, c.requires.stands.fits.size)

pub head_in-requires : goal.head_in-requires
head_in-requires g c =
    ap length c.deref.ensures.value ∙ length-back c.args.p.now.block.len c.read.new.out c.args.p.now.block.items (omega arith) c.args.p.now.block.ok.0 ∙ c.requires.stands.block

pub returns-in-Ok-clause-sees : goal.returns-in-Ok-clause-sees
returns-in-Ok-clause-sees g c =
    let p = c.args.p.now in
    sees_read g.D.Disk p _ c.args.b _ c.head_in.result (record {
      master = refl;
      place = refl;
      root = refl;
      points = refl;
      numbers = refl;
      next = refl;
      live = refl;
      torn = refl;
      damage = refl;
      block = length-back p.block.len c.read.new.out p.block.items (omega arith) p.block.ok.0;
    }) refl (reads_call g.D.Disk p.cache c.read.new.self c.read.ensures.origin c.read.ensures.only c.read.ensures.clean) c.read.ensures.cause.later c.in-Ok.ensures.cause.passed
    c.head_in.ensures.head

pub returns-in-Ok-clause-bytes : goal.returns-in-Ok-clause-bytes
returns-in-Ok-clause-bytes g c = λ shows.
    let p = c.args.p.now in
    let content = content_in g.D.Disk p.cache c.args.b in
    let len = c.read.ensures.whole shows c.args.b (omega (arith, c.requires.block, c.requires.stands.fits.blocks)) in
    always c.head_in.result _ (whole_back p.block.len c.read.new.out p.block.items (omega arith) p.block.ok.0
    ∙ c.in-Ok.ensures.bytes shows ∙ whole_read content c.deref_mut.result.now (len ∙ c.requires.stands.fits.size ∙ sym c.requires.stands.block ∙ sym (ap length c.deref_mut.ensures.value)))

pub returns-in-Ok-clause-head : goal.returns-in-Ok-clause-head
returns-in-Ok-clause-head g c = λ shows other.
    let p = c.args.p.now in
    let content = content_in g.D.Disk p.cache c.args.b in
    let len = c.read.ensures.whole shows c.args.b (omega (arith, c.requires.block, c.requires.stands.fits.blocks)) in
    c.head_in.ensures.head ∙ ap (λ (x : List ℕ). head_told c.args.b (inode_in x)) (c.deref.ensures.value ∙ whole_back p.block.len c.read.new.out p.block.items (omega arith) p.block.ok.0
    ∙ c.in-Ok.ensures.bytes shows ∙ whole_read content c.deref_mut.result.now (len ∙ c.requires.stands.fits.size ∙ sym c.requires.stands.block ∙ sym (ap length c.deref_mut.ensures.value)))

pub returns-in-Ok-clause-spelled : goal.returns-in-Ok-clause-spelled
returns-in-Ok-clause-spelled g c =
    subst (λ (x : List ℕ). IfOk c.head_in.result (λ head. SpellsHead c.args.p.now.master.geometry head x)) c.deref.ensures.value c.head_in.ensures.spelled

pub returns-in-Err-clause-sees : goal.returns-in-Err-clause-sees
returns-in-Err-clause-sees g c =
    let p = c.args.p.now in
    sees_failed g.D.Disk p _ Device (record {
      master = refl;
      place = refl;
      root = refl;
      points = refl;
      numbers = refl;
      next = refl;
      live = refl;
      torn = refl;
      damage = refl;
      block = length-back p.block.len c.read.new.out p.block.items (omega arith) p.block.ok.0;
    }) refl (reads_call g.D.Disk p.cache c.read.new.self c.read.ensures.origin c.read.ensures.only c.read.ensures.clean) c.read.ensures.cause.later (c.in-Err.ensures.cause.failed, refl)

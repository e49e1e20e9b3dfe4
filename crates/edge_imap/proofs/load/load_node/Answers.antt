use Rattle.std.proofs.Common.{ℕ, List, inr, sym, ap, ◌∙◌, arith}
use Rattle.std.specs.Prelude.{Result, is_ok}
use Rattle.edge_base.specs.declared.node.NodeFault.{NodeFault}
use Rattle.edge_base.specs.layout.Spelling.{imap_in}
use Rattle.edge_cache.specs.Calls.{content_in}
use Rattle.edge_imap.proofs.BitLaws.{whole_read}
use Rattle.edge_imap.proofs.CallLaws.{reads_call}
use Rattle.edge_imap.proofs.LoadLaws.{tells_device, node_read, err_not_ok}
use Rattle.edge_imap.proofs.load.load_node.Goals as goal

pub read-requires-clause-in_range : goal.read-requires-clause-in_range
read-requires-clause-in_range g c = omega (arith, c.live_block-place.ensures.in_range, c.requires.fits.blocks)

pub returns-in_err-read-clause-reads : goal.returns-in_err-read-clause-reads
returns-in_err-read-clause-reads g c = reads_call g.D.Disk _ _ c.read.ensures.origin c.read.ensures.only c.read.ensures.clean

pub returns-in_err-read-clause-cause : goal.returns-in_err-read-clause-cause
returns-in_err-read-clause-cause g c = tells_device g.D.Disk c.args.node _ c.args.g.now c.args.cache.now c.read.new.self _ c.from_residual.ensures c.read.ensures.cause.later c.in_err-read.ensures.cause.failed

pub returns-then-is_err-clause-reads : goal.returns-then-is_err-clause-reads
returns-then-is_err-clause-reads g c = reads_call g.D.Disk _ _ c.read.ensures.origin c.read.ensures.only c.read.ensures.clean

pub returns-then-is_err-clause-cause : goal.returns-then-is_err-clause-cause
returns-then-is_err-clause-cause g c = record {
  later = c.read.ensures.cause.later;
  passed = tt;
  device = λ h. absurd (cc h);
  memory = λ h. absurd (cc h);
  node = λ i h. cc h;
  read = λ i h. c.in_ok-read.ensures.cause.passed;
  spells_none = λ tells.
      let place = c.live_block-place.ensures.place in
      let len = c.read.ensures.whole tells c.live_block-place.result (omega (arith, c.live_block-place.ensures.in_range, c.requires.fits.blocks)) in
      let read = c.in_ok-read.ensures.bytes tells ∙ whole_read (content_in g.D.Disk c.args.cache.now c.live_block-place.result) c.args.block.now (len ∙ c.requires.fits.size ∙ sym c.requires.block) ∙ ap (content_in g.D.Disk c.args.cache.now) place in
      inr (ap (λ (b : List ℕ). is_ok (imap_in c.args.g.now c.args.node b)) (sym read) ∙ ap (λ (r : Result ℕ NodeFault). is_ok r) (sym c.decode_imap.ensures.exact) ∙ err_not_ok c.decode_imap.result (sym c.is_err.ensures.value ∙ c.if-is_err.true));
}

pub returns-clause-bytes : goal.returns-clause-bytes
returns-clause-bytes g c = λ tells.
    let place = c.live_block-place.ensures.place in
    let len = c.read.ensures.whole tells c.live_block-place.result (omega (arith, c.live_block-place.ensures.in_range, c.requires.fits.blocks)) in
    c.in_ok-read.ensures.bytes tells ∙ whole_read (content_in g.D.Disk c.args.cache.now c.live_block-place.result) c.args.block.now (len ∙ c.requires.fits.size ∙ sym c.requires.block) ∙ ap (content_in g.D.Disk c.args.cache.now) place

pub returns-clause-node : goal.returns-clause-node
returns-clause-node g c = node_read c.args.g.now c.args.node c.read.new.out c.decode_imap.result (sym c.is_err.ensures.value ∙ c.if-is_err.false) c.decode_imap.ensures.spelled

pub returns-clause-reads : goal.returns-clause-reads
returns-clause-reads g c = reads_call g.D.Disk _ _ c.read.ensures.origin c.read.ensures.only c.read.ensures.clean

pub returns-clause-cause : goal.returns-clause-cause
returns-clause-cause g c = record {
  later = c.read.ensures.cause.later;
  passed = c.in_ok-read.ensures.cause.passed;
  device = λ h. absurd (cc h);
  memory = λ h. absurd (cc h);
  node = λ i h. absurd (cc h);
  read = λ i h. absurd (cc h);
  spells_none = λ tells. tt;
}

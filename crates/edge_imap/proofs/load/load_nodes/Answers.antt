use Rattle.std.proofs.Common.{◌≡◌, ℕ, ◌+◌, ◌-◌, ◌*◌, ◌≤◌, min, drop, inl, inr, refl, sym, ap, subst, ◌∙◌, arith}
use Rattle.std.specs.List.{count_by, range_with_len}
use Rattle.std.proofs.lemmas.Bool.{cases_eq}
use Rattle.edge_base.specs.layout.Bitmap.{bit_under, live_place}
use Rattle.edge_base.specs.layout.Places.{imap_nodes_of}
use Rattle.edge_base.specs.layout.Sizes.{node_bits}
use Rattle.edge_cache.specs.Calls.{content_in}
use Rattle.edge_disk.specs.Disk.{Origin}
use Rattle.edge_imap.specs.Bitmaps.{IsFit, IsNode, bits_of, first_bit}
use Rattle.edge_imap.specs.Inodes.{is_clear_pair, is_pair_under}
use Rattle.edge_imap.proofs.CallLaws.{reads_same, reads_after, shows_on}
use Rattle.edge_imap.proofs.CountLaws.{count-few}
use Rattle.edge_imap.proofs.PairLaws.{number_count, part_count, table_read}
use Rattle.edge_imap.proofs.LoadLaws.{not_memory, tells_after, tells_passed, count_before, count_before_few, count_first, count_next, count_last}
use Rattle.edge_imap.proofs.load.load_nodes.Goals as goal

pub loop-node-init : goal.loop-node-init
loop-node-init g c = record {
  reads = reads_same g.D.Disk c.args.cache.now;
  passed = refl;
  nodes = λ tells j low. absurd (omega (arith, low));
  count = λ tells. sym (count_first c.args.g.now (bit_under c.args.g.now c.args.roots.now (content_in g.D.Disk c.args.cache.now)));
  numbers = λ tells.
      let none : min (0 * node_bits c.args.g.now.block_size) (first_bit c.args.g.now) ≡ 0 = omega arith in
      sym (ap (λ (n : ℕ). count_by (is_pair_under c.args.g.now c.args.roots.now (content_in g.D.Disk c.args.cache.now)) (range_with_len 0 n)) none);
}

pub load_node-requires-clause-fits : goal.load_node-requires-clause-fits
load_node-requires-clause-fits g c = subst (λ (o : Origin). IsFit c.args.g.now o) (sym c.loop-node.invariant.reads.origin) c.requires.fits

pub returns-in_err-load_node-clause-reads : goal.returns-in_err-load_node-clause-reads
returns-in_err-load_node-clause-reads g c = reads_after g.D.Disk _ _ _ c.loop-node.invariant.reads c.load_node.ensures.reads

pub returns-in_err-load_node-clause-cause : goal.returns-in_err-load_node-clause-cause
returns-in_err-load_node-clause-cause g c =
    tells_after g.D.Disk c.loop-node.node c.args.g.now c.args.roots.now c.args.cache.now c.loop-node.cache c.load_node.new.cache c.load_node.result _ c.in_err-load_node.field-0.0 (omega (arith, c.loop-node-test.true, c.imap_nodes-node-end.ensures.count))
    c.loop-node.invariant.reads c.loop-node.invariant.passed c.loop-node.invariant.nodes c.load_node.ensures.cause c.in_err-load_node.was c.from_residual.ensures

pub loop-node-preserved : goal.loop-node-preserved
loop-node-preserved g c =
    let d = g.D.Disk in
    let geometry = c.args.g.now in
    let was = c.loop-node.invariant in
    let node = c.loop-node.node in
    let old = content_in d c.args.cache.now in
    record {
      reads = reads_after d _ _ _ was.reads c.load_node.ensures.reads;
      passed = c.in_ok-load_node.ensures.cause.passed ∙ was.passed;
      nodes = λ tells j low. elim (cases_eq j node) [
        | inl e ↦
            let read = c.in_ok-load_node.ensures.bytes (shows_on d c.args.cache.now c.loop-node.cache was.reads.origin tells) ∙ was.reads.contents tells (live_place geometry c.args.roots.now node) in
            subst (λ (i : ℕ). IsNode geometry i (old (live_place geometry c.args.roots.now i))) (sym e) (subst (IsNode geometry node) read c.in_ok-load_node.ensures.node)
        | inr far ↦ was.nodes tells j (omega (arith, low, far))
      ];
      count = λ tells.
          let read = c.in_ok-load_node.ensures.bytes (shows_on d c.args.cache.now c.loop-node.cache was.reads.origin tells) ∙ was.reads.contents tells (live_place geometry c.args.roots.now node) in
          let list = bit_under geometry c.args.roots.now old in
          let next = count_next geometry c.args.roots.now old node c.load_node.new.block c.requires.external read in
          let few = count_before_few geometry list (node + 1) in
          c.saturating_add-blocks.ensures ∙ omega (arith, was.count tells, next, few, c.count_node.ensures, c.request-within_limits.ensures.limits.blocks);
      numbers = λ tells.
          let nb = node_bits geometry.block_size in
          let top = first_bit geometry in
          let read = c.in_ok-load_node.ensures.bytes (shows_on d c.args.cache.now c.loop-node.cache was.reads.origin tells) ∙ was.reads.contents tells (live_place geometry c.args.roots.now node) in
          let table = table_read geometry c.args.roots.now old node c.load_node.new.block c.requires.external read in
          let pairs = is_pair_under geometry c.args.roots.now old in
          let next = part_count (is_clear_pair (drop 16 c.load_node.new.block)) pairs (node * nb) nb top (min nb (top - node * nb)) refl table in
          let more : node * nb + nb ≡ (node + 1) * nb = omega arith in
          let few = count-few pairs 0 (min (node * nb + nb) top) in
          let all : c.saturating_add-numbers.result ≡ count_by pairs (range_with_len 0 (min (node * nb + nb) top))
          = c.saturating_add-numbers.ensures ∙ omega (arith, was.numbers tells, c.count_pairs.ensures, next, few, c.request-within_limits.ensures.limits.inodes) in
          all ∙ ap (λ (n : ℕ). count_by pairs (range_with_len 0 (min n top))) more;
    }

pub returns-clause-nodes : goal.returns-clause-nodes
returns-clause-nodes g c = λ tells j low. c.loop-node.invariant.nodes tells j (omega (arith, low, c.loop-node-test.false, c.imap_nodes-node-end.ensures.count))

pub returns-clause-numbers : goal.returns-clause-numbers
returns-clause-numbers g c = λ tells.
    let geometry = c.args.g.now in
    let content = content_in g.D.Disk c.args.cache.now in
    let pairs = is_pair_under geometry c.args.roots.now content in
    let end : c.loop-node.node ≡ imap_nodes_of geometry = omega (arith, c.loop-node-test.false, c.loop-node.auto.node-end, c.imap_nodes-node-end.ensures.count) in
    let at : c.loop-node.node * node_bits geometry.block_size ≡ imap_nodes_of geometry * node_bits geometry.block_size = ap (λ (n : ℕ). n * node_bits geometry.block_size) end in
    let bits : bits_of geometry ≤ imap_nodes_of geometry * node_bits geometry.block_size = subst (λ (k : ℕ). geometry.blocks - (3 + 2 * imap_nodes_of geometry) ≤ k * node_bits geometry.block_size) c.imap_nodes-node-end.ensures.count (omega (arith, c.imap_nodes-node-end.ensures.enough c.requires.external, c.imap_nodes-node-end.ensures.count)) in
    let all : min (c.loop-node.node * node_bits geometry.block_size) (first_bit geometry) ≡ first_bit geometry = omega (arith, at, bits, c.request-within_limits.ensures.limits.room) in
    c.loop-node.invariant.numbers tells ∙ ap (λ (n : ℕ). count_by pairs (range_with_len 0 n)) all ∙ number_count geometry c.args.roots.now content geometry.inodes

pub returns-clause-count : goal.returns-clause-count
returns-clause-count g c = λ tells.
    let geometry = c.args.g.now in
    let end : c.loop-node.node ≡ imap_nodes_of geometry = omega (arith, c.loop-node-test.false, c.loop-node.auto.node-end, c.imap_nodes-node-end.ensures.count) in
    let list = bit_under geometry c.args.roots.now (content_in g.D.Disk c.args.cache.now) in
    let all : bits_of geometry ≤ imap_nodes_of geometry * node_bits geometry.block_size = subst (λ (k : ℕ). geometry.blocks - (3 + 2 * imap_nodes_of geometry) ≤ k * node_bits geometry.block_size) c.imap_nodes-node-end.ensures.count (omega (arith, c.imap_nodes-node-end.ensures.enough c.requires.external, c.imap_nodes-node-end.ensures.count)) in
    c.loop-node.invariant.count tells ∙ ap (count_before geometry list) end ∙ count_last geometry list (imap_nodes_of geometry) all c.request-within_limits.ensures.limits.room

pub returns-clause-cause : goal.returns-clause-cause
returns-clause-cause g c = tells_passed g.D.Disk c.args.g.now c.args.roots.now _ _ _ c.loop-node.invariant.passed

pub returns-in_err-load_node-clause-memory : goal.returns-in_err-load_node-clause-memory
returns-in_err-load_node-clause-memory g c = not_memory c.load_node.result _ c.in_err-load_node.field-0.0 c.load_node.ensures.cause.memory c.in_err-load_node.was c.from_residual.ensures

use Rattle.std.proofs.Common.{◌≡◌, ◌<◌, ◌+◌, ◌*◌, ℕ, List, length, length-append, slice_range, sym, ◌∙◌, ap, subst, arith}
use Rattle.edge_disk.specs.Memory.{picked_of}
use Rattle.edge_disk.proofs.PickLemmas.{more_blocks, picked_is_whole, is_permitted, is_plain}
use Rattle.edge_disk.proofs.memory.MemoryDisk.permitted.Goals as goal

pub loop-b-preserved : goal.loop-b-preserved
loop-b-preserved c =
    let disk = c.args.self.now in
    let pick = c.args.pick.now in
    let b = c.loop-b.b in
    let items = c.in_ok-extend_from_slice.ensures.items in
    let in_range : b < length disk.image.items = omega (arith, c.requires.one_each, c.loop-b-test.true) in
    let is : c.candidate.result.now ≡ picked_of disk pick b = c.candidate.ensures in
    let long : length c.candidate.result.now ≡ disk.block_size = ap length is ∙ picked_is_whole disk pick b in_range (c.requires.there b in_range) in
    record {
      whole = omega (arith, ap length items, length-append c.loop-b.bytes.items c.candidate.result.now, long, c.loop-b.invariant.whole);
      picked = λ j lower. ap (λ (l : List ℕ). slice_range l (j * disk.block_size) (j * disk.block_size + disk.block_size)) items
          ∙ more_blocks disk.block_size b (picked_of disk pick) c.loop-b.bytes.items c.candidate.result.now c.loop-b.invariant.whole long is c.loop-b.invariant.picked j lower;
    }

pub returns-clause-permitted : goal.returns-clause-permitted
returns-clause-permitted c =
    let disk = c.args.self.now in
    let all : c.loop-b.b ≡ length disk.image.items = omega (arith, c.requires.one_each, c.loop-b-test.false, c.loop-b.auto.b-end) in
    is_permitted disk c.args.pick.now c.loop-b.bytes.items
    (c.loop-b.invariant.whole ∙ ap (λ (n : ℕ). n * disk.block_size) all)
    (λ b in_range. c.loop-b.invariant.picked b (subst (λ (n : ℕ). b < n) (sym all) in_range))
    c.requires.there

pub returns-clause-plain : goal.returns-clause-plain
returns-clause-plain c =
    let disk = c.args.self.now in
    let all : c.loop-b.b ≡ length disk.image.items = omega (arith, c.requires.one_each, c.loop-b-test.false, c.loop-b.auto.b-end) in
    is_plain disk c.args.pick.now c.loop-b.bytes.items (λ b in_range. c.loop-b.invariant.picked b (subst (λ (n : ℕ). b < n) (sym all) in_range)) c.requires.there

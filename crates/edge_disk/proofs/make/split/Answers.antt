use Rattle.std.proofs.Common.{◌≡◌, ◌+◌, ◌*◌, length, slice_range, sym, subst, arith, rules}
use Rattle.std.proofs.lemmas.Grind.{common_steps}
use Rattle.edge_disk.specs.Slots.{AllBlocksHave}
use Rattle.edge_disk.proofs.BlockLemmas.{AllBlocksHave-push}
use Rattle.edge_disk.proofs.make.split.Goals as goal

pub loop-k-preserved : goal.loop-k-preserved
loop-k-preserved c =
    let block = c.in_ok-to_vec.field-0 in
    let at = c.loop-k.k * c.args.size in
    let is : block.items ≡ slice_range c.args.image.now at (at + c.args.size) = search rules in
    let long : length block.items ≡ c.args.size = search rules in
    record {
      count = search rules;
      whole = subst (AllBlocksHave c.args.size) (sym c.in_ok-push.ensures.items) (AllBlocksHave-push c.args.size at c.args.image.now c.loop-k.blocks.items block c.type_inv.image long is c.loop-k.invariant.whole);
      blocks = grind (arith, common_steps);
    }

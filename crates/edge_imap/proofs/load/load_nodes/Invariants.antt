use Rattle.std.proofs.Common.{◌≡◌, ◌<◌, ◌*◌, min, ℕ}
use Rattle.std.specs.Prelude.{IsTrue}
use Rattle.std.specs.List.{count_by, range_with_len}
use Rattle.edge_base.specs.layout.Bitmap.{bit_under, live_place}
use Rattle.edge_base.specs.layout.Sizes.{node_bits}
use Rattle.edge_cache.specs.Calls.{content_in}
use Rattle.edge_imap.specs.Bitmaps.{IsNode, first_bit}
use Rattle.edge_imap.specs.Inodes.{is_pair_under}
use Rattle.edge_imap.specs.Reading.{OnlyReads}
use Rattle.edge_imap.proofs.LoadLaws.{count_before}
use Rattle.edge_imap.proofs.load.load_nodes.Given as goal

abbrev pub invariant-loop-node : goal.invariant-loop-node
invariant-loop-node g l =
    let d = g.D.Disk in
    record {
      reads : OnlyReads d l.fn.cache l.cache;
      passed : d.faults l.cache.disk ≡ d.faults l.fn.cache.disk;
      nodes : IsTrue (d.origin l.fn.cache.disk).shows → (j : ℕ) → j < l.node → IsNode l.g j (content_in d l.fn.cache (live_place l.g l.roots j));
      count : IsTrue (d.origin l.fn.cache.disk).shows → l.blocks ≡ count_before l.g (bit_under l.g l.roots (content_in d l.fn.cache)) l.node;
      numbers : IsTrue (d.origin l.fn.cache.disk).shows → l.numbers
          ≡ count_by (is_pair_under l.g l.roots (content_in d l.fn.cache)) (range_with_len 0 (min (l.node * node_bits l.g.block_size) (first_bit l.g)));
    }

use Rattle.std.proofs.Common.{refl}
use Rattle.edge_store.proofs.FrameLaws.{block_at-pointers}
use Rattle.edge_store.proofs.laws.kept_pointers_keep_all_blocks.Goals as goal

pub returns : goal.returns
returns c = λ g v w p kept h. block_at-pointers g v w p.number kept p refl h

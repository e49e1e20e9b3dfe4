-- What a disk means that is in memory and never fails: it tells what reads give, and no candidates.
use Rattle.std.specs.Prelude.{ℕ, List, [], length, true, false}
use Rattle.edge_disk.specs.Disk.{Origin}
use Rattle.edge_disk.specs.Slots.{block_in}
use Rattle.edge_disk.specs.declared.sure.SureDisk.{SureDisk}

abbrev pub origin_of : SureDisk → Origin
origin_of d = record {
  blocks = length d.image.items;
  block_size = d.block_size;
  shows = true;
  keeps = false;
  others = [];
}

abbrev pub shown_of : SureDisk → ℕ → List ℕ
shown_of d b = block_in d.image.items b

-- no candidates are told, so no bytes are one, and no block is said to have one alone
abbrev pub may_hold_of : SureDisk → ℕ → List ℕ → Type 0
may_hold_of d b c = ⊥

abbrev pub is_sure_of : SureDisk → ℕ → Type 0
is_sure_of d b = ⊥

-- it has no fault, ever
abbrev pub faults_of : SureDisk → ℕ
faults_of d = 0

-- The candidates after a write, by what it makes of the shown bytes and of the slots.
use Rattle.std.proofs.Common.{refl, ◌+◌, ℕ, take, arith}
use Rattle.std.proofs.lemmas.Grind.{common_steps}
use Rattle.edge_disk.specs.Slots.{block_in, remembered}
use Rattle.edge_disk.proofs.CandidateLemmas.{may_after_ok, may_after_err}
use Rattle.edge_disk.proofs.memory.MemoryDiskDisk.write.Goals as goal

pub returns-then-fails-clause-candidates : goal.returns-then-fails-clause-candidates
returns-then-fails-clause-candidates c =
    let disk = c.args.self.now in
    let remembers = c.remember.ensures.remembers in
    may_after_err _ _ _ _ (block_in disk.image.items) (block_in disk.image.items) (λ (k : ℕ). remembered k (take disk.used disk.slots.items)) (λ (k : ℕ). remembered k (take (disk.used + 1) c.remember.new.slots.items)) _ refl remembers.here remembers.elsewhere

pub returns-clause-candidates : goal.returns-clause-candidates
returns-clause-candidates c =
    let disk = c.args.self.now in
    let remembers = c.remember-2.ensures.remembers in
    may_after_ok _ _ _ _ (block_in disk.image.items) (block_in c.set_block.new.image.items) (λ (k : ℕ). remembered k (take disk.used disk.slots.items)) (λ (k : ℕ). remembered k (take (disk.used + 1) c.remember-2.new.slots.items)) _
    c.set_block.ensures.here (grind (arith, common_steps)) c.set_block.ensures.others remembers.elsewhere

use Rattle.std.proofs.Common.{sym, ◌∙◌, ◌-◌}
use Rattle.edge_count.proofs.ChainLaws.{chain_count}
use Rattle.edge_count.proofs.SizeLaws.{fresh_size, fresh_size-chain}
use Rattle.edge_count.proofs.laws.a_cut_behind_a_write_adds_nothing.Goals as goal

pub returns-clause-write_alone : goal.returns-clause-write_alone
returns-clause-write_alone c = fresh_size

pub returns-clause-chain : goal.returns-clause-chain
returns-clause-chain c g committed v n i indices shape some low = fresh_size-chain g committed v n i indices shape some low ∙ sym (chain_count g committed v n (i - 1))

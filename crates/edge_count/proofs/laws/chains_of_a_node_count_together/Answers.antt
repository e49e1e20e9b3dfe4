use Rattle.std.proofs.Common.{◌∙◌, ◌+◌, refl, sym, ap}
use Rattle.edge_base.specs.tree.Positions.{data_at, double_at}
use Rattle.edge_store.specs.Fresh.{is_dirty}
use Rattle.edge_count.specs.Beside.{fresh_beside, table_of}
use Rattle.edge_count.proofs.BesideLaws.{beside_apart, beside_in_row, beside_in_table, beside_itself, chain_beside_cut, chains_apart, cost_is, two_chains}
use Rattle.edge_count.proofs.laws.chains_of_a_node_count_together.Goals as goal

pub returns-clause-two : goal.returns-clause-two
returns-clause-two c = two_chains

pub returns-clause-cut : goal.returns-clause-cut
returns-clause-cut c g committed working n i k indices shape before low has_i has_k = chain_beside_cut g committed working n i k indices shape before low has_i has_k

pub returns-clause-itself : goal.returns-clause-itself
returns-clause-itself c g committed working n i = beside_itself g committed working n i i refl

pub returns-clause-row : goal.returns-clause-row
returns-clause-row c g committed working n i k apart past same = beside_in_row g committed working n i k apart past same ∙ cost_is (is_dirty g committed working (data_at n i))

pub returns-clause-table : goal.returns-clause-table
returns-clause-table c g committed working n i k past_i past_k rows past_row past_row_k same =
    ap (λ m. fresh_beside g committed working n i k + m) (sym (cost_is (is_dirty g committed working (double_at n (table_of g i)))))
    ∙ beside_in_table g committed working n i k past_i past_k rows past_row past_row_k same

pub returns-clause-others : goal.returns-clause-others
returns-clause-others c g committed working n i k apart rows tables = beside_apart g committed working n i k apart rows tables

pub returns-clause-apart : goal.returns-clause-apart
returns-clause-apart c = chains_apart

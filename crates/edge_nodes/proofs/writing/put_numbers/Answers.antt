use Rattle.std.proofs.Common.{arith}
use Rattle.edge_nodes.proofs.WritingLaws.{numbers_at-put}
use Rattle.edge_nodes.proofs.writing.put_numbers.Goals as goal

pub returns-clause-numbers : goal.returns-clause-numbers
returns-clause-numbers c = numbers_at-put c.args.from c.args.b.now c.args.numbers.now _ (omega arith) (λ k. let fits = c.type_inv.numbers k in omega arith) c.write_u32_into.ensures

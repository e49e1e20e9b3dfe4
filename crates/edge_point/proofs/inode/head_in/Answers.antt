use Rattle.std.proofs.Common.{ℕ, Err, ap, ◌∙◌}
use Rattle.std.specs.Prelude.{Result}
use Rattle.edge_store.specs.declared.fault.StoreFault.{StoreFault}
use Rattle.edge_base.specs.declared.damage.DamageKind.{DamageKind}
use Rattle.edge_base.specs.declared.node.Head.{Head}
use Rattle.edge_store.specs.declared.fault.StoreFault.TheVariants.{Damaged}
use Rattle.edge_point.specs.Finding.{head_told}
use Rattle.edge_point.proofs.FindLaws.{head_rules}
use Rattle.edge_point.proofs.inode.head_in.Goals as goal

abbrev damaged : ℕ → DamageKind → Result Head StoreFault
damaged b k = Err (Damaged (record { block = b; kind = k }))

pub returns-in-Ok-clause-head : goal.returns-in-Ok-clause-head
returns-in-Ok-clause-head c = ap (head_told c.args.b) c.in-Ok.ensures.exact

pub returns-in-Ok-clause-rules : goal.returns-in-Ok-clause-rules
returns-in-Ok-clause-rules c = head_rules c.args.g.now _ c.in-Ok.head _ c.args.bytes.now c.in-Ok.ensures.spelled

pub returns-in-Err-clause-head : goal.returns-in-Err-clause-head
returns-in-Err-clause-head c =
    ap (damaged c.args.b) c.kind_of.ensures ∙ ap (head_told c.args.b) c.in-Err.ensures.exact

use Rattle.std.proofs.Common.{refl, subst, arith}
use Rattle.edge_base.specs.outside.Faults.{Because, Rose}
use Rattle.edge_plain.proofs.laws.no_call_fails.Goals as goal
use Rattle.edge_store.specs.Calls.{damage_of}
use Rattle.edge_store.specs.declared.fault.StoreFault.{StoreFault}

pub returns : goal.returns
returns c s t fault called is =
    let why = subst (λ (f : StoreFault). Because 0 0 s.damage t.damage (damage_of f)) is (called.cause.failed fault refl) in
    let rose : Rose 0 0 = why.0 in
    omega arith

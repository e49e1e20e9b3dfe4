use Rattle.std.proofs.Common.{◌∙◌, Err, sym, ap}
use Rattle.std.specs.Prelude.{Result}
use Rattle.edge_base.specs.declared.damage.DamageKind.{DamageKind}
use Rattle.edge_base.specs.layout.Spelling.{pointer_in}
use Rattle.edge_store.specs.declared.fault.StoreFault.{StoreFault}
use Rattle.edge_store.specs.declared.fault.StoreFault.TheVariants.{Damaged}
use Rattle.edge_point.specs.Blocks.{met_told}
use Rattle.edge_point.proofs.BlockLaws.{met_fault, met_owner}
use Rattle.edge_point.proofs.block.node_in.Goals as goal

pub returns-in-Ok : goal.returns-in-Ok
returns-in-Ok c = c.owned_by.ensures
    ∙ ap met_told (met_owner c.args.s.block c.in-Ok.owner c.args.s.owner (pointer_in c.args.g.now c.args.double c.args.bytes.now) (sym c.in-Ok.ensures.exact))

pub returns-in-Err : goal.returns-in-Err
returns-in-Err c =
    let damaged : DamageKind → Result (Unit {0}) StoreFault = λ k. Err (Damaged (record { block = c.args.s.block; kind = k })) in
    ap (λ (f : StoreFault). Err f) c.damaged.ensures ∙ ap damaged c.kind_of.ensures
    ∙ ap met_told (sym (met_fault c.args.s.block c.args.s.owner c.in-Err.fault (pointer_in c.args.g.now c.args.double c.args.bytes.now)
    (sym c.in-Err.ensures.exact)))

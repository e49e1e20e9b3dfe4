use Rattle.std.proofs.Common.{◌-◌, ◌/◌, ℕ, List, replicate, ap, ◌∙◌, subst, arith}
use Rattle.std.proofs.lemmas.List.{take-replicate}
use Rattle.edge_base.specs.layout.Spelling.{SpellsPointer}
use Rattle.edge_nodes.proofs.GeometryLaws.{geometry_long}
use Rattle.edge_point.proofs.put.fill_pointers.Goals as goal

pub returns : goal.returns
returns c =
    let same = ap (λ r. r.block_size) c.request.ensures.same in
    let most = (geometry_long c.args.g.now c.request.ensures.geometry).most in
    let count : ℕ = (c.request.result.block_size - 20) / 4 in
    subst (λ (entries : List ℕ). SpellsPointer c.args.g.now c.args.double c.args.sequence c.args.owner entries c.encode_pointer.new.out)
    (take-replicate count 1019 0 (omega arith) ∙ ap (λ (n : ℕ). replicate ((n - 20) / 4) 0) same) c.encode_pointer.ensures

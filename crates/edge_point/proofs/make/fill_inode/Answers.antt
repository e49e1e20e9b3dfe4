use Rattle.std.proofs.Common.{◌-◌, ◌/◌, ℕ, List, replicate, ap, ◌∙◌, subst, arith}
use Rattle.std.proofs.lemmas.List.{take-replicate}
use Rattle.edge_base.specs.layout.Spelling.{SpellsInode}
use Rattle.edge_nodes.proofs.GeometryLaws.{geometry_long}
use Rattle.edge_point.proofs.make.fill_inode.Goals as goal

pub returns : goal.returns
returns c =
    let same = ap (λ r. r.block_size) c.request.ensures.same in
    let most = (geometry_long c.args.g.now c.request.ensures.geometry).most in
    let count : ℕ = (c.request.result.block_size - 32) / 4 in
    subst (λ (entries : List ℕ). SpellsInode c.args.g.now c.args.sequence c.args.head.now entries c.encode_inode.new.out)
    (take-replicate count 1016 0 (omega arith) ∙ ap (λ (n : ℕ). replicate ((n - 32) / 4) 0) same) c.encode_inode.ensures

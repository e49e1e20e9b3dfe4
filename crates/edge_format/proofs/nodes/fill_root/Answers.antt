use Rattle.std.proofs.Common.{◌-◌, ◌/◌, refl, ap, arith}
use Rattle.edge_nodes.proofs.GeometryLaws.{geometry_long}
use Rattle.edge_format.proofs.NodeLaws.{has_root}
use Rattle.edge_format.proofs.nodes.fill_root.Goals as goal

pub returns : goal.returns
returns c =
    let same = ap (λ r. r.block_size) c.request.ensures.same in
    let most = (geometry_long c.args.g.now c.request.ensures.geometry).most in
    has_root c.args.g.now _ _ ((c.request.result.block_size - 32) / 4) 1016 c.encode_inode.ensures refl (ap (λ n. (n - 32) / 4) same) (omega arith)

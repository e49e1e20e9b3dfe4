use Rattle.std.proofs.Common.{arith}
use Rattle.edge_nodes.proofs.GeometryLaws.{short_fields}
use Rattle.edge_nodes.proofs.master.put_geometry.Goals as goal

pub overflow_cast-r : goal.overflow_cast-r
overflow_cast-r c = let f = short_fields c.args.g.now _ c.request-r.ensures.same c.request-r.ensures.geometry in let h = f.name_max in omega arith

pub overflow_cast-r-2 : goal.overflow_cast-r-2
overflow_cast-r-2 c = let f = short_fields c.args.g.now _ c.request-r.ensures.same c.request-r.ensures.geometry in let h = f.direct in omega arith

pub overflow_cast-r-3 : goal.overflow_cast-r-3
overflow_cast-r-3 c = let f = short_fields c.args.g.now _ c.request-r.ensures.same c.request-r.ensures.geometry in let h = f.indirect in omega arith

pub log_of-requires : goal.log_of-requires
log_of-requires c = (short_fields c.args.g.now _ c.request-r.ensures.same c.request-r.ensures.geometry).block_size

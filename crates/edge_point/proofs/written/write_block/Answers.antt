use Rattle.edge_point.specs.Seen.{state_of}
use Rattle.edge_point.proofs.PlacedLaws.{ok_map}
use Rattle.edge_point.proofs.EffectLaws.{bytes_of, meets_on, new_used, plain_met}
use Rattle.edge_store.specs.Damages.{damage_at}
use Rattle.edge_point.proofs.written.write_block.Goals as goal

pub returns-clause-damage : goal.returns-clause-damage
returns-clause-damage g c = λ told.
    let s = state_of g.D.Disk c.args.p.now in
    let n = state_of g.D.Disk c.put.new.p in
    let b = c.args.s.block in
    meets_on (damage_at s.working c.args.s.form c.args.s.owner b) s n c.put.result
    (plain_met s.working c.args.s.form c.args.s.owner b c.requires.form (new_used s.committed s.working b (c.requires.is_new told)))
    (c.put.ensures.undamaged told)

pub returns-clause-set : goal.returns-clause-set
returns-clause-set g c =
    let s = state_of g.D.Disk c.args.p.now in
    let n = state_of g.D.Disk c.put.new.p in
    let b = c.args.s.block in
    ok_map c.put.result (λ put told. bytes_of s.origin.request s.working n.working b c.args.at c.args.bytes.now
    (new_used s.committed s.working b (c.requires.is_new told)) (put told))
    c.put.ensures.put

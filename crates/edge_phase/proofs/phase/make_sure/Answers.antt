use Rattle.edge_cache.specs.Given.{waiting}
use Rattle.edge_anchor.specs.Medium.{medium_of, none_given}
use Rattle.edge_anchor.proofs.KeepLaws.{gives_follow, flush_follows, follows_on}
use Rattle.edge_phase.proofs.phase.make_sure.Goals as goal

pub returns-in_err-write_out-clause-follows : goal.returns-in_err-write_out-clause-follows
returns-in_err-write_out-clause-follows g c = gives_follow (medium_of g.D.Disk c.args.cache.now)
    (medium_of g.D.Disk c.write_out.new.self) c.write_out.ensures.gives

pub returns-in_err-flush-clause-follows : goal.returns-in_err-flush-clause-follows
returns-in_err-flush-clause-follows g c =
    let old = medium_of g.D.Disk c.args.cache.now in
    let mid = medium_of g.D.Disk c.write_out.new.self in
    let new = medium_of g.D.Disk c.flush.new.self in
    follows_on none_given old mid new (gives_follow old mid c.write_out.ensures.gives)
    (flush_follows mid new (λ i. waiting (c.flush.ensures.held i)) c.flush.ensures.shown c.flush.ensures.candidates.adds_none c.flush.ensures.sure.stays)

pub returns-clause-follows : goal.returns-clause-follows
returns-clause-follows g c =
    let old = medium_of g.D.Disk c.args.cache.now in
    let mid = medium_of g.D.Disk c.write_out.new.self in
    let new = medium_of g.D.Disk c.flush.new.self in
    follows_on none_given old mid new (gives_follow old mid c.write_out.ensures.gives)
    (flush_follows mid new (λ i. waiting (c.flush.ensures.held i)) c.flush.ensures.shown c.flush.ensures.candidates.adds_none c.flush.ensures.sure.stays)

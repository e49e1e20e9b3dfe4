use Rattle.std.proofs.Common.{refl, ap}
use Rattle.edge_session.specs.declared.ended.How.TheVariants.{End, Source, Limit}
use Rattle.edge_session.proofs.CloseLaws as closing
use Rattle.edge_session.proofs.serve.session.Goals as goal

pub returns-clause-live : goal.returns-clause-live
returns-clause-live g c =
    closing.lives (closing.closes c.serve-ended.result.how c.close.result c.close.ensures.as_it_was c.close.ensures.as_it_is) _ _
    c.serve-ended.ensures.live c.close.ensures.live (λ other. ap g.A.Ask.live (c.close.ensures.left_alone other))

pub returns-clause-source : goal.returns-clause-source
returns-clause-source g c = closing.source_counts (closing.closes c.serve-ended.result.how c.close.result c.close.ensures.as_it_was c.close.ensures.as_it_is) _ _ c.serve-ended.ensures.source

pub returns-clause-sink : goal.returns-clause-sink
returns-clause-sink g c = closing.sink_counts (closing.closes c.serve-ended.result.how c.close.result c.close.ensures.as_it_was c.close.ensures.as_it_is) _ _ c.serve-ended.ensures.sink

pub returns-clause-object : goal.returns-clause-object
returns-clause-object g c =
    closing.object_counts (closing.closes c.serve-ended.result.how c.close.result c.close.ensures.as_it_was c.close.ensures.as_it_is) _ _ _ _ _ _
    c.serve-ended.ensures.object c.close.ensures.object (λ other. ap g.A.Ask.faults (c.close.ensures.left_alone other)) (λ other. ap g.A.Ask.damage (c.close.ensures.left_alone other))

pub returns-clause-undamaged : goal.returns-clause-undamaged
returns-clause-undamaged g c =
    closing.undamages g.A.Ask c.args.ask.now c.serve-ended.new.ask c.close.new.ask (closing.closes c.serve-ended.result.how c.close.result c.close.ensures.as_it_was c.close.ensures.as_it_is)
    c.serve-ended.ensures.undamaged c.serve-ended.ensures.standing c.close.ensures.undamaged

pub returns-clause-there : goal.returns-clause-there
returns-clause-there g c =
    closing.still_there g.A.Ask c.args.ask.now c.serve-ended.new.ask c.close.new.ask (closing.closes c.serve-ended.result.how c.close.result c.close.ensures.as_it_was c.close.ensures.as_it_is)
    c.serve-ended.ensures.there c.close.ensures.there c.close.ensures.left_alone

pub returns-clause-room : goal.returns-clause-room
returns-clause-room g c = closing.room_of (closing.closes c.serve-ended.result.how c.close.result c.close.ensures.as_it_was c.close.ensures.as_it_is) _ _ c.serve-ended.ensures.room

pub returns-clause-reached : goal.returns-clause-reached
returns-clause-reached g c = λ e.
    c.serve-ended.ensures.reached (closing.was (closing.closes c.serve-ended.result.how c.close.result c.close.ensures.as_it_was c.close.ensures.as_it_is) Limit refl e)

pub returns-clause-limit_bytes : goal.returns-clause-limit_bytes
returns-clause-limit_bytes g c = λ told e.
    c.serve-ended.ensures.limit_bytes told (closing.was (closing.closes c.serve-ended.result.how c.close.result c.close.ensures.as_it_was c.close.ensures.as_it_is) Limit refl e)

pub returns-clause-end : goal.returns-clause-end
returns-clause-end g c = λ told e.
    c.serve-ended.ensures.end told (closing.was (closing.closes c.serve-ended.result.how c.close.result c.close.ensures.as_it_was c.close.ensures.as_it_is) End refl e)

pub returns-clause-lines : goal.returns-clause-lines
returns-clause-lines g c = λ told.
    closing.lines_close (closing.closes c.serve-ended.result.how c.close.result c.close.ensures.as_it_was c.close.ensures.as_it_is) _ _ _ _ (c.serve-ended.ensures.lines told)

pub returns-clause-no_more : goal.returns-clause-no_more
returns-clause-no_more g c = λ told e.
    c.serve-ended.ensures.no_more told (closing.was (closing.closes c.serve-ended.result.how c.close.result c.close.ensures.as_it_was c.close.ensures.as_it_is) Source refl e)

pub returns-clause-few_points : goal.returns-clause-few_points
returns-clause-few_points g c =
    closing.few_closes (closing.closes c.serve-ended.result.how c.close.result c.close.ensures.as_it_was c.close.ensures.as_it_is) _ _ _ _
    c.serve-ended.ensures.few_points c.close.ensures.one_point (λ other. ap g.A.Ask.reached (c.close.ensures.left_alone other))

pub returns-clause-moments : goal.returns-clause-moments
returns-clause-moments g c = λ told ticks.
    closing.moments_close (closing.closes c.serve-ended.result.how c.close.result c.close.ensures.as_it_was c.close.ensures.as_it_is)
    (g.S.Source.left c.args.src.now) c.serve-ended.result.taken (g.C.Clock.moments c.args.clock.now) (g.C.Clock.moments c.serve-ended.new.clock) (c.serve-ended.ensures.moments told ticks)

pub returns-clause-text : goal.returns-clause-text
returns-clause-text g c = λ told takes t stands.
    closing.text_closes (closing.closes c.serve-ended.result.how c.close.result c.close.ensures.as_it_was c.close.ensures.as_it_is) _ _ _ _ _ _ (c.serve-ended.ensures.text told takes t stands)

pub returns-clause-tree : goal.returns-clause-tree
returns-clause-tree g c = λ told t stands.
    closing.leaves g.A.Ask c.args.ask.now c.serve-ended.new.ask c.close.new.ask _ t _ _ _ c.args.limit c.close.ensures.never_falls
    (closing.closes c.serve-ended.result.how c.close.result c.close.ensures.as_it_was c.close.ensures.as_it_is)
    (c.serve-ended.ensures.lines told) (c.serve-ended.ensures.tree told t stands) c.close.ensures.left_alone c.close.ensures.closed c.close.ensures.trees

use Rattle.std.proofs.Common.{◌≡◌, ◌++◌, ◌∷◌, refl, sym, ap, ◌∙◌, subst, arith, Some, ℕ, true, false}
use Rattle.std.specs.Prelude.{IsTrue}
use Rattle.std.proofs.lemmas.Bool.{ltb-true}
use Rattle.edge_model.specs.State.{first_state}
use Rattle.edge_script.specs.Reading.{command_in}
use Rattle.edge_session.specs.Line.{text_for, points_of}
use Rattle.edge_session.specs.Object.{SourceCount, SinkCount, ObjectCount, IsLed, HasReached}
use Rattle.edge_session.specs.Session.{run_before}
use Rattle.edge_session.specs.Stream.{stream_of, kept_of, used_of, ended_of}
use Rattle.edge_session.specs.Turn.{Writes}
use Rattle.edge_session.proofs.LineLaws.{none_taken}
use Rattle.edge_session.proofs.ProgressLaws.{begins, goes_on, ends}
use Rattle.edge_session.proofs.TurnLaws as last
use Rattle.edge_session.proofs.serve.serve.Goals as goal

pub loop-commands-init : goal.loop-commands-init
loop-commands-init g c = record {
  few = omega arith;
  used = omega (arith, c.requires.unused);
  seen = λ told ended. absurd (let no : false ≡ true = sym c.requires.not_ended ∙ ended in cc);
  source_tells = refl;
  sink_tells = refl;
  clock_tells = refl;
  source_faults = refl;
  sink_faults = refl;
  object_faults = refl;
  damage = refl;
  live = c.requires.live;
  origin = refl;
  guarded = λ promise. promise;
  later = omega arith;
  few_points = omega arith;
  standing = λ s stands. (s, stands);
  progress = λ told. begins _ _ _ _ (ap (λ bytes. bytes ++ g.S.Source.left c.args.src.now) c.requires.nothing_pending) c.requires.unused;
  moments = λ told ticks. sym (none_taken (g.C.Clock.moments c.args.clock.now));
  text = λ told takes t stands. last.no_text (g.A.Ask.origin c.args.ask.now).request t (g.K.Sink.taken c.args.out.now);
  follows = λ told t stands. last.follows_none g.A.Ask (g.A.Ask.origin c.args.ask.now).request t c.args.ask.now stands
      (g.met.A.Ask.live_is_committed c.args.ask.now (first_state t) c.requires.live stands) (g.met.A.Ask.live_is_whole c.args.ask.now c.requires.live);
}

pub loop-commands-preserved : goal.loop-commands-preserved
loop-commands-preserved g c =
    let i = c.loop-commands.invariant in
    let t = c.in-None.ensures in
    let a = g.A.Ask in
    let now = c.loop-commands.ask in
    let after = c.turn.new.ask in
    let script = g.S.Source.left c.args.src.now in
    let stream = stream_of c.loop-commands.b.lines (g.S.Source.left c.loop-commands.src) in
    let ended = ended_of c.loop-commands.b.lines in
    let used = used_of c.loop-commands.b.lines in
    let k = c.loop-commands.commands in
    let command = command_in (kept_of c.turn.new.b.lines) in
    record {
      few = omega (arith, ltb-true c.loop-commands.commands c.args.limit.lines (t.room refl));
      used = t.used;
      seen = t.seen;
      source_tells = t.source_tells ∙ i.source_tells;
      sink_tells = t.sink_tells ∙ i.sink_tells;
      clock_tells = t.clock_tells ∙ i.clock_tells;
      source_faults = t.source ∙ i.source_faults;
      sink_faults = t.sink ∙ i.sink_faults;
      object_faults = t.object.0 ∙ i.object_faults;
      damage = t.object.1 ∙ i.damage;
      live = t.live;
      origin = t.origin ∙ i.origin;
      guarded = λ promise. t.guarded (i.guarded promise);
      later = let m = t.never_falls in let n = i.later in omega arith;
      few_points = let m = t.two_points in let n = i.few_points in omega arith;
      standing = λ s stands. let h = i.standing s stands in (_, (t.led h.0 h.1 refl).stands);
      progress = λ told.
          let taken = t.turned (subst IsTrue (sym i.source_tells) told) in
          goes_on script stream ended used k (i.progress told) taken.line _ _ _ taken.takes;
      moments = λ told ticks.
          last.moments_next script stream ended used k (i.progress told) _ _ _ _ (t.turned (subst IsTrue (sym i.source_tells) told)) _ _ _
          (i.moments told ticks) (t.moments (subst IsTrue (sym i.clock_tells) ticks) refl);
      text = λ told takes tree stands.
          let h = (i.follows told tree stands).run.stands in
          last.text_next script stream ended used k (i.progress told) _ _ _ _ (t.turned (subst IsTrue (sym i.source_tells) told)) (a.origin c.args.ask.now).request tree _ _ _
          (i.text told takes tree stands)
          (subst (λ o. g.K.Sink.taken c.turn.new.out ≡ g.K.Sink.taken c.loop-commands.out ++ text_for o.request (run_before (a.origin c.args.ask.now).request tree script k).state command)
          i.origin (t.text (subst IsTrue (sym i.sink_tells) takes) _ h));
      follows = λ told tree stands.
          let f = i.follows told tree stands in
          let s = (run_before (a.origin c.args.ask.now).request tree script k).state in
          last.follows_next script stream ended used k (i.progress told) _ _ _ _ (t.turned (subst IsTrue (sym i.source_tells) told)) (a.origin c.args.ask.now).request tree
          a c.args.ask.now now after f t.never_falls
          (subst (λ o. IsLed a o.request s command now after) i.origin (t.led s f.run.stands refl))
          (subst (λ o. HasReached a now after (s.committed ∷ points_of o.request s command)) i.origin (t.trees s f.run.stands refl));
    }

pub returns-in-Some-clause-source : goal.returns-in-Some-clause-source
returns-in-Some-clause-source g c = subst (λ (n : ℕ). SourceCount c.in-Some.how n (g.S.Source.faults c.turn.new.src)) c.loop-commands.invariant.source_faults c.in-Some.ensures.source

pub returns-in-Some-clause-sink : goal.returns-in-Some-clause-sink
returns-in-Some-clause-sink g c = subst (λ (n : ℕ). SinkCount c.in-Some.how n (g.K.Sink.faults c.turn.new.out)) c.loop-commands.invariant.sink_faults c.in-Some.ensures.sink

pub returns-in-Some-clause-object : goal.returns-in-Some-clause-object
returns-in-Some-clause-object g c =
    let i = c.loop-commands.invariant in
    let a = g.A.Ask in
    subst (λ d. ObjectCount c.in-Some.how (a.faults c.args.ask.now) (a.faults c.turn.new.ask) d (a.damage c.turn.new.ask)) i.damage
    (subst (λ (n : ℕ). ObjectCount c.in-Some.how n (a.faults c.turn.new.ask) (a.damage c.loop-commands.ask) (a.damage c.turn.new.ask)) i.object_faults c.in-Some.ensures.object)

pub returns-in-Some-clause-guarded : goal.returns-in-Some-clause-guarded
returns-in-Some-clause-guarded g c = λ promise. c.in-Some.ensures.guarded (c.loop-commands.invariant.guarded promise)

pub returns-in-Some-clause-undamaged : goal.returns-in-Some-clause-undamaged
returns-in-Some-clause-undamaged g c = λ s stands damage is.
    let h = c.loop-commands.invariant.standing s stands in
    c.in-Some.ensures.undamaged h.0 h.1 damage (ap Some is)

pub returns-in-Some-clause-there : goal.returns-in-Some-clause-there
returns-in-Some-clause-there g c = λ damage is. c.in-Some.ensures.there damage (ap Some is)

pub returns-in-Some-clause-room : goal.returns-in-Some-clause-room
returns-in-Some-clause-room g c =
    last.has_room c.in-Some.how c.loop-commands.commands c.args.limit.lines (λ takes. ltb-true c.loop-commands.commands c.args.limit.lines (c.in-Some.ensures.room takes))

pub returns-in-Some-clause-few_points : goal.returns-in-Some-clause-few_points
returns-in-Some-clause-few_points g c =
    last.few_turns c.in-Some.how _ (g.A.Ask.reached c.loop-commands.ask) _ c.loop-commands.commands c.loop-commands.invariant.few_points c.in-Some.ensures.two_points
    (λ none. ap g.A.Ask.reached (c.in-Some.ensures.unasked none))

pub returns-in-Some-clause-standing : goal.returns-in-Some-clause-standing
returns-in-Some-clause-standing g c = λ fine s stands.
    let t = c.in-Some.ensures in
    last.stands_still g.A.Ask c.loop-commands.ask c.turn.new.ask c.in-Some.how t.unasked (c.loop-commands.invariant.standing s stands)
    (λ s h answered. (_, (t.led s h answered).stands)) fine

pub returns-in-Some-clause-lines : goal.returns-in-Some-clause-lines
returns-in-Some-clause-lines g c = λ told.
    let i = c.loop-commands.invariant in
    let t = c.in-Some.ensures in
    ends (g.S.Source.left c.args.src.now) (stream_of c.loop-commands.b.lines (g.S.Source.left c.loop-commands.src)) (ended_of c.loop-commands.b.lines) (used_of c.loop-commands.b.lines) c.loop-commands.commands
    (i.progress told) c.args.limit _ _ _ _ _ _ c.in-Some.how
    (λ e. c.taken_at.ensures.failed e ∙ c.used-taken.ensures) (λ e. c.taken_at.ensures.other e ∙ c.used.ensures)
    (t.turned (subst IsTrue (sym i.source_tells) told)) t.spells (λ takes. ltb-true c.loop-commands.commands c.args.limit.lines (t.room takes))
    (last.at_limit c.in-Some.how c.loop-commands.commands c.args.limit.lines (used_of c.turn.new.b.lines) c.args.limit.bytes _ i.few (λ e. c.taken_at.ensures.other e ∙ c.used.ensures) t.limit)

pub returns-in-Some-clause-reached : goal.returns-in-Some-clause-reached
returns-in-Some-clause-reached g c =
    last.at_limit c.in-Some.how c.loop-commands.commands c.args.limit.lines (used_of c.turn.new.b.lines) c.args.limit.bytes _ c.loop-commands.invariant.few
    (λ e. c.taken_at.ensures.other e ∙ c.used.ensures) c.in-Some.ensures.limit

pub returns-in-Some-clause-limit_bytes : goal.returns-in-Some-clause-limit_bytes
returns-in-Some-clause-limit_bytes g c = λ told is.
    let i = c.loop-commands.invariant in
    let t = c.in-Some.ensures in
    let same = c.taken_at.ensures.other (last.not_source c.in-Some.how is) ∙ c.used.ensures in
    last.limit_bytes (g.S.Source.left c.args.src.now) (stream_of c.loop-commands.b.lines (g.S.Source.left c.loop-commands.src)) (ended_of c.loop-commands.b.lines) (used_of c.loop-commands.b.lines) c.loop-commands.commands
    (i.progress told) _ _ c.args.limit.bytes same t.no_room (t.limit (ap Some is))

pub returns-in-Some-clause-no_more : goal.returns-in-Some-clause-no_more
returns-in-Some-clause-no_more g c = λ told is.
    let i = c.loop-commands.invariant in
    let t = c.in-Some.ensures in
    last.gives_no_line (g.S.Source.left c.args.src.now) (stream_of c.loop-commands.b.lines (g.S.Source.left c.loop-commands.src)) (ended_of c.loop-commands.b.lines) (used_of c.loop-commands.b.lines) c.loop-commands.commands
    (i.progress told) _ _ _ _ _ _ c.in-Some.how (λ e. c.taken_at.ensures.failed e ∙ c.used-taken.ensures) (t.turned (subst IsTrue (sym i.source_tells) told)) is

pub returns-in-Some-clause-moments : goal.returns-in-Some-clause-moments
returns-in-Some-clause-moments g c = λ told ticks.
    let i = c.loop-commands.invariant in
    let t = c.in-Some.ensures in
    last.moments_end (g.S.Source.left c.args.src.now) (stream_of c.loop-commands.b.lines (g.S.Source.left c.loop-commands.src)) (ended_of c.loop-commands.b.lines) (used_of c.loop-commands.b.lines) c.loop-commands.commands
    (i.progress told) _ _ _ _ _ _ c.args.limit c.in-Some.how (returns-in-Some-clause-lines g c told) (t.turned (subst IsTrue (sym i.source_tells) told)) _ _ _
    (i.moments told ticks) (λ none. ap g.C.Clock.moments (t.no_moment none)) (t.moments (subst IsTrue (sym i.clock_tells) ticks))

pub returns-in-Some-clause-text : goal.returns-in-Some-clause-text
returns-in-Some-clause-text g c = λ told takes tree stands.
    let i = c.loop-commands.invariant in
    let t = c.in-Some.ensures in
    let a = g.A.Ask in
    let r = run_before (a.origin c.args.ask.now).request tree (g.S.Source.left c.args.src.now) c.loop-commands.commands in
    last.text_end (g.S.Source.left c.args.src.now) (stream_of c.loop-commands.b.lines (g.S.Source.left c.loop-commands.src)) (ended_of c.loop-commands.b.lines) (used_of c.loop-commands.b.lines) c.loop-commands.commands
    (i.progress told) _ _ _ _ _ c.loop-commands.commands c.args.limit (a.origin c.args.ask.now).request tree c.in-Some.how (t.turned (subst IsTrue (sym i.source_tells) told)) _ _ _
    (i.text told takes tree stands)
    (subst (λ o. Writes (Some c.in-Some.how) (text_for o.request r.state (command_in (kept_of c.turn.new.b.lines))) (g.K.Sink.taken c.loop-commands.out) (g.K.Sink.taken c.turn.new.out))
    i.origin (t.text (subst IsTrue (sym i.sink_tells) takes) _ (i.follows told tree stands).run.stands))

pub returns-in-Some-clause-tree : goal.returns-in-Some-clause-tree
returns-in-Some-clause-tree g c = λ told tree stands.
    let i = c.loop-commands.invariant in
    let t = c.in-Some.ensures in
    let a = g.A.Ask in
    let f = i.follows told tree stands in
    let s = (run_before (a.origin c.args.ask.now).request tree (g.S.Source.left c.args.src.now) c.loop-commands.commands).state in
    let command = command_in (kept_of c.turn.new.b.lines) in
    last.comes (g.S.Source.left c.args.src.now) (stream_of c.loop-commands.b.lines (g.S.Source.left c.loop-commands.src)) (ended_of c.loop-commands.b.lines) (used_of c.loop-commands.b.lines) c.loop-commands.commands
    (i.progress told) _ _ _ _ _ _ c.args.limit (a.origin c.args.ask.now).request tree a c.args.ask.now c.loop-commands.ask c.turn.new.ask f t.never_falls
    c.in-Some.how (returns-in-Some-clause-lines g c told) (t.turned (subst IsTrue (sym i.source_tells) told)) t.unasked
    (λ answered. subst (λ o. IsLed a o.request s command c.loop-commands.ask c.turn.new.ask) i.origin (t.led s f.run.stands answered))
    (λ takes. subst (λ o. HasReached a c.loop-commands.ask c.turn.new.ask (s.committed ∷ points_of o.request s command)) i.origin (t.trees s f.run.stands takes))

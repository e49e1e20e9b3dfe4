use Rattle.std.proofs.Common.{rules, ℕ, ◌∙◌, inl, inr, not, ap, subst, sym}
use Rattle.edge_app.specs.declared.report.Report.{Report}
use Rattle.edge_app.specs.Formats.{IsWritten}
use Rattle.edge_app.specs.World.{world_with_source}
use Rattle.edge_app.proofs.FormatsLaws.{passed_ok, made_after_fault, made_after_ok}
use Rattle.edge_app.proofs.format_command.format_image.Goals.{in-Ok, in-Err}
use Rattle.edge_app.proofs.format_command.format_image.Goals as goal

-- ---- the disk failed

pub returns-then-is_err-clause-causes : goal.returns-then-is_err-clause-causes
returns-then-is_err-clause-causes g c = λ source. record {
  source = search rules;
  sink = search rules;
  device = search rules;
  reason = search rules;
  damage = search rules;
  origin = search rules;
}

pub returns-then-is_err-clause-formats : goal.returns-then-is_err-clause-formats
returns-then-is_err-clause-formats g c = λ source. record {
  status = search rules;
  none = search rules;
  unfit = search rules;
  source = search rules;
  line = search rules;
  part = search rules;
  silent = search rules;
  no_moment = search rules;
  volume = λ _. made_after_fault c.args.request
      (world_with_source g.K.Sink g.C.Clock g.D.Disk source c.args.out.now c.args.clock.now c.args.disk)
      (world_with_source g.K.Sink g.C.Clock g.D.Disk source c.args.out.now c.now-time.new.self c.format.new.disk)
      c.now-time.result c.now-time.ensures.given c.format.result c.in-Some.geometry c.unserved-then-is_err.result
      (sym c.is_err.ensures.value ∙ c.if-is_err.true) c.in-Some.ensures.same c.format.ensures.origin (ap (λ (r : Report). r.status) c.unserved-then-is_err.ensures) c.format.ensures.cut;
  beside = search rules;
  complete = search rules;
}

-- ---- the disk was written whole

pub returns-clause-causes : goal.returns-clause-causes
returns-clause-causes g c = λ source.
    let still = passed_ok c.format.result _ (c.is_err.ensures.negation ∙ ap not c.if-is_err.false) c.format.ensures.cause.passed in
    record {
      source = elim c.match-write_all.branch [ in-Ok w ↦ search rules | in-Err w ↦ search rules ];
      sink = elim c.match-write_all.branch [ in-Ok w ↦ search rules | in-Err w ↦ search rules ];
      device = elim c.match-write_all.branch [ in-Ok w ↦ record { rose = search rules; still = λ other. still } | in-Err w ↦ record { rose = search rules; still = λ other. still } ];
      reason = search rules;
      damage = search rules;
      origin = search rules;
    }

pub returns-clause-formats : goal.returns-clause-formats
returns-clause-formats g c = λ source. record {
  status = elim c.match-write_all.branch [ in-Ok w ↦ search rules | in-Err w ↦ search rules ];
  none = search rules;
  unfit = search rules;
  source = search rules;
  line = search rules;
  part = search rules;
  silent = search rules;
  no_moment = search rules;
  volume = λ _. made_after_ok c.args.request
      (world_with_source g.K.Sink g.C.Clock g.D.Disk source c.args.out.now c.args.clock.now c.args.disk)
      (world_with_source g.K.Sink g.C.Clock g.D.Disk source c.write_all.new.out c.now-time.new.self c.format.new.disk)
      c.now-time.result c.now-time.ensures.given c.format.result c.in-Some.geometry c.unserved-2.result
      (sym c.is_err.ensures.value ∙ c.if-is_err.false) c.in-Some.ensures.same
      (subst (λ (n : ℕ). IsWritten n) (sym (ap (λ (r : Report). r.status) c.unserved-2.ensures)) (elim c.match-write_all.branch [ in-Ok w ↦ inl w.status-is | in-Err w ↦ inr w.status-is ]))
      c.format.ensures.shown c.format.ensures.opens c.format.ensures.sure;
  beside = search rules;
  complete = search rules;
}

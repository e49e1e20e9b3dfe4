use Rattle.std.proofs.Common.{rules, inl, subst}
use Rattle.edge_words.specs.Words.{words_of}
use Rattle.edge_words.specs.declared.order.Order.{Order}
use Rattle.edge_words.specs.Orders.{Run, Format, Spells, wanted_by}
use Rattle.edge_words.proofs.OrderLaws.{one_wanted}
use Rattle.edge_io.specs.States.{source_of}
use Rattle.edge_app.proofs.PromiseLaws.{does, run_has_status, format_has_status}
use Rattle.edge_app.proofs.program.edge.Goals as goal

-- ---- words that spell nothing

pub returns-in_default-clause-promise : goal.returns-in_default-clause-promise
returns-in_default-clause-promise g c = record {
  status = record {
    known = search rules;
    words_spell_none = search rules;
    volume_is_unfit = search rules;
    run_alone = search rules;
    decided = inl c.in_default.ensures.refused;
  };
  causes = record {
    source = search rules;
    sink = search rules;
    device = search rules;
    reason = search rules;
    damage = search rules;
    origin = search rules;
  };
  nothing = search rules;
  command = λ wanted spells. absurd (c.in_default.ensures.refused wanted spells);
}

-- ---- each command

pub returns-in-Run-clause-promise : goal.returns-in-Run-clause-promise
returns-in-Run-clause-promise g c =
    let spelled : Spells (words_of c.args.words.now) (Run c.in-Run.image.now c.in-Run.block_size) = subst (λ (o : Order). Spells (words_of c.args.words.now) (wanted_by o)) c.in-Run.is c.in-Ok.ensures.spelled in
    let runs = c.run_image.ensures.runs in
    record {
      status = run_has_status (words_of c.args.words.now) c.in-Run.image.now c.in-Run.block_size spelled _ _ runs.status;
      causes = c.run_image.ensures.causes;
      nothing = λ nothing. absurd (nothing _ spelled);
      command = does (words_of c.args.words.now) _ spelled _ _ _ runs;
    }

pub returns-in-Format-clause-promise : goal.returns-in-Format-clause-promise
returns-in-Format-clause-promise g c =
    let spelled : Spells (words_of c.args.words.now) (Format c.in-Format.image.now c.in-Format.request) = subst (λ (o : Order). Spells (words_of c.args.words.now) (wanted_by o)) c.in-Format.is c.in-Ok.ensures.spelled in
    let formats = c.format_image.ensures.formats (source_of g.S.Source c.args.src.now) in
    record {
      status = format_has_status (words_of c.args.words.now) c.in-Format.image.now c.in-Format.request spelled _ _ formats.status formats.unfit;
      causes = c.format_image.ensures.causes (source_of g.S.Source c.args.src.now);
      nothing = λ nothing. absurd (nothing _ spelled);
      command = does (words_of c.args.words.now) _ spelled _ _ _ formats;
    }

-- ---- the headline

pub returns-in_default-clause-headline : goal.returns-in_default-clause-headline
returns-in_default-clause-headline g c = λ asks. absurd (c.in_default.ensures.refused _ asks.spells)

pub returns-in-Run-clause-headline : goal.returns-in-Run-clause-headline
returns-in-Run-clause-headline g c = λ asks. c.run_image.ensures.runs.headline

pub returns-in-Format-clause-headline : goal.returns-in-Format-clause-headline
returns-in-Format-clause-headline g c = λ asks.
    let spelled : Spells (words_of c.args.words.now) (Format c.in-Format.image.now c.in-Format.request) = subst (λ (o : Order). Spells (words_of c.args.words.now) (wanted_by o)) c.in-Format.is c.in-Ok.ensures.spelled in
    absurd (let e = one_wanted (words_of c.args.words.now) _ _ asks.spells spelled in cc)

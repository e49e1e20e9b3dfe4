use Rattle.std.proofs.Common.{refl, sym, ap, ◌∙◌, arith}
use Rattle.edge_model.specs.Asked.{asked}
use Rattle.edge_script.specs.Reading.{command_in}
use Rattle.edge_script.specs.Replies.{answer_text}
use Rattle.edge_session.proofs.LineLaws.{no_command, moments_kept, moments_one, text_bad, text_told}
use Rattle.edge_session.proofs.reply.answer.Goals as goal

pub returns-then-line-gt-LONGEST_LINE-clause-moments : goal.returns-then-line-gt-LONGEST_LINE-clause-moments
returns-then-line-gt-LONGEST_LINE-clause-moments g c = λ ticks.
    moments_kept (command_in c.args.line.now) _ _ (no_command c.args.line.now (omega (arith, c.if-line-gt-LONGEST_LINE.true))) refl

pub returns-then-line-gt-LONGEST_LINE-clause-text : goal.returns-then-line-gt-LONGEST_LINE-clause-text
returns-then-line-gt-LONGEST_LINE-clause-text g c = λ s stands.
    c.write_bad.ensures.text
    ∙ sym (text_bad (g.A.Ask.origin c.args.ask.now).request s (command_in c.args.line.now) (no_command c.args.line.now (omega (arith, c.if-line-gt-LONGEST_LINE.true))))

pub returns-in-Err-clause-moments : goal.returns-in-Err-clause-moments
returns-in-Err-clause-moments g c = λ ticks. moments_kept (command_in c.args.line.now) _ _ (sym c.in-Err.ensures.exact) refl

pub returns-in-Err-clause-text : goal.returns-in-Err-clause-text
returns-in-Err-clause-text g c = λ s stands.
    c.write_bad-in-Err.ensures.text ∙ sym (text_bad (g.A.Ask.origin c.args.ask.now).request s (command_in c.args.line.now) (sym c.in-Err.ensures.exact))

pub returns-in_err-told-in-Ok-clause-moments : goal.returns-in_err-told-in-Ok-clause-moments
returns-in_err-told-in-Ok-clause-moments g c = λ ticks.
    moments_one (command_in c.args.line.now) (asked c.in-Ok.command) _ _ _ (sym c.in-Ok.ensures.exact) (c.now-moment.ensures.given ticks)

pub returns-in_ok-told-in-Ok-clause-moments : goal.returns-in_ok-told-in-Ok-clause-moments
returns-in_ok-told-in-Ok-clause-moments g c = λ ticks.
    moments_one (command_in c.args.line.now) (asked c.in-Ok.command) _ _ _ (sym c.in-Ok.ensures.exact) (c.now-moment.ensures.given ticks)

pub returns-in_ok-told-in-Ok-clause-text : goal.returns-in_ok-told-in-Ok-clause-text
returns-in_ok-told-in-Ok-clause-text g c = λ s stands.
    c.write_reply.ensures.text ∙ ap answer_text (c.in_ok-told-in-Ok.ensures.answer s stands)
    ∙ sym (text_told (g.A.Ask.origin c.args.ask.now).request s (command_in c.args.line.now) (asked c.in-Ok.command) (sym c.in-Ok.ensures.exact))

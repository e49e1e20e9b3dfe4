use Rattle.std.proofs.Common.{length, sym, subst, ◌∙◌}
use Rattle.edge_words.specs.Words.{words_of}
use Rattle.edge_words.specs.Reading.{IsBehindOptions, SkipsOptions}
use Rattle.edge_words.proofs.WordLaws.{no_word, first_one, none_of, is_empty_few, is_empty_some, no_argument, option_alone, second_argument, only_one}
use Rattle.edge_words.proofs.options.only_argument.Goals as goal

pub returns-in_default-clause-refused : goal.returns-in_default-clause-refused
returns-in_default-clause-refused c = λ options argument.
    no_argument (subst (IsBehindOptions (words_of c.args.words.now)) (none_of c.skip_options.result.now c.in_default.len_below) c.skip_options.ensures.skipped)

pub returns-then-is_option-clause-refused : goal.returns-then-is_option-clause-refused
returns-then-is_option-clause-refused c = λ options argument.
    option_alone (subst (SkipsOptions (words_of c.args.words.now)) (first_one c.skip_options.result.now _ c.in-len1-up.len_at_least) c.skip_options.ensures)
    (sym c.is_option.ensures ∙ c.if-is_option.true)

pub returns-else-is_empty-clause-refused : goal.returns-else-is_empty-clause-refused
returns-else-is_empty-clause-refused c = λ options argument.
    let some = is_empty_some (length c.skip_options-2.result.now) c.is_empty.result c.is_empty.ensures c.if-is_empty.false in
    second_argument (subst (SkipsOptions (words_of c.args.words.now)) (first_one c.skip_options.result.now _ c.in-len1-up.len_at_least) c.skip_options.ensures)
    (sym c.is_option.ensures ∙ c.if-is_option.false)
    (subst (SkipsOptions _) (first_one c.skip_options-2.result.now no_word some) c.skip_options-2.ensures)

pub returns-then-is_empty-clause-found : goal.returns-then-is_empty-clause-found
returns-then-is_empty-clause-found c =
    let few = is_empty_few (length c.skip_options-2.result.now) c.is_empty.result c.is_empty.ensures c.if-is_empty.true in
    only_one (subst (IsBehindOptions (words_of c.args.words.now)) (first_one c.skip_options.result.now _ c.in-len1-up.len_at_least) c.skip_options.ensures.skipped)
    (sym c.is_option.ensures ∙ c.if-is_option.false)
    (subst (IsBehindOptions _) (none_of c.skip_options-2.result.now few) c.skip_options-2.ensures.skipped)

use Rattle.edge_words.proofs.NeedLaws.{first_place, length-words}
use Rattle.edge_words.proofs.options.first_argument.Goals as goal

pub returns : goal.returns
returns c = λ options argument others reads. first_place c.skip_options.ensures reads _ (length-words c.args.words.now c.skip_options.result.now)

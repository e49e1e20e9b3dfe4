use Rattle.std.proofs.Common.{length}
use Rattle.edge_words.specs.Words.{words_of}
use Rattle.edge_words.specs.Reading.{OfOptions}
use Rattle.edge_words.proofs.WordLaws.{HasUnjudged}
use Rattle.edge_words.proofs.options.have_names.Given as goal

abbrev pub invariant-loop-rest : goal.invariant-loop-rest
invariant-loop-rest l = OfOptions (words_of l.fn.words) (HasUnjudged (words_of l.names) (words_of l.rest))

abbrev pub decreases-loop-rest : goal.decreases-loop-rest
decreases-loop-rest l = length l.rest

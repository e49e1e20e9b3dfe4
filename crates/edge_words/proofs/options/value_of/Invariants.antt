use Rattle.std.proofs.Common.{length}
use Rattle.edge_words.specs.Words.{words_of}
use Rattle.edge_words.specs.Reading.{OfOptions, value_list}
use Rattle.edge_words.proofs.WordLaws.{HasLeft}
use Rattle.edge_words.proofs.options.value_of.Given as goal

abbrev pub invariant-loop-rest : goal.invariant-loop-rest
invariant-loop-rest l = OfOptions (words_of l.fn.words) (HasLeft l.name (words_of l.rest) (value_list l.found))

abbrev pub decreases-loop-rest : goal.decreases-loop-rest
decreases-loop-rest l = length l.rest

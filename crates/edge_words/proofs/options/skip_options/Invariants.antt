use Rattle.std.proofs.Common.{length}
use Rattle.edge_words.specs.Words.{words_of}
use Rattle.edge_words.specs.Reading.{IsBehindOptions}
use Rattle.edge_words.proofs.options.skip_options.Given as goal

abbrev pub invariant-loop-rest : goal.invariant-loop-rest
invariant-loop-rest l = IsBehindOptions (words_of l.fn.words) (words_of l.rest)

abbrev pub decreases-loop-rest : goal.decreases-loop-rest
decreases-loop-rest l = length l.rest

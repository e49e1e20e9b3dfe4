use Rattle.std.proofs.Common.{◌∙◌, ap, subst}
use Rattle.edge_cache.specs.Blocks.{word_holds_in}
use Rattle.edge_cache.specs.Kept.{IsRemembered}
use Rattle.edge_cache.specs.declared.buffer.Word.{Word}
use Rattle.edge_cache.proofs.buffer.settle.Goals as goal

pub returns-in-Due-clause-remembered : goal.returns-in-Due-clause-remembered
returns-in-Due-clause-remembered c = ap word_holds_in c.seal.ensures ∙ subst (λ (w : Word). IsRemembered w c.args.bytes.now) c.in-Due.is c.requires.remembered

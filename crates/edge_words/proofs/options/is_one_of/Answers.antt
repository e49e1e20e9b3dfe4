use Rattle.std.proofs.Common.{ℕ, List, sym, ◌∙◌, Bor}
use Rattle.std.specs.Str.{bytes_eq}
use Rattle.edge_words.proofs.WordLaws.{list_any-map}
use Rattle.edge_words.proofs.options.is_one_of.Goals as goal

pub returns : goal.returns
returns c = c.contains.ensures.value ∙ sym (list_any-map (λ name. bytes_eq name c.args.word.now) (λ (name : Bor (List ℕ)). name.now) c.args.names.now)

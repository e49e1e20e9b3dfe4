use Rattle.std.proofs.Common.{[], ◌∷◌, sym, ◌∙◌}
use Rattle.edge_imap.proofs.TieLaws.{byte_bit}
use Rattle.edge_imap.proofs.change.with_bit.Goals as goal

pub returns-clause-here : goal.returns-clause-here
returns-clause-here c = sym (byte_bit c.set.new.bytes c.args.i c.requires) ∙ c.set.ensures.here

pub returns-clause-others : goal.returns-clause-others
returns-clause-others c = λ k low far. sym (byte_bit c.set.new.bytes k low) ∙ c.set.ensures.others k far ∙ byte_bit (c.args.byte ∷ []) k low

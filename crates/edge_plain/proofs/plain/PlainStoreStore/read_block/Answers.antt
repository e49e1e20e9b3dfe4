use Rattle.std.proofs.Common.{◌∙◌, sym}
use Rattle.edge_plain.proofs.EndLaws.{ended_with}
use Rattle.edge_plain.proofs.plain.PlainStoreStore.read_block.Goals as goal

pub returns-in-Some-clause-damage : goal.returns-in-Some-clause-damage
returns-in-Some-clause-damage c told =
    ended_with c.args.self.now c.end.new.self _ c.in-Some.damage c.end.result (sym c.damage.ensures ∙ c.in-Some.is) c.end.ensures.told c.end.ensures.working

use Rattle.std.proofs.Common.{◌∙◌}
use Rattle.edge_session.proofs.StreamLaws.{keeps, written_back}
use Rattle.edge_session.proofs.lines.LineReader.keep.Goals as goal

pub returns-clause-kept : goal.returns-clause-kept
returns-clause-kept c =
    written_back c.append-self.result c.args.self.now.line.len c.append-self.new.line c.args.self.now.line.items
    (c.append-self.auto.line ∙ c.deref_mut.ensures.len) c.append-self.ensures.in_line
    ∙ keeps c.args.self.now.kept c.args.len c.args.self.now.at c.args.self.now.end _ _ _ _ _
    c.append-self.ensures.kept c.deref_mut.ensures.value c.deref.ensures.value (c.deref_mut.ensures.len ∙ c.args.self.now.line_room) c.requires

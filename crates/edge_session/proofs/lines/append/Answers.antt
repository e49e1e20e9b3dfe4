use Rattle.std.proofs.Common.{◌≡◌, ◌+◌, ◌++◌, length, take, arith, ap, ◌∙◌}
use Rattle.std.proofs.lemmas.List.{length-take-le, length-take}
use Rattle.std.proofs.lemmas.Slice.{take-put_mid}
use Rattle.edge_session.proofs.StreamLaws.{take-front}
use Rattle.edge_session.proofs.lines.append.Goals as goal

pub returns-clause-kept : goal.returns-clause-kept
returns-clause-kept c =
    let bytes = c.copy_from_slice.ensures.after in
    let count : c.args.kept + c.min-n.result ≡ c.args.kept + length c.copy_from_slice.new.self = omega (arith, ap length bytes, length-take c.min-n.result c.args.bytes.now, c.min-n.ensures) in
    take-put_mid c.args.kept _ c.args.line.now c.copy_from_slice.new.self (c.args.kept + c.min-n.result) count c.requires
    ∙ ap (λ r. take c.args.kept c.args.line.now ++ r) bytes
    ∙ take-front (length c.args.line.now) c.args.kept c.min-n.result (take c.args.kept c.args.line.now) c.args.bytes.now
    (length-take-le c.args.kept c.args.line.now c.requires) c.requires c.min-n.ensures

use Rattle.std.proofs.Common.{sym, ap, arith}
use Rattle.edge_script.specs.declared.verb.Verb.TheVariants as v
use Rattle.edge_script.specs.Verbs.{name_of, verb_among, file_verbs}
use Rattle.edge_script.proofs.CodeLaws.{is_name}
use Rattle.edge_script.proofs.verb.file_verb.Goals as goal

pub returns-in-unlink : goal.returns-in-unlink
returns-in-unlink c =
    ap (verb_among file_verbs)
    (sym (is_name c.args.word.now (name_of v.Unlink) (omega arith)
    (omega arith, (omega arith, (omega arith, (omega arith, (omega arith, (omega arith, tt))))))))

pub returns-in-truncate : goal.returns-in-truncate
returns-in-truncate c =
    ap (verb_among file_verbs)
    (sym (is_name c.args.word.now (name_of v.Truncate) (omega arith)
    (omega arith, (omega arith, (omega arith, (omega arith, (omega arith, (omega arith, (omega arith, (omega arith, tt))))))))))

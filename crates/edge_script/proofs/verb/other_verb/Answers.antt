use Rattle.std.proofs.Common.{sym, ap, arith}
use Rattle.edge_script.specs.declared.verb.Verb.TheVariants as v
use Rattle.edge_script.specs.Verbs.{name_of, verb_among, other_verbs}
use Rattle.edge_script.proofs.CodeLaws.{is_name}
use Rattle.edge_script.proofs.verb.other_verb.Goals as goal

pub returns-in-rename : goal.returns-in-rename
returns-in-rename c =
    ap (verb_among other_verbs)
    (sym (is_name c.args.word.now (name_of v.Rename) (omega arith)
    (omega arith, (omega arith, (omega arith, (omega arith, (omega arith, (omega arith, tt))))))))

pub returns-in-rewind : goal.returns-in-rewind
returns-in-rewind c =
    ap (verb_among other_verbs)
    (sym (is_name c.args.word.now (name_of v.Rewind) (omega arith)
    (omega arith, (omega arith, (omega arith, (omega arith, (omega arith, (omega arith, tt))))))))

pub returns-in-opendir : goal.returns-in-opendir
returns-in-opendir c =
    ap (verb_among other_verbs)
    (sym (is_name c.args.word.now (name_of v.OpenDir) (omega arith)
    (omega arith, (omega arith, (omega arith, (omega arith, (omega arith, (omega arith, (omega arith, tt)))))))))

pub returns-in-readdir : goal.returns-in-readdir
returns-in-readdir c =
    ap (verb_among other_verbs)
    (sym (is_name c.args.word.now (name_of v.ReadDir) (omega arith)
    (omega arith, (omega arith, (omega arith, (omega arith, (omega arith, (omega arith, (omega arith, tt)))))))))

pub returns-in-setmask : goal.returns-in-setmask
returns-in-setmask c =
    ap (verb_among other_verbs)
    (sym (is_name c.args.word.now (name_of v.SetMask) (omega arith)
    (omega arith, (omega arith, (omega arith, (omega arith, (omega arith, (omega arith, (omega arith, tt)))))))))

pub returns-in-transact : goal.returns-in-transact
returns-in-transact c =
    ap (verb_among other_verbs)
    (sym (is_name c.args.word.now (name_of v.Transact) (omega arith)
    (omega arith, (omega arith, (omega arith, (omega arith, (omega arith, (omega arith, (omega arith, (omega arith, tt))))))))))

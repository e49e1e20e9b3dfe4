use Rattle.std.proofs.Common.{ℕ, List, [], ◌∷◌, ◌++◌, ap, ◌∙◌, arith}
use Rattle.std.specs.Prelude.{codes, decimal}
use Rattle.edge_script.specs.Bytes.{spelling_of}
use Rattle.edge_script.proofs.CodeLaws.{behind_mid}
use Rattle.edge_script.proofs.reply.put_entry.Goals as goal

pub returns-clause-text : goal.returns-clause-text
returns-clause-text c =
    c.put.ensures.text
    ∙ ap (λ (text : List ℕ). text ++ 10 ∷ [])
    (behind_mid c.put-at.new.out c.write_path.new.out (spelling_of c.args.name.now) c.put-at.result _ c.write_path.result (omega arith)
    (omega arith) c.write_path.ensures.spelled
    ∙ ap (λ (front : List ℕ). front ++ spelling_of c.args.name.now)
    (c.put-at.ensures.text
    ∙ ap (λ (front : List ℕ). front ++ 32 ∷ []) (c.put_ok-end.ensures.text ∙ ap (λ (n : ℕ). codes "ok " ++ decimal n) c.from.ensures)))

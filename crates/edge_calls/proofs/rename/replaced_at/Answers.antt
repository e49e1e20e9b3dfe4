use Rattle.std.proofs.Common.{◌≡◌, ◌∙◌, ◌&&◌, not, None, sym, ap, subst}
use Rattle.std.specs.Prelude.{Err}
use Rattle.std.proofs.lemmas.Result.{err_from_is_err_and}
use Rattle.edge_model.specs.Names.{is_empty}
use Rattle.edge_model.specs.Tree.{is_directory, slots_at}
use Rattle.edge_volume.specs.Nodes.{OnTree}
use Rattle.edge_volume.specs.Parts.{IsOfNoDamage}
use Rattle.edge_volume.specs.Stopped.{IfAnswered, fault_in, fault_of}
use Rattle.edge_walk.proofs.StillLaws.{on_tree_before}
use Rattle.edge_calls.specs.Renames.{number_as, replaced_by}
use Rattle.edge_calls.proofs.RenameAtLaws.{busy_in_tree, busy_refused, filled_refused, kind_in_tree, kinds_refused, replaced_so}
use Rattle.edge_calls.proofs.rename.replaced_at.Goals as goal

pub returns-in_err-takes-clause-replaced : goal.returns-in_err-takes-clause-replaced
returns-in_err-takes-clause-replaced g c =
    let st = g.S.Store.state c.args.s.now in
    let n = c.args.node.number in
    let r = c.args.number in
    let over = c.in_ok-head in
    let p = err_from_is_err_and c.from_residual-in_err-takes.result c.from_residual-in_err-takes.ensures.1 in
    subst (λ x. IfAnswered x (λ y. OnTree st (λ t. number_as y ≡ replaced_by st.origin.request t c.args.handles.now n r))) (sym (p.1 ∙ ap Err p.2))
    (λ z stands tree.
    kinds_refused st.origin.request z.tree c.args.handles.now n r c.args.node.head.kind over.head.kind (kind_in_tree st n c.args.node.head c.requires.node z stands tree)
    (kind_in_tree st r over.head over.ensures.node z stands tree) c.in_err-takes.field-0.0 c.in_err-takes.ensures)

pub returns-in_err-has_entries-clause-undamaged : goal.returns-in_err-has_entries-clause-undamaged
returns-in_err-has_entries-clause-undamaged g c z stands tree damage e =
    let p = err_from_is_err_and c.from_residual-in_err-has_entries.result c.from_residual-in_err-has_entries.ensures.1 in
    on_tree_before g.S.Store c.args.s.now c.named_head.new.s c.in_ok-head.ensures.looks (λ t. IsOfNoDamage (fault_in c.has_entries.result))
    c.has_entries.ensures.undamaged z stands tree damage (ap fault_in c.in_err-has_entries.was ∙ sym (ap fault_of (p.1 ∙ ap Err p.2)) ∙ e)

pub returns-then-branch-clause-replaced : goal.returns-then-branch-clause-replaced
returns-then-branch-clause-replaced g c z stands tree =
    let st = g.S.Store.state c.args.s.now in
    let n = c.args.node.number in
    let r = c.args.number in
    let over = c.in_ok-head in
    filled_refused st.origin.request z.tree c.args.handles.now n r c.args.node.head.kind over.head.kind (kind_in_tree st n c.args.node.head c.requires.node z stands tree)
    (kind_in_tree st r over.head over.ensures.node z stands tree) c.in_ok-takes.ensures
    (sym c.if-branch.true ∙ on_tree_before g.S.Store c.args.s.now c.named_head.new.s over.ensures.looks
    (λ t. c.in_ok-has_entries.field-0 ≡ (is_directory t r && not (is_empty (slots_at t r)))) c.in_ok-has_entries.ensures.entries z stands tree)

pub returns-then-is_busy-clause-replaced : goal.returns-then-is_busy-clause-replaced
returns-then-is_busy-clause-replaced g c z stands tree =
    let st = g.S.Store.state c.args.s.now in
    let n = c.args.node.number in
    let r = c.args.number in
    let over = c.in_ok-head in
    busy_refused st.origin.request z.tree c.args.handles.now n r c.args.node.head.kind over.head.kind (kind_in_tree st n c.args.node.head c.requires.node z stands tree)
    (kind_in_tree st r over.head over.ensures.node z stands tree) c.in_ok-takes.ensures
    (sym c.if-branch.false ∙ on_tree_before g.S.Store c.args.s.now c.named_head.new.s over.ensures.looks
    (λ t. c.in_ok-has_entries.field-0 ≡ (is_directory t r && not (is_empty (slots_at t r)))) c.in_ok-has_entries.ensures.entries z stands tree)
    (c.if-is_busy.ensures ∙ busy_in_tree st r over.head c.args.handles.now over.ensures.node z stands tree)

pub returns-clause-replaced : goal.returns-clause-replaced
returns-clause-replaced g c z stands tree =
    let st = g.S.Store.state c.args.s.now in
    let n = c.args.node.number in
    let r = c.args.number in
    let over = c.in_ok-head in
    replaced_so st.origin.request z.tree c.args.handles.now n r c.args.node.head.kind over.head.kind (kind_in_tree st n c.args.node.head c.requires.node z stands tree)
    (kind_in_tree st r over.head over.ensures.node z stands tree) c.in_ok-takes.ensures
    (sym c.if-branch.false ∙ on_tree_before g.S.Store c.args.s.now c.named_head.new.s over.ensures.looks
    (λ t. c.in_ok-has_entries.field-0 ≡ (is_directory t r && not (is_empty (slots_at t r)))) c.in_ok-has_entries.ensures.entries z stands tree)
    (c.if-is_busy.ensures ∙ busy_in_tree st r over.head c.args.handles.now over.ensures.node z stands tree)

use Rattle.std.proofs.Common.{◌≡◌, ◌∙◌, sym, ap, subst}
use Rattle.std.specs.Prelude.{Err}
use Rattle.std.proofs.lemmas.Result.{err_from_is_err_and}
use Rattle.edge_base.specs.declared.refusal.Refusal.TheVariants as refusal
use Rattle.edge_model.specs.Names.{plan_unlink}
use Rattle.edge_model.specs.Rules.{IsTree}
use Rattle.edge_model.specs.State.{State}
use Rattle.edge_volume.specs.Stopped.{IfAnswered}
use Rattle.edge_volume.specs.Volume.{StoreStands}
use Rattle.edge_calls.specs.Unnaming.{unnaming}
use Rattle.edge_calls.proofs.NamePlanLaws.{at_name, busy_is, file_slotless, kind_directory, kind_file, leaf_name, unlink_busy, unlink_directory, unlink_not, unlink_plans}
use Rattle.edge_calls.proofs.unname.file_named.Goals as goal

pub returns-in_err-named-clause-plan : goal.returns-in_err-named-clause-plan
returns-in_err-named-clause-plan g c =
    let st = g.S.Store.state c.args.s.now in
    let p = err_from_is_err_and c.from_residual.result c.from_residual.ensures.1 in
    subst (λ r. IfAnswered r (λ r. (z : State) → StoreStands st z → IsTree st.origin.request z.tree → z.descriptors ≡ c.args.handles.now
    → unnaming st.origin.request z r ≡ plan_unlink st.origin.request z c.args.path.now)) (sym (p.1 ∙ ap Err p.2))
    (unlink_not st c.args.handles.now c.args.path.now c.in_err-named.field-0.0 c.in_err-named.ensures.name)

pub returns-in-Directory-clause-plan : goal.returns-in-Directory-clause-plan
returns-in-Directory-clause-plan g c z stands tree are =
    let r = (g.S.Store.state c.args.s.now).origin.request in
    let named = c.in_ok-named.named in
    unlink_directory r z c.args.path.now tree (at_name named) (c.in_ok-named.ensures.name z stands tree)
    (kind_directory r z.tree named.number named.head (c.in_ok-named.ensures.head z stands tree) c.in-Directory.is)

pub returns-then-is_busy-clause-plan : goal.returns-then-is_busy-clause-plan
returns-then-is_busy-clause-plan g c z stands tree are =
    let r = (g.S.Store.state c.args.s.now).origin.request in
    let named = c.in_ok-named.named in
    let head = c.in_ok-named.ensures.head z stands tree in
    unlink_busy r z c.args.path.now tree (at_name named) (c.in_ok-named.ensures.name z stands tree) (kind_file r z.tree named.number named.head head c.in-File.is)
    (busy_is r z c.args.handles.now named head are ∙ sym c.is_busy.ensures ∙ c.if-is_busy.true)

pub returns-clause-leaf : goal.returns-clause-leaf
returns-clause-leaf g c z stands tree =
    let r = (g.S.Store.state c.args.s.now).origin.request in
    let named = c.in_ok-named.named in
    let head = c.in_ok-named.ensures.head z stands tree in
    leaf_name r z.tree c.args.path.now refusal.IsDir named (c.in_ok-named.ensures.name z stands tree) head
    (file_slotless z.tree named.number (kind_file r z.tree named.number named.head head c.in-File.is))

pub returns-clause-plan : goal.returns-clause-plan
returns-clause-plan g c z stands tree are =
    let r = (g.S.Store.state c.args.s.now).origin.request in
    let named = c.in_ok-named.named in
    let head = c.in_ok-named.ensures.head z stands tree in
    unlink_plans r z c.args.path.now tree (at_name named) (c.in_ok-named.ensures.name z stands tree) (kind_file r z.tree named.number named.head head c.in-File.is)
    (busy_is r z c.args.handles.now named head are ∙ sym c.is_busy.ensures ∙ c.if-is_busy.false)

use Rattle.std.proofs.Common.{◌≡◌, ◌∙◌, ◌==◌, Bool, length, Some, None, sym, ap, subst}
use Rattle.std.specs.Prelude.{Err}
use Rattle.std.proofs.lemmas.Result.{err_from_is_err_and}
use Rattle.edge_base.specs.commands.Descriptors.{Descriptors, is_open}
use Rattle.edge_base.specs.declared.node.NodeType.TheVariants.{Directory}
use Rattle.edge_base.specs.declared.refusal.Refusal.TheVariants as refusal
use Rattle.edge_store.specs.declared.store.Store.{Ghosts as StoreGhosts}
use Rattle.edge_dir.specs.Directory.{OnSlots}
use Rattle.edge_model.specs.Names.{plan_remove_dir}
use Rattle.edge_model.specs.Rules.{IsTree}
use Rattle.edge_model.specs.State.{State}
use Rattle.edge_model.specs.Tree.{slots_at}
use Rattle.edge_volume.specs.Nodes.{IsNodeOf, OnTree}
use Rattle.edge_volume.specs.Parts.{IsOfNoDamage, Looks}
use Rattle.edge_volume.specs.Stopped.{IfAnswered, fault_of}
use Rattle.edge_volume.specs.Volume.{StoreStands}
use Rattle.edge_walk.proofs.StillLaws.{on_tree_before}
use Rattle.edge_walk.proofs.TreeLaws.{on_slots, undamaged_in_tree}
use Rattle.edge_calls.specs.declared.unname.Named.{Named}
use Rattle.edge_calls.specs.Unnaming.{unnaming}
use Rattle.edge_calls.proofs.NamePlanLaws.{at_name, empty_is, empty_slotless, kind_directory, kind_file, leaf_name, remove_busy, remove_file, remove_filled, remove_not, remove_plans}
use Rattle.edge_calls.proofs.unname.directory_named.Goals as goal

pub returns-in_err-named-clause-plan : goal.returns-in_err-named-clause-plan
returns-in_err-named-clause-plan g c =
    let st = g.S.Store.state c.args.s.now in
    let p = err_from_is_err_and c.from_residual.result c.from_residual.ensures.1 in
    subst (λ r. IfAnswered r (λ r. (z : State) → StoreStands st z → IsTree st.origin.request z.tree → z.descriptors ≡ c.args.handles.now
    → unnaming st.origin.request z r ≡ plan_remove_dir st.origin.request z c.args.path.now)) (sym (p.1 ∙ ap Err p.2))
    (remove_not st c.args.handles.now c.args.path.now c.in_err-named.field-0.0 c.in_err-named.ensures.name)

pub returns-in-File-clause-plan : goal.returns-in-File-clause-plan
returns-in-File-clause-plan g c z stands tree are =
    let r = (g.S.Store.state c.args.s.now).origin.request in
    let named = c.in_ok-named.named in
    remove_file r z c.args.path.now (at_name named) (c.in_ok-named.ensures.name z stands tree)
    (kind_file r z.tree named.number named.head (c.in_ok-named.ensures.head z stands tree) c.in-File.is)

pub returns-in_err-is_empty-clause-undamaged : goal.returns-in_err-is_empty-clause-undamaged
returns-in_err-is_empty-clause-undamaged g c z stands tree damage e =
    let p = err_from_is_err_and c.from_residual-in_err-is_empty.result c.from_residual-in_err-is_empty.ensures.1 in
    let named = c.in_ok-named.named in
    on_tree_before g.S.Store c.args.s.now c.named_at.new.s c.in_ok-named.ensures.looks (λ t. IsOfNoDamage (Some c.in_err-is_empty.field-0.0))
    (undamaged_in_tree (g.S.Store.state c.named_at.new.s) named.number (λ told. (named.head, c.in_ok-named.ensures.node.node.is_head told, c.in-Directory.is))
    (Err c.in_err-is_empty.field-0.0) c.in_err-is_empty.ensures.undamaged)
    z stands tree damage (sym (ap fault_of (p.1 ∙ ap Err p.2)) ∙ e)

-- whether it is empty is told of the tree before
empty_before : {A : Type 0} (S : StoreGhosts A) (a b : A) (looks : Looks S None a b) (named : Named) → IsNodeOf (S.state b) named.number named.head → named.head.kind ≡ Directory → (empty : Bool)
    → OnSlots (S.state b) named.number (λ slots. empty ≡ (length slots == 0)) → OnTree (S.state a) (λ t. empty ≡ (length (slots_at t named.number) == 0))
empty_before S a b looks named node kind empty told =
    on_tree_before S a b looks (λ t. empty ≡ (length (slots_at t named.number) == 0))
    (on_slots (S.state b) named.number (λ is_told. (named.head, node.is_head is_told, kind)) (λ slots. empty ≡ (length slots == 0)) told)

pub returns-then-not-branch-clause-plan : goal.returns-then-not-branch-clause-plan
returns-then-not-branch-clause-plan g c z stands tree are =
    let r = (g.S.Store.state c.args.s.now).origin.request in
    let named = c.in_ok-named.named in
    let found = c.in_ok-named.ensures in
    let told = empty_before g.S.Store c.args.s.now c.named_at.new.s found.looks named found.node.node c.in-Directory.is c.in_ok-is_empty.field-0 c.in_ok-is_empty.ensures.empty z stands tree in
    remove_filled r z c.args.path.now (at_name named) (found.name z stands tree) (kind_directory r z.tree named.number named.head (found.head z stands tree) c.in-Directory.is)
    (sym (empty_is (slots_at z.tree named.number)) ∙ sym told ∙ c.if-not-branch.true)

pub returns-then-holds-clause-plan : goal.returns-then-holds-clause-plan
returns-then-holds-clause-plan g c z stands tree are =
    let r = (g.S.Store.state c.args.s.now).origin.request in
    let named = c.in_ok-named.named in
    let found = c.in_ok-named.ensures in
    let told = empty_before g.S.Store c.args.s.now c.named_at.new.s found.looks named found.node.node c.in-Directory.is c.in_ok-is_empty.field-0 c.in_ok-is_empty.ensures.empty z stands tree in
    remove_busy r z c.args.path.now (at_name named) (found.name z stands tree) (kind_directory r z.tree named.number named.head (found.head z stands tree) c.in-Directory.is)
    (sym (empty_is (slots_at z.tree named.number)) ∙ sym told ∙ c.if-not-branch.false) (ap (λ (ds : Descriptors). is_open ds named.number) are ∙ sym c.holds.ensures ∙ c.if-holds.true)

pub returns-clause-leaf : goal.returns-clause-leaf
returns-clause-leaf g c z stands tree =
    let r = (g.S.Store.state c.args.s.now).origin.request in
    let named = c.in_ok-named.named in
    let found = c.in_ok-named.ensures in
    let told = empty_before g.S.Store c.args.s.now c.named_at.new.s found.looks named found.node.node c.in-Directory.is c.in_ok-is_empty.field-0 c.in_ok-is_empty.ensures.empty z stands tree in
    leaf_name r z.tree c.args.path.now refusal.Busy named (found.name z stands tree) (found.head z stands tree) (empty_slotless (slots_at z.tree named.number) (sym told ∙ c.if-not-branch.false))

pub returns-clause-plan : goal.returns-clause-plan
returns-clause-plan g c z stands tree are =
    let r = (g.S.Store.state c.args.s.now).origin.request in
    let named = c.in_ok-named.named in
    let found = c.in_ok-named.ensures in
    let told = empty_before g.S.Store c.args.s.now c.named_at.new.s found.looks named found.node.node c.in-Directory.is c.in_ok-is_empty.field-0 c.in_ok-is_empty.ensures.empty z stands tree in
    remove_plans r z c.args.path.now (at_name named) (found.name z stands tree) (kind_directory r z.tree named.number named.head (found.head z stands tree) c.in-Directory.is)
    (sym (empty_is (slots_at z.tree named.number)) ∙ sym told ∙ c.if-not-branch.false) (ap (λ (ds : Descriptors). is_open ds named.number) are ∙ sym c.holds.ensures ∙ c.if-holds.false)

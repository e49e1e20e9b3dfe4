use Rattle.std.proofs.Common.{◌≡◌, ◌∙◌, ◌+◌, ◌-◌, ◌/◌, ◌%◌, ◌<◌, ◌≤◌, sym, ap, subst, arith}
use Rattle.edge_base.specs.declared.form.Form.{Form}
use Rattle.edge_base.specs.declared.form.Form.TheVariants.{Indirect, Double}
use Rattle.edge_base.specs.declared.geometry.Request.{Request}
use Rattle.edge_base.specs.layout.Places.{entries_of, pointers_of}
use Rattle.edge_store.specs.Damages.{IsLinked, form_of_entry}
use Rattle.edge_store.specs.State.{Told}
use Rattle.edge_store.proofs.CallLaws.{same_below_twice}
use Rattle.edge_store.proofs.DigitLaws.{table_below}
use Rattle.edge_space.proofs.NodeLaws.{single_form, double_form, single_node, double_node, linked_as, linked_before}
use Rattle.edge_space.proofs.nodes.indirect_node.Goals as goal

pub entry_link-requires-2-clause-entry : goal.entry_link-requires-2-clause-entry
entry_link-requires-2-clause-entry g c =
    let r = (g.S.Store.state c.args.s.now).origin.request in
    let row = c.args.row in
    let same : c.request-r.result ≡ r = c.request-r.ensures.same ∙ c.geometry.ensures in
    let from : r.indirect ≤ row = subst (λ (q : Request). q.indirect ≤ row) same c.if-row-r.false in
    let table : (row - r.indirect) / pointers_of r < entries_of r - r.direct - r.indirect = table_below r.indirect (entries_of r - r.direct - r.indirect) (pointers_of r) row c.requires.row from in
    subst (λ (q : Request). q.direct + q.indirect + (row - q.indirect) / pointers_of q < entries_of r) (sym same) (omega arith)

pub pointer_link-requires-clause-linked : goal.pointer_link-requires-clause-linked
pointer_link-requires-clause-linked g c told some =
    let old = g.S.Store.state c.args.s.now in
    let r = old.origin.request in
    let row = c.args.row in
    let first = c.in_ok-block.ensures in
    let same : c.request-r.result ≡ r = c.request-r.ensures.same ∙ c.geometry.ensures in
    let told_old : Told old = ap (λ o. o.tells) (sym first.called.origin) ∙ told in
    let form : form_of_entry r (c.request-r.result.direct + c.request-r.result.indirect + (row - c.request-r.result.indirect) / pointers_of c.request-r.result) ≡ Double =
    subst (λ (q : Request). form_of_entry r (q.direct + q.indirect + (row - q.indirect) / pointers_of q) ≡ Double) (sym same) (double_form r ((row - r.indirect) / pointers_of r)) in
    rw (first.called.origin, first.reads.working) (subst (λ (f : Form). IsLinked r old.working c.args.n f c.in_ok-block.block) form (first.linked told_old some))

pub returns-then-row-r-clause-node : goal.returns-then-row-r-clause-node
returns-then-row-r-clause-node g c =
    let old = g.S.Store.state c.args.s.now in
    let r = old.origin.request in
    let same : c.request-r.result ≡ r = c.request-r.ensures.same ∙ c.geometry.ensures in
    single_node old c.args.n c.args.row c.entry_link.result (subst (λ (q : Request). c.args.row < q.indirect) same c.if-row-r.true)
    (rw same at c.entry_link.ensures.entry)

pub returns-then-row-r-clause-linked : goal.returns-then-row-r-clause-linked
returns-then-row-r-clause-linked g c =
    let old = g.S.Store.state c.args.s.now in
    let r = old.origin.request in
    let same : c.request-r.result ≡ r = c.request-r.ensures.same ∙ c.geometry.ensures in
    linked_as old c.args.n (form_of_entry r (c.request-r.result.direct + c.args.row)) Indirect c.entry_link.result
    (ap (λ (q : Request). form_of_entry r (q.direct + c.args.row)) same ∙ single_form r c.args.row (subst (λ (q : Request). c.args.row < q.indirect) same c.if-row-r.true))
    c.entry_link.ensures.linked

pub returns-clause-node : goal.returns-clause-node
returns-clause-node g c =
    let old = g.S.Store.state c.args.s.now in
    let r = old.origin.request in
    let row = c.args.row in
    let first = c.in_ok-block.ensures in
    let same : c.request-r.result ≡ r = c.request-r.ensures.same ∙ c.geometry.ensures in
    double_node old (g.S.Store.state c.entry_link-2.new.s) c.args.n row c.in_ok-block.block _ _ c.pointer_link.result first.called.origin first.reads.working
    (subst (λ (q : Request). q.indirect ≤ row) same c.if-row-r.false)
    (ap (λ (q : Request). q.direct + q.indirect + (row - q.indirect) / pointers_of q) same)
    (ap (λ (q : Request). (row - q.indirect) % pointers_of q) same) first.entry c.pointer_link.ensures.pointer

pub returns-clause-linked : goal.returns-clause-linked
returns-clause-linked g c =
    let first = c.in_ok-block.ensures in
    linked_before (g.S.Store.state c.args.s.now) (g.S.Store.state c.entry_link-2.new.s) c.args.n Indirect c.pointer_link.result first.called.origin first.reads.working c.pointer_link.ensures.linked

pub returns-clause-below : goal.returns-clause-below
returns-clause-below g c clean =
    let first = c.in_ok-block.ensures in
    same_below_twice (first.below clean) (c.pointer_link.ensures.below (first.clean clean))

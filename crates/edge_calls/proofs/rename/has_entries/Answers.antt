use Rattle.std.proofs.Common.{◌≡◌, ◌∙◌, ◌==◌, ◌&&◌, not, Bool, length, sym, ap}
use Rattle.std.specs.Prelude.{Err}
use Rattle.std.proofs.lemmas.Result.{err_from_is_err_and}
use Rattle.edge_base.specs.declared.node.NodeType.{NodeType}
use Rattle.edge_model.specs.Names.{is_empty}
use Rattle.edge_model.specs.Tree.{slots_at}
use Rattle.edge_volume.specs.Stopped.{fault_in}
use Rattle.edge_walk.proofs.TreeLaws.{on_slots, undamaged_in_tree}
use Rattle.edge_calls.specs.Renames.{is_of_directory}
use Rattle.edge_calls.proofs.RenameAtLaws.{empty_is, is_node_directory, kind_in_tree}
use Rattle.edge_calls.proofs.rename.has_entries.Goals as goal

pub returns-in_err-empty-in-Directory-clause-undamaged : goal.returns-in_err-empty-in-Directory-clause-undamaged
returns-in_err-empty-in-Directory-clause-undamaged g c z stands tree damage e =
    let st = g.S.Store.state c.args.s.now in
    let p = err_from_is_err_and c.from_residual.result c.from_residual.ensures.1 in
    undamaged_in_tree st c.args.node.number (is_node_directory st c.args.node.number c.args.node.head c.requires.node c.in-Directory.is)
    (Err c.in_err-empty-in-Directory.field-0.0) c.in_err-empty-in-Directory.ensures.undamaged z stands tree damage (sym (ap fault_in (p.1 ∙ ap Err p.2)) ∙ e)

pub returns-in-File-clause-entries : goal.returns-in-File-clause-entries
returns-in-File-clause-entries g c z stands tree =
    let n = c.args.node.number in
    ap (λ (kind : NodeType). is_of_directory kind && not (is_empty (slots_at z.tree n))) (sym c.in-File.is)
    ∙ ap (λ (b : Bool). b && not (is_empty (slots_at z.tree n))) (kind_in_tree (g.S.Store.state c.args.s.now) n c.args.node.head c.requires.node z stands tree)

pub returns-in_ok-empty-in-Directory-clause-entries : goal.returns-in_ok-empty-in-Directory-clause-entries
returns-in_ok-empty-in-Directory-clause-entries g c z stands tree =
    let st = g.S.Store.state c.args.s.now in
    let n = c.args.node.number in
    let is = is_node_directory st n c.args.node.head c.requires.node c.in-Directory.is in
    ap not (on_slots st n is (λ slots. c.in_ok-empty-in-Directory.empty ≡ (length slots == 0)) c.in_ok-empty-in-Directory.ensures.empty z stands tree ∙ empty_is (slots_at z.tree n))
    ∙ ap (λ (kind : NodeType). is_of_directory kind && not (is_empty (slots_at z.tree n))) (sym c.in-Directory.is)
    ∙ ap (λ (b : Bool). b && not (is_empty (slots_at z.tree n))) (kind_in_tree st n c.args.node.head c.requires.node z stands tree)
